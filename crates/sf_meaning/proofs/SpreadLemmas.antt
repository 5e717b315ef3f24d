-- The sample-to-chunk box that was written is read back as what holds in each chunk.
use Rattle.std.proofs.Common.{◌≡◌, ℕ, zero, suc, ◌+◌, ◌-◌, ◌*◌, ◌^◌, ◌<◌, ◌≤◌, ◌==◌, true, false, List, [], ◌∷◌, ◌++◌, length, take, drop, map, sum, replicate, refl, sym, ap, ◌∙◌, append_assoc, arith, inl, inr, lit<}
use Rattle.std.specs.List.{flat_map, AllByRecursion}
use Rattle.std.proofs.lemmas.List.{append-nil, map-append, replicate-append-replicate, length-append, length-map, drop-drop, take_all, replicate_more}
use Rattle.std.proofs.lemmas.List.Sums.{sum_by-cons}
use Rattle.std.proofs.lemmas.Bool.{lt-ltb, ne_eqb}
use Rattle.std.proofs.lemmas.Bool.Decides.{eqb_tells}
use Rattle.sf_box.specs.Boxes.{be32}
use Rattle.sf_box.proofs.BoxLaws.{word32_of, drop_word, length-be32}
use Rattle.sf_meaning.specs.Tables.{Spread, InChunk, in_chunk, spreads, spread_over, chunk_entries, described, rising, count_in, spreads_in}
use Rattle.sf_meaning.specs.Stbl.{spread_from, spread_bytes, stsc_body}
use Rattle.sf_meaning.specs.SampleTables.{begins_rising}
use Rattle.sf_meaning.proofs.ListLemmas.{all-append}
use Rattle.sf_meaning.proofs.TableLemmas.{Word, after_two, count_of_table, entries_of_table, length-table}

abbrev pub WordSpread : Spread → Type 0
WordSpread e = Word e.first × Word e.per × Word e.description

after_three : (a b c : ℕ) (rest : List ℕ) → drop 12 (be32 a ++ (be32 b ++ (be32 c ++ rest))) ≡ rest
after_three a b c rest = sym (drop-drop 4 8 (be32 a ++ (be32 b ++ (be32 c ++ rest)))) ∙ ap (drop 4) (after_two a b (be32 c ++ rest)) ∙ drop_word c rest

pub spreads_of : (es : List Spread) (rest : List ℕ) → AllByRecursion WordSpread es → spreads (length es) (flat_map spread_bytes es ++ rest) ≡ es
spreads_of [] rest all = refl
spreads_of (e ∷ es) rest all =
    let tail : List ℕ = flat_map spread_bytes es ++ rest in
    let front : ((be32 e.first ++ (be32 e.per ++ be32 e.description)) ++ flat_map spread_bytes es) ++ rest ≡ be32 e.first ++ (be32 e.per ++ (be32 e.description ++ tail)) = simp append_assoc in
    rw (
      front,
      word32_of e.first (be32 e.per ++ (be32 e.description ++ tail)) all.0.0,
      drop_word e.first (be32 e.per ++ (be32 e.description ++ tail)),
      word32_of e.per (be32 e.description ++ tail) all.0.1,
      after_two e.first e.per (be32 e.description ++ tail),
      word32_of e.description tail all.0.2,
      after_three e.first e.per e.description tail,
      spreads_of es rest all.1,
    ) refl

pub length-spread_bytes : (es : List Spread) → length (flat_map spread_bytes es) ≡ 12 * length es
length-spread_bytes [] = refl
length-spread_bytes (e ∷ es) =
    omega (
      arith,
      length-append (be32 e.first ++ (be32 e.per ++ be32 e.description)) (flat_map spread_bytes es),
      length-append (be32 e.first) (be32 e.per ++ be32 e.description),
      length-append (be32 e.per) (be32 e.description),
      length-be32 e.first,
      length-be32 e.per,
      length-be32 e.description,
      length-spread_bytes es,
    )

-- the entries of the sample-to-chunk box are read back
pub spreads_back : (counts : List ℕ) → length (spread_from 1 0 counts) < 2 ^ 32 → AllByRecursion WordSpread (spread_from 1 0 counts) → spreads_in (stsc_body counts) ≡ spread_from 1 0 counts
unfolding stsc_body
spreads_back counts lt all =
    let es : List Spread = spread_from 1 0 counts in
    let entries : List ℕ = flat_map spread_bytes es in
    rw (count_of_table 0 (length es) entries lt, entries_of_table 0 (length es) entries)
    (ap (spreads (length es)) (sym (append-nil entries)) ∙ spreads_of es [] all)

pub count_in-stsc : (counts : List ℕ) → length (spread_from 1 0 counts) < 2 ^ 32 → count_in (stsc_body counts) ≡ length (spread_from 1 0 counts)
unfolding stsc_body
count_in-stsc counts lt = count_of_table 0 (length (spread_from 1 0 counts)) (flat_map spread_bytes (spread_from 1 0 counts)) lt

pub length-stsc : (counts : List ℕ) → length (stsc_body counts) ≡ 8 + 12 * length (spread_from 1 0 counts)
unfolding stsc_body
length-stsc counts = length-table 0 (length (spread_from 1 0 counts)) (flat_map spread_bytes (spread_from 1 0 counts)) ∙ ap (λ (n : ℕ). 8 + n) (length-spread_bytes (spread_from 1 0 counts))

-- there are no more entries than chunks
pub length-spread_from : (number last : ℕ) (counts : List ℕ) → length (spread_from number last counts) ≤ length counts
length-spread_from number last [] = omega arith
length-spread_from number last (c ∷ counts) =
    let more : length (spread_from (number + 1) c counts) ≤ length counts = length-spread_from (number + 1) c counts in
    elim (eqb_tells c last) [ inl p ↦ rw p.0 (omega arith) | inr p ↦ rw p.0 (omega arith) ]

pub spread_words : (number last : ℕ) (counts : List ℕ) → number + length counts ≤ 2 ^ 32 → AllByRecursion Word counts → AllByRecursion WordSpread (spread_from number last counts)
spread_words number last [] le all = tt
spread_words number last (c ∷ counts) le all =
    let more : AllByRecursion WordSpread (spread_from (number + 1) c counts) = spread_words (number + 1) c counts (omega arith) all.1 in
    elim (eqb_tells c last) [ inl p ↦ rw p.0 more | inr p ↦ rw p.0 ((omega arith, all.0, lit< tt), more) ]

-- the counts of what holds in chunks
abbrev pub pers : List InChunk → List ℕ
pers cs = map (λ c. c.per) cs

map-replicate_per : (n : ℕ) (c : InChunk) → pers (replicate n c) ≡ replicate n c.per
map-replicate_per zero c = refl
map-replicate_per (suc n) c = ap (λ (ys : List ℕ). c.per ∷ ys) (map-replicate_per n c)

-- An entry holds for the chunks from its first up to those that differ.
pub per_chunk_spread : (e : Spread) (number : ℕ) (counts : List ℕ) → 1 ≤ e.first → e.first ≤ number
    → pers (spread_over (e ∷ spread_from number e.per counts) (number + length counts - 1)) ≡ replicate (number - e.first) e.per ++ counts
per_chunk_spread e number [] pos le =
    let k : (number + 0 - 1) + 1 - e.first ≡ number - e.first = omega arith in
    rw append-nil (map-replicate_per ((number + 0 - 1) + 1 - e.first) (in_chunk e) ∙ ap (λ (n : ℕ). replicate n e.per) k)
per_chunk_spread e number (c ∷ counts) pos le =
    let total : number + suc (length counts) - 1 ≡ (number + 1) + length counts - 1 = omega arith in
    elim (eqb_tells c e.per) [
      | inl p ↦
          let k : (number + 1) - e.first ≡ (number - e.first) + 1 = omega arith in
          rw (p.0, p.1, total, per_chunk_spread e (number + 1) counts pos (omega arith), k)
          (ap (λ (xs : List ℕ). xs ++ counts) (sym (replicate_more (number - e.first) e.per)) ∙ append_assoc (replicate (number - e.first) e.per) (e.per ∷ []) counts)
      | inr p ↦
          let f : Spread = record { first = number; per = c; description = 1 } in
          let one : (number + 1) - number ≡ 1 = omega arith in
          let rest : List InChunk = spread_over (f ∷ spread_from (number + 1) c counts) ((number + 1) + length counts - 1) in
          rw (p.0, total)
          (map-append (λ (s : InChunk). s.per) (replicate (number - e.first) (in_chunk e)) rest
          ∙ ap (λ (xs : List ℕ). xs ++ pers rest) (map-replicate_per (number - e.first) (in_chunk e))
          ∙ ap (λ (xs : List ℕ). replicate (number - e.first) e.per ++ xs) (per_chunk_spread f (number + 1) counts (omega arith) (omega arith) ∙ ap (λ (n : ℕ). replicate n c ++ counts) one))
    ]

-- each chunk's count is read back
pub per_chunk_back : (counts : List ℕ) → AllByRecursion (λ c. 0 < c) counts → pers (spread_over (spread_from 1 0 counts) (length counts)) ≡ counts
per_chunk_back [] all = refl
per_chunk_back (c ∷ counts) all =
    let other : (c == 0) ≡ false = ne_eqb c 0 (λ e. omega (arith, e, all.0)) in
    let e : Spread = record { first = 1; per = c; description = 1 } in
    let n : suc (length counts) ≡ (1 + 1) + length counts - 1 = omega arith in
    rw (other, n) (per_chunk_spread e (1 + 1) counts (omega arith) (omega arith))

-- an entry, or a chunk, whose samples have the first sample entry
abbrev pub NamesFirst : Spread → Type 0
NamesFirst e = e.description ≡ 1

abbrev pub HasFirst : InChunk → Type 0
HasFirst c = c.description ≡ 1

all-replicate : {X : Type 0} (P : X → Type 0) (n : ℕ) (x : X) → P x → AllByRecursion P (replicate n x)
all-replicate P zero x p = tt
all-replicate P (suc n) x p = (p, all-replicate P n x p)

first_over : (es : List Spread) (chunks : ℕ) → AllByRecursion NamesFirst es → AllByRecursion HasFirst (spread_over es chunks)
first_over [] chunks all = tt
first_over (e ∷ []) chunks all = all-replicate HasFirst (chunks + 1 - e.first) (in_chunk e) all.0
first_over (e ∷ f ∷ es) chunks all =
    all-append HasFirst (replicate (f.first - e.first) (in_chunk e)) (spread_over (f ∷ es) chunks)
    (all-replicate HasFirst (f.first - e.first) (in_chunk e) all.0) (first_over (f ∷ es) chunks all.1)

first_from : (number last : ℕ) (counts : List ℕ) → AllByRecursion NamesFirst (spread_from number last counts)
first_from number last [] = tt
first_from number last (c ∷ counts) =
    let more : AllByRecursion NamesFirst (spread_from (number + 1) c counts) = first_from (number + 1) c counts in
    elim (eqb_tells c last) [ inl p ↦ rw p.0 more | inr p ↦ rw p.0 (refl, more) ]

-- what chunks describe whose samples have the first sample entry
described_first : (cs : List InChunk) → AllByRecursion HasFirst cs → described cs ≡ replicate (sum (pers cs)) 1
described_first [] all = refl
described_first (c ∷ cs) all =
    let s : sum (c.per ∷ pers cs) ≡ c.per + sum (pers cs) = sum_by-cons (λ x. x) c.per (pers cs) in
    rw (all.0, described_first cs all.1, s) (replicate-append-replicate c.per (sum (pers cs)) 1)

-- What holds in the chunks that are there, for these counts.
pub record SpreadBack (counts : List ℕ) (cs : List InChunk) : Type 0 where
  pub counts_are : pers cs ≡ counts
  pub described_as : described cs ≡ replicate (sum counts) 1

pub spread_back : (counts : List ℕ) → AllByRecursion (λ c. 0 < c) counts → SpreadBack counts (chunk_entries (spread_from 1 0 counts) (length counts))
spread_back counts all =
    let over : List InChunk = spread_over (spread_from 1 0 counts) (length counts) in
    let per : pers over ≡ counts = per_chunk_back counts all in
    let long : length over ≤ length counts = omega (arith, length-map over (λ (c : InChunk). c.per), ap length per) in
    let whole : take (length counts) over ≡ over = take_all (length counts) over long in
    record {
      counts_are = rw whole per;
      described_as = rw whole (described_first over (first_over (spread_from 1 0 counts) (length counts) (first_from 1 0 counts)) ∙ ap (λ (cs : List ℕ). replicate (sum cs) 1) per);
    }

-- the entries begin with chunk 1 and rise
rising_from : (number last t : ℕ) (counts : List ℕ) → t < number → rising t (map (λ f. f.first) (spread_from number last counts)) ≡ true
rising_from number last t [] lt = refl
rising_from number last t (c ∷ counts) lt =
    elim (eqb_tells c last) [
      | inl p ↦ rw p.0 (rising_from (number + 1) c t counts (omega arith))
      | inr p ↦ rw (p.0, lt-ltb t number lt) (rising_from (number + 1) c number counts (omega arith))
    ]

pub begins_rising_back : (counts : List ℕ) → AllByRecursion (λ c. 0 < c) counts → begins_rising (spread_from 1 0 counts) ≡ true
begins_rising_back [] all = refl
begins_rising_back (c ∷ counts) all =
    let other : (c == 0) ≡ false = ne_eqb c 0 (λ e. omega (arith, e, all.0)) in
    rw other (rising_from (1 + 1) c 1 counts (omega arith))
