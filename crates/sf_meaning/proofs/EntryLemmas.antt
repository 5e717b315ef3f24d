-- Entries that are read one after the other.
use Rattle.std.proofs.Common.{◌≡◌, ℕ, suc, ◌+◌, ◌-◌, ◌*◌, ◌<◌, ◌≤◌, List, [], ◌∷◌, ◌++◌, take, drop, map, true, false, ◌==◌, ltb, get_or, refl, sym, ap, ◌∙◌, append_assoc, arith}
use Rattle.std.proofs.lemmas.List.{drop-drop}
use Rattle.sf_box.specs.Boxes.{word32, word64}
use Rattle.std.specs.List.{list_any}
use Rattle.std.proofs.lemmas.Bool.{eqb-true, ltb-true, lt-ltb, ne_eqb}
use Rattle.sf_meaning.specs.inner.Entries.{spread_of, spreads_as, from_chunk, firsts}
use Rattle.sf_meaning.specs.SampleTables.{begins_rising}
use Rattle.sf_meaning.specs.Tables.{run_pairs, Spread, spreads, words, wide_words, rising, spread_over, chunk_entries}
use Rattle.sf_meaning.specs.declared.entries.ChunkRun.{ChunkRun}
use Rattle.sf_meaning.proofs.ListLemmas.{both_true}

-- one more in front of the rest
pub pushed_step : {A : Type 0} (xs : List A) (x : A) (rest tail all : List A) → xs ++ tail ≡ all → tail ≡ x ∷ rest → (xs ++ x ∷ []) ++ rest ≡ all
pushed_step xs x rest tail all h e = append_assoc xs (x ∷ []) rest ∙ ap (λ t. xs ++ t) (sym e) ∙ h

pub run_step : (table : List ℕ) (n i : ℕ) → i < n
    → run_pairs (n - i) (drop (8 + 8 * i) table) ≡ (word32 (drop (8 + 8 * i) table), word32 (drop (12 + 8 * i) table)) ∷ run_pairs (n - (i + 1)) (drop (8 + 8 * (i + 1)) table)
run_step table n i lt =
    let k : n - i ≡ suc (n - (i + 1)) = omega arith in
    let second : (8 + 8 * i) + 4 ≡ 12 + 8 * i = omega arith in
    let next : (8 + 8 * i) + 8 ≡ 8 + 8 * (i + 1) = omega arith in
    rw (k, drop-drop 4 (8 + 8 * i) table, drop-drop 8 (8 + 8 * i) table, second, next) refl

pub spread_step : (table : List ℕ) (n i : ℕ) → i < n
    → spreads (n - i) (drop (8 + 12 * i) table)
    ≡ record { first = word32 (drop (8 + 12 * i) table); per = word32 (drop (12 + 12 * i) table); description = word32 (drop (16 + 12 * i) table) } ∷ spreads (n - (i + 1)) (drop (8 + 12 * (i + 1)) table)
spread_step table n i lt =
    let k : n - i ≡ suc (n - (i + 1)) = omega arith in
    let second : (8 + 12 * i) + 4 ≡ 12 + 12 * i = omega arith in
    let third : (8 + 12 * i) + 8 ≡ 16 + 12 * i = omega arith in
    let next : (8 + 12 * i) + 12 ≡ 8 + 12 * (i + 1) = omega arith in
    rw (k, drop-drop 4 (8 + 12 * i) table, drop-drop 8 (8 + 12 * i) table, drop-drop 12 (8 + 12 * i) table, second, third, next) refl

-- numbers that stand one after the other from a place on
pub word_step : (from : ℕ) (table : List ℕ) (n i : ℕ) → i < n
    → words (n - i) (drop (from + 4 * i) table) ≡ word32 (drop (from + 4 * i) table) ∷ words (n - (i + 1)) (drop (from + 4 * (i + 1)) table)
word_step from table n i lt =
    let k : n - i ≡ suc (n - (i + 1)) = omega arith in
    let next : (from + 4 * i) + 4 ≡ from + 4 * (i + 1) = omega arith in
    rw (k, drop-drop 4 (from + 4 * i) table, next) refl

firsts_as : (runs : List ChunkRun) → map (λ f. f.first) (spreads_as runs) ≡ firsts runs
firsts_as [] = refl
firsts_as (r ∷ runs) = ap (λ (xs : List ℕ). r.first ∷ xs) (firsts_as runs)

rising_lower : (s t : ℕ) (xs : List ℕ) → s ≤ t → rising t xs ≡ true → rising s xs ≡ true
rising_lower s t [] le e = refl
rising_lower s t (x ∷ xs) le e =
    let p : (ltb t x ≡ true) × (rising x xs ≡ true) = both_true (ltb t x) (rising x xs) e in
    let above : t < x = ltb-true t x p.0 in
    let lower : ltb s x ≡ true = lt-ltb s x (omega arith) in
    rw (lower, p.1) refl

-- the entry that holds for a chunk holds in it, and the others in those after it
pub chunk_step : (r : ChunkRun) (behind : List ChunkRun) (i chunks : ℕ) → i < chunks → rising (i + 1) (firsts behind) ≡ true
    → take (chunks - i) (spread_over (from_chunk (i + 1) r ∷ spreads_as behind) chunks)
    ≡ record { per = r.per; description = r.description } ∷ take (chunks - (i + 1)) (spread_over (from_chunk (i + 1 + 1) r ∷ spreads_as behind) chunks)
chunk_step r [] i chunks lt up =
    let k : chunks - i ≡ suc (chunks - (i + 1)) = omega arith in
    let n : chunks + 1 - (i + 1) ≡ suc (chunks + 1 - (i + 1 + 1)) = omega arith in
    rw (k, n) refl
chunk_step r (f ∷ fs) i chunks lt up =
    let p : (ltb (i + 1) f.first ≡ true) × (rising f.first (firsts fs) ≡ true) = both_true (ltb (i + 1) f.first) (rising f.first (firsts fs)) up in
    let above : i + 1 < f.first = ltb-true (i + 1) f.first p.0 in
    let k : chunks - i ≡ suc (chunks - (i + 1)) = omega arith in
    let n : f.first - (i + 1) ≡ suc (f.first - (i + 1 + 1)) = omega arith in
    rw (k, n) refl

-- What the entries say of the chunks from the first one on.
pub record Begins (runs : List ChunkRun) (first : ChunkRun) (others : List ChunkRun) (count : ℕ) : Type 0 where
  pub held : take (count - 0) (spread_over (from_chunk (0 + 1) first ∷ spreads_as others) count) ≡ chunk_entries (spreads_as runs) count
  pub up : rising 0 (firsts others) ≡ true

pub begins : (runs : List ChunkRun) (first : ChunkRun) (others : List ChunkRun) (count : ℕ) → runs ≡ first ∷ others → begins_rising (spreads_as runs) ≡ true → Begins runs first others count
begins runs first others count e up =
    let at : begins_rising (spreads_as (first ∷ others)) ≡ true = sym (ap (λ (rs : List ChunkRun). begins_rising (spreads_as rs)) e) ∙ up in
    let p : ((first.first == 1) ≡ true) × (rising 1 (map (λ f. f.first) (spreads_as others)) ≡ true) =
    both_true (first.first == 1) (rising 1 (map (λ f. f.first) (spreads_as others))) at in
    let one : first.first ≡ 1 = eqb-true first.first 1 p.0 in
    let none : count - 0 ≡ count = omega arith in
    let same : from_chunk (0 + 1) first ≡ spread_of first = ap (λ (n : ℕ). record { first = n; per = first.per; description = first.description }) (sym one) in
    let up1 : rising 1 (firsts others) ≡ true = rw (← firsts_as others) (p.1) in
    record {
      held = rw (e, none) (ap (λ (x : Spread). take count (spread_over (x ∷ spreads_as others) count)) same);
      up = rising_lower 0 1 (firsts others) (omega arith) up1;
    }

pub wide_word_step : (from : ℕ) (table : List ℕ) (n i : ℕ) → i < n
    → wide_words (n - i) (drop (from + 8 * i) table) ≡ word64 (drop (from + 8 * i) table) ∷ wide_words (n - (i + 1)) (drop (from + 8 * (i + 1)) table)
wide_word_step from table n i lt =
    let k : n - i ≡ suc (n - (i + 1)) = omega arith in
    let next : (from + 8 * i) + 8 ≡ from + 8 * (i + 1) = omega arith in
    rw (k, drop-drop 8 (from + 8 * i) table, next) refl

-- numbers that rise from t on are all above it
above_all : (t m : ℕ) (xs : List ℕ) → m ≤ t → rising t xs ≡ true → list_any (λ n. n == m) xs ≡ false
above_all t m [] le up = refl
above_all t m (x ∷ xs) le up =
    let p : (ltb t x ≡ true) × (rising x xs ≡ true) = both_true (ltb t x) (rising x xs) up in
    let above : t < x = ltb-true t x p.0 in
    let other : (x == m) ≡ false = ne_eqb x m (λ e. omega (arith, e, above, le)) in
    rw other (above_all x m xs (omega (arith, above, le)) p.1)

-- a number that isn't the first of those that rise, and not above it, isn't among them
pub not_next : (number : ℕ) (xs : List ℕ) → (get_or xs 0 0 ≡ number → ⊥) → rising (number - 1) xs ≡ true → false ≡ list_any (λ n. n == number) xs
not_next number [] ne up = refl
not_next number (x ∷ xs) ne up =
    let p : (ltb (number - 1) x ≡ true) × (rising x xs ≡ true) = both_true (ltb (number - 1) x) (rising x xs) up in
    let above : number - 1 < x = ltb-true (number - 1) x p.0 in
    let other : (x == number) ≡ false = ne_eqb x number ne in
    rw other (sym (above_all x number xs (omega (arith, above, ne)) p.1))
