-- The first items of runs, and what the tables say of them.
use Rattle.std.proofs.Common.{◌≡◌, ℕ, zero, suc, ◌+◌, ◌-◌, ◌*◌, ◌<◌, ◌≤◌, nat_le, min, List, [], ◌∷◌, ◌++◌, length, take, drop, map, sum, get_or, replicate, refl, sym, ap, ◌∙◌, append_assoc, arith, inl, inr}
use Rattle.std.proofs.lemmas.Bool.{le-leb, lt-leb}
use Rattle.std.proofs.lemmas.Bool.Decides.{leb_tells}
use Rattle.std.proofs.lemmas.List.{append-nil, drop_more, length-drop, map-append, replicate-append-replicate, take_all}
use Rattle.std.proofs.Math.Seq.{take-nil}
use Rattle.std.proofs.lemmas.List.Sums.{sum_by-cons, sum_by-append}
use Rattle.sf_meaning.specs.inner.Entries.{spread_of, spreads_as}
use Rattle.sf_meaning.specs.Tables.{InChunk, described, in_chunk, placed, spread_over}
use Rattle.sf_meaning.specs.declared.entries.ChunkRun.{ChunkRun}

-- the first items of a run and of what follows it
pub take_run : {A : Type 0} (left n : ℕ) (x : A) (rest : List A) → take left (replicate n x ++ rest) ≡ replicate (min left n) x ++ take (left - min left n) rest
take_run zero n x rest = let k : min zero n ≡ 0 = omega arith in rw k refl
take_run (suc left) zero x rest =
    let k : min (suc left) zero ≡ 0 = omega arith in
    let m : suc left - 0 ≡ suc left = omega arith in
    rw (k, m) refl
take_run (suc left) (suc n) x rest =
    let k : min (suc left) (suc n) ≡ suc (min left n) = omega arith in
    let m : suc left - suc (min left n) ≡ left - min left n = omega arith in
    rw (k, m) (ap (λ ys. x ∷ ys) (take_run left n x rest))

sum-replicate : (n d : ℕ) → sum (replicate n d) ≡ n * d
sum-replicate zero d = omega arith
sum-replicate (suc n) d = sum_by-cons (λ x. x) d (replicate n d) ∙ ap (λ (k : ℕ). d + k) (sum-replicate n d) ∙ omega arith

pub sum_run : (left n d : ℕ) (rest : List ℕ) → sum (take left (replicate n d ++ rest)) ≡ min left n * d + sum (take (left - min left n) rest)
sum_run left n d rest =
    ap sum (take_run left n d rest) ∙ sum_by-append (λ x. x) (replicate (min left n) d) (take (left - min left n) rest)
    ∙ ap (λ (k : ℕ). k + sum (take (left - min left n) rest)) (sum-replicate (min left n) d)

-- ---- the chunks of one entry

-- the first items of a run alone
pub take_same : {A : Type 0} (left n : ℕ) (x : A) → take left (replicate n x) ≡ replicate (min left n) x ++ []
take_same left n x =
    ap (take left) (sym (append-nil (replicate n x))) ∙ take_run left n x [] ∙ ap (λ ys. replicate (min left n) x ++ ys) (take-nil (left - min left n))

-- the chunks of the last entry, and those of one before others
pub entry_last : (e : ChunkRun) (others : List ChunkRun) (left chunks some : ℕ) → length others ≡ 0 → some ≡ min left (chunks + 1 - e.first)
    → take left (spread_over (spread_of e ∷ spreads_as others) chunks)
    ≡ replicate some (in_chunk (spread_of e)) ++ take (left - some) (spread_over (spreads_as others) chunks)
entry_last e [] left chunks some none is =
    let x : InChunk = in_chunk (spread_of e) in
    take_same left (chunks + 1 - e.first) x
    ∙ ap (λ (n : ℕ). replicate n x ++ []) (sym is)
    ∙ ap (λ (ys : List InChunk). replicate some x ++ ys) (sym (take-nil (left - some)))
entry_last e (f ∷ fs) left chunks some none is = absurd (omega (arith, none))

pub entry_next : (e : ChunkRun) (others : List ChunkRun) (left chunks some : ℕ) → 1 ≤ length others
    → some ≡ min left ((get_or others 0 (record { first = 0; per = 0; description = 0 })).first - e.first)
    → take left (spread_over (spread_of e ∷ spreads_as others) chunks)
    ≡ replicate some (in_chunk (spread_of e)) ++ take (left - some) (spread_over (spreads_as others) chunks)
entry_next e [] left chunks some there is = absurd (omega (arith, there))
entry_next e (f ∷ fs) left chunks some there is =
    let x : InChunk = in_chunk (spread_of e) in
    let rest : List InChunk = spread_over (spreads_as (f ∷ fs)) chunks in
    take_run left (f.first - e.first) x rest ∙ ap (λ (n : ℕ). replicate n x ++ take (left - n) rest) (sym is)

-- the chunks of an entry of all
pub entry_at : (runs : List ChunkRun) (r left chunks some : ℕ) → r < length runs
    → take left (spread_over (spread_of (get_or runs r (record { first = 0; per = 0; description = 0 })) ∷ spreads_as (take (length runs - (r + 1)) (drop (r + 1) runs))) chunks)
    ≡ replicate some (in_chunk (spread_of (get_or runs r (record { first = 0; per = 0; description = 0 })))) ++ take (left - some) (spread_over (spreads_as (take (length runs - (r + 1)) (drop (r + 1) runs))) chunks)
    → take left (spread_over (spreads_as (drop r runs)) chunks)
    ≡ replicate some (in_chunk (spread_of (get_or runs r (record { first = 0; per = 0; description = 0 })))) ++ take (left - some) (spread_over (spreads_as (drop (r + 1) runs)) chunks)
entry_at runs r left chunks some there holds =
    let none : ChunkRun = record { first = 0; per = 0; description = 0 } in
    let run : ChunkRun = get_or runs r none in
    let whole : take (length runs - (r + 1)) (drop (r + 1) runs) ≡ drop (r + 1) runs = take_all (length runs - (r + 1)) (drop (r + 1) runs) (omega (arith, length-drop (r + 1) runs)) in
    ap (λ (rs : List ChunkRun). take left (spread_over (spreads_as rs) chunks)) (drop_more runs r none there)
    ∙ ap (λ (rs : List ChunkRun). take left (spread_over (spread_of run ∷ spreads_as rs) chunks)) (sym whole)
    ∙ holds
    ∙ ap (λ (rs : List ChunkRun). replicate some (in_chunk (spread_of run)) ++ take (left - some) (spread_over (spreads_as rs) chunks)) whole

per_replicate : (n : ℕ) (e : InChunk) → sum (map (λ c. c.per) (replicate n e)) ≡ n * e.per
per_replicate zero e = omega arith
per_replicate (suc n) e =
    sum_by-cons (λ x. x) e.per (map (λ c. c.per) (replicate n e)) ∙ ap (λ (k : ℕ). e.per + k) (per_replicate n e) ∙ omega arith

le_after : (left n m some : ℕ) → some ≡ min left n → nat_le (left - some) m ≡ nat_le left (n + m)
le_after left n m some is =
    elim (leb_tells left (n + m)) [
      | inl p ↦ le-leb (left - some) m (omega (arith, is, p.1)) ∙ sym p.0
      | inr p ↦ lt-leb (left - some) m (omega (arith, is, p.1)) ∙ sym p.0
    ]

-- whether the chunks hold the samples, after those of an entry
pub sums_after : (left n some : ℕ) (e : InChunk) (rest all : List InChunk) → all ≡ replicate n e ++ rest → some ≡ min left (n * e.per)
    → nat_le (left - some) (sum (map (λ c. c.per) rest)) ≡ nat_le left (sum (map (λ c. c.per) all))
sums_after left n some e rest all is same =
    let pers : map (λ (c : InChunk). c.per) all ≡ map (λ c. c.per) (replicate n e) ++ map (λ c. c.per) rest =
    ap (map (λ (c : InChunk). c.per)) is ∙ map-append (λ (c : InChunk). c.per) (replicate n e) rest in
    let sums : sum (map (λ (c : InChunk). c.per) all) ≡ n * e.per + sum (map (λ c. c.per) rest) =
    ap sum pers ∙ sum_by-append (λ x. x) (map (λ c. c.per) (replicate n e)) (map (λ c. c.per) rest)
    ∙ ap (λ (k : ℕ). k + sum (map (λ c. c.per) rest)) (per_replicate n e) in
    le_after left (n * e.per) (sum (map (λ c. c.per) rest)) some same ∙ ap (nat_le left) (sym sums)

-- the descriptions in the chunks of an entry
pub described_chunks : (n : ℕ) (e : InChunk) (rest : List InChunk) → described (replicate n e ++ rest) ≡ replicate (n * e.per) e.description ++ described rest
described_chunks zero e rest = let none : 0 * e.per ≡ 0 = omega arith in rw none refl
described_chunks (suc n) e rest =
    let more : suc n * e.per ≡ e.per + n * e.per = omega arith in
    ap (λ (xs : List ℕ). replicate e.per e.description ++ xs) (described_chunks n e rest)
    ∙ sym (append_assoc (replicate e.per e.description) (replicate (n * e.per) e.description) (described rest))
    ∙ ap (λ (xs : List ℕ). xs ++ described rest) (replicate-append-replicate e.per (n * e.per) e.description)
    ∙ ap (λ (k : ℕ). replicate k e.description ++ described rest) (sym more)

-- places that are listed beyond the counts aren't looked at
pub placed-take : (places counts sizes : List ℕ) → placed (take (length counts) places) counts sizes ≡ placed places counts sizes
placed-take [] [] sizes = refl
placed-take [] (c ∷ counts) sizes = refl
placed-take (p ∷ places) [] sizes = refl
placed-take (p ∷ places) (c ∷ counts) sizes = rw (placed-take places counts (drop c sizes)) refl
