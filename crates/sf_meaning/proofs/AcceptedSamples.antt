-- What holds of the samples of a track that is accepted.
use Rattle.std.proofs.Common.{◌≡◌, ℕ, ℤ, ◌+◌, ◌*◌, ◌^◌, ◌≤◌, ◌==◌, nat_le, not, ◌&&◌, Bool, true, List, [], ◌∷◌, length, take, drop, sum, Option, Ok, refl, subst, arith}
use Rattle.std.specs.List.{AllByRecursion}
use Rattle.std.proofs.lemmas.Bool.{leb-true}
use Rattle.sf_meaning.specs.Steps.{◌>>◌, as_fault, check}
use Rattle.sf_meaning.specs.Tables.{running, placed, described}
use Rattle.sf_meaning.specs.SampleTables.{Table}
use Rattle.sf_meaning.specs.TrackSamples.{Tables, chunks_of, counts_of, descriptions_known, rows, listed, samples_said, samples_in}
use Rattle.sf_meaning.specs.Tracks.{held_sample, held_in, held_samples, samples_held}
use Rattle.sf_meaning.specs.Accepted.{IsHeld}
use Rattle.sf_meaning.specs.declared.faults.TableFault.{TableFault}
use Rattle.sf_meaning.specs.declared.faults.TableFault.TheVariants as tables
use Rattle.sf_meaning.specs.declared.faults.MovieFault.TheVariants as movies
use Rattle.sf_meaning.specs.declared.movie.PlainSample.{PlainSample}
use Rattle.sf_meaning.proofs.Accepted.{bind_ok, first_ok, then_ok, checked, as_ok, ok_is, not_0}
use Rattle.sf_meaning.proofs.ListLemmas.{both_true}
use Rattle.sf_meaning.proofs.SampleAt.{all_samples}
use Rattle.sf_meaning.proofs.SamplePlaces.{sum-cons}

abbrev IsEarly : ℕ → PlainSample → Type 0
IsEarly limit s = s.decode ≤ limit

abbrev IsDescribed : PlainSample → Type 0
IsDescribed s = 1 ≤ s.description

record IsInFile (bytes : ℕ) (s : PlainSample) : Type 0 where
  place : s.place + s.size ≤ bytes
  size : s.size ≤ 67108864

-- decode times that end by a limit are by that limit
all_early : (number limit t : ℕ) (sizes deltas : List ℕ) (offsets : List ℤ) (sync : Option (List ℕ)) (places descriptions : List ℕ)
    → t + sum (take (length sizes) deltas) ≤ limit → AllByRecursion (IsEarly limit) (rows number sizes (running t deltas) offsets sync places descriptions)
all_early number limit t [] deltas offsets sync places descriptions le = tt
all_early number limit t (z ∷ sizes) [] offsets sync places descriptions le = tt
all_early number limit t (z ∷ sizes) (d ∷ deltas) offsets sync [] descriptions le = tt
all_early number limit t (z ∷ sizes) (d ∷ deltas) offsets sync (p ∷ places) [] le = tt
all_early number limit t (z ∷ sizes) (d ∷ deltas) offsets sync (p ∷ places) (e ∷ descriptions) le =
    let all : sum (take (length (z ∷ sizes)) (d ∷ deltas)) ≡ d + sum (take (length sizes) deltas) = sum-cons d (take (length sizes) deltas) in
    let here : t ≤ limit = omega (arith, all, le) in
    let rest : (t + d) + sum (take (length sizes) deltas) ≤ limit = omega (arith, all, le) in
    (here, all_early (number + 1) limit (t + d) sizes deltas (drop 1 offsets) sync places descriptions rest)

some_description : (d entries : ℕ) → (not (d == 0) && nat_le d entries) ≡ true → 1 ≤ d
some_description d entries e = not_0 d (both_true (not (d == 0)) (nat_le d entries) e).0

-- descriptions that are known count from 1
all_described : (number at entries : ℕ) (sizes decodes : List ℕ) (offsets : List ℤ) (sync : Option (List ℕ)) (places descriptions : List ℕ) (u : Unit {0})
    → descriptions_known at entries (take (length sizes) descriptions) ≡ Ok u → AllByRecursion IsDescribed (rows number sizes decodes offsets sync places descriptions)
all_described number at entries [] decodes offsets sync places descriptions u e = tt
all_described number at entries (z ∷ sizes) [] offsets sync places descriptions u e = tt
all_described number at entries (z ∷ sizes) (d ∷ decodes) offsets sync [] descriptions u e = tt
all_described number at entries (z ∷ sizes) (d ∷ decodes) offsets sync (p ∷ places) [] u e = tt
all_described number at entries (z ∷ sizes) (d ∷ decodes) offsets sync (p ∷ places) (k ∷ descriptions) u e =
    let b : Bool = not (k == 0) && nat_le k entries in
    let rest : Table (Unit {0}) = descriptions_known at entries (take (length sizes) descriptions) in (
      some_description k entries (checked b (tables.Description at k) rest u e),
      all_described (number + 1) at entries sizes decodes (drop 1 offsets) sync places descriptions u (then_ok (check b (tables.Description at k)) rest u e),
    )

-- samples that a file holds
all_in_file : (bytes track i : ℕ) (ss : List PlainSample) (u : Unit {0}) → held_in bytes track i ss ≡ Ok u → AllByRecursion (IsInFile bytes) ss
all_in_file bytes track i [] u e = tt
all_in_file bytes track i (s ∷ ss) u e =
    let a : Bool = nat_le (s.place + s.size) bytes in
    let b : Bool = nat_le s.size 67108864 in
    let rest : held_in bytes track (i + 1) ss ≡ Ok u = then_ok (held_sample bytes track i s) (held_in bytes track (i + 1) ss) u e in
    let one = first_ok (held_sample bytes track i s) (held_in bytes track (i + 1) ss) u e in
    let q : (check b (movies.SampleTooLarge track i s.size) >> Ok s) ≡ Ok one.0 = then_ok (check a (movies.SampleOutside track i)) (check b (movies.SampleTooLarge track i s.size) >> Ok s) one.0 one.1 in (
      record {
        place = leb-true (s.place + s.size) bytes (checked a (movies.SampleOutside track i) (check b (movies.SampleTooLarge track i s.size) >> Ok s) one.0 one.1);
        size = leb-true s.size 67108864 (checked b (movies.SampleTooLarge track i s.size) (Ok s) one.0 q);
      },
      all_in_file bytes track (i + 1) ss u rest,
    )

all_held : (bytes scale : ℕ) (ss : List PlainSample) → AllByRecursion (IsEarly (2 ^ 40 * scale)) ss → AllByRecursion IsDescribed ss → AllByRecursion (IsInFile bytes) ss
    → AllByRecursion (IsHeld bytes scale) ss
all_held bytes scale [] early described held = tt
all_held bytes scale (s ∷ ss) early described held =
    (record { decode = early.0; place = held.0.place; size = held.0.size; description = described.0 }, all_held bytes scale ss early.1 described.1 held.1)

-- What tables say that were accepted.
record IsSaid (scale at entries : ℕ) (t : Tables) (ss : List PlainSample) : Type 0 where
  same : listed t ≡ ss
  early : sum (take (length t.sizes) t.deltas) ≤ 2 ^ 40 * scale
  known : descriptions_known at entries (take (length t.sizes) (described (chunks_of t))) ≡ Ok tt

are_said : (scale entries : ℕ) (t : Tables) (ss : List PlainSample) → samples_in scale entries t ≡ Ok ss → IsSaid scale t.stsc_at entries t ss
unfolding samples_in samples_said
are_said scale entries t ss e =
    let n : ℕ = length t.sizes in
    let a = first_ok (samples_said scale entries n t) (Ok (listed t)) ss e in
    let same = then_ok (samples_said scale entries n t) (Ok (listed t)) ss e in
    let b = then_ok (check (nat_le n (length t.deltas)) _) _ a.0 a.1 in
    let early = checked (nat_le (sum (take n t.deltas)) (2 ^ 40 * scale)) _ _ a.0 b in
    let c = then_ok (check (nat_le (sum (take n t.deltas)) (2 ^ 40 * scale)) _) _ a.0 b in
    let d = then_ok (check (nat_le n (sum (counts_of t))) _) _ a.0 c in
    record { same = ok_is (listed t) ss _ refl same; early = leb-true (sum (take n t.deltas)) (2 ^ 40 * scale) early; known = d }

-- samples that are accepted
pub samples_accepted : (bytes track scale entries : ℕ) (t : Tables) (ss : List PlainSample) → samples_held bytes track scale entries t ≡ Ok ss
    → (length ss ≡ length t.sizes) × AllByRecursion (IsHeld bytes scale) ss
unfolding samples_held
samples_accepted bytes track scale entries t ss e =
    let a = bind_ok (as_fault (λ (f : TableFault). movies.Table f) (samples_in scale entries t)) (held_samples bytes track) ss e in
    let said = as_ok (λ (f : TableFault). movies.Table f) (samples_in scale entries t) a.0 a.1 in
    let one = first_ok (held_in bytes track 0 a.0) (Ok a.0) ss a.2 in
    let same = then_ok (held_in bytes track 0 a.0) (Ok a.0) ss a.2 in
    let is : a.0 ≡ ss = ok_is a.0 ss _ refl same in
    let k = are_said scale entries t a.0 said in
    let limit : 0 + sum (take (length t.sizes) t.deltas) ≤ 2 ^ 40 * scale = omega (arith, k.early) in
    let early = all_early 1 (2 ^ 40 * scale) 0 t.sizes t.deltas t.offsets t.sync (placed t.places (counts_of t) t.sizes) (described (chunks_of t)) limit in
    let known = all_described 1 t.stsc_at entries t.sizes (running 0 t.deltas) t.offsets t.sync (placed t.places (counts_of t) t.sizes) (described (chunks_of t)) tt k.known in
    subst (λ (xs : List PlainSample). (length xs ≡ length t.sizes) × AllByRecursion (IsHeld bytes scale) xs) is (
      all_samples scale entries t a.0 said,
      all_held bytes scale a.0 (subst (λ (xs : List PlainSample). AllByRecursion (IsEarly (2 ^ 40 * scale)) xs) k.same early) (subst (λ (xs : List PlainSample). AllByRecursion IsDescribed xs) k.same known) (all_in_file bytes track 0 a.0 one.0 one.1),
    )
