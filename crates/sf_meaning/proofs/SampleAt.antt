-- The samples that the tables of a track say, one by one.
use Rattle.std.proofs.Common.{◌≡◌, ℕ, ◌+◌, ◌≤◌, nat_le, Bool, true, false, List, length, sum, Some, Result, Ok, Err, refl, sym, ap, ◌∙◌, subst, arith}
use Rattle.std.specs.List.{slice_get}
use Rattle.std.proofs.lemmas.List.{length-take, length-map}
use Rattle.std.proofs.lemmas.Bool.{leb-true}
use Rattle.sf_meaning.specs.Steps.{◌>>◌, check}
use Rattle.sf_meaning.specs.Tables.{InChunk, is_sync, running, placed, described, spread_over}
use Rattle.sf_meaning.specs.TrackSamples.{Tables, chunks_of, counts_of, listed, samples_said, samples_in}
use Rattle.sf_meaning.specs.SampleAt.{IsSampleAt}
use Rattle.sf_meaning.specs.declared.movie.PlainSample.{PlainSample}
use Rattle.sf_meaning.proofs.SamplePlaces.{RowAt, row_is, PlaceAt, place_is, decode_at, length-placed, length-described, length-rows, length-decodes}

-- a check that held, and what follows it
checked : {B E : Type 0} (b : Bool) (fault : E) (q : Result B E) (y : B) → (check b fault >> q) ≡ Ok y → (b ≡ true) × (q ≡ Ok y)
checked true fault q y e = (refl, e)
checked false fault q y e = absurd (cc e)

then_ok : {A B E : Type 0} (r : Result A E) (x y : B) → (r >> Ok x) ≡ Ok y → (z : A) × (r ≡ Ok z) × (x ≡ y)
then_ok (Ok z) x y e = (z, refl, cc e)
then_ok (Err f) x y e = absurd (cc e)

-- What tables say that were accepted.
record Accepted (t : Tables) (samples : List PlainSample) : Type 0 where
  same : listed t ≡ samples
  timed : length t.sizes ≤ length t.deltas
  held : length t.sizes ≤ sum (counts_of t)

accepted : (scale entries : ℕ) (t : Tables) (samples : List PlainSample) → samples_in scale entries t ≡ Ok samples → Accepted t samples
unfolding samples_in samples_said
accepted scale entries t samples e =
    let n : ℕ = length t.sizes in
    let a = then_ok (samples_said scale entries n t) (listed t) samples e in
    let b = checked (nat_le n (length t.deltas)) _ _ a.0 a.1 in
    let c = checked _ _ _ a.0 b.1 in
    let d = checked (nat_le n (sum (counts_of t))) _ _ a.0 c.1 in
    record { same = a.2; timed = leb-true n (length t.deltas) b.0; held = leb-true n (sum (counts_of t)) d.0 }

-- each sample is at the place, with the ticks, the flag and the description that the tables say
pub each_sample : (scale entries : ℕ) (t : Tables) (samples : List PlainSample) → samples_in scale entries t ≡ Ok samples
    → (i : ℕ) (s : PlainSample) → slice_get samples i ≡ Some s → (c : ℕ) × IsSampleAt t i c s
each_sample scale entries t samples e i s at =
    let a : Accepted t samples = accepted scale entries t samples e in
    let places : List ℕ = t.places in
    let sizes : List ℕ = t.sizes in
    let there : slice_get (listed t) i ≡ Some s = ap (λ (ss : List PlainSample). slice_get ss i) a.same ∙ at in
    let r : RowAt 1 i sizes (running 0 t.deltas) t.offsets t.sync (placed places (counts_of t) sizes) (described (chunks_of t)) s =
    row_is 1 i sizes (running 0 t.deltas) t.offsets t.sync (placed places (counts_of t) sizes) (described (chunks_of t)) s there in
    let k : PlaceAt places (chunks_of t) sizes i = place_is places (chunks_of t) sizes i r.sized r.stands in
    let next : 1 + i ≡ i + 1 = omega arith in (
      k.c,
      record {
        chunk = k.chunk;
        place = r.place ∙ k.place;
        size = r.size;
        decode = r.decode ∙ decode_at t.deltas i r.decoded;
        compose = r.compose;
        sync = subst (λ (n : ℕ). s.sync ≡ is_sync t.sync n) next r.is_sync_so;
        description = r.description ∙ k.description;
      },
    )

-- there are as many samples as the sizes count
pub all_samples : (scale entries : ℕ) (t : Tables) (samples : List PlainSample) → samples_in scale entries t ≡ Ok samples → length samples ≡ length t.sizes
all_samples scale entries t samples e =
    let a : Accepted t samples = accepted scale entries t samples e in
    let n : ℕ = length t.sizes in
    let places : List ℕ = t.places in
    let sizes : List ℕ = t.sizes in
    let long : length sizes ≡ n = refl in
    let chunks : length (counts_of t) ≡ length (chunks_of t) = length-map (chunks_of t) (λ (c : InChunk). c.per) in
    let few : length (chunks_of t) ≤ length t.places = omega (arith, length-take (length t.places) (spread_over t.spreads (length t.places))) in
    let stand : length (placed places (counts_of t) sizes) ≡ length sizes =
    length-placed places (counts_of t) sizes (omega (arith, chunks, few)) (omega (arith, long, a.held)) in
    ap (λ (ss : List PlainSample). length ss) (sym a.same)
    ∙ length-rows 1 n sizes (running 0 t.deltas) t.offsets t.sync (placed places (counts_of t) sizes) (described (chunks_of t)) long
    (omega (arith, length-decodes t.deltas, a.timed)) (omega (arith, stand, long)) (omega (arith, length-described (chunks_of t), a.held))
