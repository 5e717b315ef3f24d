-- The counts of samples that a report tells are those of the samples that were read.
use Rattle.std.proofs.Common.{◌≡◌, ℕ, suc, ◌+◌, ◌<◌, nat_lt, Bool, true, false, cond, List, [], ◌∷◌, ◌++◌, length, map, drop, Option, Some, refl, sym, ap, ◌∙◌, arith}
use Rattle.std.specs.Prelude.{slice_get}
use Rattle.std.proofs.lemmas.Bool.Decides.{nat_tests}
use Rattle.sf_tick.specs.declared.types.Chunk.{Chunk}
use Rattle.sf_tick.specs.declared.types.Stored.{Stored}
use Rattle.sf_tick.specs.Samples.{samples_of}
use Rattle.sf_entry.specs.declared.track_setup.TrackSetup.{TrackSetup}
use Rattle.sf_gather.specs.declared.given.Options.{Options}
use Rattle.sf_gather.specs.Chunks.{chunks}
use Rattle.sf_gather.proofs.GatherLaws.{chunks_joined}
use Rattle.sf_interleave.specs.Waiting.{list_of}
use Rattle.sf_record.specs.Input.{given_of}
use Rattle.sf_record.specs.Said.{Said}
use Rattle.sf_record.specs.Serial.{filled, lists_of}
use Rattle.sf_record.proofs.Errors.{nothing_left}

-- an empty chunk has no samples
filled_if : (b : Bool) (c : Chunk) (cs : List Chunk) → nat_lt 0 (length c.samples) ≡ b → samples_of (cond b (c ∷ cs) cs) ≡ c.samples ++ samples_of cs
filled_if true c cs is = refl
filled_if false c cs is =
    let none : length c.samples ≡ 0 = grind (arith, nat_tests) in
    let empty : c.samples ≡ [] = nothing_left c.samples none in
    ap (λ (ss : List Stored). ss ++ samples_of cs) (sym empty)

filled_samples : (cs : List Chunk) → samples_of (filled cs) ≡ samples_of cs
filled_samples [] = refl
filled_samples (c ∷ cs) = filled_if (nat_lt 0 (length c.samples)) c (filled cs) refl ∙ ap (λ (ss : List Stored). c.samples ++ ss) (filled_samples cs)

-- the chunks of an input hold its samples
list_samples : (track : ℕ) (options : Options) (setup : TrackSetup) (samples : List Stored) → length (samples_of (filled (chunks (given_of track setup options) samples))) ≡ length samples
list_samples track options setup samples = ap (λ (ss : List Stored). length ss) (filled_samples (chunks (given_of track setup options) samples) ∙ chunks_joined (given_of track setup options) 0 [] samples)

pub told_of : (track : ℕ) (options : Options) (setups : List TrackSetup) (reads : List Said) (counts : List ℕ) → map (λ r. r.setup) reads ≡ map Some setups → length counts ≡ length setups
    → ((n : ℕ) → n < length setups → slice_get counts n ≡ Some (length (samples_of (list_of (lists_of track options setups reads) n)))) → counts ≡ map (λ r. length r.samples) reads
told_of track options [] [] [] e long each = refl
told_of track options [] [] (n ∷ counts) e long each = absurd (omega (arith, long))
told_of track options [] (r ∷ reads) counts e long each = cc
told_of track options (s ∷ setups) [] counts e long each = cc
told_of track options (s ∷ setups) (r ∷ reads) [] e long each = absurd (omega (arith, long))
told_of track options (s ∷ setups) (r ∷ reads) (n ∷ counts) e long each =
    let first : Some n ≡ Some (length (samples_of (filled (chunks (given_of track s options) r.samples)))) = each 0 (omega arith) in
    let here : n ≡ length (samples_of (filled (chunks (given_of track s options) r.samples))) = cc in
    let more : counts ≡ map (λ r. length r.samples) reads =
    told_of (track + 1) options setups reads counts (ap (λ (os : List (Option TrackSetup)). drop 1 os) e) (omega (arith, long)) (λ m less. each (suc m) (omega (arith, less))) in
    ap (λ (k : ℕ). k ∷ counts) (here ∙ list_samples track options s r.samples) ∙ ap (λ (ks : List ℕ). length r.samples ∷ ks) more
