-- What the generated inputs say.
use Rattle.std.proofs.Common.{◌≡◌, ℕ, zero, suc, ◌+◌, ◌*◌, ◌-◌, ◌%◌, ◌^◌, ◌≤◌, ◌<◌, ◌==◌, ◌⊎◌, ◌&&◌, ◌||◌, nat_lt, nat_le, Bool, true, false, cond, List, [], ◌∷◌, ◌++◌, length, map, replicate, Option, Some, None, Result, Ok, Err, refl, sym, ap, subst, ◌∙◌, inl, inr, arith}
use Rattle.std.specs.List.{range_with_len}
use Rattle.std.proofs.lemmas.Bool.{le-leb, le-ltb, lt-leb, lt-ltb}
use Rattle.sf_tick.specs.Tick.{tick}
use Rattle.sf_tick.specs.declared.types.Kind.{Kind}
use Rattle.sf_tick.specs.declared.types.Kind.TheVariants.{Avc, Aac}
use Rattle.sf_tick.specs.declared.types.Sample.{Sample}
use Rattle.sf_tick.specs.declared.types.Stored.{Stored}
use Rattle.sf_avc.specs.Units.{nals}
use Rattle.sf_avc.specs.Stored.{prefixed, stored, stored_units}
use Rattle.sf_gather.specs.Accepting.{falls, gap_too_long, is_offset, kept_of, not_units, offset_too_large, refusal, stored_form, stored_of, tick_at, time_refusal, too_large}
use Rattle.sf_gather.specs.declared.accepting.SampleFault.{SampleFault}
use Rattle.sf_gather.specs.declared.given.Given.{Given}
use Rattle.sf_gather.specs.declared.given.LastSample.{LastSample}
use Rattle.sf_gather.specs.declared.given.Options.{Options}
use Rattle.sf_make.specs.Generator.{generated_payload, generated_sample, generated_sync, spacing_us}
use Rattle.sf_selftest.proofs.Units.{first_byte, only_unit, payload_units}

-- how samples are put into chunks
abbrev pub usual : Options
usual = record { start_us = 0; interleave_us = 1000000 }

-- ticks a second of the tracks of a kind
abbrev pub scale_of : Kind → ℕ
scale_of Avc = 90000
scale_of Aac = 48000

abbrev pub given_by : ℕ → Kind → Given
given_by track kind = record { track = track; kind = kind; scale = scale_of kind; options = usual }

-- ---- the payloads

sync_byte : (b : Bool) → cond b 101 65 ≡ first_byte b
sync_byte true = refl
sync_byte false = refl

pub video_payload : (i : ℕ) → nals (generated_payload Avc i) ≡ Ok (only_unit (i % 30 == 0) (i % 7) ∷ [])
unfolding generated_payload
video_payload i =
    ap (λ (x : ℕ). nals (0 ∷ 0 ∷ 0 ∷ 1 ∷ x ∷ replicate (i % 7) 128)) (sync_byte (i % 30 == 0)) ∙ payload_units (i % 30 == 0) (i % 7)

-- what is stored of a payload
abbrev pub stored_bytes_of : Kind → ℕ → List ℕ
stored_bytes_of Avc i = prefixed (only_unit (i % 30 == 0) (i % 7) ∷ [])
stored_bytes_of Aac i = generated_payload Aac i

pub form_of : (kind : Kind) (i : ℕ) → stored_form kind (generated_payload kind i) ≡ Ok (stored_bytes_of kind i)
unfolding stored
form_of Avc i = ap stored_units (video_payload i)
form_of Aac i = refl

-- ---- the times

early : (kind : Kind) (i : ℕ) → i < 200000 → spacing_us kind * i ≤ 2 ^ 40
early Avc i lt = omega (arith, lt)
early Aac i lt = omega (arith, lt)

pub near : (kind : Kind) (i : ℕ) → i < 200000 → tick (spacing_us kind * i - 0) (scale_of kind) < 2 ^ 32
near Avc i lt = omega (arith, lt)
near Aac i lt = omega (arith, lt)

large_if : (a b : Bool) (fault : SampleFault) → a ≡ false → b ≡ false → cond (a || b) (Some fault) None ≡ None
large_if a b fault p q = rw (p, q) refl

-- the last sample before one of a number: none, or the one before it
abbrev pub Before : Kind → Given → ℕ → Option LastSample → Type 0
Before kind given i last = (last ≡ None) ⊎ ((j : ℕ) × (i ≡ suc j) × (last ≡ Some (kept_of (stored_of given (generated_sample kind j)))))

later_time : (kind : Kind) (j i : ℕ) → i ≡ suc j → spacing_us kind * j ≤ spacing_us kind * i
later_time Avc j i e = omega (arith, e)
later_time Aac j i e = omega (arith, e)

falls_not : (track : ℕ) (kind : Kind) (i : ℕ) (last : Option LastSample) → Before kind (given_by track kind) i last → falls (given_by track kind) last (generated_sample kind i) ≡ None
falls_not track kind i last (inl none) = rw none refl
falls_not track kind i last (inr b) =
    let later = later_time kind b.0 i b.1 in
    let test : nat_lt (spacing_us kind * i) (spacing_us kind * b.0 - 0 + 0) ≡ false = le-ltb _ _ (omega (arith, later)) in
    rw b.2 (rw test refl)

gap_not : (track : ℕ) (kind : Kind) (i : ℕ) (last : Option LastSample) → i < 200000 → Before kind (given_by track kind) i last → gap_too_long (given_by track kind) last (generated_sample kind i) ≡ None
gap_not track kind i last lt (inl none) = rw none refl
gap_not track kind i last lt (inr b) =
    let n = near kind i lt in
    let test : nat_le (tick (spacing_us kind * b.0 - 0) (scale_of kind) + 2 ^ 32) (tick (spacing_us kind * i - 0) (scale_of kind)) ≡ false = lt-leb _ _ (omega (arith, n)) in
    rw b.2 (rw test refl)

offset_not : (track : ℕ) (kind : Kind) (i : ℕ) → offset_too_large (given_by track kind) (generated_sample kind i) ≡ None
offset_not track kind i =
    let d : ℕ = tick (spacing_us kind * i - 0) (scale_of kind) in
    let one : nat_lt d (d + 2 ^ 31) ≡ true = lt-ltb _ _ (omega arith) in
    let two : nat_le d (d + 2 ^ 31) ≡ true = le-leb _ _ (omega arith) in
    rw (one, two) refl

-- no generated sample is refused
pub not_refused : (track : ℕ) (kind : Kind) (i : ℕ) (last : Option LastSample) → i < 200000 → Before kind (given_by track kind) i last → refusal (given_by track kind) last (generated_sample kind i) ≡ None
not_refused track kind i last lt before =
    let e = early kind i lt in
    let large : nat_lt (2 ^ 48) (spacing_us kind * i) ≡ false = le-ltb _ _ (omega (arith, e)) in
    let first : nat_lt (spacing_us kind * i) 0 ≡ false = le-ltb _ _ (omega arith) in
    rw (large, first, falls_not track kind i last before, gap_not track kind i last lt before, offset_not track kind i, form_of kind i) refl
