-- A sample that isn't refused can stand after the last one; and which faults a sample has.
use Rattle.std.proofs.Common.{◌≡◌, ◌≢◌, ℕ, ◌+◌, ◌-◌, ◌^◌, ◌<◌, ◌≤◌, Bool, true, false, ◌||◌, cond, List, [], ◌∷◌, ◌++◌, length, Option, Some, None, Result, Ok, Err, refl, arith}
use Rattle.std.specs.Option.{IfSome}
use Rattle.std.specs.Prelude.{nat_lt, nat_le}
use Rattle.std.proofs.lemmas.Bool.Decides.{nat_tests}
use Rattle.sf_tick.proofs.TickLaws.{tick_rises}
use Rattle.sf_tick.specs.declared.types.Sample.{Sample}
use Rattle.sf_tick.specs.declared.types.Stored.{Stored}
use Rattle.sf_gather.specs.declared.given.Given.{Given}
use Rattle.sf_gather.specs.declared.given.LastSample.{LastSample}
use Rattle.sf_gather.specs.declared.accepting.SampleFault.{SampleFault}
use Rattle.sf_gather.specs.declared.accepting.SampleFault.TheVariants.{TimeTooLarge, BeforeStart, Falls, GapTooLong, OffsetTooLarge}
use Rattle.sf_avc.specs.declared.nal.NalFault.{NalFault}
use Rattle.sf_avc.specs.declared.nal.NalFault.TheVariants.{NoStart, EmptyUnit, NoMemory}
use Rattle.sf_avc.specs.Stored.{stored}
use Rattle.sf_tick.specs.declared.types.Kind.{Kind}
use Rattle.sf_tick.specs.declared.types.Kind.TheVariants.{Avc, Aac}
use Rattle.sf_gather.specs.Accepting.{refusal, time_refusal, first_fault, too_large, before_start, falls, gap_too_long, offset_too_large, not_units, refused_units, stored_form, bytes_of, stored_of, tick_at, kept_of, last_from, IsOfSample}
use Rattle.sf_gather.specs.Proper.{Follows, AllFollow}
use Rattle.sf_gather.proofs.Sizes.{stored_fault, stored_length, stored_some}

-- no rule of a list fails where none is the first one
first_none : (rule : Option SampleFault) (rules : List (Option SampleFault)) → first_fault (rule ∷ rules) ≡ None → (rule ≡ None) × (first_fault rules ≡ None)
first_none None rules e = (refl, e)
first_none (Some fault) rules e = cc

unless : (b : Bool) (fault : SampleFault) → cond b (Some fault) None ≡ None → b ≡ false
unless true fault e = cc
unless false fault e = refl

when : (b : Bool) (fault : SampleFault) → cond b None (Some fault) ≡ None → b ≡ true
when true fault e = refl
when false fault e = cc

not_behind : (given : Given) (last : Option LastSample) (sample : Sample) → falls given last sample ≡ None → IfSome last (λ l. l.dts_us ≤ sample.dts_us - given.options.start_us)
not_behind given None sample e = tt
not_behind given (Some last) sample e =
    let test : nat_lt sample.dts_us (last.dts_us + given.options.start_us) ≡ false = unless _ (Falls (last.dts_us + given.options.start_us)) e in
    grind (arith, nat_tests)

near_by : (given : Given) (last : Option LastSample) (sample : Sample) → gap_too_long given last sample ≡ None → IfSome last (λ l. tick_at given sample.dts_us < l.decode + 2 ^ 32)
near_by given None sample e = tt
near_by given (Some last) sample e =
    let test : nat_le (last.decode + 2 ^ 32) (tick_at given sample.dts_us) ≡ false = unless _ GapTooLong e in
    grind (arith, nat_tests)

in_time : (sample : Sample) → too_large sample ≡ None → (sample.dts_us ≤ 2 ^ 48) × (sample.pts_us ≤ 2 ^ 48)
in_time sample e =
    let test : (nat_lt (2 ^ 48) sample.dts_us || nat_lt (2 ^ 48) sample.pts_us) ≡ false = unless _ TimeTooLarge e in
    (grind (arith, nat_tests), grind (arith, nat_tests))

form_if : (form : Result (List ℕ) NalFault) → refused_units form ≡ None → form ≡ Ok (bytes_of form)
form_if (Ok bytes) e = refl
form_if (Err fault) e = absurd (cc e)

-- what is stored of a payload that isn't refused has 1 to 2 ^ 25 bytes
form_size : (kind : Kind) (payload : List ℕ) → refused_units (stored_form kind payload) ≡ None → 1 ≤ length payload → length payload ≤ 2 ^ 24
    → (1 ≤ length (bytes_of (stored_form kind payload))) × (length (bytes_of (stored_form kind payload)) ≤ 2 ^ 25)
form_size Aac payload e some size = (some, omega (arith, size))
form_size Avc payload e some size =
    let is : stored payload ≡ Ok (bytes_of (stored payload)) = form_if (stored payload) e in
    (stored_some payload _ is, omega (arith, size, stored_length payload _ is))

pub accepted_follows : (given : Given) (last : Option LastSample) (sample : Sample) → refusal given last sample ≡ None → 1 ≤ length sample.bytes → length sample.bytes ≤ 2 ^ 24
    → Follows given.scale last (stored_of given sample)
accepted_follows given last sample e some size =
    let r = first_none (time_refusal given last sample) _ e in
    let r0 = first_none (too_large sample) _ r.0 in
    let r1 = first_none (before_start given sample) _ r0.1 in
    let r2 = first_none (falls given last sample) _ r1.1 in
    let r3 = first_none (gap_too_long given last sample) _ r2.1 in
    let r4 = first_none (offset_too_large given sample) [] r3.1 in
    let units = first_none (not_units given sample) [] r.1 in
    let sized = form_size given.kind sample.bytes units.0 some size in
    let t = in_time sample r0.0 in
    record {
      time = omega (arith, t.0);
      rises = not_behind given last sample r2.0;
      decode = refl;
      near = near_by given last sample r3.0;
      offset = when _ OffsetTooLarge r4.0;
      compose = tick_rises (sample.pts_us - given.options.start_us) (2 ^ 48) given.scale (omega (arith, t.1));
      some = sized.0;
      size = sized.1;
    }

-- ---- which faults a sample has

-- a fault, if there is one, says something of the sample
abbrev OfSample : Option SampleFault → Type 0
OfSample rule = IfSome rule IsOfSample

first_of : (rule : Option SampleFault) (rules : List (Option SampleFault)) → OfSample rule → OfSample (first_fault rules) → OfSample (first_fault (rule ∷ rules))
first_of None rules one more = more
first_of (Some fault) rules one more = one

if_of : (b : Bool) (fault : SampleFault) → IsOfSample fault → OfSample (cond b (Some fault) None)
if_of true fault of = of
if_of false fault of = tt

unless_of : (b : Bool) (fault : SampleFault) → IsOfSample fault → OfSample (cond b None (Some fault))
unless_of true fault of = tt
unless_of false fault of = of

falls_of : (given : Given) (last : Option LastSample) (sample : Sample) → OfSample (falls given last sample)
falls_of given None sample = tt
falls_of given (Some last) sample = if_of _ (Falls (last.dts_us + given.options.start_us)) tt

gap_of : (given : Given) (last : Option LastSample) (sample : Sample) → OfSample (gap_too_long given last sample)
gap_of given None sample = tt
gap_of given (Some last) sample = if_of _ GapTooLong tt

units_of : (form : Result (List ℕ) NalFault) → form ≢ Err NoMemory → OfSample (refused_units form)
units_of (Ok bytes) not = tt
units_of (Err NoStart) not = tt
units_of (Err (EmptyUnit at)) not = tt
units_of (Err NoMemory) not = not refl

form_not : (kind : Kind) (payload : List ℕ) → stored_form kind payload ≢ Err NoMemory
form_not Aac payload e = cc e
form_not Avc payload e = stored_fault payload e

-- a sample isn't refused for want of memory
pub refusal_tells : (given : Given) (last : Option LastSample) (sample : Sample) → IfSome (refusal given last sample) IsOfSample
refusal_tells given last sample =
    first_of (time_refusal given last sample) _
    (first_of (too_large sample) _ (if_of _ TimeTooLarge tt)
    (first_of (before_start given sample) _ (if_of _ BeforeStart tt)
    (first_of (falls given last sample) _ (falls_of given last sample)
    (first_of (gap_too_long given last sample) _ (gap_of given last sample)
    (first_of (offset_too_large given sample) [] (unless_of _ OffsetTooLarge tt) tt)))))
    (first_of (not_units given sample) [] (units_of (stored_form given.kind sample.bytes) (form_not given.kind sample.bytes)) tt)

both_none : (rule other : Option SampleFault) → rule ≡ None → other ≡ None → first_fault (rule ∷ other ∷ []) ≡ None
both_none None None e f = refl
both_none None (Some fault) e f = f
both_none (Some fault) other e f = e

-- a sample is accepted that isn't refused for its times nor for its units
pub no_refusal : (given : Given) (last : Option LastSample) (sample : Sample) → time_refusal given last sample ≡ None → not_units given sample ≡ None → refusal given last sample ≡ None
no_refusal given last sample e f = both_none (time_refusal given last sample) (not_units given sample) e f

-- one more sample that can stand after the others
pub follow_more : (scale : ℕ) (last : Option LastSample) (xs : List Stored) (s : Stored) → AllFollow scale last xs → Follows scale (last_from last xs) s → AllFollow scale last (xs ++ s ∷ [])
follow_more scale last [] s all one = (one, tt)
follow_more scale last (x ∷ xs) s all one = (all.0, follow_more scale (Some (kept_of x)) xs s all.1 one)

-- the last sample of two lists
pub last_from-append : (last : Option LastSample) (xs ys : List Stored) → last_from last (xs ++ ys) ≡ last_from (last_from last xs) ys
last_from-append last [] ys = refl
last_from-append last (x ∷ xs) ys = last_from-append (Some (kept_of x)) xs ys

-- Two lists follow where each follows what is in front of it.
pub follow_append : (scale : ℕ) (last : Option LastSample) (xs ys : List Stored) → AllFollow scale last (xs ++ ys) → AllFollow scale last xs × AllFollow scale (last_from last xs) ys
follow_append scale last [] ys all = (tt, all)
follow_append scale last (x ∷ xs) ys all = let more = follow_append scale (Some (kept_of x)) xs ys all.1 in ((all.0, more.0), more.1)

pub append_follows : (scale : ℕ) (last : Option LastSample) (xs ys : List Stored) → AllFollow scale last xs → AllFollow scale (last_from last xs) ys → AllFollow scale last (xs ++ ys)
append_follows scale last [] ys xs_ok ys_ok = ys_ok
append_follows scale last (x ∷ xs) ys xs_ok ys_ok = (xs_ok.0, append_follows scale (Some (kept_of x)) xs ys xs_ok.1 ys_ok)
