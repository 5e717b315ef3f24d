-- The tracks of generated inputs, and their samples.
use Rattle.std.proofs.Common.{◌≡◌, ℕ, zero, suc, ◌+◌, ◌*◌, ◌-◌, ◌%◌, ◌^◌, ◌≤◌, ◌<◌, ◌==◌, ◌⊎◌, Bool, true, false, List, [], ◌∷◌, ◌++◌, length, map, replicate, Option, Some, None, Result, Ok, Err, IfSome, refl, sym, ap, subst, ◌∙◌, inl, inr, arith}
use Rattle.std.specs.List.{AllByRecursion, range_with_len}
use Rattle.std.proofs.lemmas.Bool.{le-leb, lt-ltb}
use Rattle.std.proofs.lemmas.List.{length-append, length-replicate}
use Rattle.sf_tick.specs.Tick.{tick}
use Rattle.sf_tick.specs.declared.types.Kind.{Kind}
use Rattle.sf_tick.specs.declared.types.Kind.TheVariants.{Avc, Aac}
use Rattle.sf_tick.specs.declared.types.Stored.{Stored}
use Rattle.sf_box.specs.Boxes.{be32}
use Rattle.sf_box.proofs.BoxLaws.{length-be32}
use Rattle.sf_avc.specs.Stored.{after_length, prefixed}
use Rattle.sf_avc.proofs.UnitsBack.{lengths_back}
use Rattle.sf_entry.specs.Stsd.{only_entry}
use Rattle.sf_entry.specs.TrackSetup.{made, sound_track, video_track}
use Rattle.sf_entry.specs.declared.track_setup.TrackSetup.{TrackSetup}
use Rattle.sf_entry.proofs.SetupsBack.{sound_read, video_read}
use Rattle.sf_layout.specs.Writable.{IsReadBack}
use Rattle.sf_layout.specs.Written.{first_tick}
use Rattle.sf_layout.proofs.LayoutLaws.{made_entry}
use Rattle.sf_gather.specs.Accepting.{bytes_of, is_offset, kept_of, stored_of}
use Rattle.sf_gather.specs.Proper.{AllFollow, Follows}
use Rattle.sf_gather.specs.declared.given.LastSample.{LastSample}
use Rattle.sf_make.specs.Generator.{generated_config, generated_payload, generated_sample, generated_setup, spacing_us}
use Rattle.sf_selftest.proofs.Units.{only_unit, sound_entry_long, sound_made, stereo_says, video_body, video_entry_long, video_made, video_sets, video_units}
use Rattle.sf_selftest.proofs.Generated.{Before, form_of, given_by, near, scale_of, stored_bytes_of}
use Rattle.sf_selftest.proofs.Handing.{ReadsAs, Tiles}

-- ---- the tracks

-- the track of a kind
abbrev pub setup_of : Kind → TrackSetup
setup_of Avc = video_track (generated_setup Avc) video_body
setup_of Aac = sound_track (generated_setup Aac) stereo_says

pub made_kind : (kind : Kind) → made (generated_setup kind) ≡ Ok (setup_of kind)
unfolding generated_config
made_kind Avc = video_made
made_kind Aac = sound_made

pub kind_is : (kind : Kind) → (setup_of kind).kind ≡ kind
unfolding video_track sound_track
kind_is Avc = refl
kind_is Aac = refl

pub scale_is : (kind : Kind) → (setup_of kind).scale ≡ scale_of kind
unfolding video_track sound_track
scale_is Avc = refl
scale_is Aac = refl

config_few : (kind : Kind) → length (generated_config kind) ≤ 65536
unfolding generated_config
config_few Avc = omega arith
config_few Aac = omega arith

pub read_back : (kind : Kind) → IsReadBack (setup_of kind)
read_back kind = made_entry (generated_setup kind) (setup_of kind) (config_few kind) (made_kind kind)

pub entry_few : (kind : Kind) → length (setup_of kind).entry ≤ 1000000
unfolding video_track sound_track generated_config
entry_few Avc = video_entry_long
entry_few Aac = sound_entry_long

pub reads_as : (kind : Kind) → ReadsAs (setup_of kind)
unfolding only_entry generated_config
reads_as Avc = λ base. (_, video_read base (generated_setup Avc) (setup_of Avc) video_sets refl video_units (made_kind Avc), (refl, kind_is Avc))
reads_as Aac = λ base. (_, sound_read base (generated_setup Aac) (setup_of Aac) refl (config_few Aac) (made_kind Aac), tt)

-- ---- the samples

-- sample i of the track of a kind, as it is stored
abbrev pub stored_at : ℕ → Kind → ℕ → Stored
stored_at t kind i = stored_of (given_by t kind) (generated_sample kind i)

-- so many from a number on
abbrev pub stored_from : ℕ → Kind → ℕ → ℕ → List Stored
stored_from t kind from count = map (stored_at t kind) (range_with_len from count)

-- the first one is decoded at the tick 0
first_stored : (t : ℕ) (kind : Kind) → (stored_at t kind 0).decode ≡ 0
first_stored t Avc = refl
first_stored t Aac = refl

pub first_zero : (t : ℕ) (kind : Kind) (count : ℕ) → first_tick (stored_from t kind 0 count) ≡ 0
first_zero t kind zero = refl
first_zero t kind (suc count) = first_stored t kind

compose_few : (kind : Kind) (i : ℕ) → i < 200000 → tick (spacing_us kind * i - 0) (scale_of kind) ≤ tick (2 ^ 48) (scale_of kind)
compose_few Avc i lt = omega (arith, lt)
compose_few Aac i lt = omega (arith, lt)

time_few : (kind : Kind) (i : ℕ) → i < 200000 → spacing_us kind * i - 0 ≤ 2 ^ 48
time_few Avc i lt = omega (arith, lt)
time_few Aac i lt = omega (arith, lt)

offset_ok : (d : ℕ) → is_offset d d ≡ true
offset_ok d =
    let one = lt-ltb d (d + 2 ^ 31) (omega arith) in
    let two = le-leb d (d + 2 ^ 31) (omega arith) in
    rw (one, two) refl

-- how many bytes a stored sample has
abbrev Sized : List ℕ → Type 0
Sized bytes = (1 ≤ length bytes) × (length bytes ≤ 2 ^ 25)

bytes_few : (kind : Kind) (i : ℕ) → Sized (stored_bytes_of kind i)
unfolding generated_payload after_length
bytes_few Avc i =
    let unit : List ℕ = (only_unit (i % 30 == 0) (i % 7)).bytes in
    let filling = length-replicate {A = ℕ} (i % 7) 128 in
    let all = length-append (be32 (length unit) ++ unit) [] in
    let whole = length-append (be32 (length unit)) unit in
    let few : i % 7 < 7 = omega arith in
    (omega (arith, filling, whole, all, length-be32 (length unit)), omega (arith, filling, whole, all, few, length-be32 (length unit)))
bytes_few Aac i =
    let filling = length-replicate {A = ℕ} (i % 5) 128 in
    let few : i % 5 < 5 = omega arith in
    (omega (arith, filling), omega (arith, filling, few))

pub bytes_are : (t : ℕ) (kind : Kind) (i : ℕ) → (stored_at t kind i).bytes ≡ stored_bytes_of kind i
bytes_are t kind i = ap bytes_of (form_of kind i)

earlier : (kind : Kind) (j i : ℕ) → i ≡ suc j → spacing_us kind * j - 0 ≤ spacing_us kind * i - 0
earlier Avc j i e = omega (arith, e)
earlier Aac j i e = omega (arith, e)

rises_after : (t : ℕ) (kind : Kind) (i : ℕ) (last : Option LastSample) → Before kind (given_by t kind) i last → IfSome last (λ l. l.dts_us ≤ (stored_at t kind i).dts_us)
rises_after t kind i last (inl none) = subst (λ (o : Option LastSample). IfSome o (λ l. l.dts_us ≤ (stored_at t kind i).dts_us)) (sym none) tt
rises_after t kind i last (inr b) = subst (λ (o : Option LastSample). IfSome o (λ l. l.dts_us ≤ (stored_at t kind i).dts_us)) (sym b.2) (earlier kind b.0 i b.1)

near_after : (t : ℕ) (kind : Kind) (i : ℕ) (last : Option LastSample) → i < 200000 → Before kind (given_by t kind) i last → IfSome last (λ l. (stored_at t kind i).decode < l.decode + 2 ^ 32)
near_after t kind i last lt (inl none) = subst (λ (o : Option LastSample). IfSome o (λ l. (stored_at t kind i).decode < l.decode + 2 ^ 32)) (sym none) tt
near_after t kind i last lt (inr b) =
    let n = near kind i lt in
    subst (λ (o : Option LastSample). IfSome o (λ l. (stored_at t kind i).decode < l.decode + 2 ^ 32)) (sym b.2) (omega (arith, n))

follows : (t : ℕ) (kind : Kind) (i : ℕ) (last : Option LastSample) → i < 200000 → Before kind (given_by t kind) i last → Follows (scale_of kind) last (stored_at t kind i)
follows t kind i last lt before =
    let sized : Sized (stored_at t kind i).bytes = subst Sized (sym (bytes_are t kind i)) (bytes_few kind i) in
    record {
      time = time_few kind i lt;
      rises = rises_after t kind i last before;
      decode = refl;
      near = near_after t kind i last lt before;
      offset = offset_ok (stored_at t kind i).decode;
      compose = compose_few kind i lt;
      some = sized.0;
      size = sized.1;
    }

pub all_follow : (t : ℕ) (kind : Kind) (from count : ℕ) (last : Option LastSample) → from + count ≤ 200000 → Before kind (given_by t kind) from last → AllFollow (scale_of kind) last (stored_from t kind from count)
all_follow t kind from zero last le before = tt
all_follow t kind from (suc count) last le before = (
  follows t kind from last (omega (arith, le)) before,
  all_follow t kind (from + 1) count (Some (kept_of (stored_at t kind from))) (omega (arith, le)) (inr (from, omega arith, refl)),
)

unit_short : (sync : Bool) (k : ℕ) → k < 7 → length (only_unit sync k).bytes < 2 ^ 32
unit_short sync k lt = let filling = length-replicate {A = ℕ} k 128 in omega (arith, filling, lt)

pub all_tile : (t from count : ℕ) → AllByRecursion (λ x. Tiles x.bytes) (stored_from t Avc from count)
all_tile t from zero = tt
all_tile t from (suc count) =
    let short : length (only_unit (from % 30 == 0) (from % 7)).bytes < 2 ^ 32 = unit_short (from % 30 == 0) (from % 7) (omega arith) in
    (subst Tiles (sym (bytes_are t Avc from)) (_, lengths_back 0 (only_unit (from % 30 == 0) (from % 7) ∷ []) (short, tt)), all_tile t (from + 1) count)
