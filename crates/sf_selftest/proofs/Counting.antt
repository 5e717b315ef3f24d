-- What is told of the tracks of a movie is what the file holds of them.
use Rattle.std.proofs.Common.{◌≡◌, ℕ, zero, suc, ◌+◌, ◌-◌, ◌≤◌, Bool, true, false, cond, List, [], ◌∷◌, ◌++◌, length, take, drop, map, Option, Some, None, Ok, option_and_then, refl, sym, ap, ◌∙◌, subst, arith}
use Rattle.std.specs.List.{AllByRecursion, fold, range_with_len, slice_get}
use Rattle.std.proofs.lemmas.List.{drop_all, length-drop, length-take}
use Rattle.std.proofs.lemmas.List.FromFn.{map-range_with_len_more}
use Rattle.sf_meaning.specs.Accepted.{IsAccepted, IsHeld}
use Rattle.sf_meaning.specs.Joined.{Held, content, held_in_file, of_track, said_of}
use Rattle.sf_meaning.specs.Movie.{movie}
use Rattle.sf_meaning.specs.Rows.{held_as}
use Rattle.sf_meaning.specs.declared.movie.PlainMovie.{PlainMovie}
use Rattle.sf_meaning.specs.declared.movie.PlainSample.{PlainSample}
use Rattle.sf_meaning.specs.declared.movie.PlainTrack.{PlainTrack}
use Rattle.sf_movie.specs.Loaded.{count_of, sample_count, sample_of}
use Rattle.sf_record.specs.Said.{Said}
use Rattle.sf_selftest.specs.SelfTest.{last_decode, summary_of}
use Rattle.sf_selftest.specs.inner.Listed.{listed, no_samples, samples_at, samples_in, with_sample, with_samples}
use Rattle.sf_selftest.specs.declared.summary.TrackSummary.{TrackSummary}

-- ---- one track

-- the bytes of a sample that lies in the file
taken_long : (file : List ℕ) (place size : ℕ) → place + size ≤ length file → length (take size (drop place file)) ≡ size
taken_long file place size le =
    let rest = length-drop place file in
    let taken = length-take size (drop place file) in
    omega (arith, rest, taken, le)

-- what is told with the samples that these bytes hold
abbrev with_held : TrackSummary → List Held → TrackSummary
with_held t hs = record {
  samples = t.samples + length hs;
  syncs = fold (λ a (h : Held). a + cond h.sync 1 0) t.syncs hs;
  stored = fold (λ a (h : Held). a + length h.bytes) t.stored hs;
  last = last_decode t.last hs;
}

told_of : (file : List ℕ) (scale : ℕ) (t : TrackSummary) (ps : List PlainSample) → AllByRecursion (IsHeld (length file) scale) ps → with_samples t ps ≡ with_held t (map (held_in_file file) ps)
told_of file scale t [] all =
    let none : t.samples ≡ t.samples + 0 = omega arith in
    ap (λ (n : ℕ). let r : TrackSummary = record { samples = n; syncs = t.syncs; stored = t.stored; last = t.last } in r) none
told_of file scale t (p ∷ ps) all =
    let hs : List Held = map (held_in_file file) ps in
    let one : (t.samples + 1) + length hs ≡ t.samples + suc (length hs) = omega arith in
    let size : p.size ≡ length (take p.size (drop p.place file)) = sym (taken_long file p.place p.size all.0.place) in
    told_of file scale (with_sample t p) ps all.1
    ∙ ap (λ (n : ℕ). let r : TrackSummary = record {
      samples = n;
      syncs = fold (λ a (h : Held). a + cond h.sync 1 0) (t.syncs + cond p.sync 1 0) hs;
      stored = fold (λ a (h : Held). a + length h.bytes) (t.stored + p.size) hs;
      last = last_decode p.decode hs;
    } in r) one
    ∙ ap (λ (n : ℕ). let r : TrackSummary = record {
      samples = t.samples + suc (length hs);
      syncs = fold (λ a (h : Held). a + cond h.sync 1 0) (t.syncs + cond p.sync 1 0) hs;
      stored = fold (λ a (h : Held). a + length h.bytes) (t.stored + n) hs;
      last = last_decode p.decode hs;
    } in r) size

from_none : (hs : List Held) → with_held no_samples hs ≡ summary_of hs
from_none hs =
    let zero_more : 0 + length hs ≡ length hs = omega arith in
    let all : TrackSummary = summary_of hs in
    ap (λ (n : ℕ). let r : TrackSummary = record { samples = n; syncs = all.syncs; stored = all.stored; last = all.last } in r) zero_more

-- ---- the tracks of a movie

accepted_at : (bytes scale : ℕ) (tracks : List PlainTrack) (t : ℕ) (track : PlainTrack) → AllByRecursion (IsAccepted bytes scale) tracks → slice_get tracks t ≡ Some track → IsAccepted bytes scale track
accepted_at bytes scale [] t track all at = absurd cc
accepted_at bytes scale (x ∷ tracks) zero track all at = let same : x ≡ track = cc in subst (IsAccepted bytes scale) same all.0
accepted_at bytes scale (x ∷ tracks) (suc t) track all at = accepted_at bytes scale tracks t track all.1 at

few_in : (bytes scale : ℕ) (tracks : List PlainTrack) (t : ℕ) (o : Option PlainTrack) → AllByRecursion (IsAccepted bytes scale) tracks → slice_get tracks t ≡ o → count_of o ≤ 16777216
few_in bytes scale tracks t None all is = omega arith
few_in bytes scale tracks t (Some track) all is = (accepted_at bytes scale tracks t track all is).count

-- no track has too many samples
pub few_samples : (bytes : ℕ) (m : PlainMovie) (t : ℕ) → AllByRecursion (IsAccepted bytes m.scale) m.tracks → sample_count m t ≤ 16777216
few_samples bytes m t all = few_in bytes m.scale m.tracks t (slice_get m.tracks t) all refl

summary_at : (file : List ℕ) (m : PlainMovie) (t : ℕ) (o : Option PlainTrack) (hs : List Held) → AllByRecursion (IsAccepted (length file) m.scale) m.tracks → slice_get m.tracks t ≡ o
    → said_of (λ (y : PlainTrack). map (held_in_file file) y.samples) o ≡ Some hs → with_samples no_samples (samples_in o) ≡ summary_of hs
summary_at file m t None hs all is held = absurd cc
summary_at file m t (Some track) hs all is held =
    let same : map (held_in_file file) track.samples ≡ hs = cc in
    told_of file track.scale no_samples track.samples (accepted_at (length file) m.scale m.tracks t track all is).samples
    ∙ ap (with_held no_samples) same ∙ from_none hs

summary_by : (file : List ℕ) (m : PlainMovie) (t : ℕ) (hs : List Held) → movie file ≡ Ok m → AllByRecursion (IsAccepted (length file) m.scale) m.tracks → content file t ≡ Some hs
    → with_samples no_samples (samples_at m t) ≡ summary_of hs
unfolding content
summary_by file m t hs is all held =
    let told : of_track (λ (x : PlainMovie) (y : PlainTrack). map (held_in_file file) y.samples) t (movie file) ≡ said_of (λ (y : PlainTrack). map (held_in_file file) y.samples) (slice_get m.tracks t) = rw is refl in
    summary_at file m t (slice_get m.tracks t) hs all refl (sym told ∙ held)

-- What is told of tracks, numbered from here on, whose samples inputs say.
pub listed_are : (file : List ℕ) (m : PlainMovie) (k n : ℕ) (saids : List Said) → length saids ≡ n → movie file ≡ Ok m → AllByRecursion (IsAccepted (length file) m.scale) m.tracks
    → ((j : ℕ) (said : Said) → slice_get saids j ≡ Some said → content file (k + j) ≡ Some (map held_as said.samples))
    → map (λ t. with_samples no_samples (samples_at m t)) (range_with_len k n) ≡ map summary_of (map (λ said. map held_as said.samples) saids)
listed_are file m k zero [] long is all held = refl
listed_are file m k (suc n) [] long is all held = absurd (omega (arith, long))
listed_are file m k zero (s ∷ saids) long is all held = absurd (omega (arith, long))
listed_are file m k (suc n) (s ∷ saids) long is all held =
    let here : k + 0 ≡ k = omega arith in
    let first : content file k ≡ Some (map held_as s.samples) = subst (λ (j : ℕ). content file j ≡ Some (map held_as s.samples)) here (held 0 s refl) in
    ap (λ (x : TrackSummary). x ∷ map (λ t. with_samples no_samples (samples_at m t)) (range_with_len (k + 1) n)) (summary_by file m k (map held_as s.samples) is all first)
    ∙ ap (λ (xs : List TrackSummary). summary_of (map held_as s.samples) ∷ xs)
    (listed_are file m (k + 1) n saids (omega (arith, long)) is all
    (λ j said at. (let next : k + suc j ≡ (k + 1) + j = omega arith in subst (λ (i : ℕ). content file i ≡ Some (map held_as said.samples)) next (held (suc j) said at))))

-- ---- sample by sample

-- what is told of one track more
pub listed_more : (m : PlainMovie) (n : ℕ) → listed m (n + 1) ≡ listed m n ++ with_samples no_samples (samples_at m n) ∷ []
listed_more m n = map-range_with_len_more (λ t. with_samples no_samples (samples_at m t)) 0 n n (omega arith)

drop_found : (ss : List PlainSample) (i : ℕ) (s : PlainSample) → slice_get ss i ≡ Some s → drop i ss ≡ s ∷ drop (i + 1) ss
drop_found [] i s at = absurd cc
drop_found (x ∷ ss) zero s at = let same : x ≡ s = cc in ap (λ (y : PlainSample). y ∷ ss) same
drop_found (x ∷ ss) (suc i) s at =
    let next : suc i + 1 ≡ suc (i + 1) = omega arith in
    drop_found ss i s at ∙ ap (λ (n : ℕ). s ∷ drop n (x ∷ ss)) (sym next)

found_in : (o : Option PlainTrack) (i : ℕ) (s : PlainSample) → option_and_then (λ (track : PlainTrack). slice_get track.samples i) o ≡ Some s → drop i (samples_in o) ≡ s ∷ drop (i + 1) (samples_in o)
found_in None i s at = absurd cc
found_in (Some track) i s at = drop_found track.samples i s at

pub one_most : (b : Bool) → cond b 1 0 ≤ 1
one_most true = omega arith
one_most false = omega arith

-- one sample more of a track
pub told_more : (m : PlainMovie) (t i : ℕ) (so_far : TrackSummary) (s : PlainSample) (all : TrackSummary) → sample_of m t i ≡ Some s → with_samples so_far (drop i (samples_at m t)) ≡ all
    → with_samples (with_sample so_far s) (drop (i + 1) (samples_at m t)) ≡ all
told_more m t i so_far s all at told = sym (ap (with_samples so_far) (found_in (slice_get m.tracks t) i s at)) ∙ told

none_left : (o : Option PlainTrack) (n : ℕ) → n ≡ count_of o → drop n (samples_in o) ≡ []
none_left None n is = drop_all n [] (omega (arith, is))
none_left (Some track) n is = drop_all n track.samples (omega (arith, is))

-- no sample is left of a track
pub all_told : (m : PlainMovie) (t n : ℕ) (so_far all : TrackSummary) → n ≡ sample_count m t → with_samples so_far (drop n (samples_at m t)) ≡ all → so_far ≡ all
all_told m t n so_far all is told = sym (ap (with_samples so_far) (none_left (slice_get m.tracks t) n is)) ∙ told
