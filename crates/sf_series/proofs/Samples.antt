-- What samples are that follow one after the other, and how many bytes they have.
use Rattle.std.proofs.Common.{inl, inr, ◌≡◌, ℕ, ◌+◌, ◌^◌, ◌<◌, ◌≤◌, Bool, true, false, cond, List, [], ◌∷◌, Option, Some, refl, arith}
use Rattle.std.specs.Prelude.{◌==◌}
use Rattle.std.specs.List.{AllByRecursion}
use Rattle.std.proofs.lemmas.Bool.Decides.{eqb_tells, nat_tests}
use Rattle.sf_tick.specs.declared.types.Stored.{Stored}
use Rattle.sf_tick.specs.declared.types.Chunk.{Chunk}
use Rattle.sf_gather.specs.declared.given.LastSample.{LastSample}
use Rattle.sf_gather.specs.Accepting.{kept_of, is_offset}
use Rattle.sf_gather.specs.Proper.{AllFollow}
use Rattle.sf_meaning.specs.Writable.{IsWritable}
use Rattle.sf_layout.specs.Layout.{track_chunks}
use Rattle.sf_layout.specs.Writable.{IsTimed, Rises, AllRise}

offset_early : (decode compose : ℕ) → is_offset decode compose ≡ true → decode ≤ compose + 2 ^ 31
offset_early decode compose e = grind (arith, nat_tests)

offset_late : (decode compose : ℕ) → is_offset decode compose ≡ true → compose < decode + 2 ^ 31
offset_late decode compose e = grind (arith, nat_tests)

pub follow_writable : (scale : ℕ) (last : Option LastSample) (ss : List Stored) → AllFollow scale last ss → AllByRecursion IsWritable ss
follow_writable scale last [] f = tt
follow_writable scale last (s ∷ ss) f =
    (record { some = f.0.some; short = omega (arith, f.0.size); early = offset_early s.decode s.compose f.0.offset; late = offset_late s.decode s.compose f.0.offset }, follow_writable scale (Some (kept_of s)) ss f.1)

pub follow_timed : (scale : ℕ) (last : Option LastSample) (ss : List Stored) → AllFollow scale last ss → AllByRecursion (IsTimed scale) ss
follow_timed scale last [] f = tt
follow_timed scale last (s ∷ ss) f = (record { early = f.0.time; decode = f.0.decode }, follow_timed scale (Some (kept_of s)) ss f.1)

rises_behind : (scale : ℕ) (s : Stored) (ss : List Stored) → AllFollow scale (Some (kept_of s)) ss → Rises s ss
rises_behind scale s [] f = tt
rises_behind scale s (t ∷ ts) f = (f.0.rises, f.0.near, rises_behind scale t ts f.1)

pub follow_rise : (scale : ℕ) (last : Option LastSample) (ss : List Stored) → AllFollow scale last ss → AllRise ss
follow_rise scale last [] f = tt
follow_rise scale last (s ∷ ss) f = rises_behind scale s ss f.1

-- What holds of the chunks of every track holds of all chunks.
all_tail : (P : Chunk → Type 0) (c : Chunk) (cs : List Chunk) (b : Bool) → AllByRecursion P (cond b (c ∷ cs) cs) → AllByRecursion P cs
all_tail P c cs true all = all.1
all_tail P c cs false all = all

all_head : (P : Chunk → Type 0) (c : Chunk) (cs : List Chunk) (b : Bool) → b ≡ true → AllByRecursion P (cond b (c ∷ cs) cs) → P c
all_head P c cs true e all = all.0
all_head P c cs false e all = cc

same_track : (c : Chunk) → (c.track == c.track) ≡ true
same_track c = elim (eqb_tells c.track c.track) [ inl p ↦ p.0 | inr p ↦ absurd (p.1 refl) ]

pub all_tracks : (P : Chunk → Type 0) (chunks : List Chunk) → ((t : ℕ) → AllByRecursion P (track_chunks t chunks)) → AllByRecursion P chunks
all_tracks P [] all = tt
all_tracks P (c ∷ chunks) all =
    (all_head P c (track_chunks c.track chunks) (c.track == c.track) (same_track c) (all c.track), all_tracks P chunks (λ t. all_tail P c (track_chunks t chunks) (c.track == t) (all t)))
