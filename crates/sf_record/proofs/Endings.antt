-- What a pump stands for once its last chunk is made.
use Rattle.std.proofs.Common.{◌≡◌, ℕ, List, [], ◌∷◌, ◌++◌, Option, Some, None, IfSome, IsSome, inl, inr, refl, sym, ap, subst, ◌∙◌, false}
use Rattle.std.specs.Option.{option_to_list}
use Rattle.std.proofs.lemmas.List.{append-nil}
use Rattle.sf_tick.specs.declared.types.Chunk.{Chunk}
use Rattle.sf_tick.specs.declared.types.Stored.{Stored}
use Rattle.sf_gather.specs.Chunks.{chunks, closed, marked}
use Rattle.sf_gather.specs.Gathered.{Gathered, Stands as GatherStands}
use Rattle.sf_gather.specs.Proper.{Proper}
use Rattle.sf_record.specs.declared.faults.TrackFault.{TrackFault}
use Rattle.sf_record.specs.Pump.{Gathers, NotEndedEarly, Pumping, Stands, Works, given_chunks}
use Rattle.sf_record.specs.Input.{OfInput, IsFront}
use Rattle.sf_record.specs.Reading.{EndsBy}
use Rattle.sf_record.proofs.Inputs.{reads_front}

-- a pump behind its last chunk, which it holds
abbrev pub over : Pumping → Gathered → Option TrackFault → Pumping
over pump gatherer fault =
    record { given = pump.given; coded = pump.coded; held_back = None; gatherer = None; chunk = Some (marked gatherer.chunk); fault = fault }

pub over_stands : (contents : Option (List ℕ)) (accepted : List Stored) (taken : List Chunk) (old : Pumping) (gatherer : Gathered) (fault : Option TrackFault)
    → chunks old.given accepted ≡ closed old.given accepted ++ marked gatherer.chunk ∷ []
    → Proper old.given.track old.given.scale (chunks old.given accepted)
    → taken ≡ closed old.given accepted
    → OfInput contents old.given (IsFront accepted)
    → (NotEndedEarly (over old gatherer fault) → EndsBy contents old.given accepted fault)
    → Stands contents accepted taken (over old gatherer fault)
over_stands contents accepted taken old gatherer fault split proper took front ends =
    let whole : taken ++ marked gatherer.chunk ∷ [] ≡ chunks old.given accepted = ap (λ (cs : List Chunk). cs ++ marked gatherer.chunk ∷ []) took ∙ sym split in
    record { proper = rw whole proper; works = record { chunks = whole; front = front; ends = ends } }

-- a pump that was ended early
was_early : (old : Pumping) (gatherer : Gathered) → old.coded.is_over ≡ false → NotEndedEarly (over old gatherer None) → ⊥
was_early old gatherer going (inl some) = cc some
was_early old gatherer going (inr (inl over)) = cc (going, over)
was_early old gatherer going (inr (inr some)) = cc some

-- ending a pump early
pub early_stands : (contents : Option (List ℕ)) (accepted : List Stored) (taken : List Chunk) (old new : Pumping) (gatherer : Option Gathered)
    → old.gatherer ≡ gatherer
    → (gatherer ≡ None → new ≡ old)
    → IfSome gatherer (λ g. new ≡ over old g None)
    → IfSome gatherer (λ g. (samples : List Stored) → GatherStands samples g → chunks old.given samples ≡ closed old.given samples ++ option_to_list new.chunk)
    → IfSome gatherer (λ g. (samples : List Stored) → GatherStands samples g → Proper old.given.track old.given.scale (chunks old.given samples))
    → (IsSome gatherer → old.chunk ≡ None)
    → Stands contents accepted taken old → Stands contents accepted taken new
early_stands contents accepted taken old new None e same made split proper free stands = rw (same refl) stands
early_stands contents accepted taken old new (Some g) e same made split proper free stands =
    let P : Option Gathered → Type 0 = λ h. Works contents accepted (given_chunks taken old) old h in
    let w : Gathers contents accepted (given_chunks taken old) old g = subst P e stands.works in
    let none : old.chunk ≡ None = free refl in
    let took : taken ≡ closed old.given accepted = sym (append-nil taken) ∙ ap (λ (c : Option Chunk). taken ++ option_to_list c) (sym none) ∙ w.chunks in
    let parts : chunks old.given accepted ≡ closed old.given accepted ++ marked g.chunk ∷ [] =
    split accepted w.stands ∙ ap (λ (p : Pumping). closed old.given accepted ++ option_to_list p.chunk) made in
    rw made (over_stands contents accepted taken old g None parts (proper accepted w.stands) took
    (reads_front contents old.given accepted old.coded.setup old.coded.place old.held_back w.reads)
    (λ not. absurd (was_early old g w.going not)))
