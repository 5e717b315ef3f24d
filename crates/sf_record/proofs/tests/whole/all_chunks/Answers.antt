use Rattle.std.proofs.Common.{◌≡◌, ℕ, List, [], ◌∷◌, ◌++◌, Option, None, refl, sym, ap, ◌∙◌, subst, inl, inr}
use Rattle.std.proofs.lemmas.List.{append-nil}
use Rattle.std.specs.Option.{option_to_list}
use Rattle.sf_tick.specs.declared.types.Chunk.{Chunk}
use Rattle.sf_tick.specs.declared.types.Stored.{Stored}
use Rattle.sf_gather.specs.Chunks.{chunks}
use Rattle.sf_gather.specs.Gathered.{Gathered}
use Rattle.sf_record.specs.Pump.{Ended, NotEndedEarly, Pumping, Stands, StepsTo, Works, given_chunks}
use Rattle.sf_record.specs.Reading.{EndsBy}
use Rattle.sf_record.specs.declared.pump.Stepped.TheVariants.{HasChunk}
use Rattle.sf_record.proofs.tests.whole.all_chunks.Goals as goal

-- a pump that holds a chunk after a step stands for some samples
step_stands : (contents : Option (List ℕ)) (accepted : List Stored) (taken : List Chunk) (pump : Pumping) → StepsTo contents accepted taken pump HasChunk
    → (samples : List Stored) × Stands contents samples taken pump
step_stands contents accepted taken pump m = elim m [ inl same ↦ (accepted, same) | inr one ↦ (accepted ++ one.1.0 ∷ [], one.1.1) ]

-- a pump whose last chunk was taken gave all chunks of its samples
done_ends : (contents : Option (List ℕ)) (accepted : List Stored) (taken : List Chunk) (pump : Pumping) → Stands contents accepted taken pump
    → pump.chunk ≡ None → pump.gatherer ≡ None → NotEndedEarly pump → (taken ≡ chunks pump.given accepted) × EndsBy contents pump.given accepted pump.fault
done_ends contents accepted taken pump s free over live =
    let is : given_chunks taken pump ≡ taken = ap (λ (o : Option Chunk). taken ++ option_to_list o) free ∙ append-nil taken in
    let works : Ended contents accepted (given_chunks taken pump) pump = subst (λ (g : Option Gathered). Works contents accepted (given_chunks taken pump) pump g) over s.works in
    (sym is ∙ works.chunks, works.ends live)

pub loop-pump-preserved-in-Moved : goal.loop-pump-preserved-in-Moved
loop-pump-preserved-in-Moved g c =
    let i = c.loop-pump.invariant in
    let m = c.in-Moved.ensures.stands i.accepted c.loop-pump.chunks.items i.stands in
    let source = c.in-Moved.ensures.source in
    record {
      accepted = i.accepted ++ m.1.0 ∷ [];
      stands = m.1.1;
      not_early = c.in-Moved.ensures.not_early i.not_early;
      size = source.size ∙ i.size;
    }

pub returns-in-Done : goal.returns-in-Done
returns-in-Done g c =
    let i = c.loop-pump.invariant in
    let over = c.in-Done.ensures.over.0 refl in
    let ends = done_ends _ i.accepted c.loop-pump.chunks.items c.step.new.self (c.in-Done.ensures.stands i.accepted c.loop-pump.chunks.items i.stands) over.0 over.1 (c.in-Done.ensures.not_early i.not_early) in
    (i.accepted, ends.0, ends.1)

pub loop-pump-preserved-in-Continue-1 : goal.loop-pump-preserved-in-Continue-1
loop-pump-preserved-in-Continue-1 g c =
    let i = c.loop-pump.invariant in
    let taken = c.loop-pump.chunks.items in
    let after = c.take_chunk.new.self in
    let s = step_stands _ i.accepted taken c.step.new.self (c.in-HasChunk.ensures.stands i.accepted taken i.stands) in
    let rest = c.take_chunk.ensures.rest in
    record {
      accepted = s.0;
      stands = subst (λ (cs : List Chunk). Stands after.coded.source.content s.0 cs after) (sym c.in_ok-push-in-HasChunk.ensures.items)
          (subst (λ (o : Option Chunk). Stands after.coded.source.content s.0 (taken ++ option_to_list o) after) c.in-Some.is (c.take_chunk.ensures.stands s.0 taken s.1));
      not_early = subst (λ (p : Pumping). NotEndedEarly p) (sym rest) (c.in-HasChunk.ensures.not_early i.not_early);
      size = ap (λ (p : Pumping). p.coded.source.size) rest ∙ c.in-HasChunk.ensures.source.size ∙ i.size;
    }
