use Rattle.std.proofs.Common.{◌≡◌, ◌≤◌, ◌⊎◌, Some, refl, sym, ap, ◌∙◌, subst, arith}
use Rattle.sf_world.specs.Counts.{Rose}
use Rattle.sf_record.specs.Input.{read_fault}
use Rattle.sf_record.specs.Pump.{Pumping, turns_left}
use Rattle.sf_record.specs.declared.pump.Stepped.TheVariants.{Done, HasChunk, Moved, NoMemory}
use Rattle.sf_record.proofs.Counted.{failed_turn}
use Rattle.sf_record.proofs.Handing.{stepped, took, turns_moved}
use Rattle.sf_record.proofs.deal.next_chunk.Goals as goal

pub loop-pump-preserved : goal.loop-pump-preserved
loop-pump-preserved g c =
    let i = c.loop-pump.invariant in
    let t = c.in-Moved.ensures in
    let less = turns_moved c.args.pump.now.coded.source.size _ c.loop-pump.pump c.step.new.self i.source.size (t.moved refl).0 (t.less_moved refl) in
    record {
      stands = λ accepted taken h. stepped taken c.loop-pump.pump c.step.new.self Moved i.source.content t.source.content (i.stands accepted taken h) t.stands;
      left = omega (arith, i.left, less);
      source = record { content = t.source.content ∙ i.source.content; size = t.source.size ∙ i.source.size; later = omega (arith, i.source.later, t.source.later) };
      given = t.given ∙ i.given;
      failed = λ e. failed_turn _ _ _ i.failed t.source_failed i.source.later t.source.later e;
      live = λ h. t.not_early (i.live h);
    }

pub returns-in-HasChunk-clause-next : goal.returns-in-HasChunk-clause-next
returns-in-HasChunk-clause-next g c accepted taken h =
    let i = c.loop-pump.invariant in
    let t = c.in-HasChunk.ensures in
    let rest = c.take_chunk.ensures.rest in
    let goes = stepped taken c.loop-pump.pump c.step.new.self HasChunk i.source.content t.source.content (i.stands accepted taken h) t.stands in
    took taken c.step.new.self c.take_chunk.new.self c.take_chunk.result (t.source.content ∙ i.source.content) (ap (λ (p : Pumping). p.coded.source.content) rest) goes c.take_chunk.ensures.exact (t.held.0 refl) rest c.take_chunk.ensures.stands

pub returns-in-HasChunk-clause-failed : goal.returns-in-HasChunk-clause-failed
returns-in-HasChunk-clause-failed g c e =
    let i = c.loop-pump.invariant in
    let t = c.in-HasChunk.ensures in
    let rest = c.take_chunk.ensures.rest in
    subst (λ (p : Pumping). (c.args.pump.now.fault ≡ Some read_fault) ⊎ Rose c.args.pump.now.coded.source.faults p.coded.source.faults) (sym rest)
    (failed_turn _ _ _ i.failed t.source_failed i.source.later t.source.later (sym (ap (λ (p : Pumping). p.fault) rest) ∙ e))

pub returns-in-Done-clause-next : goal.returns-in-Done-clause-next
returns-in-Done-clause-next g c accepted taken h =
    let i = c.loop-pump.invariant in
    let t = c.in-Done.ensures in
    let over = t.over.0 refl in
    (stepped taken c.loop-pump.pump c.step.new.self Done i.source.content t.source.content (i.stands accepted taken h) t.stands, record { free = over.0; last = over.1 })

pub returns-in-Done-clause-no_more : goal.returns-in-Done-clause-no_more
returns-in-Done-clause-no_more g c e =
    let i = c.loop-pump.invariant in
    subst (λ (p : Pumping). turns_left c.args.pump.now.coded.source.size p ≤ turns_left c.args.pump.now.coded.source.size c.args.pump.now) (sym (c.in-Done.ensures.stays refl)) i.left

pub returns-in-Done-clause-failed : goal.returns-in-Done-clause-failed
returns-in-Done-clause-failed g c e =
    let i = c.loop-pump.invariant in
    let t = c.in-Done.ensures in
    failed_turn _ _ _ i.failed t.source_failed i.source.later t.source.later e

pub returns-in-NoMemory-clause-stopped : goal.returns-in-NoMemory-clause-stopped
returns-in-NoMemory-clause-stopped g c accepted taken h =
    let i = c.loop-pump.invariant in
    let t = c.in-NoMemory.ensures in
    stepped taken c.loop-pump.pump c.step.new.self NoMemory i.source.content t.source.content (i.stands accepted taken h) t.stands
