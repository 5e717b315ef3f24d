use Rattle.std.proofs.Common.{◌≡◌, List, Option, Some, None, IfSome, Err, refl, sym, ap, subst, ◌∙◌}
use Rattle.sf_tick.specs.declared.types.Chunk.{Chunk}
use Rattle.sf_file.specs.Open.{OpenFile}
use Rattle.sf_interleave.specs.Waiting.{earliest_front, without_front}
use Rattle.sf_series.specs.declared.faults.SeriesFault.{SeriesFault}
use Rattle.sf_series.specs.declared.faults.SeriesFault.TheVariants.{Limit}
use Rattle.sf_series.specs.Series.{OpenSeries}
use Rattle.sf_series.specs.inner.Waits.{GoesOn, with_left}
use Rattle.sf_series.specs.inner.Writing.{CanPut}
use Rattle.sf_series.proofs.Going.{can_put, goes_put, going, gone}
use Rattle.sf_series.proofs.Standing.{failed_of, limit_of, written_of}
use Rattle.sf_series.proofs.Waits.{left_back}
use Rattle.sf_series.proofs.series.Series.write_one.Goals as goal

pub put-requires-clause-can_put : goal.put-requires-clause-can_put
put-requires-clause-can_put g c κs lt =
    let none : c.self.inside.fault ≡ None = ap (λ (s : OpenSeries). s.fault) c.self.view_is ∙ c.requires in
    let goes = going none c.self.invariant in
    subst (λ (o : Option OpenFile). IfSome o (λ f. CanPut f c.in-Some.chunk)) (sym goes.is_open) (can_put c.in-Some.chunk goes (sym c.in-Some.ensures.chunk))

pub invariant_of-self-in-Ok-1 : goal.invariant_of-self-in-Ok-1
invariant_of-self-in-Ok-1 g c =
    let none : c.self.inside.fault ≡ None = ap (λ (s : OpenSeries). s.fault) c.self.view_is ∙ c.requires in
    let goes = going none c.self.invariant in
    gone none (subst (λ (lists : List (List Chunk)). GoesOn lists c.self.inside.tails.items c.put.new.self c.self.inside.left) (sym c.in-Some.ensures.rest)
    (goes_put c.in-Some.chunk goes (sym c.in-Some.ensures.chunk) c.in-Ok.ensures.went c.in-Ok.ensures.same.setups))

pub returns-in-Ok-clause-done : goal.returns-in-Ok-clause-done
returns-in-Ok-clause-done g c begun state s =
    let chunk = c.in-Some.chunk in
    let none : c.self.inside.fault ≡ None = ap (λ (s : OpenSeries). s.fault) c.self.view_is ∙ c.requires in
    let goes = going none c.self.invariant in
    let old : with_left c.self.inside.left c.self.inside.pending ≡ c.self.inside.pending = ap (λ (o : Option Chunk). with_left o c.self.inside.pending) goes.none_left in
    let new : with_left c.self.inside.left c.pick.new.self ≡ c.pick.new.self = ap (λ (o : Option Chunk). with_left o c.pick.new.self) goes.none_left in
    let front = ap (λ (lists : List (List Chunk)). earliest_front lists) old ∙ sym c.in-Some.ensures.chunk in
    written_of _ chunk c.self.view_is s none front (new ∙ c.in-Some.ensures.rest ∙ ap (λ (lists : List (List Chunk)). without_front lists chunk.track) (sym old)) refl c.in-Ok.ensures.same refl
    c.in-Ok.ensures.done c.in-Ok.ensures.within

pub returns-in-Err-clause-limit : goal.returns-in-Err-clause-limit
returns-in-Err-clause-limit g c shown e =
    let chunk = c.in-Some.chunk in
    let none : c.self.inside.fault ≡ None = ap (λ (s : OpenSeries). s.fault) c.self.view_is ∙ c.requires in
    let goes = going none c.self.invariant in
    let is : c.in-Err.fault ≡ Limit shown = cc in
    let l = c.in-Err.ensures.limit shown (ap (λ (f : SeriesFault). Err f) is) in
    let old : with_left c.self.inside.left c.self.inside.pending ≡ c.self.inside.pending = ap (λ (o : Option Chunk). with_left o c.self.inside.pending) goes.none_left in
    let front = ap (λ (lists : List (List Chunk)). earliest_front lists) old ∙ sym c.in-Some.ensures.chunk in
    let back = ap (λ (lists : List (List Chunk)). with_left (Some chunk) lists) c.in-Some.ensures.rest ∙ left_back c.self.inside.pending chunk goes.theirs (sym c.in-Some.ensures.chunk) ∙ sym old in
    (l.1, λ begun state s. limit_of _ chunk shown c.self.view_is (ap g.O.Shelf.seen l.1) s front l.2 back refl l.0 (ap (λ (f : SeriesFault). Some f) is))

pub returns-in-Err-clause-broken : goal.returns-in-Err-clause-broken
returns-in-Err-clause-broken g c breaks =
    let chunk = c.in-Some.chunk in
    let none : c.self.inside.fault ≡ None = ap (λ (s : OpenSeries). s.fault) c.self.view_is ∙ c.requires in
    let goes = going none c.self.invariant in
    let r = c.in-Err.ensures.broken breaks in
    let old : with_left c.self.inside.left c.self.inside.pending ≡ c.self.inside.pending = ap (λ (o : Option Chunk). with_left o c.self.inside.pending) goes.none_left in
    let back = ap (λ (lists : List (List Chunk)). with_left (Some chunk) lists) c.in-Some.ensures.rest ∙ left_back c.self.inside.pending chunk goes.theirs (sym c.in-Some.ensures.chunk) ∙ sym old in
    (r.1.0, λ begun state s. failed_of _ r.1.0 c.in-Err.fault c.self.view_is s back refl c.in-Err.ensures.same refl breaks r.1.1)
