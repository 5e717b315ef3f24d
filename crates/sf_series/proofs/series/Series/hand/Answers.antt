use Rattle.std.proofs.Common.{◌≡◌, List, length, set, Option, Some, None, refl, sym, ap, subst, ◌∙◌, arith}
use Rattle.std.specs.Prelude.{slice_get}
use Rattle.std.proofs.lemmas.Option.{slice_get_read, slice_get_within}
use Rattle.sf_tick.specs.declared.types.Chunk.{Chunk}
use Rattle.sf_gather.specs.Proper.{Tail}
use Rattle.sf_series.specs.Core.{with_filled}
use Rattle.sf_series.specs.Series.{OpenSeries}
use Rattle.sf_series.specs.inner.Tails.{tail_with}
use Rattle.sf_series.specs.inner.Waits.{GoesOn, with_left}
use Rattle.sf_series.proofs.Going.{goes_handed, going, gone, unset, with_some, with_unfilled}
use Rattle.sf_series.proofs.Standing.{handed_of}
use Rattle.sf_series.proofs.series.Series.hand.Goals as goal

pub hand-requires-clause-track : goal.hand-requires-clause-track
hand-requires-clause-track g c =
    let none : c.self.inside.fault ≡ None = unset c.self.inside.fault (sym c.is_some.ensures ∙ c.if-is_some.false) in
    let goes = going none c.self.invariant in
    let can = c.requires (ap (λ (s : OpenSeries). s.fault) (sym c.self.view_is) ∙ none) in
    let there = ap (λ (s : OpenSeries). slice_get s.files.setups c.args.chunk.track) c.self.view_is ∙ can.there in
    omega (arith, slice_get_within c.self.inside.files.setups c.args.chunk.track can.setup there, goes.lists)

pub index_mut-requires-2 : goal.index_mut-requires-2
index_mut-requires-2 g c =
    let none : c.self.inside.fault ≡ None = unset c.self.inside.fault (sym c.is_some.ensures ∙ c.if-is_some.false) in
    let can = c.requires (ap (λ (s : OpenSeries). s.fault) (sym c.self.view_is) ∙ none) in
    let handed = ap (λ (s : OpenSeries). slice_get s.tails c.args.chunk.track) c.self.view_is ∙ can.handed in
    omega (arith, slice_get_within c.self.inside.tails.items c.args.chunk.track can.tail handed)

pub invariant_of-self : goal.invariant_of-self
invariant_of-self g c =
    let chunk = c.args.chunk in
    let tails = c.self.inside.tails.items in
    let none : c.self.inside.fault ≡ None = unset c.self.inside.fault (sym c.is_some.ensures ∙ c.if-is_some.false) in
    let goes = going none c.self.invariant in
    let can = c.requires (ap (λ (s : OpenSeries). s.fault) (sym c.self.view_is) ∙ none) in
    let there = ap (λ (s : OpenSeries). slice_get s.files.setups chunk.track) c.self.view_is ∙ can.there in
    let handed = ap (λ (s : OpenSeries). slice_get s.tails chunk.track) c.self.view_is ∙ can.handed in
    let read : slice_get tails chunk.track ≡ Some c.index.result.now = slice_get_read tails (length tails) chunk.track c.index.result.now refl (slice_get_within tails chunk.track can.tail handed) c.index.ensures in
    let both : Some can.tail ≡ Some c.index.result.now = sym handed ∙ read in
    let same : can.tail ≡ c.index.result.now = cc in
    let tail = ap (λ (x : Tail). tail_with x chunk) same ∙ sym c.with-tail.ensures in
    let lists = with_unfilled c.self.inside.pending chunk (sym c.is_empty.ensures ∙ c.if-is_empty.true) in
    gone none (subst (λ (ls : List (List Chunk)). GoesOn ls (set tails chunk.track c.with-tail.result) c.self.inside.files c.self.inside.left) lists
    (subst (λ (x : Tail). GoesOn (with_filled c.self.inside.pending chunk) (set tails chunk.track x) c.self.inside.files c.self.inside.left) tail
    (goes_handed chunk can.setup can.tail goes there handed can.goes_on.itself.few can.goes_on.samples)))

pub invariant_of-self-2 : goal.invariant_of-self-2
invariant_of-self-2 g c =
    let chunk = c.args.chunk in
    let tails = c.self.inside.tails.items in
    let none : c.self.inside.fault ≡ None = unset c.self.inside.fault (sym c.is_some.ensures ∙ c.if-is_some.false) in
    let goes = going none c.self.invariant in
    let can = c.requires (ap (λ (s : OpenSeries). s.fault) (sym c.self.view_is) ∙ none) in
    let there = ap (λ (s : OpenSeries). slice_get s.files.setups chunk.track) c.self.view_is ∙ can.there in
    let handed = ap (λ (s : OpenSeries). slice_get s.tails chunk.track) c.self.view_is ∙ can.handed in
    let read : slice_get tails chunk.track ≡ Some c.index.result.now = slice_get_read tails (length tails) chunk.track c.index.result.now refl (slice_get_within tails chunk.track can.tail handed) c.index.ensures in
    let both : Some can.tail ≡ Some c.index.result.now = sym handed ∙ read in
    let same : can.tail ≡ c.index.result.now = cc in
    let tail = ap (λ (x : Tail). tail_with x chunk) same ∙ sym c.with-tail.ensures in
    let lists = with_some c.self.inside.pending chunk (sym c.is_empty.ensures ∙ c.if-is_empty.false) ∙ sym c.in_ok-hand.ensures.ok in
    gone none (subst (λ (ls : List (List Chunk)). GoesOn ls (set tails chunk.track c.with-tail.result) c.self.inside.files c.self.inside.left) lists
    (subst (λ (x : Tail). GoesOn (with_filled c.self.inside.pending chunk) (set tails chunk.track x) c.self.inside.files c.self.inside.left) tail
    (goes_handed chunk can.setup can.tail goes there handed can.goes_on.itself.few can.goes_on.samples)))

pub returns-then-is_empty-clause-stands : goal.returns-then-is_empty-clause-stands
returns-then-is_empty-clause-stands g c begun shelf state s =
    let chunk = c.args.chunk in
    let tails = c.self.inside.tails.items in
    let none : c.self.inside.fault ≡ None = unset c.self.inside.fault (sym c.is_some.ensures ∙ c.if-is_some.false) in
    let can = c.requires (ap (λ (s : OpenSeries). s.fault) (sym c.self.view_is) ∙ none) in
    let there = ap (λ (s : OpenSeries). slice_get s.files.setups chunk.track) c.self.view_is ∙ can.there in
    let handed = ap (λ (s : OpenSeries). slice_get s.tails chunk.track) c.self.view_is ∙ can.handed in
    let read : slice_get tails chunk.track ≡ Some c.index.result.now = slice_get_read tails (length tails) chunk.track c.index.result.now refl (slice_get_within tails chunk.track can.tail handed) c.index.ensures in
    let lists = with_unfilled (with_left c.self.inside.left c.self.inside.pending) chunk (sym c.is_empty.ensures ∙ c.if-is_empty.true) in
    handed_of _ chunk c.index.result.now c.self.view_is s none (slice_get_within c.self.inside.files.setups chunk.track can.setup there) read (sym lists)
    (ap (λ (x : Tail). set tails chunk.track x) c.with-tail.ensures) refl refl

pub returns-clause-stands : goal.returns-clause-stands
returns-clause-stands g c begun shelf state s =
    let chunk = c.args.chunk in
    let tails = c.self.inside.tails.items in
    let none : c.self.inside.fault ≡ None = unset c.self.inside.fault (sym c.is_some.ensures ∙ c.if-is_some.false) in
    let goes = going none c.self.invariant in
    let can = c.requires (ap (λ (s : OpenSeries). s.fault) (sym c.self.view_is) ∙ none) in
    let there = ap (λ (s : OpenSeries). slice_get s.files.setups chunk.track) c.self.view_is ∙ can.there in
    let handed = ap (λ (s : OpenSeries). slice_get s.tails chunk.track) c.self.view_is ∙ can.handed in
    let read : slice_get tails chunk.track ≡ Some c.index.result.now = slice_get_read tails (length tails) chunk.track c.index.result.now refl (slice_get_within tails chunk.track can.tail handed) c.index.ensures in
    let old : with_left c.self.inside.left c.self.inside.pending ≡ c.self.inside.pending = ap (λ (o : Option Chunk). with_left o c.self.inside.pending) goes.none_left in
    let new : with_left c.self.inside.left c.hand.new.self ≡ c.hand.new.self = ap (λ (o : Option Chunk). with_left o c.hand.new.self) goes.none_left in
    let lists = with_some c.self.inside.pending chunk (sym c.is_empty.ensures ∙ c.if-is_empty.false) ∙ sym c.in_ok-hand.ensures.ok in
    handed_of _ chunk c.index.result.now c.self.view_is s none (slice_get_within c.self.inside.files.setups chunk.track can.setup there) read
    (new ∙ sym lists ∙ ap (λ (ls : List (List Chunk)). with_filled ls chunk) (sym old))
    (ap (λ (x : Tail). set tails chunk.track x) c.with-tail.ensures) refl refl
