use Rattle.std.proofs.Common.{◌≡◌, ℕ, ◌++◌, false, List, length, map, [], sym, ap, subst, ◌∙◌, arith}
use Rattle.std.specs.Prelude.{replicate}
use Rattle.sf_entry.specs.declared.track_setup.TrackSetup.{TrackSetup}
use Rattle.sf_world.specs.Views.{SourceView}
use Rattle.sf_series.specs.Core.{fresh}
use Rattle.sf_series.specs.Fitting.{Fits}
use Rattle.sf_series.specs.declared.limits.Limits.{Limits}
use Rattle.sf_series.specs.Switching.{closed_length, passes}
use Rattle.sf_record.specs.declared.serial_end.SerialOutcome.{SerialOutcome}
use Rattle.sf_record.specs.Serial.{ComeBack, KeepsMade, SerialEnds, TellsNone, asked_for, gave}
use Rattle.sf_record.specs.inner.Finishing.{WriteEnds}
use Rattle.sf_record.proofs.Deals.{all_same}
use Rattle.sf_record.proofs.Finishing.{one_made}
use Rattle.sf_record.proofs.InTurn.{fresh_turn}
use Rattle.sf_record.proofs.Opened.{opened_long}
use Rattle.sf_record.proofs.Serials.{come_back, fresh_deals, not_passed, over_long, readable_of, serial_ends, setups_of, unbegun_ends}
use Rattle.sf_record.proofs.serial.record_pumps.Goals as goal

pub start-requires-clause-setups : goal.start-requires-clause-setups
start-requires-clause-setups g c κs within = setups_of c.requires.opened.0 c.requires.opened.1 c.args.setups.items c.args.pumps.items c.requires.opened.2 c.requires.some c.requires.few

pub write_series-report-requires-clause-deals : goal.write_series-report-requires-clause-deals
write_series-report-requires-clause-deals g c κs within =
    (g.O.Shelf.seen c.args.shelf.now, fresh (length c.args.setups.items), fresh_deals c.requires.opened.0 c.requires.opened.1 c.args.pumps.items c.requires.opened.2 c.in-Ok.ensures.stands c.in-Ok.ensures.setups)

pub sources_of-requires-clause-room : goal.sources_of-requires-clause-room
sources_of-requires-clause-room g c =
    let long = over_long _ _ c.write_series-report.ensures.over in
    omega (arith, long, c.requires.room.1)

pub returns-in-Ok-clause-ends : goal.returns-in-Ok-clause-ends
returns-in-Ok-clause-ends g c options before all =
    let begun = g.O.Shelf.seen c.args.shelf.now in
    let after = g.O.Shelf.seen c.write_series-report.new.shelf in
    let s = c.in-Ok.ensures in
    let w = c.write_series-report.ensures in
    let setups = c.args.setups.items in
    let ends = (w.ends begun _ (fresh_deals options before c.args.pumps.items all s.stands s.setups) (fresh_turn (length setups))).0 in
    let own : WriteEnds begun (g.O.Shelf.seen c.start.new.shelf) c.args.limits setups c.write_series-report.new.pumps.items c.write_series-report.result.0 after c.write_series-report.result.1 =
    subst (λ (ss : List TrackSetup). WriteEnds begun (g.O.Shelf.seen c.start.new.shelf) c.args.limits ss c.write_series-report.new.pumps.items c.write_series-report.result.0 after c.write_series-report.result.1) s.setups
    (subst (λ (l : Limits). WriteEnds begun (g.O.Shelf.seen c.start.new.shelf) l c.in-Ok.series.files.setups c.write_series-report.new.pumps.items c.write_series-report.result.0 after c.write_series-report.result.1) s.limits ends) in
    let under : passes c.args.limits.max_bytes (closed_length setups []) ≡ false = not_passed _ (λ e. (s.passed e).1) in
    let fits : Fits c.args.limits setups = c.setups_fit.ensures c.args.limits setups (setups_of options before setups c.args.pumps.items all c.requires.some c.requires.few) (readable_of options before setups c.args.pumps.items all) under in
    let sources = c.sources_of.ensures.sources ∙ ap (λ xs. map (λ s. g.S.Source.seen s) xs ++ map (λ p. p.coded.source) c.write_series-report.new.pumps.items) c.requires.room.0 in
    subst (λ (vs : List SourceView). SerialEnds (asked_for options c.args.limits before begun) (gave vs after c.write_series-report.result.0) c.write_series-report.result.1) (sym sources)
    (serial_ends options before c.args.pumps.items c.write_series-report.new.pumps.items begun (g.O.Shelf.seen c.start.new.shelf) after c.write_series-report.result.0 c.write_series-report.result.1 all w.over fits under s.later own)

pub returns-in-Ok-clause-back : goal.returns-in-Ok-clause-back
returns-in-Ok-clause-back g c options before all =
    let sources = c.sources_of.ensures.sources ∙ ap (λ xs. map (λ s. g.S.Source.seen s) xs ++ map (λ p. p.coded.source) c.write_series-report.new.pumps.items) c.requires.room.0 in
    subst (λ (vs : List SourceView). ComeBack before vs) (sym sources) (come_back 0 options before c.args.setups.items c.args.pumps.items c.write_series-report.new.pumps.items all c.write_series-report.ensures.over)

pub returns-in-Ok-clause-kept : goal.returns-in-Ok-clause-kept
returns-in-Ok-clause-kept g c =
    let s = c.in-Ok.ensures in
    subst (λ (l : Limits). KeepsMade l.stem (g.O.Shelf.seen c.args.shelf.now) (g.O.Shelf.seen c.write_series-report.new.shelf)) s.limits
    (c.write_series-report.ensures.ends _ _ (fresh_deals c.requires.opened.0 c.requires.opened.1 c.args.pumps.items c.requires.opened.2 s.stands s.setups) (fresh_turn (length c.args.setups.items))).1

pub returns-in-Err-clause-ends : goal.returns-in-Err-clause-ends
returns-in-Err-clause-ends g c options before all =
    let outcome = c.unbegun_outcome.ensures in
    let long = opened_long 0 options before c.args.setups.items c.args.pumps.items all in
    let none : TellsNone (asked_for options c.args.limits before (g.O.Shelf.seen c.args.shelf.now)) c.args.nothing =
    record { files = c.requires.nothing.0; tracks = c.requires.nothing.1 ∙ ap (λ (n : ℕ). replicate n 0) long.1 } in
    subst (λ (o : SerialOutcome). SerialEnds (asked_for options c.args.limits before (g.O.Shelf.seen c.args.shelf.now)) (gave (map (λ s. g.S.Source.seen s) c.sources_of-in-Err.result.items) (g.O.Shelf.seen c.start.new.shelf) c.args.nothing) o) (sym outcome)
    (unbegun_ends options before c.args.setups.items c.args.pumps.items (g.O.Shelf.seen c.args.shelf.now) (g.O.Shelf.seen c.start.new.shelf) c.args.limits c.args.nothing (map (λ s. g.S.Source.seen s) c.sources_of-in-Err.result.items) c.in-Err.fault all c.in-Err.ensures.write c.in-Err.ensures.nothing none c.in-Err.ensures.kept)

pub returns-in-Err-clause-back : goal.returns-in-Err-clause-back
returns-in-Err-clause-back g c options before all =
    let sources = c.sources_of-in-Err.ensures.sources ∙ ap (λ xs. map (λ s. g.S.Source.seen s) xs ++ map (λ p. p.coded.source) c.args.pumps.items) c.requires.room.0 in
    subst (λ (vs : List SourceView). ComeBack before vs) (sym sources) (come_back 0 options before c.args.setups.items c.args.pumps.items c.args.pumps.items all (all_same c.args.pumps.items))

pub returns-in-Err-clause-kept : goal.returns-in-Err-clause-kept
returns-in-Err-clause-kept g c = one_made c.args.limits.stem (g.O.Shelf.seen c.args.shelf.now) (g.O.Shelf.seen c.start.new.shelf) c.in-Err.ensures.kept
