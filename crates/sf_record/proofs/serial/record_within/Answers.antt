use Rattle.std.proofs.Common.{◌≡◌, ℕ, ◌+◌, ◌++◌, List, None, length, map, sym, ap, subst, ◌∙◌, arith}
use Rattle.std.specs.Prelude.{replicate}
use Rattle.std.proofs.lemmas.List.{length-map, map-append}
use Rattle.sf_world.specs.Views.{SourceView}
use Rattle.sf_record.specs.Serial.{ComeBack, SerialEnds, asked_for, gave}
use Rattle.sf_record.specs.Said.{said_in}
use Rattle.sf_record.specs.inner.Finishing.{untaken_as}
use Rattle.sf_record.proofs.Finishing.{none_made}
use Rattle.sf_record.proofs.Stopped.{all_taken, none_refused, one_untaken, stopped_sources, untaken_ends}
use Rattle.sf_record.proofs.serial.record_within.Goals as goal

pub returns-in-None-clause-ends : goal.returns-in-None-clause-ends
returns-in-None-clause-ends g c =
    let seen = map (λ s. g.S.Source.seen s) c.args.sources.items in
    let new = c.add_all.new.self in
    let all =
    all_taken c.args.options (λ s. g.S.Source.seen s) c.args.sources.items new.setups.items new.pumps.items (map (λ s. g.S.Source.seen s) new.rest.items) new.untaken (c.add_all.ensures.first c.requires.none) c.in-None.is in
    c.record_pumps.ensures.ends c.args.options seen all.opened

pub returns-in-None-clause-back : goal.returns-in-None-clause-back
returns-in-None-clause-back g c =
    let seen = map (λ s. g.S.Source.seen s) c.args.sources.items in
    let new = c.add_all.new.self in
    let all =
    all_taken c.args.options (λ s. g.S.Source.seen s) c.args.sources.items new.setups.items new.pumps.items (map (λ s. g.S.Source.seen s) new.rest.items) new.untaken (c.add_all.ensures.first c.requires.none) c.in-None.is in
    c.record_pumps.ensures.back c.args.options seen all.opened

pub returns-in-None-clause-header : goal.returns-in-None-clause-header
returns-in-None-clause-header g c track source bytes at told refused =
    let seen = map (λ s. g.S.Source.seen s) c.args.sources.items in
    let new = c.add_all.new.self in
    let all =
    all_taken c.args.options (λ s. g.S.Source.seen s) c.args.sources.items new.setups.items new.pumps.items (map (λ s. g.S.Source.seen s) new.rest.items) new.untaken (c.add_all.ensures.first c.requires.none) c.in-None.is in
    let here : track ≡ 0 + track = omega arith in
    absurd (none_refused 0 c.args.options seen new.setups.items new.pumps.items track source bytes all.opened at told (subst (λ (k : ℕ). (said_in k c.args.options bytes).setup ≡ None) here refused))

pub returns-in-Some-clause-kept : goal.returns-in-Some-clause-kept
returns-in-Some-clause-kept g c = none_made c.args.limits.stem (g.O.Shelf.seen c.args.shelf.now)

pub returns-in-Some-clause-ends : goal.returns-in-Some-clause-ends
returns-in-Some-clause-ends g c =
    let seen = map (λ s. g.S.Source.seen s) c.args.sources.items in
    let new = c.add_all.new.self in
    let one =
    one_untaken c.args.options (λ s. g.S.Source.seen s) c.args.sources.items new.setups.items new.pumps.items new.rest.items new.untaken c.in-Some.untaken (c.add_all.ensures.first c.requires.none) c.in-Some.is in
    let shelf = g.O.Shelf.seen c.args.shelf.now in
    let here : c.len.result ≡ length new.pumps.items = omega (arith, c.len.ensures, new.pumps.ok) in
    let same : length seen ≡ length c.args.sources.items = length-map c.args.sources.items (λ s. g.S.Source.seen s) in
    let sources =
    ap (λ xs. map (λ s. g.S.Source.seen s) xs) c.with_rest.ensures ∙ map-append (λ s. g.S.Source.seen s) c.sources_of.result.items new.rest.items
    ∙ ap (λ (vs : List SourceView). vs ++ map (λ s. g.S.Source.seen s) new.rest.items)
    (c.sources_of.ensures.sources ∙ ap (λ xs. map (λ s. g.S.Source.seen s) xs ++ map (λ p. p.coded.source) new.pumps.items) c.requires.back.0) in
    subst (λ o. SerialEnds (asked_for c.args.options c.args.limits seen shelf) (gave (map (λ s. g.S.Source.seen s) c.with_rest.result.items) shelf c.args.room.nothing) o) (sym c.untaken_outcome-outcome.ensures)
    (subst (λ (vs : List SourceView). SerialEnds (asked_for c.args.options c.args.limits seen shelf) (gave vs shelf c.args.room.nothing) (untaken_as c.len.result c.in-Some.untaken)) (sym sources)
    (untaken_ends c.args.limits shelf c.args.room.nothing c.len.result one.stops here (record { files = c.requires.nothing.0; tracks = c.requires.nothing.1 ∙ ap (λ (n : ℕ). replicate n 0) (sym same) })))

pub returns-in-Some-clause-back : goal.returns-in-Some-clause-back
returns-in-Some-clause-back g c =
    let seen = map (λ s. g.S.Source.seen s) c.args.sources.items in
    let new = c.add_all.new.self in
    let one =
    one_untaken c.args.options (λ s. g.S.Source.seen s) c.args.sources.items new.setups.items new.pumps.items new.rest.items new.untaken c.in-Some.untaken (c.add_all.ensures.first c.requires.none) c.in-Some.is in
    let sources =
    ap (λ xs. map (λ s. g.S.Source.seen s) xs) c.with_rest.ensures ∙ map-append (λ s. g.S.Source.seen s) c.sources_of.result.items new.rest.items
    ∙ ap (λ (vs : List SourceView). vs ++ map (λ s. g.S.Source.seen s) new.rest.items)
    (c.sources_of.ensures.sources ∙ ap (λ xs. map (λ s. g.S.Source.seen s) xs ++ map (λ p. p.coded.source) new.pumps.items) c.requires.back.0) in
    subst (λ (vs : List SourceView). ComeBack seen vs) (sym sources) (stopped_sources one.stops)

pub record_pumps-requires-clause-some : goal.record_pumps-requires-clause-some
record_pumps-requires-clause-some g c κs within =
    let new = c.add_all.new.self in
    let all =
    all_taken c.args.options (λ s. g.S.Source.seen s) c.args.sources.items new.setups.items new.pumps.items (map (λ s. g.S.Source.seen s) new.rest.items) new.untaken (c.add_all.ensures.first c.requires.none) c.in-None.is in
    omega (arith, all.long, c.requires.some)

pub record_pumps-requires-clause-few : goal.record_pumps-requires-clause-few
record_pumps-requires-clause-few g c κs within =
    let new = c.add_all.new.self in
    let all =
    all_taken c.args.options (λ s. g.S.Source.seen s) c.args.sources.items new.setups.items new.pumps.items (map (λ s. g.S.Source.seen s) new.rest.items) new.untaken (c.add_all.ensures.first c.requires.none) c.in-None.is in
    omega (arith, all.long, c.requires.few)

pub record_pumps-requires-clause-opened : goal.record_pumps-requires-clause-opened
record_pumps-requires-clause-opened g c κs within =
    let seen = map (λ s. g.S.Source.seen s) c.args.sources.items in
    let new = c.add_all.new.self in
    let all =
    all_taken c.args.options (λ s. g.S.Source.seen s) c.args.sources.items new.setups.items new.pumps.items (map (λ s. g.S.Source.seen s) new.rest.items) new.untaken (c.add_all.ensures.first c.requires.none) c.in-None.is in
    (c.args.options, seen, all.opened)

pub record_pumps-requires-clause-room : goal.record_pumps-requires-clause-room
record_pumps-requires-clause-room g c κs within =
    let new = c.add_all.new.self in
    let all =
    all_taken c.args.options (λ s. g.S.Source.seen s) c.args.sources.items new.setups.items new.pumps.items (map (λ s. g.S.Source.seen s) new.rest.items) new.untaken (c.add_all.ensures.first c.requires.none) c.in-None.is in
    (c.requires.back.0, omega (arith, all.long, c.requires.back.1))

pub overflow_cast-len : goal.overflow_cast-len
overflow_cast-len g c =
    let new = c.add_all.new.self in
    let one =
    one_untaken c.args.options (λ s. g.S.Source.seen s) c.args.sources.items new.setups.items new.pumps.items new.rest.items new.untaken c.in-Some.untaken (c.add_all.ensures.first c.requires.none) c.in-Some.is in
    omega (arith, one.long, c.requires.few, c.len.ensures, new.pumps.ok)

pub sources_of-requires-clause-room : goal.sources_of-requires-clause-room
sources_of-requires-clause-room g c =
    let new = c.add_all.new.self in
    let one =
    one_untaken c.args.options (λ s. g.S.Source.seen s) c.args.sources.items new.setups.items new.pumps.items new.rest.items new.untaken c.in-Some.untaken (c.add_all.ensures.first c.requires.none) c.in-Some.is in
    omega (arith, one.long, c.requires.back.1)

pub with_rest-requires-clause-room : goal.with_rest-requires-clause-room
with_rest-requires-clause-room g c =
    let new = c.add_all.new.self in
    let one =
    one_untaken c.args.options (λ s. g.S.Source.seen s) c.args.sources.items new.setups.items new.pumps.items new.rest.items new.untaken c.in-Some.untaken (c.add_all.ensures.first c.requires.none) c.in-Some.is in
    omega (arith, one.long, c.requires.back.1, c.sources_of.ensures.len, c.sources_of.ensures.capacity)

pub record_pumps-requires-clause-nothing : goal.record_pumps-requires-clause-nothing
record_pumps-requires-clause-nothing g c κs within =
    let new = c.add_all.new.self in
    let all =
    all_taken c.args.options (λ s. g.S.Source.seen s) c.args.sources.items new.setups.items new.pumps.items (map (λ s. g.S.Source.seen s) new.rest.items) new.untaken (c.add_all.ensures.first c.requires.none) c.in-None.is in
    (c.requires.nothing.0, c.requires.nothing.1 ∙ ap (λ (n : ℕ). replicate n 0) (sym all.long))
