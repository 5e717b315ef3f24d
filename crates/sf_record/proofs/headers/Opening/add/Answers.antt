use Rattle.std.proofs.Common.{◌≡◌, ℕ, ◌++◌, ◌∷◌, List, [], true, false, is_some, length, map, sym, ap, subst, ◌∙◌, arith}
use Rattle.std.proofs.lemmas.List.{map-append}
use Rattle.sf_entry.specs.declared.track_setup.TrackSetup.{TrackSetup}
use Rattle.sf_world.specs.Views.{SourceView}
use Rattle.sf_record.specs.Pump.{Pumping}
use Rattle.sf_record.specs.inner.Headers.{HeadersRead, IsOpened, IsUntaken, StopsAt}
use Rattle.sf_record.proofs.Opened.{pump_added, rest_added, stop_added}
use Rattle.sf_record.proofs.headers.Opening.add.Goals as goal

pub returns-then-is_some-clause-read : goal.returns-then-is_some-clause-read
returns-then-is_some-clause-read g c before read =
    let self = c.args.self.now in
    let some : is_some self.untaken ≡ true = cc in
    let pushed = ap (λ xs. map (λ s. g.S.Source.seen s) xs) c.push_reserved.ensures.items ∙ map-append (λ s. g.S.Source.seen s) self.rest.items (c.args.source ∷ []) in
    subst (λ (vs : List SourceView). HeadersRead c.args.options (before ++ g.S.Source.seen c.args.source ∷ []) self.setups.items self.pumps.items vs self.untaken) (sym pushed)
    (rest_added c.args.options before self.setups.items self.pumps.items (map (λ s. g.S.Source.seen s) self.rest.items) self.untaken (g.S.Source.seen c.args.source) some read)

pub returns-in-Ok-clause-read : goal.returns-in-Ok-clause-read
returns-in-Ok-clause-read g c before read =
    let self = c.args.self.now in
    let none : is_some self.untaken ≡ false = cc in
    let rest = map (λ s. g.S.Source.seen s) self.rest.items in
    let here : c.len.result ≡ length self.pumps.items = omega (arith, c.len.ensures, self.pumps.ok) in
    let opened : IsOpened (length self.pumps.items) c.args.options (g.S.Source.seen c.args.source) c.in-Ok.opened.setup c.in-Ok.opened.pump =
    subst (λ (n : ℕ). IsOpened n c.args.options (g.S.Source.seen c.args.source) c.in-Ok.opened.setup c.in-Ok.opened.pump) here c.in-Ok.ensures.opened in
    let all = pump_added c.args.options before self.setups.items self.pumps.items rest self.untaken (g.S.Source.seen c.args.source) c.in-Ok.opened.setup c.in-Ok.opened.pump none opened read in
    subst (λ (ss : List TrackSetup). HeadersRead c.args.options (before ++ g.S.Source.seen c.args.source ∷ []) ss c.push_reserved-in-Ok.new.self.items rest self.untaken) (sym c.push_reserved-in-Ok-2.ensures.items)
    (subst (λ (ps : List Pumping). HeadersRead c.args.options (before ++ g.S.Source.seen c.args.source ∷ []) (self.setups.items ++ c.in-Ok.opened.setup ∷ []) ps rest self.untaken) (sym c.push_reserved-in-Ok.ensures.items) all)

pub returns-in-Err-clause-read : goal.returns-in-Err-clause-read
returns-in-Err-clause-read g c before read =
    let self = c.args.self.now in
    let none : is_some self.untaken ≡ false = cc in
    let rest = map (λ s. g.S.Source.seen s) self.rest.items in
    let here : c.len.result ≡ length self.pumps.items = omega (arith, c.len.ensures, self.pumps.ok) in
    let why : IsUntaken (length self.pumps.items) c.args.options (g.S.Source.seen c.args.source) (g.S.Source.seen c.in-Err.source) c.in-Err.untaken =
    subst (λ (n : ℕ). IsUntaken n c.args.options (g.S.Source.seen c.args.source) (g.S.Source.seen c.in-Err.source) c.in-Err.untaken) here c.in-Err.ensures.untaken in
    let pushed = ap (λ xs. map (λ s. g.S.Source.seen s) xs) c.push_reserved-in-Err.ensures.items ∙ map-append (λ s. g.S.Source.seen s) self.rest.items (c.in-Err.source ∷ []) in
    subst (λ (vs : List SourceView). StopsAt c.args.options (before ++ g.S.Source.seen c.args.source ∷ []) self.setups.items self.pumps.items vs c.in-Err.untaken) (sym pushed)
    (stop_added c.args.options before self.setups.items self.pumps.items rest self.untaken (g.S.Source.seen c.args.source) (g.S.Source.seen c.in-Err.source) c.in-Err.untaken none why c.in-Err.ensures.back read)
