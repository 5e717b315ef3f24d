use Rattle.std.proofs.Common.{ℕ, ◌≡◌, List, Option, refl, sym, ap, subst}
use Rattle.sf_coded.specs.Progress.{Progress}
use Rattle.sf_record.specs.Pump.{Stands}
use Rattle.sf_record.proofs.Endings.{early_stands}
use Rattle.sf_record.proofs.pump.Pump.end_early.Goals as goal

pub returns-clause-stands : goal.returns-clause-stands
returns-clause-stands g c =
    λ accepted taken stands.
    let m = c.make_last.ensures in
    let new = c.make_last.new.self in
    let P : Option (List ℕ) → Type 0 = λ told. Stands told accepted taken new in
    let same : new.coded.source.content ≡ c.args.self.now.coded.source.content = ap (λ (p : Progress). p.source.content) m.coded in
    subst P (sym same) (early_stands _ accepted taken c.args.self.now new _ refl m.over m.made m.chunks m.proper c.requires stands)
