use Rattle.std.proofs.Common.{sym, subst}
use Rattle.sf_world.specs.Views.{SourceView, Unchanged}
use Rattle.sf_record.proofs.Errors.{if_err_then, if_ok_then}
use Rattle.sf_record.proofs.Opened.{header_untaken, opened_from, untaken_from}
use Rattle.sf_record.proofs.headers.open.Goals as goal

pub returns-in-Ok-clause-opened : goal.returns-in-Ok-clause-opened
returns-in-Ok-clause-opened g c = if_ok_then c.pump_of.result (λ o is. opened_from c.in-Ok.ensures.source is) c.pump_of.ensures.opened

pub returns-in-Ok-clause-untaken : goal.returns-in-Ok-clause-untaken
returns-in-Ok-clause-untaken g c = if_err_then c.pump_of.result (λ e is. untaken_from c.args.number c.args.options (g.S.Source.seen e.0) e.1 c.in-Ok.ensures.source is) c.pump_of.ensures.untaken

pub returns-in-Ok-clause-back : goal.returns-in-Ok-clause-back
returns-in-Ok-clause-back g c =
    if_err_then c.pump_of.result (λ e is. subst (λ (v : SourceView). Unchanged (g.S.Source.seen c.args.source) v) (sym is) c.in-Ok.ensures.source) c.pump_of.ensures.back

pub returns-in-Err-clause-untaken : goal.returns-in-Err-clause-untaken
returns-in-Err-clause-untaken g c =
    header_untaken c.args.number c.args.options _ (g.S.Source.seen c.in-Err.source) c.in-Err.fault c.unread.result c.in-Err.ensures.refusal c.in-Err.ensures.cause c.unread.ensures.told
