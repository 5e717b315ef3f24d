use Rattle.std.proofs.Common.{pos, sym, ◌∙◌}
use Rattle.sf_meaning.specs.ReadTables.{time_runs}
use Rattle.sf_meaning.specs.Tables.{expand, offset_in}
use Rattle.sf_cursor.proofs.RunValues.{none_there}
use Rattle.sf_cursor.proofs.look_up.offset_at.Goals as goal

pub returns-in-None-clause-exact : goal.returns-in-None-clause-exact
returns-in-None-clause-exact c =
    sym (none_there (offset_in c.args.version) (expand (time_runs c.args.runs.now)) c.args.i (pos 0) (sym c.value_at.ensures ∙ c.in-None.is))
