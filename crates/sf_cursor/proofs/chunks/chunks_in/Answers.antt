use Rattle.std.proofs.Common.{◌+◌, arith}
use Rattle.sf_cursor.specs.inner.Sound.{no_run}
use Rattle.sf_cursor.proofs.RunChunks.{least_first, next_first}
use Rattle.sf_cursor.proofs.chunks.chunks_in.Goals as goal

pub overflow_sub-runs : goal.overflow_sub-runs
overflow_sub-runs c = least_first c.args.runs.now c.args.r no_run c.requires.order (omega (arith, c.requires.there))

pub overflow_sub-runs-2 : goal.overflow_sub-runs-2
overflow_sub-runs-2 c = least_first c.args.runs.now (c.args.r + 1) no_run c.requires.order c.requires.there

pub overflow_sub-result : goal.overflow_sub-result
overflow_sub-result c = omega (arith, c.min-before.ensures, c.min.ensures, next_first c.args.runs.now c.args.r no_run c.requires.order c.requires.there)
