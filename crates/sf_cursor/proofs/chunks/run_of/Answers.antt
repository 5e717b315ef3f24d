use Rattle.std.proofs.Common.{◌≡◌, ◌+◌, get_or, arith}
use Rattle.sf_cursor.specs.inner.Sound.{no_run}
use Rattle.sf_cursor.proofs.RunChunks.{next_first}
use Rattle.sf_cursor.proofs.chunks.run_of.Goals as goal

pub returns-then-runs-r : goal.returns-then-runs-r
returns-then-runs-r c =
    let is : (get_or c.args.runs.now (c.args.r + 1) no_run).first ≡ c.args.c + 1 = c.if-runs-r.true in
    record {
      there = c.if-r-runs.true;
      begun = omega (arith, is);
      next = λ h. omega (arith, is, next_first c.args.runs.now (c.args.r + 1) no_run c.requires.order h);
    }
