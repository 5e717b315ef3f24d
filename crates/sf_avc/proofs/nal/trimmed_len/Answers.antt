use Rattle.std.proofs.Common.{◌≡◌, ◌≢◌, ◌-◌, get_or, arith}
use Rattle.sf_avc.proofs.Trimming.{trims_one, trims_last, trims_all}
use Rattle.sf_avc.proofs.nal.trimmed_len.Goals as goal

pub loop-len-preserved : goal.loop-len-preserved
loop-len-preserved c =
    let n = c.loop-len.len in
    let xs = c.args.bytes.now in
    let last : get_or xs (n - 1) 0 ≡ 0 = grind arith in
    (grind arith, trims_one xs n (grind arith) (grind arith) last c.loop-len.invariant.1)

pub returns-else-bytes-len-eq0-clause-bytes : goal.returns-else-bytes-len-eq0-clause-bytes
returns-else-bytes-len-eq0-clause-bytes c =
    let n = c.loop-len.len in
    let xs = c.args.bytes.now in
    let last : get_or xs (n - 1) 0 ≢ 0 = grind arith in
    trims_last xs n (grind arith) (grind arith) last c.loop-len.invariant.1

pub returns-after-loop-len-clause-bytes : goal.returns-after-loop-len-clause-bytes
returns-after-loop-len-clause-bytes c = trims_all c.args.bytes.now c.loop-len.len (grind arith) c.loop-len.invariant.1
