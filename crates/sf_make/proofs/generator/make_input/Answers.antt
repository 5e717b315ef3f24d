use Rattle.std.proofs.Common.{arith}
use Rattle.sf_make.proofs.Inputs.{input_more, input_ends}
use Rattle.sf_make.proofs.generator.make_input.Goals as goal

pub loop-i-preserved : goal.loop-i-preserved
loop-i-preserved c = input_more c.args.kind c.loop-i.i c.loop-i.out c.put_sample.new.out c.loop-i.invariant c.in_ok-put_sample.ensures

pub returns : goal.returns
returns c = input_ends c.args.kind c.loop-i.i c.args.count c.loop-i.out c.append.new.self (grind arith) c.loop-i.invariant c.in_ok-append.ensures.ok
