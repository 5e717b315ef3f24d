use Rattle.sf_selftest.proofs.PlanWords.{word_1, word_2, word_3, word_4, word_5, word_6, word_7, word_8}
use Rattle.sf_selftest.proofs.read_back.plan_word.Goals as goal

pub returns-in-1 : goal.returns-in-1
returns-in-1 c = word_1 c.args.tracks c.in-1.is

pub returns-in-2 : goal.returns-in-2
returns-in-2 c = word_2 c.args.tracks c.in-2.is

pub returns-in-3 : goal.returns-in-3
returns-in-3 c = word_3 c.args.tracks c.in-3.is

pub returns-in-4 : goal.returns-in-4
returns-in-4 c = word_4 c.args.tracks c.in-4.is

pub returns-in-5 : goal.returns-in-5
returns-in-5 c = word_5 c.args.tracks c.in-5.is

pub returns-in-6 : goal.returns-in-6
returns-in-6 c = word_6 c.args.tracks c.in-6.is

pub returns-in-7 : goal.returns-in-7
returns-in-7 c = word_7 c.args.tracks c.in-7.is

pub returns-in-8 : goal.returns-in-8
returns-in-8 c = word_8 c.args.tracks c.in-8.is
