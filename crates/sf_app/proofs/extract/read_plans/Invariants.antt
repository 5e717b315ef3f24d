use Rattle.std.proofs.Common.{◌≡◌, ◌≤◌, length, drop}
use Rattle.std.specs.Prelude.{vec_capacity, vec_len}
use Rattle.sf_app.specs.Plans.{plans_from}
use Rattle.sf_app.specs.inner.Extraction.{after}
use Rattle.sf_app.proofs.extract.read_plans.Given as goal

abbrev pub invariant-loop-number : goal.invariant-loop-number
invariant-loop-number l =
    record {
      read : after l.plans.items (plans_from l.number (drop l.number l.words)) ≡ plans_from 0 l.words;
      len : vec_len l.plans ≡ l.number;
      room : length l.words ≤ vec_capacity l.plans;
    }
