use Rattle.std.proofs.Common.{◌≡◌, ℕ, List, ◌++◌, ◌⊎◌, inl, inr, ap}
use Rattle.std.specs.List.{flat_map}
use Rattle.sf_meaning.specs.Stbl.{run_bytes, runs_of}
use Rattle.sf_tables.proofs.RunLists.{longer_run, written_run}
use Rattle.sf_tables.proofs.runs.take_value.Goals as goal
use Rattle.sf_tables.proofs.runs.take_value.Goals.{then-run-eq0-via-then-run-eq0, then-run-eq0-via-else-run-eq0+then-value-run}

pub returns-then-run-eq0-clause-ok : goal.returns-then-run-eq0-clause-ok
returns-then-run-eq0-clause-ok c = λ rest.
    let case : (c.args.run.count ≡ 0) ⊎ (c.args.value ≡ c.args.run.value) = elim c.then-run-eq0.either [ inl e ↦ inl e | inr p ↦ inr p.1 ] in
    ap (λ (xs : List ℕ). c.args.out.now ++ flat_map run_bytes (runs_of xs)) (longer_run c.args.run.count c.args.run.value c.args.value rest case)

pub returns-clause-ok : goal.returns-clause-ok
returns-clause-ok c = λ rest.
    rw c.in_ok-put_run.ensures.ok (written_run c.args.run.count c.args.run.value c.args.value c.args.out.now rest c.if-run-eq0.false c.if-value-run.false)
