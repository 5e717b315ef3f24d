use Rattle.std.proofs.Common.{◌≡◌, ◌≤◌, length, map, take}
use Rattle.std.specs.Prelude.{vec_capacity, vec_len}
use Rattle.sf_app.specs.inner.Fetching.{Fetched}
use Rattle.sf_app.proofs.record.fetch_all.Given as goal

abbrev pub invariant-loop-number : goal.invariant-loop-number
invariant-loop-number g l =
    record {
      fetched : Fetched (take l.number l.names) (map (λ s. g.I.Src.Source.seen s) l.sources.items) (g.I.Inputs.seen l.fn.inputs) (g.I.Inputs.seen l.inputs);
      len : vec_len l.sources ≡ l.number;
      room : length l.names ≤ vec_capacity l.sources;
    }
