use Rattle.std.proofs.Common.{◌≡◌, ◌+◌, ◌≤◌, ◌++◌, List, length, map}
use Rattle.std.specs.Prelude.{vec_capacity, vec_len}
use Rattle.std.specs.Vec.Iter.{into_iter_items, into_iter_len}
use Rattle.sf_world.specs.Views.{SourceView}
use Rattle.sf_record.specs.inner.Headers.{HeadersRead}
use Rattle.sf_record.proofs.headers.Opening.add_all.Given as goal

abbrev pub invariant-loop-source : goal.invariant-loop-source
invariant-loop-source g l =
    record {
      left : l.yielded ++ into_iter_items l.source-iterator ≡ into_iter_items l.initial.source-iterator;
      len : into_iter_len l.source-iterator ≡ length (into_iter_items l.source-iterator);
      read : (before : List SourceView) → HeadersRead l.options before l.initial.self.setups.items l.initial.self.pumps.items (map (λ s. g.S.Source.seen s) l.initial.self.rest.items) l.initial.self.untaken
          → HeadersRead l.options (before ++ map (λ s. g.S.Source.seen s) l.yielded) l.self.setups.items l.self.pumps.items (map (λ s. g.S.Source.seen s) l.self.rest.items) l.self.untaken;
      few : length l.self.pumps.items ≤ length l.initial.self.pumps.items + length l.yielded;
      pumps : (vec_len l.self.pumps ≤ vec_len l.initial.self.pumps + length l.yielded) × (vec_capacity l.self.pumps ≡ vec_capacity l.initial.self.pumps);
      setups : (vec_len l.self.setups ≤ vec_len l.initial.self.setups + length l.yielded) × (vec_capacity l.self.setups ≡ vec_capacity l.initial.self.setups);
      rest : (vec_len l.self.rest ≤ vec_len l.initial.self.rest + length l.yielded) × (vec_capacity l.self.rest ≡ vec_capacity l.initial.self.rest);
    }
