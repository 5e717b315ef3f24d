use Rattle.std.proofs.Common.{◌≡◌, ◌≤◌, ◌-◌, ℕ, List, Some}
use Rattle.sf_movie.specs.inner.Walk.{OneFits}
use Rattle.sf_movie.proofs.MovieBoxes.{Met}
use Rattle.sf_movie.proofs.walk.all_moovs.Given as goal

abbrev pub invariant-loop-at : goal.invariant-loop-at
invariant-loop-at g l = record {
  place : l.at ≤ l.end;
  size : (g.S.Source.seen l.source).size ≡ l.end;
  contents : (g.S.Source.seen l.source).content ≡ (g.S.Source.seen l.fn.source).content;
  later : (g.S.Source.seen l.fn.source).faults ≤ (g.S.Source.seen l.source).faults;
  fits : OneFits l.end l.moovs;
  met : (file : List ℕ) → (g.S.Source.seen l.fn.source).content ≡ Some file → Met file l.at l.moovs;
}

abbrev pub decreases-loop-at : goal.decreases-loop-at
decreases-loop-at g l = l.end - l.at
