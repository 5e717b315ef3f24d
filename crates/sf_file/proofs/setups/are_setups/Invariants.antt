use Rattle.std.proofs.Common.{List, ℕ, ◌≡◌, ◌+◌, ◌^◌, ◌≤◌, length, drop}
use Rattle.std.specs.List.{AllByRecursion}
use Rattle.std.specs.Prelude.{sum_by}
use Rattle.sf_entry.specs.declared.track_setup.TrackSetup.{TrackSetup}
use Rattle.sf_file.proofs.setups.are_setups.Given as goal

abbrev HaveTicks : List TrackSetup → Type 0
HaveTicks setups = AllByRecursion (λ s. 1 ≤ s.scale) setups

abbrev bytes : List TrackSetup → ℕ
bytes setups = sum_by (λ s. length s.entry) setups

-- what is left says of all setups whether each has ticks, and how many bytes their entries have
abbrev pub invariant-loop-setup : goal.invariant-loop-setup
invariant-loop-setup l = let rest = drop l.setup-index l.setups in
    (HaveTicks rest → HaveTicks l.setups) × (HaveTicks l.setups → HaveTicks rest) × (l.room + bytes l.setups ≡ 2 ^ 27 + bytes rest)
