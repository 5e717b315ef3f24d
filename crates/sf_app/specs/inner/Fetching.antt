-- Sources of several names that are fetched one after the other, and given back one after the other.
use Rattle.std.specs.Prelude.{◌≡◌, ℕ, ◌+◌, ◌≤◌, List, [], ◌++◌, length}
use Rattle.sf_world.specs.Counts.{both}
use Rattle.sf_world.specs.Views.{InputsView, SourceView}
use Rattle.sf_world.specs.declared.failures.Denied.{Denied}
use Rattle.sf_world.specs.declared.failures.Denied.TheVariants as denials
use Rattle.sf_app.specs.Lending.{AreGiven, BackUnread, MissedAt, all_given, total}
use Rattle.sf_app.specs.declared.status.Status.{Status}
use Rattle.sf_app.specs.declared.status.Status.TheVariants.{OpenFault, NoMemory}

-- Sources were given for names, and none was given back yet.
pub record Fetched (names : List (List ℕ)) (sources : List SourceView) (before after : InputsView) : Type 0 where
  pub given : AreGiven before.holds names sources
  pub asked : after.asked ≡ before.asked ++ all_given names
  pub returned : after.returned ≡ before.returned
  pub faults : after.faults ≡ before.faults
  pub holds : (name : List ℕ) → after.holds name ≡ before.holds name
  pub misses : before.misses ≤ after.misses
  pub spare : before.spare + length sources ≤ after.spare

-- Sources with these numbers of faults were taken back, in this order.
pub record TakesAllBack (counts : List ℕ) (before after : InputsView) : Type 0 where
  pub holds : (name : List ℕ) → after.holds name ≡ before.holds name
  pub asked : after.asked ≡ before.asked
  pub returned : after.returned ≡ before.returned ++ counts
  pub faults : after.faults ≡ both before.faults (total counts)
  pub misses : after.misses ≡ before.misses
  pub spare : after.spare + length counts ≡ before.spare

-- a source wasn't given for each of the names, by the answer
abbrev pub Unfetched : List (List ℕ) → Status → InputsView → InputsView → Type 0
Unfetched names (OpenFault number) before after = MissedAt names number before after
Unfetched names NoMemory before after = (number : ℕ) × BackUnread names number [] before after
Unfetched names status before after = ⊥

-- the answer where no source is given for the name of a number
abbrev pub unfetched : ℕ → Denied → Status
unfetched number denials.Failed = OpenFault number
unfetched number denials.NoMemory = NoMemory
