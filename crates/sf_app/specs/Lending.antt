-- Sources that are given for names, and given back.
use Rattle.std.specs.Prelude.{◌≡◌, ℕ, ◌≤◌, Bool, true, false, List, [], ◌∷◌, ◌++◌, length, map, replicate, slice_get, sum_by, take, Option, Some}
use Rattle.sf_world.specs.Counts.{Rose, both}
use Rattle.sf_world.specs.Views.{InputsView, IsGiven, SourceView}
use Rattle.sf_record.specs.Serial.{ComeBack}

-- each source has the bytes that are held for its name, where they are told, and never failed
abbrev pub AreGiven : (List ℕ → Option (List ℕ)) → List (List ℕ) → List SourceView → Type 0
AreGiven holds [] [] = Unit {0}
AreGiven holds (name ∷ names) (source ∷ sources) = IsGiven (holds name) source × AreGiven holds names sources
AreGiven holds names sources = ⊥

-- these names were asked for, and a source was given for each
abbrev pub all_given : List (List ℕ) → List (List ℕ × Bool)
all_given names = map (λ name. (name, true)) names

-- how often each source failed
abbrev pub faults_of : List SourceView → List ℕ
faults_of sources = map (λ s. s.faults) sources

-- the sum of some counts
abbrev pub total : List ℕ → ℕ
total counts = sum_by (λ c. c) counts

-- All names were asked for, in their order; a source was given for each, and all were given back in that order, each with its number of faults.
pub record Lent (names : List (List ℕ)) (sources back : List SourceView) (before after : InputsView) : Type 0 where
  pub given : AreGiven before.holds names sources
  pub came_back : ComeBack sources back
  pub asked : after.asked ≡ before.asked ++ all_given names
  pub returned : after.returned ≡ before.returned ++ faults_of back
  pub faults : after.faults ≡ both before.faults (total (faults_of back))

-- The source of the input of this number failed: a number was given back for each input, in their order, and that input's isn't 0.
pub record FaultyAt (names : List (List ℕ)) (number : ℕ) (before after : InputsView) : Type 0 where
  pub counts : List ℕ
  pub one_each : length counts ≡ length names
  pub returned : after.returned ≡ before.returned ++ counts
  pub count : ℕ
  pub there : slice_get counts number ≡ Some count
  pub some : 1 ≤ count
  pub failed : Rose before.faults after.faults

-- Of the names the first ones, so many, were asked for, and then at most one more; the sources that were given for them were given back, and none failed.
pub record BackUnread (names : List (List ℕ)) (number : ℕ) (more : List (List ℕ × Bool)) (before after : InputsView) : Type 0 where
  pub few : number ≤ length names
  pub asked : after.asked ≡ before.asked ++ (all_given (take number names) ++ more)
  pub returned : after.returned ≡ before.returned ++ replicate number 0
  pub faults : after.faults ≡ before.faults

-- No source was given for the name of this number, because the inputs failed.
pub record MissedAt (names : List (List ℕ)) (number : ℕ) (before after : InputsView) : Type 0 where
  pub failed : Rose before.misses after.misses
  pub name : List ℕ
  pub there : slice_get names number ≡ Some name
  pub back : BackUnread names number ((name, false) ∷ []) before after
