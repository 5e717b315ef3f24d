-- The answer that the bytes of several inputs call for.
use Rattle.std.specs.Prelude.{◌≡◌, ℕ, ◌+◌, List, [], ◌∷◌, ◌++◌, map, Option, Some, None, if◌then◌else◌}
use Rattle.std.specs.Option.{option_to_list}
use Rattle.sf_world.specs.Counts.{Rose}
use Rattle.sf_world.specs.Views.{SourceView}
use Rattle.sf_entry.specs.declared.track_setup.TrackSetup.{TrackSetup}
use Rattle.sf_gather.specs.declared.given.Options.{Options}
use Rattle.sf_series.specs.declared.limits.Limits.{Limits}
use Rattle.sf_series.specs.declared.limits.LimitShown.{LimitShown}
use Rattle.sf_series.specs.declared.limits.LimitShown.TheVariants.{Nothing}
use Rattle.sf_series.specs.Order.{in_order}
use Rattle.sf_series.specs.Switching.{closed_length, passes, switched}
use Rattle.sf_record.specs.declared.faults.TrackFault.{TrackFault}
use Rattle.sf_record.specs.declared.serial_end.SerialOutcome.{SerialOutcome}
use Rattle.sf_record.specs.declared.serial_end.SerialOutcome.TheVariants.{Limit}
use Rattle.sf_record.specs.Said.{Said, said_in}
use Rattle.sf_record.specs.Serial.{Asked, FollowOrder, Gave, lists_of, lowest_fault}

-- what inputs say, of tracks that are numbered from here on
abbrev pub all_said : ℕ → Options → List (List ℕ) → List Said
all_said track options [] = []
all_said track options (bytes ∷ inputs) = said_in track options bytes ∷ all_said (track + 1) options inputs

-- the setups of the inputs that have one
abbrev pub setups_said : List Said → List TrackSetup
setups_said [] = []
setups_said (said ∷ saids) = option_to_list said.setup ++ setups_said saids

-- the answer for the fault of an input that has no setup, and else this one
abbrev pub unless_refused : Option TrackSetup → Option TrackFault → ℕ → SerialOutcome → SerialOutcome
unless_refused None fault number answer = lowest_fault number (fault ∷ [])
unless_refused (Some setup) fault number answer = answer

-- the answer for the first of the inputs, numbered from here on, that has no setup, and else this one
abbrev pub after_headers : ℕ → List Said → SerialOutcome → SerialOutcome
after_headers number [] answer = answer
after_headers number (said ∷ saids) answer = unless_refused said.setup said.fault number (after_headers (number + 1) saids answer)

-- the answer for a limit, if one is met, and else this one
abbrev pub unless_met : Option LimitShown → SerialOutcome → SerialOutcome
unless_met None answer = answer
unless_met (Some shown) answer = Limit shown

-- the limit that a file without samples meets, if any
abbrev pub empty_limit : Limits → List TrackSetup → Option LimitShown
empty_limit limits setups = if passes limits.max_bytes (closed_length setups []) then Some (Nothing (closed_length setups []) limits.max_bytes) else None

-- the answer for inputs that all have a setup: the limit that an empty file meets, else the one that their chunks meet, the earliest first, else the lowest of their faults
abbrev pub answer_of : Options → Limits → List TrackSetup → List Said → SerialOutcome
answer_of options limits setups saids =
    unless_met (empty_limit limits setups) (unless_met (switched limits setups (in_order (lists_of 0 options setups saids))).limit (lowest_fault 0 (map (λ s. s.fault) saids)))

abbrev pub answer_for_all : Options → Limits → List Said → SerialOutcome
answer_for_all options limits saids = after_headers 0 saids (answer_of options limits (setups_said saids) saids)

-- The answer that the bytes of inputs call for, which are recorded so.
unfoldable pub called_for : Options → Limits → List (List ℕ) → SerialOutcome
called_for options limits inputs = answer_for_all options limits (all_said 0 options inputs)

-- each source tells these bytes
abbrev pub TellBytes : List SourceView → List (List ℕ) → Type 0
TellBytes sources inputs = map (λ s. s.content) sources ≡ map Some inputs

-- no source's count of faults rose
abbrev pub NoneRose : List SourceView → List SourceView → Type 0
NoneRose [] after = Unit {0}
NoneRose (b ∷ before) [] = Unit {0}
NoneRose (b ∷ before) (a ∷ after) = (Rose b.faults a.faults → ⊥) × NoneRose before after

-- No count of faults rose.
pub record NothingFailed (asked : Asked) (given : Gave) : Type 0 where
  pub sources : NoneRose asked.sources given.sources
  pub shelf : Rose asked.shelf.faults given.shelf.faults → ⊥

-- All inputs were recorded as their bytes say: each has a setup, and the files that a shelf gained follow from the chunks of the samples that they say, in their order.
pub record RecordsSaid (asked : Asked) (given : Gave) (inputs : List (List ℕ)) : Type 0 where
  pub setups : List TrackSetup
  pub taken : map (λ s. s.setup) (all_said 0 asked.options inputs) ≡ map Some setups
  pub follow : FollowOrder asked given setups (lists_of 0 asked.options setups (all_said 0 asked.options inputs)) None
