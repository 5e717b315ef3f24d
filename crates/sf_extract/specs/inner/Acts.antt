-- What a command does to an extractor, and to the bytes of a dump.
use Rattle.std.specs.Prelude.{◌≡◌, ℕ, true, List, [], ◌∷◌, ◌++◌, length, take, is_some}
use Rattle.std.specs.Int.{w64, cast_unsigned}
use Rattle.sf_box.specs.Boxes.{be32, be64}
use Rattle.sf_extract.specs.Current.{Extracting, current}
use Rattle.sf_extract.specs.Runs.{GoesOn, is_read}
use Rattle.sf_extract.specs.declared.plan.Command.{Command}
use Rattle.sf_extract.specs.declared.types.Standing.{Standing}

-- a command was carried out, whichever follow
abbrev pub IsDone : Command → List ℕ → List ℕ → Extracting → Extracting → Type 0
IsDone c old new was now = (cs : List Command) → GoesOn old new (record { at = was; left = c ∷ cs }) (record { at = now; left = cs })

-- A command reads the current sample, and nothing was done.
pub record IsHeld (c : Command) (old new : List ℕ) (was now : Extracting) : Type 0 where
  pub reads : is_read c ≡ true
  pub some : is_some (current was) ≡ true
  pub stays : now ≡ was
  pub out : new ≡ old

-- what stands before the length of a record
abbrev pub record_head : Standing → ℕ → List ℕ
record_head c flags = (1 ∷ []) ++ (be32 c.track ++ (be32 flags ++ be64 (cast_unsigned w64 c.shown_us)))

-- a record of a sample with these flags
abbrev pub record_with : Standing → ℕ → List ℕ → List ℕ
record_with c flags bytes = (1 ∷ []) ++ (be32 c.track ++ (be32 flags ++ (be64 (cast_unsigned w64 c.shown_us) ++ (be32 (length bytes) ++ bytes))))

-- bytes begin with these
abbrev pub Starts : List ℕ → List ℕ → Type 0
Starts old new = take (length old) new ≡ old
