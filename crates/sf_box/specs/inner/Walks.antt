-- Where a walk along boxes stopped.
use Rattle.std.specs.Prelude.{◌≡◌, ℕ, false, List, Option, Some, None, Ok, Err}
use Rattle.std.specs.List.{All}
use Rattle.sf_box.specs.declared.types.BoxHead.{BoxHead}
use Rattle.sf_box.specs.declared.types.BoxFault.{BoxFault}
use Rattle.sf_box.specs.declared.types.ChildrenFault.{ChildrenFault}
use Rattle.sf_box.specs.declared.types.ChildrenFault.TheVariants.{Short, Overrun}
use Rattle.sf_box.specs.declared.types.BoxFault.TheVariants.{Short as FaultShort, Overrun as FaultOverrun}
use Rattle.sf_box.specs.Boxes.{boxes, leading}
use Rattle.sf_box.specs.Reading.{pieces_at, Within}

-- how the boxes end where a walk along them stopped
abbrev pub EndsBy : ℕ → List ℕ → List BoxHead → Option BoxFault → Type 0
EndsBy base bytes heads None = boxes false base bytes ≡ Ok (pieces_at base bytes heads)
EndsBy base bytes heads (Some f) = boxes false base bytes ≡ Err f

-- The heads of a walk and the fault at its end, if there is one.
pub record Walked (base : ℕ) (bytes : List ℕ) (heads : List BoxHead) (fault : Option BoxFault) : Type 0 where
  pub leads : leading base bytes ≡ pieces_at base bytes heads
  pub ends : EndsBy base bytes heads fault
  pub within : All (Within base bytes) heads

-- a fault of a box, told of its holder
abbrev pub told : BoxFault → ChildrenFault
told (FaultShort at) = Short at
told (FaultOverrun at size) = Overrun at size
