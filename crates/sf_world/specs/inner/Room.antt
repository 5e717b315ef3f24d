-- The room that a vector has beside its items.
use Rattle.std.specs.Prelude.{ℕ, ◌-◌, vec_capacity, vec_len}
use Rattle.std.specs.declared.alloc.Global.{Global}
use Rattle.std.specs.declared.vec.Vec.{Vec}

-- how many items a vector takes without memory
abbrev pub room_for : {T : Type 0} → Vec T Global → ℕ
room_for items = vec_capacity items - vec_len items
