-- Boxes, the objects of a file (ISO/IEC 14496-12, 4.2), and the numbers in them.
use Rattle.std.specs.Prelude.{ℕ, zero, suc, ◌+◌, ◌≤◌, Bool, false, ◌||◌, nat_lt, ◌==◌, if◌then◌else◌, List, [], ◌∷◌, ◌++◌, length, take, drop, Result, Ok, Err}
use Rattle.std.specs.Int.{w16, w32, w64, to_be_bytes, from_be_bytes}
use Rattle.sf_box.specs.declared.types.BoxHead.{BoxHead}
use Rattle.sf_box.specs.declared.types.BoxFault.{BoxFault}
use Rattle.sf_box.specs.declared.types.BoxFault.TheVariants.{Short, Overrun}

-- a number in two bytes, the highest first
unfoldable pub be16 : ℕ → List ℕ
be16 n = to_be_bytes w16 n

-- a number in four bytes
unfoldable pub be32 : ℕ → List ℕ
be32 n = to_be_bytes w32 n

-- a number in eight bytes
unfoldable pub be64 : ℕ → List ℕ
be64 n = to_be_bytes w64 n

-- the number in the first two bytes
unfoldable pub word16 : List ℕ → ℕ
word16 bytes = from_be_bytes w16 (take 2 bytes)

-- the number in the first four bytes
unfoldable pub word32 : List ℕ → ℕ
word32 bytes = from_be_bytes w32 (take 4 bytes)

-- the number in the first eight bytes
unfoldable pub word64 : List ℕ → ℕ
word64 bytes = from_be_bytes w64 (take 8 bytes)

-- a box with this type and body, for a body shorter than 2 ^ 32 - 8 bytes
unfoldable pub box_of : List ℕ → List ℕ → List ℕ
box_of kind body = be32 (8 + length body) ++ (kind ++ body)

-- a box whose head has the size field 1 and the size in eight bytes
unfoldable pub wide_box : List ℕ → List ℕ → List ℕ
wide_box kind body = be32 1 ++ (kind ++ (be64 (16 + length body) ++ body))

-- the head of a box whose size is not yet known
unfoldable pub opened : List ℕ → List ℕ
opened kind = be32 0 ++ kind

-- A box that was read: its head, and its body.
pub record Piece : Type 0 where
  pub head : BoxHead
  pub body : List ℕ

-- the head with this size, where that reaches neither below the head nor past the room
abbrev pub sized : ℕ → ℕ → ℕ → ℕ → List ℕ → Result BoxHead BoxFault
sized at room head size first =
    if (nat_lt size head || nat_lt room size) then Err (Overrun at size)
    else Ok (record { kind = record { 0 = take 4 (drop 4 first) }; at = at; head = head; size = size })

-- the head that begins with these bytes, with so much room up to the end. The size field 1 means that
-- the size stands in eight bytes after the type. The size field 0 means up to the end, at the top alone.
abbrev pub head_in : Bool → ℕ → ℕ → List ℕ → Result BoxHead BoxFault
head_in top at room first =
    if nat_lt room 8 then Err (Short at)
    else if word32 first == 1 then
    (if nat_lt room 16 then Err (Short at) else sized at room 16 (word64 (drop 8 first)) first)
    else if word32 first == 0 then
    (if top then sized at room 8 room first else Err (Overrun at 0))
    else sized at room 8 (word32 first) first

-- the head of the box that begins the bytes, which are all up to the end
unfoldable pub head_of : Bool → ℕ → List ℕ → Result BoxHead BoxFault
head_of top at bytes = head_in top at (length bytes) bytes

-- A head that was read takes at least eight bytes, and not more than there are.
pub record Takes (bytes : List ℕ) (h : BoxHead) : Type 0 where
  pub whole : h.size ≤ length bytes
  pub head : h.head ≤ h.size
  pub least : 8 ≤ h.head

-- with one value in front
abbrev pub with_first : {A : Type 0} → A → Result (List A) BoxFault → Result (List A) BoxFault
with_first x (Ok xs) = Ok (x ∷ xs)
with_first x (Err e) = Err e

-- with the boxes in front that were met before
abbrev pub joined_with : List Piece → Result (List Piece) BoxFault → Result (List Piece) BoxFault
joined_with ps (Ok qs) = Ok (ps ++ qs)
joined_with ps (Err f) = Err f

-- what follows from a head, where there is one
abbrev pub first_then : Result BoxHead BoxFault → (BoxHead → Result (List Piece) BoxFault) → Result (List Piece) BoxFault
first_then (Ok h) f = f h
first_then (Err e) f = Err e

-- the box of a head that begins the bytes
abbrev pub piece_of : BoxHead → List ℕ → Piece
piece_of h bytes = record { head = h; body = drop h.head (take h.size bytes) }

-- the boxes that tile the bytes, at most so many
unfoldable pub tiles : ℕ → Bool → ℕ → List ℕ → Result (List Piece) BoxFault
tiles zero top at bytes = Ok []
tiles (suc n) top at [] = Ok []
tiles (suc n) top at (b ∷ bytes) =
    first_then (head_of top at (b ∷ bytes))
    (λ h. with_first (piece_of h (b ∷ bytes)) (tiles n top (at + h.size) (drop h.size (b ∷ bytes))))

-- the boxes that tile the bytes, or the first fault. Places count from `at`.
unfoldable pub boxes : Bool → ℕ → List ℕ → Result (List Piece) BoxFault
boxes top at bytes = tiles (length bytes) top at bytes

-- what follows from a head, and nothing where there is none
abbrev pub first_or_end : Result BoxHead BoxFault → (BoxHead → List Piece) → List Piece
first_or_end (Ok h) f = f h
first_or_end (Err e) f = []

-- the boxes up to the first place that is no whole box, at most so many
unfoldable pub leads : ℕ → ℕ → List ℕ → List Piece
leads zero at bytes = []
leads (suc n) at [] = []
leads (suc n) at (b ∷ bytes) =
    first_or_end (head_of false at (b ∷ bytes))
    (λ h. piece_of h (b ∷ bytes) ∷ leads n (at + h.size) (drop h.size (b ∷ bytes)))

-- the boxes up to the first place that is no whole box
unfoldable pub leading : ℕ → List ℕ → List Piece
leading at bytes = leads (length bytes) at bytes
