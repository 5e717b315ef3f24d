-- The entries of a sample description box (ISO/IEC 14496-12, 8.5.2), as they are read.
use Rattle.std.specs.Prelude.{◌≡◌, ℕ, ◌+◌, ◌≤◌, nat_le, if◌then◌else◌, List, [], ◌∷◌, ◌++◌, length, take, drop, codes, Option, Some, None, option_and_then, Result, Ok, Err, ⊤}
use Rattle.std.specs.Str.{bytes_eq}
use Rattle.sf_box.specs.declared.types.FourCc.{FourCc}
use Rattle.sf_box.specs.Boxes.{Piece, be32, word16, word32, leading}
use Rattle.sf_box.specs.Parts.{child_piece}
use Rattle.sf_avc.specs.Config.{config_of}
use Rattle.sf_entry.specs.declared.types.Entry.{Entry}
use Rattle.sf_entry.specs.declared.types.Entry.TheVariants.{Avc, Aac, Other}
use Rattle.sf_entry.specs.declared.types.EntryAt.{EntryAt}
use Rattle.sf_entry.specs.declared.types.EntryFault.{EntryFault}
use Rattle.sf_entry.specs.declared.types.EntryFault.TheVariants.{Short, NoAvcC, BadAvcC, NoMemory}
use Rattle.sf_entry.specs.Steps.{◌>>=◌, ◌>>◌, check, needed, as_fault}
use Rattle.sf_entry.specs.Esds.{config_in}
use Rattle.sf_entry.specs.Mp4a.{zeros}

-- the body of a box, where there is one
abbrev pub body_of : Option Piece → Option (List ℕ)
body_of None = None
body_of (Some p) = Some p.body

-- The body of the first box of a type inside an entry with this body, after so many bytes of fields. The boxes end at the
-- first place that is no whole box.
unfoldable pub child_in : ℕ → List ℕ → List ℕ → Option (List ℕ)
child_in fields kind body = body_of (child_piece (leading 0 (drop fields body)) kind)

-- an entry of video: 78 bytes of fields, and its configuration in the first avcC after them (14496-12, 12.1.3; 14496-15, 5.3.4.1)
unfoldable pub video_in : Piece → Result Entry EntryFault
video_in p = do
  check (nat_le 78 (length p.body)) (Short p.head.at)
  avcC ← needed (child_in 78 (codes "avcC") p.body) (NoAvcC p.head.at)
  config ← as_fault (λ _. BadAvcC p.head.at) (config_of avcC)
  Ok (Avc config)

-- an entry of sound, by its configuration, or of another kind without one
abbrev pub sound_of : FourCc → Option (List ℕ) → Entry
sound_of kind None = Other kind
sound_of kind (Some config) = Aac config

-- an entry of sound: 28 bytes of fields, and its configuration in the first esds after them (14496-12, 12.2.3; 14496-14, 5.6)
unfoldable pub sound_in : Piece → Entry
sound_in p = sound_of p.head.kind (option_and_then config_in (child_in 28 (codes "esds") p.body))

-- what an entry says, by its type; every entry has the eight bytes that end with its reference
unfoldable pub entry_in : Piece → Result Entry EntryFault
entry_in p =
    if bytes_eq p.head.kind.0 (codes "avc1") then video_in p
    else check (nat_le 8 (length p.body)) (Short p.head.at) >> Ok (if bytes_eq p.head.kind.0 (codes "mp4a") then sound_in p else Other p.head.kind)

-- an entry with its place, its length, and the number of its data reference, which stands after six bytes
unfoldable pub entry_at : Piece → Result EntryAt EntryFault
entry_at p = do
  entry ← entry_in p
  Ok (record { at = p.head.at; len = p.head.size; reference = word16 (drop 6 p.body); entry = entry })

-- the entries of boxes, or the first fault
unfoldable pub entries_in : List Piece → Result (List EntryAt) EntryFault
entries_in [] = Ok []
entries_in (p ∷ ps) = do
  entry ← entry_at p
  entries ← entries_in ps
  Ok (entry ∷ entries)

-- the whole boxes after the version and flags and the count of entries, from a place on
abbrev pub boxes_after : ℕ → List ℕ → List Piece
boxes_after base body = leading (base + 8) (drop 8 body)

-- The entries of a body whose places count from the base, or the first fault: as many boxes as the count says, which are
-- all looked at before the first entry is. What follows them isn't read.
unfoldable pub entries_of : ℕ → List ℕ → Result (List EntryAt) EntryFault
entries_of base body = do
  check (nat_le 8 (length body)) (Short base)
  check (nat_le (word32 (drop 4 body)) (length (boxes_after base body))) (Short base)
  entries_in (take (word32 (drop 4 body)) (boxes_after base body))

-- The length of a unit has one to four bytes.
pub record IsWidth (width : ℕ) : Type 0 where
  pub least : 1 ≤ width
  pub most : width ≤ 4

-- it has in an entry of video (14496-15, 5.3.3.1)
abbrev pub HasWidth : Entry → Type 0
HasWidth (Avc config) = IsWidth config.width
HasWidth (Aac config) = Unit {0}
HasWidth (Other kind) = Unit {0}

-- the body of a box with one entry: its version and flags, the count, the entry
unfoldable pub stsd_of : List ℕ → List ℕ
stsd_of entry = zeros 4 ++ (be32 1 ++ entry)

-- the only entry of a box whose body begins at the base, with the first data reference
unfoldable pub only_entry : ℕ → List ℕ → Entry → EntryAt
only_entry base bytes entry = record { at = base + 8; len = length bytes; reference = 1; entry = entry }

-- a call stopped at this fault, or for want of memory
abbrev pub Stops : {A : Type 0} → EntryFault → Result A EntryFault → Type 0
Stops NoMemory said = ⊤
Stops fault said = said ≡ Err fault

-- A call answers what is said, or its fault, or stops for want of memory.
abbrev pub Answers : {A : Type 0} → Result A EntryFault → Result A EntryFault → Type 0
Answers (Ok x) said = said ≡ Ok x
Answers (Err fault) said = Stops fault said
