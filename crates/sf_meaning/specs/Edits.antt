-- Edit lists: when a track begins to be shown, and with what (8.6.5, 8.6.6).
use Rattle.std.specs.Prelude.{ℕ, zero, suc, ◌+◌, ◌-◌, ◌*◌, ◌^◌, ◌==◌, nat_lt, nat_le, Bool, ◌&&◌, if◌then◌else◌, List, [], ◌∷◌, length, drop, codes, Option, Some, None, Ok}
use Rattle.sf_box.specs.Boxes.{Piece, word32, word64}
use Rattle.sf_box.specs.Parts.{child_piece}
use Rattle.sf_meaning.specs.Steps.{◌>>=◌, ◌>>◌, check}
use Rattle.sf_meaning.specs.Headers.{Head, inside, short_head, is_wide}
use Rattle.sf_meaning.specs.Tables.{count_in}
use Rattle.sf_meaning.specs.declared.elst.Edit.{Edit}
use Rattle.sf_meaning.specs.declared.elst.Shift.{Shift}
use Rattle.sf_meaning.specs.declared.faults.HeadFault.TheVariants.{EditTooLong}

-- an edit, with times of eight bytes or of four (8.6.6.2)
abbrev pub edit_in : Bool → List ℕ → Edit
edit_in wide bytes =
    if wide then record { duration = word64 bytes; media_time = word64 (drop 8 bytes); rate = word32 (drop 16 bytes) }
    else record { duration = word32 bytes; media_time = word32 (drop 4 bytes); rate = word32 (drop 8 bytes) }

-- how many bytes an edit takes
abbrev pub edit_width : Bool → ℕ
edit_width wide = if wide then 20 else 12

-- so many edits
abbrev pub edits : Bool → ℕ → List ℕ → List Edit
edits wide zero bytes = []
edits wide (suc n) bytes = edit_in wide bytes ∷ edits wide n (drop (edit_width wide) bytes)

-- an empty edit: its media time is -1, in two's complement
abbrev pub is_empty : Bool → Edit → Bool
is_empty wide e = e.media_time == (if wide then 2 ^ 64 - 1 else 2 ^ 32 - 1)

-- an edit that shows the media at their own pace: its media time isn't negative, and its rate is 1 with fraction 0
abbrev pub is_shown : Bool → Edit → Bool
is_shown wide e = nat_lt e.media_time (if wide then 2 ^ 63 else 2 ^ 31) && e.rate == 0x10000

-- What edits of the two forms that are followed say: one that shows the media, or an empty edit before one. Of the empty
-- edit the duration alone counts. Edits of any other form say nothing.
abbrev pub followed : Bool → List Edit → Option Shift
followed wide [] = None
followed wide (e ∷ []) = if is_shown wide e then Some (record { lead = 0; media_time = e.media_time }) else None
followed wide (e ∷ f ∷ []) =
    if is_empty wide e && is_shown wide f then Some (record { lead = e.duration; media_time = f.media_time }) else None
followed wide (e ∷ f ∷ g ∷ es) = None

-- what holds without an edit list that is followed: no lead, and the media from their start
abbrev pub unshifted : Shift
unshifted = record { lead = 0; media_time = 0 }

-- the edits of an edit list, whole
unfoldable pub edits_in : Piece → Head (List Edit)
edits_in p = do
  check (nat_le 8 (length p.body)) (short_head p)
  check (nat_le (8 + edit_width (is_wide p.body) * count_in p.body) (length p.body)) (short_head p)
  Ok (edits (is_wide p.body) (count_in p.body) (drop 8 p.body))

-- neither the lead nor the media time passes 2^40 seconds, in a movie and a track with these timescales
abbrev pub bounded : ℕ → ℕ → Piece → Option Shift → Head Shift
bounded movie_scale scale p None = Ok unshifted
bounded movie_scale scale p (Some s) = do
  check (nat_le s.lead (2 ^ 40 * movie_scale) && nat_le s.media_time (2 ^ 40 * scale)) (EditTooLong p.head.at)
  Ok s

-- what an edit list box says
unfoldable pub shift_in : ℕ → ℕ → Piece → Head Shift
shift_in movie_scale scale p = do
  es ← edits_in p
  bounded movie_scale scale p (followed (is_wide p.body) es)

abbrev pub shift_by : ℕ → ℕ → Option Piece → Head Shift
shift_by movie_scale scale None = Ok unshifted
shift_by movie_scale scale (Some elst) = shift_in movie_scale scale elst

-- what an edit box says, by the first edit list in it
unfoldable pub shift_of : ℕ → ℕ → Option Piece → Head Shift
shift_of movie_scale scale None = Ok unshifted
shift_of movie_scale scale (Some edts) = do
  ps ← inside edts
  shift_by movie_scale scale (child_piece ps (codes "elst"))
