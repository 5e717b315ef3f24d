-- How long a movie box is, from what is known of its tracks.
use Rattle.std.specs.Prelude.{ℕ, ◌+◌, ◌==◌, if◌then◌else◌, List, [], ◌∷◌}
use Rattle.sf_meaning.specs.WrittenHeaders.{is_long}
use Rattle.sf_layout.specs.Headers.{end_us, for_kind, longest}
use Rattle.sf_layout.specs.declared.heads.TrackHead.{TrackHead}

-- what a duration in eight bytes adds to a header
abbrev pub extra : ℕ → ℕ
extra duration = if is_long duration then 12 else 0

-- the box of a track
abbrev pub trak_len : TrackHead → ℕ
trak_len head = 229 + for_kind head.kind 20 16 + (if head.lead_us == 0 then 0 else 64) + extra (end_us head) + extra head.duration + head.stbl_len

-- the boxes of tracks
abbrev pub traks_len : List TrackHead → ℕ
traks_len [] = 0
traks_len (head ∷ heads) = trak_len head + traks_len heads

-- the movie box, from when its last track ends and from its tracks' boxes
abbrev pub moov_from : ℕ → ℕ → ℕ
moov_from longest_us traks = 140 + extra longest_us + traks

-- the movie box of tracks
abbrev pub moov_len : List TrackHead → ℕ
moov_len heads = moov_from (longest heads) (traks_len heads)
