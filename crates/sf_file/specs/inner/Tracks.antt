-- The tracks of an open file, as its code goes along them.
use Rattle.std.specs.Prelude.{◌≡◌, ℕ, ◌+◌, ◌^◌, ◌<◌, ◌≤◌, List, [], ◌∷◌, length, map, slice_get, None, IfSome}
use Rattle.sf_tick.specs.declared.types.Chunk.{Chunk}
use Rattle.sf_entry.specs.declared.track_setup.TrackSetup.{TrackSetup}
use Rattle.sf_layout.specs.Layout.{head_of, stbl_of}
use Rattle.sf_layout.specs.declared.heads.TrackHead.{TrackHead}
use Rattle.sf_file.specs.Open.{HeldTrack, Joins, rows_in}

-- A track as it is kept: what is held of it, and how many samples of one further chunk there is room for.
pub record KeptTrack : Type 0 where
  pub held : HeldTrack
  pub spare : ℕ

abbrev pub held_in : List KeptTrack → List HeldTrack
held_in tracks = map (λ t. t.held) tracks

-- a track without samples
abbrev pub fresh : TrackSetup → HeldTrack
fresh setup = record { track = record { setup = setup; first = None; rows = [] }; last = None }

-- what the headers say of tracks, in a file with this start
abbrev pub heads_in : ℕ → List HeldTrack → List TrackHead
heads_in start_us tracks = map (head_of start_us) (rows_in tracks)

-- a chunk can stand after the others of its track, among tracks that are numbered from here on
abbrev pub JoinsFrom : ℕ → List HeldTrack → Chunk → Type 0
JoinsFrom number [] chunk = Unit {0}
JoinsFrom number (t ∷ ts) chunk = (chunk.track ≡ number → Joins t chunk) × JoinsFrom (number + 1) ts chunk

-- the sample table box of a track can be encoded
abbrev pub IsShort : KeptTrack → Type 0
IsShort t = length (stbl_of t.held.track) < 2 ^ 32

-- a chunk can stand after the others of its track, and there is room for it in the track's tables
abbrev pub JoinsAt : List HeldTrack → Chunk → Type 0
JoinsAt tracks chunk = IfSome (slice_get tracks chunk.track) (λ t. Joins t chunk)

abbrev pub HasRoom : List KeptTrack → Chunk → Type 0
HasRoom tracks chunk = IfSome (slice_get tracks chunk.track) (λ t. length chunk.samples ≤ t.spare)
