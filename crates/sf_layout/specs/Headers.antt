-- The headers of a file of several tracks, as they are written.
use Rattle.std.specs.Prelude.{ℕ, ◌+◌, ◌*◌, ◌/◌, ◌==◌, max, if◌then◌else◌, List, [], ◌∷◌, ◌++◌, replicate, codes}
use Rattle.sf_box.specs.Boxes.{be16, be32, be64}
use Rattle.sf_box.specs.Parts.{Part, tiled}
use Rattle.sf_tick.specs.declared.types.Kind.{Kind}
use Rattle.sf_tick.specs.declared.types.Kind.TheVariants.{Avc, Aac}
pub use Rattle.sf_meaning.specs.Stbl.{zeros}
pub use Rattle.sf_meaning.specs.WrittenHeaders.{duration_bytes, header_times}
use Rattle.sf_layout.specs.declared.heads.TrackHead.{TrackHead}

-- how long so many ticks are in microseconds
abbrev pub microseconds : ℕ → ℕ → ℕ
microseconds scale duration = duration * 1000000 / scale

-- the identity transformation (8.2.2)
abbrev pub matrix : List ℕ
matrix =
    (0 ∷ 1 ∷ 0 ∷ 0 ∷ []) ++ (zeros 12 ++ ((0 ∷ 1 ∷ 0 ∷ 0 ∷ []) ++ (zeros 12 ++ (64 ∷ 0 ∷ 0 ∷ 0 ∷ []))))

-- brands: mp42, version 0, and that it is also isom (4.3)
abbrev pub ftyp_body : List ℕ
ftyp_body = codes "mp42" ++ (zeros 4 ++ (codes "isom" ++ codes "mp42"))

-- the media header: ticks a second, the duration in them, no language (8.4.2)
abbrev pub mdhd_body : ℕ → ℕ → List ℕ
mdhd_body scale duration = header_times 0 duration ++ (be32 scale ++ (duration_bytes duration ++ (0x55 ∷ 0xC4 ∷ 0 ∷ 0 ∷ [])))

-- one of two, for video and for sound
abbrev pub for_kind : {A : Type 0} → Kind → A → A → A
for_kind Avc video sound = video
for_kind Aac video sound = sound

-- how long the samples of a track last, and when the track ends, both in microseconds
abbrev pub length_us : TrackHead → ℕ
length_us head = microseconds head.scale head.duration

abbrev pub end_us : TrackHead → ℕ
end_us head = head.lead_us + length_us head

-- when the last track ends, 0 without tracks
abbrev pub longest : List TrackHead → ℕ
longest [] = 0
longest (head ∷ heads) = max (end_us head) (longest heads)

-- the movie header of so many tracks: microseconds a second, how long the movie is in them, and the next track's number (8.2.2)
unfoldable pub mvhd_body : ℕ → ℕ → List ℕ
mvhd_body tracks movie_us =
    header_times 0 movie_us
    ++ (be32 1000000 ++ (duration_bytes movie_us ++ ((0 ∷ 1 ∷ 0 ∷ 0 ∷ 1 ∷ 0 ∷ []) ++ (zeros 10 ++ (matrix ++ (zeros 24 ++ be32 (tracks + 1)))))))

-- full volume, and none for video (8.3.2)
abbrev pub volume : Kind → List ℕ
volume kind = for_kind kind (0 ∷ 0 ∷ []) (1 ∷ 0 ∷ [])

-- the width and the height with sixteen bits after the point, both 0 for sound (8.3.2)
abbrev pub dimensions : TrackHead → List ℕ
dimensions head = for_kind head.kind (be16 head.width ++ (zeros 2 ++ (be16 head.height ++ zeros 2))) (zeros 8)

-- the track header: enabled, in the movie and in its preview; the track's number; when it ends (8.3.2)
unfoldable pub tkhd_body : ℕ → TrackHead → List ℕ
tkhd_body number head =
    header_times 7 (end_us head)
    ++ (be32 number ++ (zeros 4 ++ (duration_bytes (end_us head) ++ (zeros 12 ++ (volume head.kind ++ (zeros 2 ++ (matrix ++ dimensions head)))))))

-- The edit list, in version 1: nothing is shown during the lead, and then the media from their start, at their own pace (8.6.6).
unfoldable pub elst_body : ℕ → ℕ → List ℕ
elst_body lead media_us =
    (1 ∷ 0 ∷ 0 ∷ 0 ∷ 0 ∷ 0 ∷ 0 ∷ 2 ∷ [])
    ++ (be64 lead ++ (replicate 8 255 ++ ((0 ∷ 1 ∷ 0 ∷ 0 ∷ []) ++ (be64 media_us ++ (zeros 8 ++ (0 ∷ 1 ∷ 0 ∷ 0 ∷ []))))))

abbrev pub in_edts : TrackHead → List Part
in_edts head = (codes "elst", elst_body head.lead_us (length_us head)) ∷ []

-- the edits, present where the track doesn't begin with the file (8.6.5)
abbrev pub edts_parts : TrackHead → List Part
edts_parts head = if head.lead_us == 0 then [] else ((codes "edts", tiled (in_edts head)) ∷ [])

-- the handler (8.4.3)
abbrev pub hdlr_body : Kind → List ℕ
hdlr_body kind =
    zeros 8 ++ (for_kind kind (codes "vide") (codes "soun") ++ (zeros 12 ++ (for_kind kind (codes "VideoSamples") (codes "SoundSamples") ++ (0 ∷ []))))

-- the header of video, with flags 1, or of sound (12.1.2, 12.2.2)
abbrev pub media_header : Kind → Part
media_header kind = for_kind kind (codes "vmhd", (0 ∷ 0 ∷ 0 ∷ 1 ∷ []) ++ zeros 8) (codes "smhd", zeros 8)
