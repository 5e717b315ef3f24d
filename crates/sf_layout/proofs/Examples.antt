-- The definitions, run on small files whose bytes were counted by hand.
use Rattle.std.proofs.Common.{◌≡◌, ℕ, true, List, [], ◌∷◌, ◌++◌, length, take, drop, codes, replicate, refl, ◌+◌}
use Rattle.sf_box.specs.Boxes.{be16, be32, be64, box_of, wide_box}
use Rattle.sf_box.specs.Parts.{tiled}
use Rattle.sf_tick.specs.declared.types.Kind.TheVariants.{Avc, Aac}
use Rattle.sf_tick.specs.declared.types.Stored.{Stored}
use Rattle.sf_tick.specs.declared.types.Chunk.{Chunk}
use Rattle.sf_entry.specs.declared.track_setup.TrackSetup.{TrackSetup}
use Rattle.sf_meaning.specs.Stbl.{stts_body, stsz_body, stsc_body, stco_body, stbl_box}
use Rattle.sf_layout.specs.Headers.{mvhd_body, tkhd_body, elst_body}
use Rattle.sf_layout.specs.MovieBox.{minf_body, mdia_body, trak_body, moov_of}
use Rattle.sf_layout.specs.Layout.{movie_box, layout}

-- a sample that is shown when it is decoded
abbrev sample : ℕ → ℕ → List ℕ → Stored
sample us ticks bytes = record { dts_us = us; decode = ticks; compose = ticks; sync = true; bytes = bytes }

abbrev chunk : ℕ → ℕ → ℕ → List Stored → Chunk
chunk track number us samples = record { track = track; number = number; first_us = us; samples = samples; last = true }

abbrev sound : List ℕ → TrackSetup
sound entry = record { kind = Aac; scale = 48000; width = 0; height = 0; entry = entry }

abbrev video : List ℕ → TrackSetup
video entry = record { kind = Avc; scale = 90000; width = 640; height = 360; entry = entry }

-- one track of sound, with three samples of four bytes
one_track : length (layout (sound (replicate 87 0) ∷ []) (chunk 0 0 0 (sample 0 0 (codes "abcd") ∷ sample 21333 1024 (codes "efgh") ∷ sample 42667 2048 (codes "ijkl") ∷ []) ∷ [])) ≡ 640
unfolding layout movie_box moov_of trak_body mdia_body minf_body mvhd_body tkhd_body stbl_box tiled box_of wide_box be16 be32 be64 stts_body stsz_body stsc_body stco_body
one_track = refl

-- a track of video that begins half a millisecond after the file, and a track of sound whose chunk was written first
abbrev two_tracks : List ℕ
two_tracks = layout (video (codes "entry..v") ∷ sound (codes "entry..s") ∷ []) (chunk 1 0 1000 (sample 1000 48 (codes "ab") ∷ []) ∷ chunk 0 0 1500 (sample 1500 135 (codes "cde") ∷ []) ∷ [])

two_tracks_long : length two_tracks ≡ 991
unfolding layout movie_box moov_of trak_body mdia_body minf_body mvhd_body tkhd_body elst_body stbl_box tiled box_of wide_box be16 be32 be64 stts_body stsz_body stsc_body stco_body
two_tracks_long = refl

-- the edit list stands after 45 bytes of file and payload, the heads of the movie box and of the first track box, and the headers in them
two_tracks_edits : take 56 (drop (45 + 8 + 108 + 8 + 92 + 8) two_tracks)
    ≡ (0 ∷ 0 ∷ 0 ∷ 56 ∷ []) ++ (codes "elst" ++ ((1 ∷ 0 ∷ 0 ∷ 0 ∷ 0 ∷ 0 ∷ 0 ∷ 2 ∷ 0 ∷ 0 ∷ 0 ∷ 0 ∷ 0 ∷ 0 ∷ 1 ∷ 0xF4 ∷ []) ++ (replicate 8 255 ++ ((0 ∷ 1 ∷ 0 ∷ 0 ∷ []) ++ (replicate 16 0 ++ (0 ∷ 1 ∷ 0 ∷ 0 ∷ []))))))
unfolding layout movie_box moov_of trak_body mdia_body minf_body mvhd_body tkhd_body elst_body stbl_box tiled box_of wide_box be16 be32 be64 stts_body stsz_body stsc_body stco_body
two_tracks_edits = refl

-- the header of video has the track's number, its end, no volume, the width and the height
two_tracks_video : take 92 (drop (45 + 8 + 108 + 8) two_tracks)
    ≡ (0 ∷ 0 ∷ 0 ∷ 92 ∷ []) ++ (codes "tkhd" ++ ((0 ∷ 0 ∷ 0 ∷ 7 ∷ []) ++ (replicate 8 0 ++ ((0 ∷ 0 ∷ 0 ∷ 1 ∷ 0 ∷ 0 ∷ 0 ∷ 0 ∷ 0 ∷ 0 ∷ 1 ∷ 0xF4 ∷ []) ++ (replicate 16 0
    ++ ((0 ∷ 1 ∷ 0 ∷ 0 ∷ []) ++ (replicate 12 0 ++ ((0 ∷ 1 ∷ 0 ∷ 0 ∷ []) ++ (replicate 12 0 ++ ((64 ∷ 0 ∷ 0 ∷ 0 ∷ []) ++ (2 ∷ 0x80 ∷ 0 ∷ 0 ∷ 1 ∷ 0x68 ∷ 0 ∷ 0 ∷ [])))))))))))
unfolding layout movie_box moov_of trak_body mdia_body minf_body mvhd_body tkhd_body elst_body stbl_box tiled box_of wide_box be16 be32 be64 stts_body stsz_body stsc_body stco_body
two_tracks_video = refl

-- the handler and the media header of video, after the edits, the media header and two heads
two_tracks_handler : take 73 (drop (45 + 8 + 108 + 8 + 92 + 64 + 8 + 32) two_tracks)
    ≡ (0 ∷ 0 ∷ 0 ∷ 45 ∷ []) ++ (codes "hdlr" ++ (replicate 8 0 ++ (codes "vide" ++ (replicate 12 0 ++ (codes "VideoSamples" ++ ((0 ∷ []) ++ ((0 ∷ 0 ∷ 0 ∷ 188 ∷ []) ++ (codes "minf" ++ ((0 ∷ 0 ∷ 0 ∷ 20 ∷ []) ++ (codes "vmhd" ++ ((0 ∷ 0 ∷ 0 ∷ 1 ∷ []) ++ replicate 8 0)))))))))))
unfolding layout movie_box moov_of trak_body mdia_body minf_body mvhd_body tkhd_body elst_body stbl_box tiled box_of wide_box be16 be32 be64 stts_body stsz_body stsc_body stco_body
two_tracks_handler = refl

-- the header of sound, which has full volume and no edits, follows the box of 437 bytes of the video track
two_tracks_sound : take 24 (drop (45 + 8 + 108 + 437 + 8 + 92) two_tracks) ≡ (0 ∷ 0 ∷ 1 ∷ 13 ∷ []) ++ (codes "mdia" ++ ((0 ∷ 0 ∷ 0 ∷ 32 ∷ []) ++ (codes "mdhd" ++ replicate 8 0)))
unfolding layout movie_box moov_of trak_body mdia_body minf_body mvhd_body tkhd_body elst_body stbl_box tiled box_of wide_box be16 be32 be64 stts_body stsz_body stsc_body stco_body
two_tracks_sound = refl

-- a movie header has eight bytes for a duration of 2^32 - 1 and more
short_header : length (mvhd_body 2 4294967294) ≡ 100
unfolding mvhd_body be32
short_header = refl

long_header : length (mvhd_body 2 4294967295) ≡ 112
unfolding mvhd_body be32 be64
long_header = refl
