-- The definitions, run on small recordings whose files were counted by hand.
use Rattle.std.proofs.Common.{◌≡◌, ℕ, true, false, [], ◌∷◌, codes, replicate, Some, None, refl}
use Rattle.sf_box.specs.Boxes.{be16, be32, be64, box_of, wide_box}
use Rattle.sf_box.specs.Parts.{tiled}
use Rattle.sf_tick.specs.declared.types.Kind.TheVariants.{Aac}
use Rattle.sf_tick.specs.declared.types.Stored.{Stored}
use Rattle.sf_tick.specs.declared.types.Chunk.{Chunk}
use Rattle.sf_entry.specs.declared.track_setup.TrackSetup.{TrackSetup}
use Rattle.sf_meaning.specs.Stbl.{stts_body, stsz_body, stsc_body, stco_body, stbl_box}
use Rattle.sf_layout.specs.Headers.{mvhd_body, tkhd_body, elst_body}
use Rattle.sf_layout.specs.MovieBox.{minf_body, mdia_body, trak_body, moov_of}
use Rattle.sf_layout.specs.Layout.{movie_box, layout}
use Rattle.sf_layout.specs.Written.{start_in}
use Rattle.sf_series.specs.declared.limits.Limits.{Limits}
use Rattle.sf_series.specs.declared.limits.LimitShown.TheVariants.{Duration, Size}
use Rattle.sf_series.specs.Switching.{over, put, switched, closed_length}
use Rattle.sf_series.specs.Core.{fresh, Hand, Write, after}
use Rattle.sf_series.specs.Dealt.{dealt}

-- a sync sample of four bytes
abbrev sample : ℕ → ℕ → Stored
sample us ticks = record { dts_us = us; decode = ticks; compose = ticks; sync = true; bytes = codes "abcd" }

-- a chunk of one sample
abbrev chunk : ℕ → ℕ → ℕ → ℕ → Chunk
chunk track number us ticks = record { track = track; number = number; first_us = us; samples = sample us ticks ∷ []; last = false }

abbrev sound : TrackSetup
sound = record { kind = Aac; scale = 48000; width = 0; height = 0; entry = replicate 87 0 }

abbrev limits : ℕ → ℕ → ℕ → Limits
limits max_bytes max_duration_us max_files = record { max_bytes = max_bytes; max_duration_us = max_duration_us; max_files = max_files; stem = codes "a" }

-- three samples of sound, in three chunks or in one
abbrev c0 : Chunk
c0 = chunk 0 0 0 0

abbrev c1 : Chunk
c1 = chunk 0 1 21333 1024

abbrev c2 : Chunk
c2 = chunk 0 2 42667 2048

abbrev all_in_one : Chunk
all_in_one = record { track = 0; number = 0; first_us = 0; samples = sample 0 0 ∷ sample 21333 1024 ∷ sample 42667 2048 ∷ []; last = true }

-- an empty file has 604 bytes
empty_file : closed_length (sound ∷ []) [] ≡ 604
unfolding layout movie_box moov_of trak_body mdia_body minf_body mvhd_body tkhd_body stbl_box tiled box_of wide_box be16 be32 be64 stts_body stsz_body stsc_body stco_body
empty_file = refl

-- up to 648 bytes the three chunks stand in one file
fits_in_648 : switched (limits 648 0 1) (sound ∷ []) (c0 ∷ c1 ∷ c2 ∷ []) ≡ record { files = (c0 ∷ c1 ∷ c2 ∷ []) ∷ []; limit = None }
unfolding put over layout movie_box moov_of trak_body mdia_body minf_body mvhd_body tkhd_body stbl_box tiled box_of wide_box be16 be32 be64 stts_body stsz_body stsc_body stco_body
fits_in_648 = refl

-- up to 647 bytes the third one meets the limit
limit_at_647 : switched (limits 647 0 1) (sound ∷ []) (c0 ∷ c1 ∷ c2 ∷ []) ≡ record { files = (c0 ∷ c1 ∷ []) ∷ []; limit = Some (Size 0 2 648 647) }
unfolding put over layout movie_box moov_of trak_body mdia_body minf_body mvhd_body tkhd_body stbl_box tiled box_of wide_box be16 be32 be64 stts_body stsz_body stsc_body stco_body
limit_at_647 = refl

-- where there may be two files, the second begins as soon as the first is large
second_at_647 : switched (limits 647 0 2) (sound ∷ []) (c0 ∷ c1 ∷ c2 ∷ []) ≡ record { files = (c0 ∷ []) ∷ (c1 ∷ c2 ∷ []) ∷ []; limit = None }
unfolding put over layout movie_box moov_of trak_body mdia_body minf_body mvhd_body tkhd_body stbl_box tiled box_of wide_box be16 be32 be64 stts_body stsz_body stsc_body stco_body
second_at_647 = refl

second_lengths : (closed_length (sound ∷ []) (c0 ∷ []) ≡ 632) × (closed_length (sound ∷ []) (c1 ∷ c2 ∷ []) ≡ 640) × (start_in (sound ∷ []) (c1 ∷ c2 ∷ []) ≡ 21333)
unfolding layout movie_box moov_of trak_body mdia_body minf_body mvhd_body tkhd_body stbl_box tiled box_of wide_box be16 be32 be64 stts_body stsz_body stsc_body stco_body
second_lengths = (refl, refl, refl)

-- one chunk that doesn't fit into an empty file
limit_at_639 : switched (limits 639 0 1) (sound ∷ []) (all_in_one ∷ []) ≡ record { files = [] ∷ []; limit = Some (Size 0 0 640 639) }
unfolding put over layout movie_box moov_of trak_body mdia_body minf_body mvhd_body tkhd_body stbl_box tiled box_of wide_box be16 be32 be64 stts_body stsz_body stsc_body stco_body
limit_at_639 = refl

-- two tracks of sound, of which the second begins later: the second file begins at a sample of the first track a second after the first file
abbrev e0 : Chunk
e0 = chunk 0 0 0 0

abbrev e1 : Chunk
e1 = chunk 0 1 1000000 48000

abbrev e2 : Chunk
e2 = chunk 1 0 1500000 72000

by_duration : switched (limits 0 1000000 2) (sound ∷ sound ∷ []) (e0 ∷ e1 ∷ e2 ∷ []) ≡ record { files = (e0 ∷ []) ∷ (e1 ∷ e2 ∷ []) ∷ []; limit = None }
unfolding put over layout movie_box moov_of trak_body mdia_body minf_body mvhd_body tkhd_body elst_body stbl_box tiled box_of wide_box be16 be32 be64 stts_body stsz_body stsc_body stco_body
by_duration = refl

-- where there may be one file, its duration is the limit
ends_by_duration : switched (limits 0 1000000 1) (sound ∷ sound ∷ []) (e0 ∷ e1 ∷ e2 ∷ []) ≡ record { files = (e0 ∷ []) ∷ []; limit = Some (Duration 0 1 1000000 0 1000000) }
unfolding put over layout movie_box moov_of trak_body mdia_body minf_body mvhd_body tkhd_body elst_body stbl_box tiled box_of wide_box be16 be32 be64 stts_body stsz_body stsc_body stco_body
ends_by_duration = refl

-- two chunks that begin at once: that of the lower track first, and then none waits
abbrev f0 : Chunk
f0 = chunk 0 0 0 0

abbrev f1 : Chunk
f1 = chunk 1 0 0 0

both_at_0 : after (limits 0 0 1) (sound ∷ sound ∷ []) (fresh 2) (Hand f1 ∷ Hand f0 ∷ Write ∷ Write ∷ Write ∷ [])
    ≡ record { handed = (f0 ∷ []) ∷ (f1 ∷ []) ∷ []; pending = [] ∷ [] ∷ []; marks = false ∷ false ∷ []; files = (f0 ∷ f1 ∷ []) ∷ []; ended = false }
unfolding put over layout movie_box moov_of trak_body mdia_body minf_body mvhd_body tkhd_body elst_body stbl_box tiled box_of wide_box be16 be32 be64 stts_body stsz_body stsc_body stco_body
both_at_0 = refl

-- a chunk that comes after a later one was written stands after it, and the file starts with it
abbrev g0 : Chunk
g0 = chunk 0 0 1000000 48000

abbrev g1 : Chunk
g1 = chunk 1 0 0 0

late_handed : (after (limits 0 0 1) (sound ∷ sound ∷ []) (fresh 2) (Hand g0 ∷ Write ∷ Hand g1 ∷ Write ∷ [])).files ≡ (g0 ∷ g1 ∷ []) ∷ []
unfolding put over layout movie_box moov_of trak_body mdia_body minf_body mvhd_body tkhd_body elst_body stbl_box tiled box_of wide_box be16 be32 be64 stts_body stsz_body stsc_body stco_body
late_handed = refl

late_start : start_in (sound ∷ sound ∷ []) (g0 ∷ g1 ∷ []) ≡ 0
late_start = refl

-- the orders of the files' tracks give them back
dealt_back : dealt ((0 ∷ []) ∷ (0 ∷ 1 ∷ []) ∷ []) ((e0 ∷ e1 ∷ []) ∷ (e2 ∷ []) ∷ []) ≡ (e0 ∷ []) ∷ (e1 ∷ e2 ∷ []) ∷ []
dealt_back = refl
