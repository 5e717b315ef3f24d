-- The sample entry of video (ISO/IEC 14496-12, 12.1.3; ISO/IEC 14496-15, 5.3.4.1).
use Rattle.std.specs.Prelude.{ℕ, List, [], ◌∷◌, ◌++◌, codes}
use Rattle.sf_box.specs.Boxes.{be16, be32, box_of}
use Rattle.sf_entry.specs.Mp4a.{zeros}

-- the fields of a video entry: the first data reference, the width and the height, 72 pixels an inch both ways, one
-- picture a sample, no name of the compressor, a depth of 24 bits, no colour table
unfoldable pub video_fields : ℕ → ℕ → List ℕ
video_fields width height =
    zeros 6 ++ ((0 ∷ 1 ∷ []) ++ (zeros 16 ++ (be16 width ++ (be16 height ++ (be32 0x00480000 ++ (be32 0x00480000 ++ (zeros 4
    ++ ((0 ∷ 1 ∷ []) ++ (zeros 32 ++ (0 ∷ 0x18 ∷ 0xFF ∷ 0xFF ∷ []))))))))))

-- the body of a video entry, with the body of its configuration box
unfoldable pub avc1_body : ℕ → ℕ → List ℕ → List ℕ
avc1_body width height config = video_fields width height ++ box_of (codes "avcC") config

-- the sample entry of video with this width and height, in pixels
unfoldable pub avc1_entry : ℕ → ℕ → List ℕ → List ℕ
avc1_entry width height config = box_of (codes "avc1") (avc1_body width height config)
