-- The head of a file as it is written: what stands in front of the samples.
use Rattle.std.specs.Prelude.{ℕ, List, ◌++◌, codes}
use Rattle.sf_box.specs.Boxes.{box_of, be32, be64}
use Rattle.sf_layout.specs.Headers.{ftyp_body}

-- the file type box, and the head of a media data box of so many bytes (4.3, 8.1.1)
unfoldable pub file_head : ℕ → List ℕ
file_head size = box_of (codes "ftyp") ftyp_body ++ (be32 1 ++ (codes "mdat" ++ be64 size))
