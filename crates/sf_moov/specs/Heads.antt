-- Heads of tracks for which a movie box is written, and sample table boxes that belong to them.
use Rattle.std.specs.Prelude.{◌≡◌, ℕ, ◌^◌, ◌≤◌, ◌<◌, List, [], ◌∷◌, length, sum_by, ⊤}
use Rattle.std.specs.List.{AllByRecursion}
use Rattle.sf_layout.specs.Headers.{end_us}
use Rattle.sf_layout.specs.declared.heads.TrackHead.{TrackHead}

-- A track has ticks, and its end has room in eight bytes.
pub record HasEnd (head : TrackHead) : Type 0 where
  pub scale : 1 ≤ head.scale
  pub ends : end_us head < 2 ^ 63

-- Heads of at most 64 tracks, whose sample table boxes have less than 2^62 bytes together.
pub record AreHeads (heads : List TrackHead) : Type 0 where
  pub few : length heads ≤ 64
  pub each : AllByRecursion HasEnd heads
  pub tables : sum_by (λ h. h.stbl_len) heads < 2 ^ 62

-- There are as many sample table boxes as heads, each as long as its head says.
abbrev pub HaveLengths : List TrackHead → List (List ℕ) → Type 0
HaveLengths [] [] = ⊤
HaveLengths [] (stbl ∷ stbls) = ⊥
HaveLengths (head ∷ heads) [] = ⊥
HaveLengths (head ∷ heads) (stbl ∷ stbls) = (length stbl ≡ head.stbl_len) × HaveLengths heads stbls
