-- In which order the sync samples of a track are kept for seeks, and what is found in it.
use Rattle.std.specs.Prelude.{◌≡◌, ℕ, ◌+◌, ◌≤◌, ◌<◌, ℤ, pos, ◌≤ℤ◌, ◌<ℤ◌, Bool, true, false, List, [], ◌∷◌, length, map, get_or, unwrap_or, Option, Some, None}
use Rattle.std.specs.List.{Contains, slice_get}
use Rattle.std.specs.List.Sorted.{IsPermutation}
use Rattle.sf_meaning.specs.Shown.{shown}
use Rattle.sf_meaning.specs.declared.movie.PlainMovie.{PlainMovie}
use Rattle.sf_movie.specs.Loaded.{sync_samples}
use Rattle.sf_extract.specs.SyncAt.{better_of, is_nearer, syncs_of}
use Rattle.sf_extract.specs.declared.order.SyncOrder.{SyncOrder}
use Rattle.sf_extract.specs.declared.order.SyncOrder.TheVariants.{ByNumber, Listed}
use Rattle.sf_extract.specs.declared.types.Sync.{Sync}

-- the sync sample at a place of a list
abbrev pub nth : List Sync → ℕ → Sync
nth ss i = get_or ss i (record { sample = 0; shown_us = pos 0 })

-- One is shown no later than another, and before it where its number is the higher one.
pub record IsUpTo (s other : Sync) : Type 0 where
  pub shown : s.shown_us ≤ℤ other.shown_us
  pub tie : other.sample < s.sample → s.shown_us <ℤ other.shown_us

-- sync samples stand in the order in which they're shown, and by their numbers where they're shown at once
abbrev pub Rises : List Sync → Type 0
Rises ss = (i j : ℕ) → i ≤ j → j < length ss → IsUpTo (nth ss i) (nth ss j)

-- Sync samples were put in order.
pub record Sorts (old new : List Sync) : Type 0 where
  pub same : IsPermutation old new
  pub rises : Rises new

-- These sync samples stand in order.
pub record InOrder (ss order : List Sync) : Type 0 where
  pub rises : Rises order
  pub there : (i : ℕ) → i < length order → Contains ss (nth order i)
  pub all : (s : Sync) → Contains ss s → (i : ℕ) × (i < length order) × (nth order i ≡ s)

-- Those before one place of an order are shown before a time, and those from another place on are not.
pub record IsParted (order : List Sync) (us : ℤ) (low high : ℕ) : Type 0 where
  pub between : low ≤ high
  pub within : high ≤ length order
  pub before : (i : ℕ) → i < low → (nth order i).shown_us <ℤ us
  pub from : (i : ℕ) → high ≤ i → i < length order → us ≤ℤ (nth order i).shown_us

-- so many of them are shown before a time
abbrev pub IsSplit : List Sync → ℤ → ℕ → Type 0
IsSplit order us k = IsParted order us k k

-- Another one isn't better, and is worse where its number is the lower one.
pub record Beats (is_better : Sync → Sync → Bool) (s other : Sync) : Type 0 where
  pub most : is_better other s ≡ false
  pub lower : other.sample < s.sample → is_better s other ≡ true

-- A sync sample beats all those that pass a test, as it does itself.
pub record IsBest (is_better : Sync → Sync → Bool) (passes : Sync → Bool) (ss : List Sync) (s : Sync) : Type 0 where
  pub there : Contains ss s
  pub passed : passes s ≡ true
  pub beats : (other : Sync) → Contains ss other → passes other ≡ true → Beats is_better s other

-- the best one of those that pass a test was found, or none passes
abbrev pub Finds : (Sync → Sync → Bool) → (Sync → Bool) → List Sync → Option Sync → Type 0
Finds is_better passes ss None = (s : Sync) → Contains ss s → passes s ≡ false
Finds is_better passes ss (Some s) = IsBest is_better passes ss s

-- the nearer one of the latest one until a time and the earliest one from it on
abbrev pub nearer_of : ℤ → Option Sync → Option Sync → Option Sync
nearer_of us None other = other
nearer_of us (Some s) other = better_of (is_nearer us) s other

-- the numbers of sync samples rise, from one on
abbrev pub AreNumbered : ℕ → List Sync → Type 0
AreNumbered n [] = Unit {0}
AreNumbered n (s ∷ ss) = (n ≤ s.sample) × AreNumbered (s.sample + 1) ss

-- when sample i of track t is shown, and 0 where there is no such sample
abbrev pub time_at : PlainMovie → ℕ → ℕ → ℤ
time_at m t i = unwrap_or (shown m t i) (pos 0)

-- sample i of track t as a sync sample
abbrev pub sync_of : PlainMovie → ℕ → ℕ → Sync
sync_of m t i = record { sample = i; shown_us = time_at m t i }

-- Of the sync samples of a track the first ones, so many, are shown in the order of their numbers.
pub record SyncsRise (m : PlainMovie) (t n : ℕ) : Type 0 where
  pub rises : (i j : ℕ) → i ≤ j → j < n → time_at m t (get_or (sync_samples m t) i 0) ≤ℤ time_at m t (get_or (sync_samples m t) j 0)

-- the sync samples of a track, in the order in which they're kept
abbrev pub ordered : PlainMovie → ℕ → SyncOrder → List Sync
ordered m t (ByNumber count) = syncs_of m (slice_get m.tracks t)
ordered m t (Listed numbers) = map (sync_of m t) numbers

-- how many there are
abbrev pub kept_count : SyncOrder → ℕ
kept_count (ByNumber count) = count
kept_count (Listed numbers) = length numbers

-- the number of the one at a place
abbrev pub kept_number : PlainMovie → ℕ → SyncOrder → ℕ → ℕ
kept_number m t (ByNumber count) k = get_or (sync_samples m t) k 0
kept_number m t (Listed numbers) k = get_or numbers k 0

-- The sync samples of a track are kept in order, each found by its place.
pub record IsOrder (m : PlainMovie) (t : ℕ) (o : SyncOrder) : Type 0 where
  pub in_order : InOrder (syncs_of m (slice_get m.tracks t)) (ordered m t o)
  pub count : length (ordered m t o) ≡ kept_count o
  pub at : (k : ℕ) → k < length (ordered m t o) → nth (ordered m t o) k ≡ sync_of m t (kept_number m t o k)

-- The sync samples of each of so many tracks of a movie are kept in order.
pub record AreOrders (m : PlainMovie) (n : ℕ) (os : List SyncOrder) : Type 0 where
  pub count : length os ≡ n
  pub each : (t : ℕ) → t < length os → IsOrder m t (get_or os t (ByNumber 0))

-- Those of each track are.
pub record AreTheOrders (m : PlainMovie) (os : List SyncOrder) : Type 0 where
  pub count : length os ≡ length m.tracks
  pub each : (t : ℕ) → t < length os → IsOrder m t (get_or os t (ByNumber 0))
