-- A file's start: no track begins before it, and it isn't late.
use Rattle.std.proofs.Common.{ℕ, ◌+◌, ◌^◌, ◌≤◌, List, [], ◌∷◌, map, Option, Some, None, arith}
use Rattle.std.specs.Prelude.{unwrap_or}
use Rattle.std.specs.List.{AllByRecursion}
use Rattle.sf_tick.specs.declared.types.Stored.{Stored}
use Rattle.sf_tick.specs.declared.types.Chunk.{Chunk}
use Rattle.sf_entry.specs.declared.track_setup.TrackSetup.{TrackSetup}
use Rattle.sf_layout.specs.Layout.{track_samples, first_us, tracks_from, earlier, earliest, start_of}
use Rattle.sf_layout.specs.Writable.{IsTimed, AllWritable}

-- A time, where there is one, isn't after another.
abbrev pub UpTo : ℕ → Option ℕ → Type 0
UpTo most None = Unit {0}
UpTo most (Some us) = us ≤ most

-- A time, where there is one, isn't before another, where there is one.
abbrev pub From : Option ℕ → Option ℕ → Type 0
From o None = Unit {0}
From None (Some us) = Unit {0} → ⊥
From (Some start) (Some us) = start ≤ us

earlier_up : (most : ℕ) (a b : Option ℕ) → UpTo most a → UpTo most b → UpTo most (earlier a b)
earlier_up most None b p q = q
earlier_up most (Some x) None p q = p
earlier_up most (Some x) (Some y) p q = omega (arith, p, q)

-- the first of two is from the earlier one on
earlier_first : (a b : Option ℕ) → From (earlier a b) a
earlier_first None b = tt
earlier_first (Some x) None = omega arith
earlier_first (Some x) (Some y) = omega arith

earlier_second : (a b o : Option ℕ) → From b o → From (earlier a b) o
earlier_second a b None p = tt
earlier_second None None (Some us) p = p
earlier_second (Some x) None (Some us) p = absurd (p tt)
earlier_second None (Some y) (Some us) p = p
earlier_second (Some x) (Some y) (Some us) p = omega (arith, p)

firsts_up : (scale : ℕ) (ss : List Stored) → AllByRecursion (IsTimed scale) ss → UpTo (2 ^ 48) (first_us ss)
firsts_up scale [] all = tt
firsts_up scale (s ∷ ss) all = all.0.early

earliest_up : (number : ℕ) (setups : List TrackSetup) (chunks : List Chunk) → AllWritable number setups chunks → UpTo (2 ^ 48) (earliest (map (λ t. t.first) (tracks_from number setups chunks)))
earliest_up number [] chunks all = tt
earliest_up number (setup ∷ setups) chunks all =
    earlier_up (2 ^ 48) (first_us (track_samples number chunks)) (earliest (map (λ t. t.first) (tracks_from (number + 1) setups chunks)))
    (firsts_up setup.scale (track_samples number chunks) all.0.timed) (earliest_up (number + 1) setups chunks all.1)

or_zero : (o : Option ℕ) (most : ℕ) → UpTo most o → unwrap_or o 0 ≤ most
or_zero None most p = omega arith
or_zero (Some x) most p = p

-- the start is in the first 2^48 microseconds
pub start_early : (number : ℕ) (setups : List TrackSetup) (chunks : List Chunk) → AllWritable number setups chunks → start_of (tracks_from number setups chunks) ≤ 2 ^ 48
start_early number setups chunks all = or_zero (earliest (map (λ t. t.first) (tracks_from number setups chunks))) (2 ^ 48) (earliest_up number setups chunks all)

-- No track, numbered from here on, begins before the earliest.
abbrev pub AllFrom : Option ℕ → ℕ → List TrackSetup → List Chunk → Type 0
AllFrom o number [] chunks = Unit {0}
AllFrom o number (setup ∷ setups) chunks = From o (first_us (track_samples number chunks)) × AllFrom o (number + 1) setups chunks

all_later : (a b : Option ℕ) (number : ℕ) (setups : List TrackSetup) (chunks : List Chunk) → AllFrom b number setups chunks → AllFrom (earlier a b) number setups chunks
all_later a b number [] chunks all = tt
all_later a b number (setup ∷ setups) chunks all = (earlier_second a b (first_us (track_samples number chunks)) all.0, all_later a b (number + 1) setups chunks all.1)

all_from : (number : ℕ) (setups : List TrackSetup) (chunks : List Chunk) → AllFrom (earliest (map (λ t. t.first) (tracks_from number setups chunks))) number setups chunks
all_from number [] chunks = tt
all_from number (setup ∷ setups) chunks =
    let first : Option ℕ = first_us (track_samples number chunks) in
    let others : Option ℕ = earliest (map (λ t. t.first) (tracks_from (number + 1) setups chunks)) in
    (earlier_first first others, all_later first others (number + 1) setups chunks (all_from (number + 1) setups chunks))

-- A track with samples begins at its start or after it.
abbrev pub Begins : ℕ → Option ℕ → Type 0
Begins start None = Unit {0}
Begins start (Some us) = start ≤ us

begins_from : (o first : Option ℕ) → From o first → Begins (unwrap_or o 0) first
begins_from o None p = tt
begins_from None (Some us) p = absurd (p tt)
begins_from (Some start) (Some us) p = p

abbrev pub AllBegin : ℕ → ℕ → List TrackSetup → List Chunk → Type 0
AllBegin start number [] chunks = Unit {0}
AllBegin start number (setup ∷ setups) chunks = Begins start (first_us (track_samples number chunks)) × AllBegin start (number + 1) setups chunks

all_begin_from : (o : Option ℕ) (number : ℕ) (setups : List TrackSetup) (chunks : List Chunk) → AllFrom o number setups chunks → AllBegin (unwrap_or o 0) number setups chunks
all_begin_from o number [] chunks all = tt
all_begin_from o number (setup ∷ setups) chunks all = (begins_from o (first_us (track_samples number chunks)) all.0, all_begin_from o (number + 1) setups chunks all.1)

pub all_begin : (number : ℕ) (setups : List TrackSetup) (chunks : List Chunk) → AllBegin (start_of (tracks_from number setups chunks)) number setups chunks
all_begin number setups chunks = all_begin_from (earliest (map (λ t. t.first) (tracks_from number setups chunks))) number setups chunks (all_from number setups chunks)
