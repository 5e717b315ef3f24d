-- The ticks of a track's samples, and how long they last.
use Rattle.std.proofs.Common.{ℕ, ◌+◌, ◌-◌, ◌*◌, ◌^◌, ◌<◌, ◌≤◌, List, [], ◌∷◌, sum, refl, arith, lit<}
use Rattle.std.specs.List.{AllByRecursion}
use Rattle.std.proofs.lemmas.List.Sums.{sum_by-cons}
use Rattle.sf_tick.specs.Tick.{tick}
use Rattle.sf_tick.specs.declared.types.Stored.{Stored}
use Rattle.sf_tick.proofs.TickLaws.{tick_rises}
use Rattle.sf_meaning.specs.Stbl.{differences, deltas_of}
use Rattle.sf_meaning.specs.Rows.{decodes_of}
use Rattle.sf_meaning.specs.Writable.{Paced, PacedFrom}
use Rattle.sf_layout.specs.Written.{first_tick}
use Rattle.sf_layout.specs.Writable.{IsTimed, Rises, AllRise}

pub ticks_rise : (scale : ℕ) (s t : Stored) → IsTimed scale s → IsTimed scale t → s.dts_us ≤ t.dts_us → s.decode ≤ t.decode
ticks_rise scale s t a b le = omega (arith, a.decode, b.decode, tick_rises s.dts_us t.dts_us scale le)

paced_after : (scale : ℕ) (s : Stored) (ss : List Stored) → IsTimed scale s → AllByRecursion (IsTimed scale) ss → Rises s ss → Paced s.decode (decodes_of ss)
paced_after scale s [] a all rise = tt
paced_after scale s (t ∷ ts) a all rise =
    let le : s.decode ≤ t.decode = ticks_rise scale s t a all.0 rise.0 in
    (le, omega (arith, le, rise.1), paced_after scale t ts all.0 all.1 rise.2)

-- decode times don't fall, from the first one on
pub paced_of : (scale : ℕ) (ss : List Stored) → AllByRecursion (IsTimed scale) ss → AllRise ss → PacedFrom (first_tick ss) (decodes_of ss)
paced_of scale [] all rise = tt
paced_of scale (s ∷ ss) all rise = (refl, paced_after scale s ss all.0 all.1 rise)

sum_differences : (bound last t : ℕ) (ts : List ℕ) → last < 2 ^ 32 → Paced t ts → t ≤ bound → AllByRecursion (λ u. u ≤ bound) ts → sum (differences last t ts) + t ≤ bound + 2 ^ 32
sum_differences bound last t [] lt paced le all = omega (arith, sum_by-cons (λ x. x) last [], lt, le)
sum_differences bound last t (u ∷ ts) lt paced le all =
    let more : sum (differences (u - t) u ts) + u ≤ bound + 2 ^ 32 = sum_differences bound (u - t) u ts paced.1 paced.2 all.0 all.1 in
    omega (arith, sum_by-cons (λ x. x) (u - t) (differences (u - t) u ts), more, paced.0)

sum_deltas : (bound start : ℕ) (ts : List ℕ) → PacedFrom start ts → AllByRecursion (λ u. u ≤ bound) ts → sum (deltas_of ts) ≤ bound + 2 ^ 32
sum_deltas bound start [] paced all = omega arith
sum_deltas bound start (t ∷ ts) paced all = omega (arith, sum_differences bound 0 t ts (lit< tt) paced.1 all.0 all.1)

last_tick : (scale : ℕ) → 1 ≤ scale → tick (2 ^ 48) scale + 2 ^ 32 ≤ 2 ^ 40 * scale
last_tick scale some = omega (arith, some)

all_early : (scale : ℕ) (ss : List Stored) → AllByRecursion (IsTimed scale) ss → AllByRecursion (λ u. u ≤ tick (2 ^ 48) scale) (decodes_of ss)
all_early scale [] all = tt
all_early scale (s ∷ ss) all = (omega (arith, all.0.decode, tick_rises s.dts_us (2 ^ 48) scale all.0.early), all_early scale ss all.1)

-- how long they last isn't too long to be read
pub brief : (scale : ℕ) (ss : List Stored) → 1 ≤ scale → AllByRecursion (IsTimed scale) ss → AllRise ss → sum (deltas_of (decodes_of ss)) ≤ 2 ^ 40 * scale
brief scale ss some all rise =
    omega (arith, sum_deltas (tick (2 ^ 48) scale) (first_tick ss) (decodes_of ss) (paced_of scale ss all rise) (all_early scale ss all), last_tick scale some)
