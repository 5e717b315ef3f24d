use Rattle.std.proofs.Common.{◌≡◌, ℕ, ◌+◌, ◌-◌, ◌<◌, ◌≤◌, min, List, length, get_or, refl, sym, subst, ◌∙◌, arith}
use Rattle.std.proofs.lemmas.Bool.{eqb-true}
use Rattle.sf_meaning.specs.ReadTables.{sizes_view}
use Rattle.sf_cursor.specs.inner.Held.{AreInChunk}
use Rattle.sf_cursor.specs.inner.Sound.{counts_in, no_run}
use Rattle.sf_cursor.proofs.HeldSamples.{chunk_here, held_all, no_samples, reached_next}
use Rattle.sf_cursor.proofs.RunChunks.{count_there, first_first, is_some, is_there, least_first, no_chunks, no_more}
use Rattle.sf_cursor.proofs.held.chunks_held.Goals as goal

pub returns-then-is_empty : goal.returns-then-is_empty
returns-then-is_empty c =
    let none : length c.args.runs.now ≡ 0 = eqb-true (length c.args.runs.now) 0 (sym c.if-is_empty.ensures) in
    λ ss long all.
    sym (no_samples c.args.bytes c.args.track 0 ss (omega (arith, long, c.requires.reach, no_chunks c.args.runs.now (length c.args.places.now) none)))

pub loop-c-init : goal.loop-c-init
loop-c-init c =
    let some : 0 < length c.args.runs.now = is_some (length c.args.runs.now) (sym c.if-is_empty.ensures) in
    record {
      reached = omega arith;
      holds = record {
        there = some;
        begun = omega (arith, first_first c.args.runs.now no_run c.requires.order some);
        next = λ h. omega (arith, least_first c.args.runs.now (0 + 1) no_run c.requires.order h);
      };
      held = λ ss all. refl;
    }

pub returns-in-Err : goal.returns-in-Err
returns-in-Err c =
    let counts : List ℕ = counts_in c.args.runs.now (length c.args.places.now) in
    let sizes : List ℕ = sizes_view c.args.sizes.now in
    let low : c.loop-c.c < length c.args.places.now = omega (arith, c.loop-c-test.true) in
    let count : get_or counts c.loop-c.c 0 ≡ (get_or c.args.runs.now c.run_of-r.result no_run).per =
    count_there c.args.runs.now (length c.args.places.now) c.run_of-r.result c.loop-c.c c.requires.order c.run_of-r.ensures low in
    let some : c.min-some.result ≡ min (get_or counts c.loop-c.c 0) (length sizes - c.loop-c.from) =
    omega (arith, c.min-some.ensures, count, c.count_of-count.ensures) in
    λ ss long all.
    sym (c.loop-c.invariant.held ss all
    ∙ c.in-Err.ensures.err ss (subst (λ (p : ℕ). AreInChunk p sizes c.loop-c.from c.min-some.result ss) (sym c.at.ensures)
    (chunk_here counts c.args.places.now sizes ss c.loop-c.c c.loop-c.from c.min-some.result c.loop-c.invariant.reached some all)))

pub loop-c-preserved : goal.loop-c-preserved
loop-c-preserved c =
    let counts : List ℕ = counts_in c.args.runs.now (length c.args.places.now) in
    let sizes : List ℕ = sizes_view c.args.sizes.now in
    let low : c.loop-c.c < length c.args.places.now = omega (arith, c.loop-c-test.true) in
    let count : get_or counts c.loop-c.c 0 ≡ (get_or c.args.runs.now c.run_of-r.result no_run).per =
    count_there c.args.runs.now (length c.args.places.now) c.run_of-r.result c.loop-c.c c.requires.order c.run_of-r.ensures low in
    let some : c.min-some.result ≡ min (get_or counts c.loop-c.c 0) (length sizes - c.loop-c.from) =
    omega (arith, c.min-some.ensures, count, c.count_of-count.ensures) in
    let there : c.loop-c.c < length counts = is_there c.args.runs.now (length c.args.places.now) c.run_of-r.result c.loop-c.c c.requires.order c.run_of-r.ensures low in
    record {
      reached = reached_next counts (length sizes) c.loop-c.c c.loop-c.from c.min-some.result there c.loop-c.invariant.reached some;
      holds = record { there = c.run_of-r.ensures.there; begun = omega (arith, c.run_of-r.ensures.begun); next = c.run_of-r.ensures.next };
      held = λ ss all.
          c.loop-c.invariant.held ss all
          ∙ c.in-Ok.ensures.ok ss (subst (λ (p : ℕ). AreInChunk p sizes c.loop-c.from c.min-some.result ss) (sym c.at.ensures)
          (chunk_here counts c.args.places.now sizes ss c.loop-c.c c.loop-c.from c.min-some.result c.loop-c.invariant.reached some all));
    }

pub returns : goal.returns
returns c =
    let counts : List ℕ = counts_in c.args.runs.now (length c.args.places.now) in
    let all_seen : length counts ≤ c.loop-c.c = omega (arith, no_more c.args.runs.now (length c.args.places.now), c.loop-c-test.false) in
    λ ss long all.
    sym (c.loop-c.invariant.held ss all
    ∙ held_all c.args.bytes c.args.track counts (length (sizes_view c.args.sizes.now)) c.loop-c.c c.loop-c.from ss all_seen c.loop-c.invariant.reached c.requires.reach long)
