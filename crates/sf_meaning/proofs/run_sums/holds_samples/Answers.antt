use Rattle.std.proofs.Common.{◌≡◌, ℕ, ◌+◌, ◌-◌, List, ◌++◌, drop, get_or, replicate, take, ◌∙◌}
use Rattle.sf_meaning.specs.inner.Entries.{spread_of, spreads_as}
use Rattle.sf_meaning.specs.Tables.{InChunk, in_chunk, spread_over}
use Rattle.sf_meaning.specs.declared.entries.ChunkRun.{ChunkRun}
use Rattle.sf_meaning.proofs.SampleLemmas.{entry_at, sums_after}
use Rattle.sf_meaning.proofs.run_sums.holds_samples.Goals as goal

pub loop-r-preserved : goal.loop-r-preserved
loop-r-preserved c =
    let none : ChunkRun = record { first = 0; per = 0; description = 0 } in
    let runs : List ChunkRun = c.args.runs.now in
    let run : ChunkRun = get_or runs c.loop-r.r none in
    let behind : List ChunkRun = drop (c.loop-r.r + 1) runs in
    let some : ℕ = c.entry_chunks-some.result in
    let all : List InChunk = take c.loop-r.room (spread_over (spreads_as (drop c.loop-r.r runs)) c.args.chunks) in
    let rest : List InChunk = take (c.loop-r.room - some) (spread_over (spreads_as behind) c.args.chunks) in
    let is : all ≡ replicate some (in_chunk (spread_of run)) ++ rest =
    entry_at runs c.loop-r.r c.loop-r.room c.args.chunks some c.loop-r-test.true c.entry_chunks-some.ensures.holds in
    sums_after c.loop-r.left some c.samples_in-left.result (in_chunk (spread_of run)) rest all is c.samples_in-left.ensures ∙ c.loop-r.invariant
