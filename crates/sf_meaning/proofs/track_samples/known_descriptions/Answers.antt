use Rattle.std.proofs.Common.{◌≡◌, ℕ, ◌+◌, ◌-◌, List, ◌++◌, drop, get_or, replicate, take, Ok, sym, ◌∙◌}
use Rattle.sf_meaning.specs.inner.Entries.{spread_of, spreads_as}
use Rattle.sf_meaning.specs.Tables.{InChunk, described, in_chunk, spread_over}
use Rattle.sf_meaning.specs.TrackSamples.{descriptions_known}
use Rattle.sf_meaning.specs.declared.entries.ChunkRun.{ChunkRun}
use Rattle.sf_meaning.specs.declared.faults.TableFault.TheVariants.{NoMemory}
use Rattle.sf_meaning.proofs.DescriptionLemmas.{described_step, stops_both}
use Rattle.sf_meaning.proofs.SampleLemmas.{entry_at}
use Rattle.sf_meaning.proofs.track_samples.known_descriptions.Goals as goal

pub loop-r-preserved : goal.loop-r-preserved
loop-r-preserved c =
    let none : ChunkRun = record { first = 0; per = 0; description = 0 } in
    let runs : List ChunkRun = c.args.runs.now in
    let run : ChunkRun = get_or runs c.loop-r.r none in
    let behind : List ChunkRun = drop (c.loop-r.r + 1) runs in
    let some : ℕ = c.entry_chunks-some.result in
    let all : List InChunk = take c.loop-r.room (spread_over (spreads_as (drop c.loop-r.r runs)) c.args.chunks) in
    let rest : List InChunk = take (c.loop-r.room - some) (spread_over (spreads_as behind) c.args.chunks) in
    let is : all ≡ replicate some (in_chunk (spread_of run)) ++ rest =
    entry_at runs c.loop-r.r c.loop-r.room c.args.chunks some c.loop-r-test.true c.entry_chunks-some.ensures.holds in
    let step = described_step c.args.at c.args.entries c.loop-r.left some c.samples_in-samples.result (in_chunk (spread_of run)) rest all is c.samples_in-samples.ensures in
    let first : descriptions_known c.args.at c.args.entries (replicate c.samples_in-samples.result run.description) ≡ Ok tt = c.in-Ok.ensures in
    sym (rw first at step) ∙ c.loop-r.invariant

pub returns-in-Err : goal.returns-in-Err
returns-in-Err c =
    let none : ChunkRun = record { first = 0; per = 0; description = 0 } in
    let runs : List ChunkRun = c.args.runs.now in
    let run : ChunkRun = get_or runs c.loop-r.r none in
    let behind : List ChunkRun = drop (c.loop-r.r + 1) runs in
    let some : ℕ = c.entry_chunks-some.result in
    let all : List InChunk = take c.loop-r.room (spread_over (spreads_as (drop c.loop-r.r runs)) c.args.chunks) in
    let rest : List InChunk = take (c.loop-r.room - some) (spread_over (spreads_as behind) c.args.chunks) in
    let is : all ≡ replicate some (in_chunk (spread_of run)) ++ rest =
    entry_at runs c.loop-r.r c.loop-r.room c.args.chunks some c.loop-r-test.true c.entry_chunks-some.ensures.holds in
    let step = described_step c.args.at c.args.entries c.loop-r.left some c.samples_in-samples.result (in_chunk (spread_of run)) rest all is c.samples_in-samples.ensures in
    stops_both NoMemory c.in-Err.fault (descriptions_known c.args.at c.args.entries (replicate c.samples_in-samples.result run.description))
    (descriptions_known c.args.at c.args.entries (take (c.loop-r.left - c.samples_in-samples.result) (described rest))) _ (sym step ∙ c.loop-r.invariant) c.in-Err.ensures
