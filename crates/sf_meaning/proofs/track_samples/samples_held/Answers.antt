use Rattle.std.proofs.Common.{List, sym, subst}
use Rattle.sf_meaning.specs.Answers.{Gives}
use Rattle.sf_meaning.specs.Tracks.{Step, samples_held}
use Rattle.sf_meaning.specs.inner.TrackTables.{tables_view}
use Rattle.sf_meaning.specs.declared.faults.MovieFault.TheVariants.{NoMemory}
use Rattle.sf_meaning.specs.declared.entries.ChunkAt.{ChunkAt}
use Rattle.sf_meaning.specs.declared.movie.PlainSample.{PlainSample}
use Rattle.sf_meaning.specs.inner.Faults.{of_table}
use Rattle.sf_meaning.proofs.FaultLemmas.{stopped_by}
use Rattle.sf_meaning.proofs.TrackLemmas.{samples_listed, samples_wrong}
use Rattle.sf_meaning.proofs.track_samples.samples_held.Goals as goal

pub sample_list-requires-clause-places : goal.sample_list-requires-clause-places
sample_list-requires-clause-places c = rw (c.places_of.ensures.count, c.deref.ensures.value, c.in_ok-chunks.ensures.held) c.in_ok-say_samples.ensures.chunks

pub returns-in_err-say_samples : goal.returns-in_err-say_samples
returns-in_err-say_samples c =
    let t = tables_view c.args.tables.now in
    stopped_by NoMemory (λ (samples : List PlainSample). samples) c.from_residual.result (of_table c.in_err-say_samples.field-0.0) (samples_held c.args.file_len c.args.number c.args.scale c.args.entries t)
    c.from_residual.ensures.1
    (samples_wrong c.args.file_len c.args.number c.args.scale c.args.entries t c.count_of-count.result c.in_err-say_samples.field-0.0 (sym c.count_of-count.ensures) c.in_err-say_samples.ensures.said)

pub returns : goal.returns
returns c =
    let t = tables_view c.args.tables.now in
    let chunks : List ChunkAt = c.in_ok-chunks.chunks.items in
    let left = c.places_of.ensures.left t.sizes in
    let said = samples_listed c.args.file_len c.args.number c.args.scale c.args.entries t chunks c.count_of-count.result _ _ _ _ _ c.in_ok-chunks.ensures.held c.in_ok-chunks.ensures.places (sym c.count_of-count.ensures) c.in_ok-say_samples.ensures.said
    c.times_of.ensures.left c.offsets_of.ensures c.syncs_of.ensures (rw c.deref.ensures.value at left) (rw c.deref.ensures.value at c.places_of.ensures.described) in
    subst (λ (said : Step (List PlainSample)). Gives NoMemory (λ samples. samples) c.sample_list.result said) (sym said) c.sample_list.ensures
