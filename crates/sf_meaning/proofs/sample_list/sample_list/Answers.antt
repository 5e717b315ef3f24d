use Rattle.std.proofs.Common.{◌≡◌, rules, ℕ, ℤ, ◌+◌, List, [], Ok, Err, ◌⊎◌, drop, subst, sym, ap, ◌∙◌, arith}
use Rattle.std.proofs.lemmas.List.{append-nil, drop_all}
use Rattle.std.proofs.lemmas.Int.{to_z-of_z}
use mir.Syntax.{w64}
use mir.Val.{SFits}
use Rattle.sf_meaning.specs.inner.Entries.{times_left, offsets_left, syncs_left, sample_at}
use Rattle.sf_meaning.specs.ReadTables.{sizes_view}
use Rattle.sf_meaning.specs.Tracks.{held_sample}
use Rattle.sf_meaning.specs.declared.movie.PlainSample.{PlainSample}
use Rattle.sf_meaning.proofs.ListedSamples.{held_from, rows_left, rows_step, whole_step, list_wrong}
use Rattle.sf_meaning.specs.declared.faults.MovieFault.TheVariants.{NoMemory}
use Rattle.sf_meaning.proofs.sample_list.sample_list.Goals as goal

pub loop-i-preserved : goal.loop-i-preserved
loop-i-preserved c =
    let here = c.in_chunk-here.result in
    let size = c.size_at-size.result in
    let decode = c.next_time-decode.result.0 in
    let offset = c.next_offset-offset.result.0 in
    let is = c.next_sync-sync.result.0 in
    let sample : PlainSample = sample_at here decode offset is size in
    let sizes : List ℕ = drop c.loop-i.i (sizes_view c.args.sizes.now) in
    let zs : List ℕ = drop (c.loop-i.i + 1) (sizes_view c.args.sizes.now) in
    let step =
    rows_step (c.loop-i.i + 1) sizes (times_left c.loop-i.times) (offsets_left c.loop-i.offsets) (offsets_left c.next_offset-offset.result.1) (syncs_left c.loop-i.syncs) (syncs_left c.next_sync-sync.result.1) c.loop-i.places here size decode offset is zs (times_left c.next_time-decode.result.1)
    c.size_at-size.ensures c.next_time-decode.ensures.first c.next_offset-offset.ensures.first c.next_offset-offset.ensures.behind c.next_sync-sync.ensures.here c.next_sync-sync.ensures.behind c.in_chunk-here.ensures.some c.in_chunk-here.ensures.same c.in_chunk-here.ensures.described in
    let fits : SFits w64 offset = search rules in
    let is_so : c.sample_at.result ≡ sample = c.sample_at.ensures ∙ ap (λ (z : ℤ). sample_at here decode z is size) (to_z-of_z w64 offset fits) in
    let ok : held_sample c.args.file_len c.args.track c.loop-i.i sample ≡ Ok sample =
    ap (held_sample c.args.file_len c.args.track c.loop-i.i) (sym is_so) ∙ c.in-Ok.ensures.held ∙ ap (λ (s : PlainSample). Ok s) (c.in-Ok.ensures.same ∙ is_so) in
    record {
      whole = rw (c.in_ok-push-in-Ok.ensures.ok, c.in-Ok.ensures.same, is_so, c.from.ensures) (whole_step c.args.file_len c.args.track c.loop-i.i c.loop-i.samples _ _ sample _ c.loop-i.invariant.whole step ok);
      times = omega (arith, c.loop-i.invariant.times, c.next_time-decode.ensures.count);
      early = omega (arith, c.loop-i.invariant.early, c.next_time-decode.ensures.later);
      rising = c.next_sync-sync.ensures.rising;
      places = omega (arith, c.loop-i.invariant.places, c.in_chunk-here.ensures.count, c.in_chunk-here.ensures.some);
    }

pub returns : goal.returns
returns c =
    let all : List ℕ = sizes_view c.args.sizes.now in
    let none : drop c.loop-i.i all ≡ [] = drop_all c.loop-i.i all (omega (arith, c.requires.count, c.loop-i-test.false)) in
    let whole =
    ap (λ (xs : List ℕ). held_from c.args.file_len c.args.track c.loop-i.i c.loop-i.samples (rows_left (c.loop-i.i + 1) xs (times_left c.loop-i.times) (offsets_left c.loop-i.offsets) (syncs_left c.loop-i.syncs) c.loop-i.places)) (sym none)
    ∙ c.loop-i.invariant.whole in
    sym whole ∙ ap (λ (ss : List PlainSample). Ok ss) (append-nil c.loop-i.samples)

pub returns-in-Err : goal.returns-in-Err
returns-in-Err c =
    let here = c.in_chunk-here.result in
    let size = c.size_at-size.result in
    let decode = c.next_time-decode.result.0 in
    let offset = c.next_offset-offset.result.0 in
    let is = c.next_sync-sync.result.0 in
    let sample : PlainSample = sample_at here decode offset is size in
    let sizes : List ℕ = drop c.loop-i.i (sizes_view c.args.sizes.now) in
    let zs : List ℕ = drop (c.loop-i.i + 1) (sizes_view c.args.sizes.now) in
    let step =
    rows_step (c.loop-i.i + 1) sizes (times_left c.loop-i.times) (offsets_left c.loop-i.offsets) (offsets_left c.next_offset-offset.result.1) (syncs_left c.loop-i.syncs) (syncs_left c.next_sync-sync.result.1) c.loop-i.places here size decode offset is zs (times_left c.next_time-decode.result.1)
    c.size_at-size.ensures c.next_time-decode.ensures.first c.next_offset-offset.ensures.first c.next_offset-offset.ensures.behind c.next_sync-sync.ensures.here c.next_sync-sync.ensures.behind c.in_chunk-here.ensures.some c.in_chunk-here.ensures.same c.in_chunk-here.ensures.described in
    let fits : SFits w64 offset = search rules in
    let is_so : c.sample_at.result ≡ sample = c.sample_at.ensures ∙ ap (λ (z : ℤ). sample_at here decode z is size) (to_z-of_z w64 offset fits) in
    let wrong : (c.in-Err.fault ≡ NoMemory) ⊎ (held_sample c.args.file_len c.args.track c.loop-i.i sample ≡ Err c.in-Err.fault) = subst (λ (s : PlainSample). (c.in-Err.fault ≡ NoMemory) ⊎ (held_sample c.args.file_len c.args.track c.loop-i.i s ≡ Err c.in-Err.fault)) is_so c.in-Err.ensures.held in
    list_wrong c.args.file_len c.args.track c.loop-i.i c.loop-i.samples _ _ sample _ c.in-Err.fault c.loop-i.invariant.whole step wrong
