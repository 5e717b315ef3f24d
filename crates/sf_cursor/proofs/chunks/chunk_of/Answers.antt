use Rattle.std.proofs.Common.{◌+◌, ◌-◌, ◌/◌, length, get_or, sym, arith}
use Rattle.sf_cursor.specs.inner.Sound.{no_run}
use Rattle.sf_cursor.proofs.RunChunks.{InEntry, least_first}
use Rattle.sf_cursor.proofs.ChunkStarts.{chunk_starts_rise, entry_found}
use Rattle.sf_cursor.proofs.chunks.chunk_of.Goals as goal

pub last_begun-r-requires-clause-rising : goal.last_begun-r-requires-clause-rising
last_begun-r-requires-clause-rising c = chunk_starts_rise c.args.runs.now (length c.args.places.now) c.args.starts.now c.requires.order c.requires.starts

pub overflow_sub-c : goal.overflow_sub-c
overflow_sub-c c = least_first c.args.runs.now c.last_begun-r.result no_run c.requires.order (omega (arith, c.requires.starts.long, c.last_begun-r.ensures.there))

pub nonzero_div-c : goal.nonzero_div-c
nonzero_div-c c =
    let e : InEntry c.args.runs.now (length c.args.places.now) c.last_begun-r.result c.args.i (c.args.i - get_or c.args.starts.now c.last_begun-r.result 0) =
    entry_found c.args.runs.now (length c.args.places.now) c.args.starts.now c.args.i c.last_begun-r.result c.requires.order c.requires.starts
    c.last_begun-r.ensures.there c.last_begun-r.ensures.begun c.last_begun-r.ensures.next c.requires.few c.requires.reach in
    e.some

pub overflow_add-c : goal.overflow_add-c
overflow_add-c c =
    let e : InEntry c.args.runs.now (length c.args.places.now) c.last_begun-r.result c.args.i (c.args.i - get_or c.args.starts.now c.last_begun-r.result 0) =
    entry_found c.args.runs.now (length c.args.places.now) c.args.starts.now c.args.i c.last_begun-r.result c.requires.order c.requires.starts
    c.last_begun-r.ensures.there c.last_begun-r.ensures.begun c.last_begun-r.ensures.next c.requires.few c.requires.reach in
    omega (arith, e.there, c.requires.many)

pub at-requires : goal.at-requires
at-requires c =
    let e : InEntry c.args.runs.now (length c.args.places.now) c.last_begun-r.result c.args.i (c.args.i - get_or c.args.starts.now c.last_begun-r.result 0) =
    entry_found c.args.runs.now (length c.args.places.now) c.args.starts.now c.args.i c.last_begun-r.result c.requires.order c.requires.starts
    c.last_begun-r.ensures.there c.last_begun-r.ensures.begun c.last_begun-r.ensures.next c.requires.few c.requires.reach in
    e.there

pub nonzero_rem-result : goal.nonzero_rem-result
nonzero_rem-result c =
    let e : InEntry c.args.runs.now (length c.args.places.now) c.last_begun-r.result c.args.i (c.args.i - get_or c.args.starts.now c.last_begun-r.result 0) =
    entry_found c.args.runs.now (length c.args.places.now) c.args.starts.now c.args.i c.last_begun-r.result c.requires.order c.requires.starts
    c.last_begun-r.ensures.there c.last_begun-r.ensures.begun c.last_begun-r.ensures.next c.requires.few c.requires.reach in
    e.some

pub returns-clause-chunk : goal.returns-clause-chunk
returns-clause-chunk c =
    let e : InEntry c.args.runs.now (length c.args.places.now) c.last_begun-r.result c.args.i (c.args.i - get_or c.args.starts.now c.last_begun-r.result 0) =
    entry_found c.args.runs.now (length c.args.places.now) c.args.starts.now c.args.i c.last_begun-r.result c.requires.order c.requires.starts
    c.last_begun-r.ensures.there c.last_begun-r.ensures.begun c.last_begun-r.ensures.next c.requires.few c.requires.reach in
    record {
      c = (get_or c.args.runs.now c.last_begun-r.result no_run).first - 1
          + (c.args.i - get_or c.args.starts.now c.last_begun-r.result 0) / (get_or c.args.runs.now c.last_begun-r.result no_run).per;
      is = e.is;
      before = e.before;
      place = sym c.at.ensures;
      description = e.description;
    }
