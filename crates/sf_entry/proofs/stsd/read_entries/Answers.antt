use Rattle.std.proofs.Common.{rules, ◌≡◌, ℕ, ◌+◌, ◌<◌, List, ◌∷◌, [], Result, length, drop, get_or, sym, ap, ◌∙◌}
use Rattle.std.proofs.lemmas.List.{drop_more, drop_all}
use Rattle.sf_box.specs.declared.types.BoxHead.{BoxHead}
use Rattle.sf_box.specs.Reading.{piece_at, pieces_at}
use Rattle.sf_entry.specs.declared.types.EntryAt.{EntryAt}
use Rattle.sf_entry.specs.declared.types.EntryFault.{EntryFault}
use Rattle.sf_entry.specs.Stsd.{entry_at, entries_in, Stops}
use Rattle.sf_entry.proofs.EntryLemmas.{with_entries, stops_on, entries_next, entries_stop, entries_end}
use Rattle.sf_entry.proofs.stsd.read_entries.Goals as goal

-- the entries of the heads from one on, by that head and the others
head_first : (base : ℕ) (bytes : List ℕ) (heads : List BoxHead) (i : ℕ) (none : BoxHead) (front : List EntryAt) (all : Result (List EntryAt) EntryFault) → i < length heads
    → with_entries front (entries_in (pieces_at base bytes (drop i heads))) ≡ all
    → with_entries front (entries_in (piece_at base bytes (get_or heads i none) ∷ pieces_at base bytes (drop (i + 1) heads))) ≡ all
head_first base bytes heads i none front all lt so_far =
    ap (λ (hs : List BoxHead). with_entries front (entries_in (pieces_at base bytes hs))) (sym (drop_more heads i none lt)) ∙ so_far

pub returns-in_err-entry : goal.returns-in_err-entry
returns-in_err-entry c =
    let stops : Stops c.in_err-entry.field-0.0 (entries_in (pieces_at c.args.base c.args.bytes.now c.args.heads.now)) =
    stops_on c.in_err-entry.field-0.0 (entry_at _) (entries_in (pieces_at c.args.base c.args.bytes.now c.args.heads.now))
    (λ fault stop. entries_stop c.loop-head.entries fault _ (pieces_at c.args.base c.args.bytes.now (drop (c.loop-head.head-index + 1) c.args.heads.now)) _ stop
    (head_first c.args.base c.args.bytes.now c.args.heads.now c.loop-head.head-index _ c.loop-head.entries _ c.loop-head-test.true c.loop-head.invariant))
    c.in_err-entry.ensures in
    search rules

pub loop-head-preserved : goal.loop-head-preserved
loop-head-preserved c =
    entries_next c.loop-head.entries c.push.new.self c.in_ok-entry.entry _ (pieces_at c.args.base c.args.bytes.now (drop (c.loop-head.head-index + 1) c.args.heads.now)) _ c.in_ok-push.ensures.ok
    c.in_ok-entry.ensures
    (head_first c.args.base c.args.bytes.now c.args.heads.now c.loop-head.head-index _ c.loop-head.entries _ c.loop-head-test.true c.loop-head.invariant)

pub returns : goal.returns
returns c =
    let none : drop c.loop-head.head-index c.args.heads.now ≡ [] = drop_all c.loop-head.head-index c.args.heads.now c.loop-head-test.false in
    entries_end c.loop-head.entries _
    (ap (λ (hs : List BoxHead). with_entries c.loop-head.entries (entries_in (pieces_at c.args.base c.args.bytes.now hs))) (sym none) ∙ c.loop-head.invariant)
