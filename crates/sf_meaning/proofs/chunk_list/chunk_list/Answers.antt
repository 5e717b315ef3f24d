use Rattle.std.proofs.Common.{◌≡◌, ℕ, ◌+◌, ◌-◌, List, ◌++◌, [], ◌∷◌, take, drop, get_or, length, refl, sym, ap, ◌∙◌, arith}
use Rattle.std.proofs.lemmas.List.{append-nil, map-append, take_all, length-map, length_push, drop_more, drop_all}
use Rattle.sf_meaning.specs.inner.Entries.{held_as_listed, places_as, spreads_as, from_chunk}
use Rattle.sf_meaning.specs.Tables.{chunk_entries, spread_over}
use Rattle.sf_meaning.specs.declared.entries.ChunkAt.{ChunkAt}
use Rattle.sf_meaning.proofs.EntryLemmas.{pushed_step, chunk_step, Begins, begins}
use Rattle.sf_meaning.proofs.chunk_list.chunk_list.Goals as goal

pub loop-i-init : goal.loop-i-init
loop-i-init c =
    let count : ℕ = c.len-count.result in
    let b : Begins c.args.runs.now c.in-Some.first.now c.in-Some.others.now count = begins c.args.runs.now c.in-Some.first.now c.in-Some.others.now count c.in-Some.ensures.cases.0 c.requires.rising in
    record {
      held = rw c.new-chunks.ensures.items (b.held);
      places = rw c.new-chunks.ensures.items refl;
      many = rw c.new-chunks.ensures.items refl;
      rising = b.up;
    }

pub loop-i-preserved : goal.loop-i-preserved
loop-i-preserved c =
    let count : ℕ = c.len-count.result in
    let held = c.entry_for.result.0 in
    let left = c.entry_for.result.1.now in
    let step = chunk_step held left c.loop-i.i count c.loop-i-test.true c.entry_for.ensures.rising in
    let place : drop c.loop-i.i c.args.places.now ≡ get_or c.args.places.now c.loop-i.i 0 ∷ drop (c.loop-i.i + 1) c.args.places.now = drop_more c.args.places.now c.loop-i.i 0 (omega (arith, c.loop-i-test.true, c.len-count.ensures)) in
    let same : take (count - c.loop-i.i) (spread_over (from_chunk (c.loop-i.i + 1) c.loop-i.current ∷ spreads_as c.loop-i.behind.now) count) ≡ take (count - c.loop-i.i) (spread_over (from_chunk (c.loop-i.i + 1) held ∷ spreads_as left) count) = ap (take (count - c.loop-i.i)) (c.entry_for.ensures.same count) in
    record {
      held = rw (c.in_ok-push.ensures.items, map-append) (pushed_step (held_as_listed c.loop-i.chunks.items) _ _ _ _ c.loop-i.invariant.held (same ∙ step));
      places = rw (c.in_ok-push.ensures.items, map-append, c.at.ensures) (pushed_step (places_as c.loop-i.chunks.items) _ _ _ _ c.loop-i.invariant.places place);
      many = rw c.in_ok-push.ensures.items (length_push c.loop-i.chunks.items _ ∙ ap (λ (n : ℕ). n + 1) c.loop-i.invariant.many);
      rising = c.entry_for.ensures.rising;
    }

pub returns : goal.returns
returns c =
    let count : ℕ = c.len-count.result in
    let none : count - c.loop-i.i ≡ 0 = omega arith in
    let held : held_as_listed c.loop-i.chunks.items ++ [] ≡ _ = rw none at c.loop-i.invariant.held in
    let last : drop c.loop-i.i c.args.places.now ≡ [] = drop_all c.loop-i.i c.args.places.now (omega (arith, c.len-count.ensures)) in
    let whole : places_as c.loop-i.chunks.items ≡ c.args.places.now = sym (append-nil (places_as c.loop-i.chunks.items)) ∙ ap (λ (ps : List ℕ). places_as c.loop-i.chunks.items ++ ps) (sym last) ∙ c.loop-i.invariant.places in
    let n : length (places_as c.loop-i.chunks.items) ≡ length c.loop-i.chunks.items = length-map c.loop-i.chunks.items (λ (x : ChunkAt). x.place) in
    record {
      held = sym (append-nil (held_as_listed c.loop-i.chunks.items)) ∙ held ∙ ap (chunk_entries (spreads_as c.args.runs.now)) c.len-count.ensures;
      places = sym (take_all (length c.loop-i.chunks.items) (places_as c.loop-i.chunks.items) (omega (arith, n))) ∙ ap (take (length c.loop-i.chunks.items)) whole;
    }
