use Rattle.std.proofs.Common.{◌+◌, OnSome, None, ◌≡◌, ◌<◌, List, length, set, get_or, drop, Option, Some, MatchOption, sym, ap, subst, ◌∙◌, arith}
use Rattle.std.specs.Prelude.{slice_get}
use Rattle.sf_tick.specs.declared.types.Chunk.{Chunk}
use Rattle.sf_interleave.specs.Waiting.{how_many, earliest_front, without_front, OfTheirTracks}
use Rattle.sf_interleave.proofs.Waiting.{picked_fewer, picked_front, picked_inside, popped_is, their_without, waiting_read}
use Rattle.sf_interleave.proofs.pending.Pending.pick.Goals as goal

-- what is picked of lists that keep to their tracks, where the list of the picked chunk's track loses its first one
record Picked (lists : List (List Chunk)) (c : Chunk) (new : List Chunk) (result : Option Chunk) : Type 0 where
  pub inside : c.track < length lists
  pub theirs : OfTheirTracks 0 (set lists c.track new)
  pub found : result ≡ earliest_front lists
  pub fewer : how_many (set lists c.track new) + 1 ≡ how_many lists
  pub rest : set lists c.track new ≡ without_front lists c.track

picked_of : (lists : List (List Chunk)) (c : Chunk) (old new : List Chunk) (result : Option Chunk) → OfTheirTracks 0 lists → earliest_front lists ≡ Some c
    → old ≡ get_or lists c.track old → new ≡ drop 1 old → result ≡ slice_get old 0 → Picked lists c new result
picked_of lists c old new result all e read less got =
    let inside = picked_inside lists c all e in
    let rest = popped_is lists c.track old new inside read less in
    let P : List (List Chunk) → Type 0 = λ ls. OfTheirTracks 0 ls in
    record {
      inside = inside;
      theirs = subst P (sym rest) (their_without lists c.track all);
      found = got ∙ ap (λ (cs : List Chunk). slice_get cs 0) (waiting_read lists c.track old inside read) ∙ picked_front lists c all e ∙ sym e;
      fewer = ap (λ (ls : List (List Chunk)). how_many ls + 1) rest ∙ picked_fewer lists c all e;
      rest = rest;
    }

pub index_mut-requires : goal.index_mut-requires
index_mut-requires c =
    let e : earliest_front c.self.inside.queues.items ≡ Some c.in-Some.chunk.now = ap earliest_front c.self.view_is ∙ sym c.in-Some.ensures in
    omega (arith, picked_inside c.self.inside.queues.items c.in-Some.chunk.now c.self.invariant e)

pub invariant_of-self : goal.invariant_of-self
invariant_of-self c =
    let e : earliest_front c.self.inside.queues.items ≡ Some c.in-Some.chunk.now = ap earliest_front c.self.view_is ∙ sym c.in-Some.ensures in
    (picked_of c.self.inside.queues.items c.in-Some.chunk.now c.index_mut.result.now c.pop.new.self c.pop.result c.self.invariant e c.index_mut.ensures.value c.pop.ensures.rest c.pop.ensures.chunk).theirs

rest_of : (r : Option Chunk) (c : Chunk) (lists now new : List (List Chunk)) → r ≡ Some c → lists ≡ now → new ≡ without_front lists c.track → MatchOption r (new ≡ now) (λ d. new ≡ without_front now d.track)
rest_of None c lists now new e view is = cc
rest_of (Some d) c lists now new e view is =
    let same : c ≡ d = cc in
    is ∙ ap (λ (ls : List (List Chunk)). without_front ls c.track) view ∙ ap (λ (x : Chunk). without_front now x.track) same

pub returns-clause-chunk : goal.returns-clause-chunk
returns-clause-chunk c =
    let e : earliest_front c.self.inside.queues.items ≡ Some c.in-Some.chunk.now = ap earliest_front c.self.view_is ∙ sym c.in-Some.ensures in
    (picked_of c.self.inside.queues.items c.in-Some.chunk.now c.index_mut.result.now c.pop.new.self c.pop.result c.self.invariant e c.index_mut.ensures.value c.pop.ensures.rest c.pop.ensures.chunk).found
    ∙ ap earliest_front c.self.view_is

pub returns-clause-rest : goal.returns-clause-rest
returns-clause-rest c =
    let e : earliest_front c.self.inside.queues.items ≡ Some c.in-Some.chunk.now = ap earliest_front c.self.view_is ∙ sym c.in-Some.ensures in
    let picked = picked_of c.self.inside.queues.items c.in-Some.chunk.now c.index_mut.result.now c.pop.new.self c.pop.result c.self.invariant e c.index_mut.ensures.value c.pop.ensures.rest c.pop.ensures.chunk in
    rest_of c.pop.result c.in-Some.chunk.now c.self.inside.queues.items c.args.self.now _ (picked.found ∙ e) c.self.view_is picked.rest

on_some : (r : Option Chunk) (P : Type 0) → P → OnSome r P
on_some None P p = tt
on_some (Some c) P p = p

pub returns-clause-fewer : goal.returns-clause-fewer
returns-clause-fewer c =
    let e : earliest_front c.self.inside.queues.items ≡ Some c.in-Some.chunk.now = ap earliest_front c.self.view_is ∙ sym c.in-Some.ensures in
    let picked = picked_of c.self.inside.queues.items c.in-Some.chunk.now c.index_mut.result.now c.pop.new.self c.pop.result c.self.invariant e c.index_mut.ensures.value c.pop.ensures.rest c.pop.ensures.chunk in
    on_some c.pop.result _ (picked.fewer ∙ ap how_many c.self.view_is)
