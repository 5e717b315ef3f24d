-- Contents and sinks that grow.
use Rattle.std.proofs.Common.{◌≡◌, ℕ, ◌+◌, ◌≤◌, List, [], ◌++◌, length, take, Option, Some, None, refl, ap, sym, ◌∙◌, append_assoc, append-nil, length-append, arith}
use Rattle.std.proofs.lemmas.List.{take-append-le}
use Rattle.std.proofs.Math.Seq.{take-append-add, take-length}
use Rattle.sf_world.specs.Contents.{grown}
use Rattle.sf_world.specs.Views.{Gains, GainsPart, SinkView}

pub grown_none : (content : Option (List ℕ)) → grown content [] ≡ content
grown_none None = refl
grown_none (Some bytes) = ap (λ (bs : List ℕ). Some bs) (append-nil bytes)

pub grown_twice : (content : Option (List ℕ)) (a b : List ℕ) → grown (grown content a) b ≡ grown content (a ++ b)
grown_twice None a b = refl
grown_twice (Some bytes) a b = ap (λ (bs : List ℕ). Some bs) (append_assoc bytes a b)

-- what was left as it is gained the part of no bytes
pub part_none : (a : List ℕ) (before after : SinkView) → after ≡ before → GainsPart a before after
part_none a before after e = record {
  count = 0;
  part = omega arith;
  content = ap (λ (v : SinkView). v.content) e ∙ sym (grown_none before.content);
  size = ap (λ (v : SinkView). v.size) e ∙ omega arith;
}

-- all bytes are a first part of themselves
pub part_all : (a : List ℕ) (before after : SinkView) → Gains a before after → GainsPart a before after
part_all a before after g = record {
  count = length a;
  part = omega arith;
  content = g.content ∙ ap (grown before.content) (sym (take-length a));
  size = g.size;
}

-- a part of the front
pub part_front : (a b : List ℕ) (before after : SinkView) → GainsPart a before after → GainsPart (a ++ b) before after
part_front a b before after g =
    let le : g.count ≤ length a = g.part in
    record {
      count = g.count;
      part = omega (arith, length-append a b);
      content = g.content ∙ ap (grown before.content) (sym (take-append-le g.count a b le));
      size = g.size;
    }

-- all of the front, and a part of what comes after it
pub part_after : (a b : List ℕ) (before middle after : SinkView) → Gains a before middle → GainsPart b middle after → GainsPart (a ++ b) before after
part_after a b before middle after x g =
    record {
      count = length a + g.count;
      part = omega (arith, length-append a b, g.part);
      content = g.content ∙ ap (λ (c : Option (List ℕ)). grown c (take g.count b)) x.content ∙ grown_twice before.content a (take g.count b)
          ∙ ap (grown before.content) (sym (take-append-add a b g.count));
      size = omega (arith, g.size, x.size);
    }

-- bytes gained one after the other
pub gains_twice : (a b : List ℕ) (before middle after : SinkView) → Gains a before middle → Gains b middle after → Gains (a ++ b) before after
gains_twice a b before middle after x y =
    record {
      content = y.content ∙ ap (λ (c : Option (List ℕ)). grown c b) x.content ∙ grown_twice before.content a b;
      size = omega (arith, y.size, x.size, length-append a b);
    }

pub ruleset grown_facts = (grown_none, grown_twice, part_none, part_all, part_front, part_after, gains_twice)
