use Rattle.std.proofs.Common.{◌≡◌, ℕ, true, List, take, drop, refl, sym, ap, ◌∙◌, arith, inr}
use Rattle.std.proofs.lemmas.List.{map-append}
use Rattle.sf_meaning.specs.inner.Found.{pieces}
use Rattle.sf_box.proofs.BoxLaws.{box_step, box_wrong, box_end}
use Rattle.sf_meaning.proofs.WholeFile.{some_left, none_left}
use Rattle.sf_meaning.proofs.movie_file.top_boxes.Goals as goal

pub loop-rest-preserved : goal.loop-rest-preserved
loop-rest-preserved c =
    let rest : List ℕ = c.loop-rest.rest.now in
    let head = c.in-Ok.head in
    let body : c.split_at-in-Ok.result.1.now ≡ drop head.head (take head.size rest) = c.split_at-in-Ok.ensures.back ∙ ap (drop head.head) c.split_at.ensures.front in
    record {
      whole = rw (c.in_ok-push-in-Ok.ensures.ok, map-append, body, c.split_at.ensures.back) (box_step true c.loop-rest.at rest head (pieces c.loop-rest.found) _ (sym c.in-Ok.ensures.head) c.loop-rest.invariant.whole);
      place = omega (arith, c.loop-rest.invariant.place, c.split_at.ensures.back_len);
    }

pub returns-in-Err : goal.returns-in-Err
returns-in-Err c =
    inr (rw (box_wrong true c.loop-rest.at c.loop-rest.rest.now c.in-Err.fault (pieces c.loop-rest.found) _ (some_left _ (sym c.is_empty.ensures ∙ c.loop-rest-test.true)) (sym c.in-Err.ensures.head) c.loop-rest.invariant.whole) refl)

pub returns : goal.returns
returns c = rw (box_end true c.loop-rest.at c.loop-rest.rest.now (pieces c.loop-rest.found) _ (none_left _ (sym c.is_empty.ensures ∙ c.loop-rest-test.false)) c.loop-rest.invariant.whole) refl
