use Rattle.std.proofs.Common.{◌≡◌, ℕ, List, [], length, replicate, None, refl, sym, ap, subst, ◌∙◌, arith}
use Rattle.std.proofs.lemmas.List.{length-replicate}
use Rattle.sf_tick.specs.declared.types.Chunk.{Chunk}
use Rattle.sf_gather.specs.Proper.{Tail}
use Rattle.sf_series.specs.inner.Tails.{fresh_tail}
use Rattle.sf_series.specs.inner.Waits.{GoesOn}
use Rattle.sf_series.proofs.Answers.{of_some, some_of}
use Rattle.sf_series.proofs.Going.{goes_fresh}
use Rattle.sf_series.proofs.Standing.{fresh_stands}
use Rattle.sf_series.proofs.series.Series.start.Goals as goal

pub invariant_of-result : goal.invariant_of-result
invariant_of-result g c =
    let setups = c.args.setups.items in
    let n : c.len-tracks.result ≡ length setups = omega (arith, c.len-tracks.ensures) in
    let pending : c.in_ok-pending.pending ≡ replicate (length setups) [] = c.in_ok-pending.ensures ∙ ap (λ (m : ℕ). replicate m []) n in
    let tails : c.in_ok-tails.tails.items ≡ replicate (length setups) fresh_tail = c.in_ok-tails.ensures ∙ ap (λ (m : ℕ). replicate m fresh_tail) n in
    let file = some_of c.in_ok-files.files.file c.in_ok-files.ensures.is_open in
    let fresh = of_some file.0 _ file.1 c.in_ok-files.ensures.fresh in
    subst (λ (ls : List (List Chunk)). GoesOn ls c.in_ok-tails.tails.items c.in_ok-files.files None) (sym pending)
    (goes_fresh setups c.in_ok-tails.tails.items file.0 c.in_ok-files.ensures.setups file.1 fresh (ap (λ (ts : List Tail). length ts) tails ∙ length-replicate {A = Tail} (length setups) fresh_tail))

pub returns-clause-stands : goal.returns-clause-stands
returns-clause-stands g c =
    let setups = c.args.setups.items in
    let n : c.len-tracks.result ≡ length setups = omega (arith, c.len-tracks.ensures) in
    let pending : c.in_ok-pending.pending ≡ replicate (length setups) [] = c.in_ok-pending.ensures ∙ ap (λ (m : ℕ). replicate m []) n in
    let tails : c.in_ok-tails.tails.items ≡ replicate (length setups) fresh_tail = c.in_ok-tails.ensures ∙ ap (λ (m : ℕ). replicate m fresh_tail) n in
    fresh_stands setups pending tails c.in_ok-files.ensures.setups c.in_ok-files.ensures.stands refl
