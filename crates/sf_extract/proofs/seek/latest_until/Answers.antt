use Rattle.std.proofs.Common.{◌≡◌, ◌≢◌, ◌<◌, length, rules, arith, sym, ap, ◌∙◌}
use Rattle.sf_extract.specs.declared.types.Sync.{Sync}
use Rattle.std.proofs.lemmas.Int.{ints}
use Rattle.sf_extract.specs.inner.Orders.{nth, ordered}
use Rattle.sf_extract.proofs.OrderLemmas.{latest_at, none_until}
use Rattle.sf_extract.proofs.seek.latest_until.Goals as goal
use Rattle.sf_extract.proofs.seek.latest_until.Goals.{then-before-order_len+else-next-us, else-before-order_len}

pub returns-then-next-us : goal.returns-then-next-us
returns-then-next-us c =
    let same : c.order_at-next.result.shown_us ≡ c.args.us = first_of (grind (arith, ints, c.if-next-us.true), search rules) in
    rw c.order_at-next.ensures (latest_at _ (ordered c.args.movie.now.movie c.args.t c.args.order.now) c.args.us c.args.before c.requires.order.in_order c.requires.split (omega (arith, c.order_len.ensures, c.if-before-order_len.true)) (ap (λ (s : Sync). s.shown_us) (sym c.order_at-next.ensures) ∙ same))

pub returns-then-before-eq0 : goal.returns-then-before-eq0
returns-then-before-eq0 c =
    let other : c.args.before < length (ordered c.args.movie.now.movie c.args.t c.args.order.now) → (nth (ordered c.args.movie.now.movie c.args.t c.args.order.now) c.args.before).shown_us ≢ c.args.us = elim c.if-before-order_len.branch as (λ _. c.args.before < length (ordered c.args.movie.now.movie c.args.t c.args.order.now) → (nth (ordered c.args.movie.now.movie c.args.t c.args.order.now) c.args.before).shown_us ≢ c.args.us) [
      | then-before-order_len+else-next-us w ↦ λ lt e.
          (let same : w.order_at-next.result.shown_us ≡ c.args.us = ap (λ (s : Sync). s.shown_us) w.order_at-next.ensures ∙ e in absurd (first_of (grind (arith, ints, w.if-next-us.false, same), search rules)))
      | else-before-order_len w ↦ λ lt e. absurd (omega (arith, lt, c.order_len.ensures, w.if-before-order_len.false))
    ] in
    none_until _ (ordered c.args.movie.now.movie c.args.t c.args.order.now) c.args.us c.args.before c.requires.order.in_order c.requires.split other (omega (arith, c.if-before-eq0.true))
