use Rattle.std.proofs.Common.{ℕ, ◌+◌, ◌<◌, ◌≤◌, ◌++◌, List, length, string_bytes, drop, ap, ◌∙◌, arith}
use Rattle.sf_app.specs.MakeEnds.{summary_lines}
use Rattle.sf_app.proofs.Making.{lines_more, no_more}
use Rattle.sf_app.proofs.make.summary_lines.Goals as goal

pub loop-number-preserved : goal.loop-number-preserved
loop-number-preserved c =
    let i : ℕ = c.loop-number.number in
    let lt : i < length c.args.tracks.now = omega (arith, c.loop-number-test.true) in
    ap (λ (ls : List ℕ). ls ++ summary_lines (i + 1) (drop (i + 1) c.args.tracks.now)) c.in_ok-push_str.ensures.bytes
    ∙ lines_more (string_bytes c.loop-number.lines) c.as_str.result.now _ i _ c.args.tracks.now lt (c.as_str.ensures.value ∙ c.in_ok-line.ensures) c.loop-number.invariant

pub returns : goal.returns
returns c =
    let le : length c.args.tracks.now ≤ c.loop-number.number = omega (arith, c.loop-number-test.false) in
    no_more (string_bytes c.loop-number.lines) _ c.loop-number.number c.args.tracks.now le c.loop-number.invariant
