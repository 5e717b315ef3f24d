use Rattle.std.proofs.Common.{◌≡◌, ℕ, ◌+◌, ◌-◌, Bool, List, length, take, min, Result, Ok, Err, ap, sym, ◌∙◌, arith, IfOk}
use Rattle.sf_box.specs.declared.types.BoxHead.{BoxHead}
use Rattle.sf_box.specs.declared.types.BoxFault.{BoxFault}
use Rattle.sf_box.specs.Boxes.{Takes, head_in, head_of}
use Rattle.sf_box.proofs.Boxes.{head_takes}
use Rattle.sf_box.proofs.Heads.{head_place, first_tells}
use Rattle.sf_box.proofs.reading.next_head.Goals as goal

takes_of : (top : Bool) (at : ℕ) (rest : List ℕ) (r : Result BoxHead BoxFault) → r ≡ head_of top at rest → IfOk r (λ h. Takes rest h)
takes_of top at rest (Ok h) e = head_takes top at rest h (sym e)
takes_of top at rest (Err f) e = tt

place_of : (top : Bool) (at : ℕ) (rest : List ℕ) (r : Result BoxHead BoxFault) → r ≡ head_of top at rest → IfOk r (λ h. h.at ≡ at)
place_of top at rest (Ok h) e = head_place top at rest h (sym e)
place_of top at rest (Err f) e = tt

pub returns : goal.returns
returns c =
    let rest : List ℕ = c.args.rest.now in
    let room : (c.args.at + length rest) - c.args.at ≡ length rest = omega arith in
    let count : c.min.result ≡ min 16 (length rest) = omega arith in
    let first : c.split_at.result.0.now ≡ take (min 16 (length rest)) rest = c.split_at.ensures.front ∙ ap (λ (n : ℕ). take n rest) count in
    let head : c.read_head.result ≡ head_of c.args.top c.args.at rest =
    c.read_head.ensures.head ∙ ap (λ (n : ℕ). head_in c.args.top c.args.at n c.split_at.result.0.now) room ∙ first_tells c.args.top c.args.at rest c.split_at.result.0.now first in
    record { head = head; takes = takes_of c.args.top c.args.at rest c.read_head.result head; place = place_of c.args.top c.args.at rest c.read_head.result head }
