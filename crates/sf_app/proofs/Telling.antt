-- The lines of a recording that is done, one after the other.
use Rattle.std.proofs.Common.{◌≡◌, ℕ, suc, ◌+◌, ◌<◌, List, [], ◌∷◌, ◌++◌, length, take, sym, ap, ◌∙◌, append_assoc, append-nil, arith}
use Rattle.std.specs.Prelude.{get_or}
use Rattle.std.proofs.lemmas.List.{take_more, length-take-le}
use Rattle.sf_app.specs.AnswerText.{value_line, value_lines}

-- one more line at the end
pub one_more_line : (word : List ℕ) (number : ℕ) (values : List ℕ) (value : ℕ) → value_lines word number (values ++ value ∷ []) ≡ value_lines word number values ++ value_line word (number + length values) value
one_more_line word number [] value = let same : number + 0 ≡ number = omega arith in append-nil _ ∙ ap (λ (n : ℕ). value_line word n value) (sym same)
one_more_line word number (v ∷ values) value =
    let here : (number + 1) + length values ≡ number + suc (length values) = omega arith in
    ap (λ (ls : List ℕ). value_line word number v ++ ls) (one_more_line word (number + 1) values value ∙ ap (λ (n : ℕ). value_lines word (number + 1) values ++ value_line word n value) here)
    ∙ sym (append_assoc (value_line word number v) (value_lines word (number + 1) values) (value_line word (number + suc (length values)) value))

-- the line of the next value, after those of the values before it
pub next_line : (word : List ℕ) (number index : ℕ) (values : List ℕ) (value d : ℕ) → index < length values → get_or values index d ≡ value
    → value_lines word number (take (index + 1) values) ≡ value_lines word number (take index values) ++ value_line word (number + index) value
next_line word number index values value d lt at =
    let long : length (take index values) ≡ index = length-take-le index values (omega (arith, lt)) in
    ap (λ (vs : List ℕ). value_lines word number vs) (take_more values index d lt ∙ ap (λ (v : ℕ). take index values ++ v ∷ []) at)
    ∙ one_more_line word number (take index values) value ∙ ap (λ (n : ℕ). value_lines word number (take index values) ++ value_line word (number + n) value) long
