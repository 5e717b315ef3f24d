use Rattle.std.proofs.Common.{ℕ, List, ◌≡◌, ◌≤◌, ◌-◌, ◌∙◌, ◌∷◌, [], ap, length, arith}
use Rattle.std.proofs.lemmas.Slice.{take-put_mid}
use Rattle.sf_avc.proofs.Tiling.{number_of}
use Rattle.sf_avc.proofs.prefixed.length_in.Goals as goal

pub returns : goal.returns
returns c =
    let bytes : List ℕ = c.args.bytes.now in
    let moved = c.copy_from_slice.ensures.after in
    let few : length bytes ≤ 4 = c.requires in
    let long : length c.copy_from_slice.new.self ≡ length bytes = ap (λ (m : List ℕ). length m) moved in
    c.read_u32.ensures
    ∙ number_of bytes c.copy_from_slice.new.self _ few moved
    (take-put_mid (4 - length bytes) (4 - (4 - length bytes)) (0 ∷ 0 ∷ 0 ∷ 0 ∷ []) c.copy_from_slice.new.self 4 (omega (arith, long, few)) (omega arith))
