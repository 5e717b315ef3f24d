-- Whether bytes are left.
use Rattle.std.proofs.Common.{◌≡◌, ℕ, zero, suc, ◌<◌, ◌==◌, true, false, arith}
use Rattle.std.proofs.lemmas.Bool.{eqb-true}

pub some_left : (n : ℕ) → (n == 0) ≡ false → 0 < n
some_left zero e = absurd (cc e)
some_left (suc n) e = omega arith

pub none_left : (n : ℕ) → (n == 0) ≡ true → n ≡ 0
none_left n e = eqb-true n 0 e
