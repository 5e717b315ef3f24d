-- A length in one to four bytes, from the bytes that were read so far on.
use Rattle.std.proofs.Common.{◌≡◌, ℕ, zero, suc, ◌+◌, ◌*◌, ◌^◌, ◌%◌, ◌<◌, ◌≤◌, List, [], ◌∷◌, length, Some, None, refl, arith}
use Rattle.std.proofs.lemmas.Bool.{le-ltb, lt-ltb}
use Rattle.std.proofs.Math.Nat.{pow-suc}
use Rattle.sf_entry.specs.Esds.{length_in}

-- the bytes end
pub length_ends : (more number : ℕ) (bytes : List ℕ) → length bytes ≡ 0 → length_in more number bytes ≡ None
unfolding length_in
length_ends zero number bytes none = refl
length_ends (suc more) number [] none = refl
length_ends (suc more) number (b ∷ bytes) none = absurd (omega (arith, none))

-- the byte in front is the last one
pub length_last : (more number b : ℕ) (bytes all : List ℕ) → all ≡ b ∷ bytes → 0 < more → b < 128 → length_in more number all ≡ Some (128 * number + b % 128, bytes)
unfolding length_in
length_last zero number b bytes all e some lt = absurd (omega (arith, some))
length_last (suc more) number b bytes all e some lt = rw (e, lt-ltb b 128 lt) refl

-- another one follows the byte in front
pub length_more : (more left number b : ℕ) (bytes all : List ℕ) → all ≡ b ∷ bytes → more ≡ suc left → 128 ≤ b → length_in more number all ≡ length_in left (128 * number + b % 128) bytes
unfolding length_in
length_more more left number b bytes all e one le = rw (e, one, le-ltb b 128 le) refl

-- no fifth byte is read
pub length_none : (more number : ℕ) (bytes : List ℕ) → more ≡ 0 → length_in more number bytes ≡ None
unfolding length_in
length_none more number bytes e = rw e refl

-- numbers with seven bits for each of fewer than four bytes are small
pub small_length : (count number : ℕ) → count < 4 → number < 128 ^ count → number < 2097152
small_length zero number lt small = omega (arith, small)
small_length (suc zero) number lt small = omega (arith, small)
small_length (suc (suc zero)) number lt small = omega (arith, small)
small_length (suc (suc (suc zero))) number lt small = omega (arith, small)
small_length (suc (suc (suc (suc count)))) number lt small = absurd (omega (arith, lt))

-- one byte more
pub length_grows : (count number b : ℕ) → number < 128 ^ count → b < 128 → 128 * number + b < 128 ^ (count + 1)
length_grows count number b small lt =
    let more : 128 ^ (count + 1) ≡ 128 ^ count * 128 = let one_more : count + 1 ≡ suc count = omega arith in rw one_more (pow-suc 128 count) in
    omega (arith, more, small, lt)
