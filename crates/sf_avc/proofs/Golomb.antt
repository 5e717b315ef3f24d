-- What is known while the zero bits of a value are taken, and after its number is.
use Rattle.std.proofs.Common.{◌≡◌, ◌≢◌, ℕ, suc, ◌+◌, ◌-◌, ◌*◌, ◌%◌, ◌^◌, ◌≤◌, ◌<◌, min, Bool, true, false, cond, ltb, List, [], ◌∷◌, length, take, drop, Option, Some, None, Result, Ok, Err, ap, sym, refl, ◌∙◌, arith}
use Rattle.std.proofs.lemmas.List.{drop-drop, length-drop}
use Rattle.std.proofs.lemmas.Bool.{le-ltb, lt-ltb, ltb-true, ltb-false}
use Rattle.std.proofs.Math.Nat.{mod-eq_of_lt}
use Rattle.std.proofs.Math.Pow.{pow_mono}
use Rattle.sf_avc.specs.declared.sps.SpsFault.{SpsFault}
use Rattle.sf_avc.specs.declared.sps.SpsFault.TheVariants.{Truncated, ValueTooLarge}
use Rattle.sf_avc.specs.Bits.{Unread, number, first_bits}
use Rattle.sf_avc.specs.Sps.{Read, whole, fixed, plus, zeros_in_front, after_zeros, exp_golomb, at_most, value}
use Rattle.sf_avc.specs.inner.Taking.{NextBit}
use Rattle.sf_avc.specs.inner.Values.{Gives, TookZeros}
use Rattle.sf_avc.specs.inner.Values.{total as all}

-- one bit was taken from those that are left
taken : (now new : Unread) (bit : Bool) → NextBit now (Some bit) new → new.at + length new.bits ≡ now.at + length now.bits
taken now new bit next = let fewer : length now.bits ≡ suc (length new.bits) = ap (λ (bits : List Bool). length bits) next.0 in omega (arith, next.1, fewer)

-- no bit is left
ended : (now new : Unread) → NextBit now None new → new.at ≡ now.at + length now.bits
ended now new next = let none : length now.bits ≡ 0 = ap (λ (bits : List Bool). length bits) next.0 in omega (arith, next.1, none)

-- So many zero bits of a value were read.
pub record ZerosGo (begin : Unread) (k : ℕ) (now : Unread) : Type 0 where
  pub zeros : zeros_in_front begin.bits ≡ k + zeros_in_front now.bits
  pub rest : drop k begin.bits ≡ now.bits
  pub whole : now.at + length now.bits ≡ begin.at + length begin.bits
  pub place : now.at ≡ begin.at + k
  pub few : k ≤ 31

-- zero bits in front, by the first bit
front_zero : (bits rest : List Bool) → bits ≡ false ∷ rest → zeros_in_front bits ≡ suc (zeros_in_front rest)
unfolding zeros_in_front
front_zero bits rest e = rw e refl

front_one : (bits rest : List Bool) → bits ≡ true ∷ rest → zeros_in_front bits ≡ 0
unfolding zeros_in_front
front_one bits rest e = rw e refl

front_none : (bits : List Bool) → bits ≡ [] → zeros_in_front bits ≡ 0
unfolding zeros_in_front
front_none bits e = rw e refl

-- a value with more than 31 zero bits in front
many_zeros : (old : Unread) (max : ℕ) → 31 < zeros_in_front old.bits → value (all old) max old.bits ≡ Err (ValueTooLarge old.at)
unfolding value exp_golomb
many_zeros old max many =
    let place : all old - length old.bits ≡ old.at = omega arith in
    rw (lt-ltb 31 (zeros_in_front old.bits) many, place) refl

-- a value with at most 31 zero bits in front
few_zeros : (old : Unread) (max k : ℕ) (left : List Bool) → zeros_in_front old.bits ≡ k → drop k old.bits ≡ left → k ≤ 31
    → value (all old) max old.bits ≡ at_most max old.at (after_zeros (all old) k left)
unfolding value exp_golomb
few_zeros old max k left zeros rest few =
    let place : all old - length old.bits ≡ old.at = omega arith in
    rw (zeros, le-ltb 31 k few, place, rest) refl

-- one zero bit more was read
pub zeros_next : (begin now new : Unread) (k : ℕ) → ZerosGo begin k now → NextBit now (Some false) new → k ≢ 31 → ZerosGo begin (k + 1) new
zeros_next begin now new k go bit below = record {
  zeros = omega (arith, go.zeros, front_zero now.bits new.bits bit.0);
  rest = sym (drop-drop 1 k begin.bits) ∙ ap (λ (bits : List Bool). drop 1 bits) (go.rest ∙ bit.0);
  whole = taken now new false bit ∙ go.whole;
  place = omega (arith, bit.1, go.place);
  few = omega (arith, go.few, below);
}

-- the bit 1 after the zero bits was read
pub zeros_end : (begin now new : Unread) (k : ℕ) → ZerosGo begin k now → NextBit now (Some true) new → TookZeros begin k new
zeros_end begin now new k go bit = record {
  zeros = omega (arith, go.zeros, front_one now.bits new.bits bit.0);
  one = go.rest ∙ bit.0;
  after = record { total = taken now new true bit ∙ go.whole; few = omega (arith, bit.1, go.place, go.few) };
  few = go.few;
}

-- the bits end within the zero bits
pub zeros_cut : (begin now new : Unread) (k max : ℕ) → ZerosGo begin k now → NextBit now None new → value (all begin) max begin.bits ≡ Err (Truncated new.at)
zeros_cut begin now new k max go none =
    few_zeros begin max k [] (omega (arith, go.zeros, front_none now.bits none.0)) (go.rest ∙ none.0) go.few
    ∙ ap (λ (bit : ℕ). Err (Truncated bit)) (sym (ended now new none ∙ go.whole))

-- the 32nd zero bit was read
pub zeros_many : (begin now new : Unread) (k max : ℕ) → ZerosGo begin k now → NextBit now (Some false) new → k ≡ 31
    → value (all begin) max begin.bits ≡ Err (ValueTooLarge begin.at)
zeros_many begin now new k max go bit last = many_zeros begin max (omega (arith, last, go.zeros, front_zero now.bits new.bits bit.0))

-- a number that is there, or isn't
chosen_some : (short : Bool) (x y : Read) → cond short None (Some x) ≡ Some y → (short ≡ false) × (x ≡ y)
chosen_some true x y e = absurd (cc)
chosen_some false x y e = (refl, cc)

chosen_none : (short : Bool) (x : Read) → cond short None (Some x) ≡ None → short ≡ true
chosen_none true x e = refl
chosen_none false x e = absurd (cc)

-- a number that was taken
pub fixed_taken : (begin now : Unread) (count n : ℕ) → first_bits count begin.bits ≡ Some (n, now.bits)
    → now.at ≡ begin.at + min count (length begin.bits) → count ≤ 31 → Gives 31 begin (fixed (all begin) count begin.bits) (Ok n) now
unfolding fixed
fixed_taken begin now count n found place few =
    let chosen = chosen_some (ltb (length begin.bits) count) (number (take count begin.bits), drop count begin.bits) (n, now.bits) found in
    let enough : count ≤ length begin.bits = ltb-false _ _ chosen.0 in
    let left : length (drop count begin.bits) ≡ length now.bits = ap (λ (r : Read). length r.1) chosen.1 in
    (ap (λ (r : Option Read). whole (all begin) r) found, record { total = omega (arith, length-drop count begin.bits); few = omega arith })

-- the bits end within a number
pub fixed_cut : (begin now : Unread) (count : ℕ) → first_bits count begin.bits ≡ None
    → now.at ≡ begin.at + min count (length begin.bits) → fixed (all begin) count begin.bits ≡ Err (Truncated now.at)
unfolding fixed
fixed_cut begin now count found place =
    let short : length begin.bits < count = ltb-true _ _ (chosen_none (ltb (length begin.bits) count) (number (take count begin.bits), drop count begin.bits) found) in
    ap (λ (r : Option Read). whole (all begin) r) found ∙ ap (λ (bit : ℕ). Err (Truncated bit)) (omega arith)

-- a value by its zero bits and its number
pub value_by : (begin mid : Unread) (max k : ℕ) → TookZeros begin k mid
    → value (all begin) max begin.bits ≡ at_most max begin.at (plus (2 ^ k - 1) (fixed (all mid) k mid.bits))
value_by begin mid max k read =
    few_zeros begin max k (true ∷ mid.bits) read.zeros read.one read.few
    ∙ ap (λ (total : ℕ). at_most max begin.at (plus (2 ^ k - 1) (fixed total k mid.bits))) (sym read.after.total)

-- a power of two that fits four bytes
pub shifted : (k : ℕ) → k ≤ 31 → 1 * 2 ^ k % 2 ^ 32 ≡ 2 ^ k
shifted k few =
    let below : 2 ^ k ≤ 2 ^ 31 = pow_mono few in
    ap (λ (n : ℕ). n % 2 ^ 32) (omega arith) ∙ mod-eq_of_lt (omega (arith, below))

-- a value up to the greatest, and one above it
value_fits : (max at v : ℕ) (rest : List Bool) → v ≤ max → at_most max at (Ok (v, rest)) ≡ Ok (v, rest)
value_fits max at v rest fits = rw (le-ltb max v fits) refl

value_passes : (max at v : ℕ) (rest : List Bool) → max < v → at_most max at (Ok (v, rest)) ≡ Err (ValueTooLarge at)
value_passes max at v rest passes = rw (lt-ltb max v passes) refl

-- the fault of a number is that of its value
pub value_cut : (begin mid new : Unread) (max k : ℕ) (fault : SpsFault) → TookZeros begin k mid
    → Gives 31 mid (fixed (all mid) k mid.bits) (Err fault) new → value (all begin) max begin.bits ≡ Err fault
value_cut begin mid new max k fault read cut =
    value_by begin mid max k read ∙ ap (λ (found : Result Read SpsFault). at_most max begin.at (plus (2 ^ k - 1) found)) cut

-- a value by the sum that is made of its parts
value_with : (begin mid new : Unread) (max k n v : ℕ) → TookZeros begin k mid → Gives 31 mid (fixed (all mid) k mid.bits) (Ok n) new
    → v ≡ 1 * 2 ^ k % 2 ^ 32 - 1 + n → value (all begin) max begin.bits ≡ at_most max begin.at (Ok (v, new.bits))
value_with begin mid new max k n v read number_read sum =
    let same : 2 ^ k - 1 + n ≡ v = ap (λ (power : ℕ). power - 1 + n) (sym (shifted k read.few)) ∙ sym sum in
    value_by begin mid max k read
    ∙ ap (λ (found : Result Read SpsFault). at_most max begin.at (plus (2 ^ k - 1) found)) number_read.0
    ∙ ap (λ (value_read : ℕ). at_most max begin.at (Ok (value_read, new.bits))) same

-- a value that is taken
pub value_read : (begin mid new : Unread) (max k n v : ℕ) → TookZeros begin k mid → Gives 31 mid (fixed (all mid) k mid.bits) (Ok n) new
    → v ≡ 1 * 2 ^ k % 2 ^ 32 - 1 + n → v ≤ max → Gives 63 begin (value (all begin) max begin.bits) (Ok v) new
value_read begin mid new max k n v read number_read sum fits = (
  value_with begin mid new max k n v read number_read sum ∙ value_fits max begin.at v new.bits fits,
  record { total = number_read.1.total ∙ read.after.total; few = omega (arith, number_read.1.few, read.after.few) },
)

-- a value above the greatest
pub value_large : (begin mid new : Unread) (max k n v : ℕ) → TookZeros begin k mid → Gives 31 mid (fixed (all mid) k mid.bits) (Ok n) new
    → v ≡ 1 * 2 ^ k % 2 ^ 32 - 1 + n → max < v → value (all begin) max begin.bits ≡ Err (ValueTooLarge begin.at)
value_large begin mid new max k n v read number_read sum passes =
    value_with begin mid new max k n v read number_read sum ∙ value_passes max begin.at v new.bits passes
