-- Bits that are taken one after another.
use Rattle.std.proofs.Common.{◌≡◌, ℕ, suc, ◌+◌, ◌*◌, ◌^◌, ◌<◌, ◌≤◌, min, List, [], ◌∷◌, ◌++◌, length, take, drop, get_or, Bool, true, false, refl, sym, ap, ◌∙◌, arith, None, Some, ltb, if◌then◌else◌}
use Rattle.std.proofs.lemmas.List.{length-drop, drop_more, take_more}
use Rattle.std.proofs.Math.Nat.{pow-suc}
use Rattle.std.proofs.lemmas.Bool.{lt-ltb, le-ltb}
use Rattle.std.proofs.lemmas.List.Sums.{fold_push}
use mir.Val.{bool_byte}
use Rattle.sf_avc.specs.Bits.{Unread, number, first_bits}
use Rattle.sf_avc.specs.inner.Taking.{NextBit}

-- So many bits were taken, and make a number; the others are left.
pub record Taking (begin : Unread) (count part : ℕ) (now : Unread) : Type 0 where
  pub whole : count ≤ length begin.bits
  pub rest : now.bits ≡ drop count begin.bits
  pub value : part ≡ number (take count begin.bits)
  pub bound : part < 2 ^ count
  pub place : now.at ≡ begin.at + count

pub taking_none : (begin : Unread) → Taking begin 0 0 begin
unfolding number
taking_none begin = record { whole = omega arith; rest = refl; value = refl; bound = omega arith; place = omega arith }

-- a bit as the code makes a number of it
bit_byte : (bit : Bool) → bool_byte bit ≡ (if bit then 1 else 0)
bit_byte true = refl
bit_byte false = refl

bit_small : (bit : Bool) → (if bit then 1 else 0) ≤ 1
bit_small true = omega arith
bit_small false = omega arith

number_push : (bits : List Bool) (bit : Bool) → number (bits ++ bit ∷ []) ≡ 2 * number bits + (if bit then 1 else 0)
unfolding number
number_push bits bit = fold_push _ 0 bits bit

more_bits : (bits rest : List Bool) (bit : Bool) (count : ℕ) → drop count bits ≡ bit ∷ rest → count < length bits
more_bits bits rest bit count e = omega (arith, length-drop count bits, ap (length {A = Bool}) e)

-- the bits in front with the next one, and those after it
next_bits : (bits rest : List Bool) (bit : Bool) (count : ℕ) → drop count bits ≡ bit ∷ rest → (take (count + 1) bits ≡ take count bits ++ bit ∷ []) × (rest ≡ drop (count + 1) bits)
next_bits bits rest bit count e =
    let more : count < length bits = more_bits bits rest bit count e in
    let cells : get_or bits count bit ∷ drop (count + 1) bits ≡ bit ∷ rest = sym (drop_more bits count bit more) ∙ e in
    (take_more bits count bit more ∙ ap (λ (xs : List Bool). take count bits ++ get_or xs 0 bit ∷ []) cells, sym (ap (drop 1) cells))

-- one bit more is taken
pub taking_bit : (begin : Unread) (count part : ℕ) (now new : Unread) (bit : Bool) → Taking begin count part now → NextBit now (Some bit) new
    → Taking begin (count + 1) (2 * part + bool_byte bit) new
taking_bit begin count part now new bit t next =
    let front : drop count begin.bits ≡ bit ∷ new.bits = sym t.rest ∙ next.0 in
    let cut = next_bits begin.bits new.bits bit count front in
    let double : 2 ^ (count + 1) ≡ 2 ^ count * 2 = let one_more : count + 1 ≡ suc count = omega arith in rw one_more (pow-suc 2 count) in
    record {
      whole = omega (arith, more_bits begin.bits new.bits bit count front);
      rest = cut.1;
      value = rw (t.value, bit_byte bit, cut.0) (sym (number_push (take count begin.bits) bit));
      bound = omega (arith, t.bound, bit_byte bit, bit_small bit, double);
      place = omega (arith, t.place, next.1);
    }

-- the place where the bits end
none_left : (begin : Unread) (count part : ℕ) (now : Unread) → Taking begin count part now → now.bits ≡ [] → length begin.bits ≡ count
none_left begin count part now t none = omega (arith, t.whole, length-drop count begin.bits, ap (length {A = Bool}) (sym t.rest ∙ none))

-- the bits end before there are so many
pub taking_short : (begin : Unread) (count part all : ℕ) (now new : Unread) → Taking begin count part now → NextBit now None new → count < all
    → first_bits all begin.bits ≡ None
taking_short begin count part all now new t next lt =
    let short : ltb (length begin.bits) all ≡ true = lt-ltb _ _ (omega (arith, none_left begin count part now t next.0, lt)) in
    rw short refl

pub taking_end : (begin : Unread) (count part all : ℕ) (now new : Unread) → Taking begin count part now → NextBit now None new → count < all
    → new.at ≡ begin.at + min all (length begin.bits)
taking_end begin count part all now new t next lt = omega (arith, none_left begin count part now t next.0, lt, t.place, next.1)

-- there are so many bits
pub taking_all : (begin : Unread) (count part : ℕ) (now : Unread) → Taking begin count part now → first_bits count begin.bits ≡ Some (part, now.bits)
taking_all begin count part now t =
    let whole : ltb (length begin.bits) count ≡ false = le-ltb _ _ t.whole in
    rw (whole, t.rest, t.value) refl
