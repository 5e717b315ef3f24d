-- Numbers, as std reads them and as they are defined.
use Rattle.std.proofs.Common.{◌≡◌, ◌∙◌, ◌<◌, ◌≤◌, ◌==◌, ◌^◌, ◌&&◌, ℕ, Bool, true, false, nat_le, nat_lt, refl, ap, arith, List, [], ◌∷◌, length, Option, Some, None, Result, Ok, Err, cond, lt-ltb, ltb-true}
use Rattle.std.specs.Option.{option_and_then}
use Rattle.std.specs.List.{list_all}
use Rattle.std.specs.Result.{result_ok}
use Rattle.std.specs.Char.{digit_value}
use Rattle.std.specs.Str.Parse.{AllDigits, ParsesUnsigned, digits_value, without_leading_plus}
use Rattle.std.proofs.lemmas.Bool.Decides.{nat_tests}
use Rattle.clap.proofs.WalkLemmas.{both}
use Rattle.sf_words.specs.Reading.{Word}
use Rattle.sf_words.specs.Values.{is_digit, is_number, number}
use Rattle.sf_words.specs.inner.Grammar.{small_number}

both_false : {A : Type 0} (b : Bool) (o : Option A) → cond (b && false) o None ≡ None
both_false true o = refl
both_false false o = refl

digit_is : (b : ℕ) → is_digit b ≡ true → (48 ≤ b) × (b ≤ 57)
digit_is b e = (grind (arith, nat_tests), grind (arith, nat_tests))

digit_small : (b : ℕ) → is_digit b ≡ true → digit_value b < 10
digit_small b e = let h = digit_is b e in grind (arith, nat_tests)

all_small : (ds : List ℕ) → list_all is_digit ds ≡ true → AllDigits 10 ds
all_small [] e = tt
all_small (d ∷ ds) e =
    let h = both (is_digit d) _ e in
    (digit_small d h.0, all_small ds h.1)

no_plus : (ds : List ℕ) → list_all is_digit ds ≡ true → without_leading_plus ds ≡ ds
no_plus [] e = refl
no_plus (d ∷ ds) e =
    let h = digit_is d (both (is_digit d) _ e).0 in
    let other : (d == 43) ≡ false = grind (arith, nat_tests) in
    rw other refl

pub small_read : {E : Type 0} (word : Word) (r : Result ℕ E) → ParsesUnsigned 64 10 word r → list_all is_digit word ≡ true → 0 < length word → length word ≤ 20
    → result_ok r ≡ small_number word
small_read word (Ok n) h digits some few =
    let plain = no_plus word digits in
    let value : n ≡ digits_value 10 word = h.1 ∙ ap (digits_value 10) plain in
    let least : nat_le 1 (length word) ≡ true = grind (arith, nat_tests) in
    let most : nat_le (length word) 20 ≡ true = grind (arith, nat_tests) in
    let holds : nat_lt (digits_value 10 word) (2 ^ 64) ≡ true = lt-ltb _ _ (omega (arith, h.0.1, ap (digits_value 10) plain)) in
    rw (least, most, digits, holds) (ap Some value)
small_read word (Err e) h digits some few = go (nat_lt (digits_value 10 word) (2 ^ 64)) refl
  where
    go : (b : Bool) → nat_lt (digits_value 10 word) (2 ^ 64) ≡ b → None ≡ small_number word
    go false t =
        let least : nat_le 1 (length word) ≡ true = grind (arith, nat_tests) in
        let most : nat_le (length word) 20 ≡ true = grind (arith, nat_tests) in
        rw (least, most, digits, t) refl
    go true t =
        let plain = no_plus word digits in
        absurd (h ((omega (arith, some, ap length plain), rw plain (all_small word digits)), omega (arith, ltb-true _ _ t, ap (digits_value 10) plain)))

-- no number of too few or too many bytes, or with other bytes than digits
pub small_none : (word : Word) → is_number word ≡ false → None ≡ small_number word
small_none word e = rw e refl

pub number_small : (least most : ℕ) (word : Word) → most < 2 ^ 64
    → number least most word ≡ option_and_then (λ n. cond (nat_le least n && nat_le n most) (Some n) None) (small_number word)
unfolding number
number_small least most word lt = go (is_number word) (nat_lt (digits_value 10 word) (2 ^ 64)) refl refl
  where
    go : (a b : Bool) → is_number word ≡ a → nat_lt (digits_value 10 word) (2 ^ 64) ≡ b
        → number least most word ≡ option_and_then (λ n. cond (nat_le least n && nat_le n most) (Some n) None) (small_number word)
    go false b e t = rw e refl
    go true true e t = rw (e, t) refl
    go true false e t =
        let past : nat_le (digits_value 10 word) most ≡ false = grind (arith, nat_tests) in
        rw (e, t, past) (both_false (nat_le least (digits_value 10 word)) (Some (digits_value 10 word)))

-- a number in its range, one that isn't, and none
pub number_in : (least most n : ℕ) (word : Word) → most < 2 ^ 64 → small_number word ≡ Some n → least ≤ n → n ≤ most → number least most word ≡ Some n
number_in least most n word lt is low high =
    let a : nat_le least n ≡ true = grind (arith, nat_tests) in
    let b : nat_le n most ≡ true = grind (arith, nat_tests) in
    number_small least most word lt ∙ rw (is, a, b) refl

pub number_below : (least most n : ℕ) (word : Word) → most < 2 ^ 64 → small_number word ≡ Some n → n < least → number least most word ≡ None
number_below least most n word lt is low =
    let a : nat_le least n ≡ false = grind (arith, nat_tests) in
    number_small least most word lt ∙ rw (is, a) refl

pub number_above : (least most n : ℕ) (word : Word) → most < 2 ^ 64 → small_number word ≡ Some n → most < n → number least most word ≡ None
number_above least most n word lt is high =
    let b : nat_le n most ≡ false = grind (arith, nat_tests) in
    number_small least most word lt ∙ rw (is, b) (both_false (nat_le least n) (Some n))

pub no_number : (least most : ℕ) (word : Word) → most < 2 ^ 64 → small_number word ≡ None → number least most word ≡ None
no_number least most word lt is = number_small least most word lt ∙ rw is refl
