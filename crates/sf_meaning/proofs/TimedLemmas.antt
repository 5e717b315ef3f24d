-- What the tables say of samples: their composition offsets, and which of them are sync.
use Rattle.std.proofs.Common.{◌≡◌, ℕ, ℤ, pos, ◌-ℤ◌, ◌+◌, ◌-◌, ◌^◌, ◌<◌, ◌≤◌, ◌==◌, nat_le, ltb, Bool, true, false, cond, List, [], ◌∷◌, length, drop, map, get_or, Option, Some, None, refl, sym, arith, inl, inr}
use Rattle.std.specs.List.{AllByRecursion, list_any}
use Rattle.std.proofs.lemmas.Bool.{leb-true, eqb-true, ne_eqb, lt-ltb, le-ltb, cases_lt}
use Rattle.std.proofs.lemmas.Int.{ints}
use Rattle.sf_meaning.specs.Tables.{offset_in, is_sync, rising}
use Rattle.sf_meaning.specs.Stbl.{Timed, offset_word, offset_words, all_in_time, none_early, all_sync, sync_from, sync_numbers}
use Rattle.sf_meaning.proofs.ListLemmas.{bool_tells, both_true}
use Rattle.sf_meaning.proofs.TableLemmas.{Word}

-- a sample whose composition offset has four bytes
abbrev pub Near : Timed → Type 0
Near s = (s.decode ≤ s.compose + 2 ^ 31) × (s.compose < s.decode + 2 ^ 31)

-- from the decode tick to the composition tick
abbrev pub offset_of : Timed → ℤ
offset_of s = pos s.compose -ℤ pos s.decode

-- a sample that isn't shown before it is decoded, in version 0
unsigned_offset : (s : Timed) → s.decode ≤ s.compose → Near s → offset_in 0 (offset_word s) ≡ offset_of s
unsigned_offset s le near = omega (arith, ints, near.0, near.1)

-- any sample, in version 1
signed_offset : (s : Timed) → Near s → offset_in 1 (offset_word s) ≡ offset_of s
signed_offset s near =
    elim (cases_lt s.compose s.decode) [
      | inl lt ↦
          let word : offset_word s ≡ s.compose + 2 ^ 32 - s.decode = omega (arith, lt, near.0) in
          let high : ltb (offset_word s) (2 ^ 31) ≡ false = le-ltb (offset_word s) (2 ^ 31) (omega (arith, word, lt, near.0)) in
          rw high (omega (arith, ints, word, lt, near.0))
      | inr le ↦ omega (arith, ints, near.0, near.1)
    ]

pub offset_words_fit : (ss : List Timed) → AllByRecursion Word (offset_words ss)
offset_words_fit [] = tt
offset_words_fit (s ∷ ss) = (omega arith, offset_words_fit ss)

-- The offsets that are left are those of these samples, and where none is left an offset is 0.
abbrev pub Offsets : List ℤ → List Timed → Type 0
Offsets offsets [] = Unit {0}
Offsets offsets (s ∷ ss) = (get_or offsets 0 (pos 0) ≡ offset_of s) × Offsets (drop 1 offsets) ss

no_offsets : (ss : List Timed) → all_in_time ss ≡ true → Offsets [] ss
no_offsets [] e = tt
no_offsets (s ∷ ss) e =
    let p : ((s.compose == s.decode) ≡ true) × (all_in_time ss ≡ true) = both_true (s.compose == s.decode) (all_in_time ss) e in
    let same : s.compose ≡ s.decode = eqb-true s.compose s.decode p.0 in
    (omega (arith, ints, same), no_offsets ss p.1)

unsigned_offsets : (ss : List Timed) → none_early ss ≡ true → AllByRecursion Near ss → Offsets (map (offset_in 0) (offset_words ss)) ss
unsigned_offsets [] e all = tt
unsigned_offsets (s ∷ ss) e all =
    let p : (nat_le s.decode s.compose ≡ true) × (none_early ss ≡ true) = both_true (nat_le s.decode s.compose) (none_early ss) e in
    (unsigned_offset s (leb-true s.decode s.compose p.0) all.0, unsigned_offsets ss p.1 all.1)

signed_offsets : (ss : List Timed) → AllByRecursion Near ss → Offsets (map (offset_in 1) (offset_words ss)) ss
signed_offsets [] all = tt
signed_offsets (s ∷ ss) all = (signed_offset s all.0, signed_offsets ss all.1)

-- the version of the composition offset box, and the offsets that the tables say
abbrev pub version_of : List Timed → ℕ
version_of ss = cond (none_early ss) 0 1

abbrev pub told_offsets : List Timed → List ℤ
told_offsets ss = cond (all_in_time ss) [] (map (offset_in (version_of ss)) (offset_words ss))

pub offsets_are : (ss : List Timed) → AllByRecursion Near ss → Offsets (told_offsets ss) ss
offsets_are ss all =
    elim (bool_tells (all_in_time ss)) [
      | inl t ↦ rw t (no_offsets ss t)
      | inr f ↦ rw f (elim (bool_tells (none_early ss)) [ inl u ↦ rw u (unsigned_offsets ss u all) | inr v ↦ rw v (signed_offsets ss all) ])
    ]

-- These samples, from a number on, are sync as the numbers say.
abbrev pub Syncs : Option (List ℕ) → ℕ → List Timed → Type 0
Syncs sync number [] = Unit {0}
Syncs sync number (s ∷ ss) = (is_sync sync number ≡ s.sync) × Syncs sync (number + 1) ss

all_are_sync : (number : ℕ) (ss : List Timed) → all_sync ss ≡ true → Syncs None number ss
all_are_sync number [] e = tt
all_are_sync number (s ∷ ss) e = let p : (s.sync ≡ true) × (all_sync ss ≡ true) = both_true s.sync (all_sync ss) e in (sym p.0, all_are_sync (number + 1) ss p.1)

-- a number below those of the samples doesn't matter
below_matters_not : (k : ℕ) (numbers : List ℕ) (number : ℕ) (ss : List Timed) → k < number → Syncs (Some numbers) number ss → Syncs (Some (k ∷ numbers)) number ss
below_matters_not k numbers number [] lt all = tt
below_matters_not k numbers number (s ∷ ss) lt all =
    let other : (k == number) ≡ false = ne_eqb k number (λ e. omega (arith, e, lt)) in
    (rw other all.0, below_matters_not k numbers (number + 1) ss (omega arith) all.1)

not_among : (m number : ℕ) (ss : List Timed) → m < number → list_any (λ n. n == m) (sync_from number ss) ≡ false
not_among m number [] lt = refl
not_among m number (s ∷ ss) lt =
    let other : (number == m) ≡ false = ne_eqb number m (λ e. omega (arith, e, lt)) in
    let more : list_any (λ n. n == m) (sync_from (number + 1) ss) ≡ false = not_among m (number + 1) ss (omega arith) in
    elim (bool_tells s.sync) [ inl t ↦ rw (t, other) more | inr f ↦ rw f more ]

itself : (n : ℕ) → (n == n) ≡ true
itself n = grind arith

either_list : (P : List ℕ → Type 0) (b : Bool) (xs ys : List ℕ) → (b ≡ true → P xs) → (b ≡ false → P ys) → P (cond b xs ys)
either_list P true xs ys f g = f refl
either_list P false xs ys f g = g refl

numbers_tell : (number : ℕ) (ss : List Timed) → Syncs (Some (sync_from number ss)) number ss
numbers_tell number [] = tt
numbers_tell number (s ∷ ss) =
    let rest : List ℕ = sync_from (number + 1) ss in
    let more : Syncs (Some rest) (number + 1) ss = numbers_tell (number + 1) ss in
    either_list (λ ns. (is_sync (Some ns) number ≡ s.sync) × Syncs (Some ns) (number + 1) ss) s.sync (number ∷ rest) rest
    (λ t. (rw (itself number, t) refl, below_matters_not number rest (number + 1) ss (omega arith) more))
    (λ f. (rw f (not_among number (number + 1) ss (omega arith)), more))

abbrev pub told_sync : List Timed → Option (List ℕ)
told_sync ss = cond (all_sync ss) None (Some (sync_numbers ss))

pub syncs_are : (ss : List Timed) → Syncs (told_sync ss) 1 ss
syncs_are ss = elim (bool_tells (all_sync ss)) [ inl t ↦ rw t (all_are_sync 1 ss t) | inr f ↦ rw f (numbers_tell 1 ss) ]

-- the numbers rise, have four bytes, and are no more than the samples
pub sync_rising : (t number : ℕ) (ss : List Timed) → t < number → rising t (sync_from number ss) ≡ true
sync_rising t number [] lt = refl
sync_rising t number (s ∷ ss) lt =
    elim (bool_tells s.sync) [
      | inl b ↦ rw (b, lt-ltb t number lt) (sync_rising number (number + 1) ss (omega arith))
      | inr f ↦ rw f (sync_rising t (number + 1) ss (omega arith))
    ]

pub sync_words : (number : ℕ) (ss : List Timed) → number + length ss ≤ 2 ^ 32 → AllByRecursion Word (sync_from number ss)
sync_words number [] le = tt
sync_words number (s ∷ ss) le =
    let more : AllByRecursion Word (sync_from (number + 1) ss) = sync_words (number + 1) ss (omega arith) in
    elim (bool_tells s.sync) [ inl t ↦ rw t (omega arith, more) | inr f ↦ rw f more ]

pub length-sync_from : (number : ℕ) (ss : List Timed) → length (sync_from number ss) ≤ length ss
length-sync_from number [] = omega arith
length-sync_from number (s ∷ ss) =
    let more : length (sync_from (number + 1) ss) ≤ length ss = length-sync_from (number + 1) ss in
    elim (bool_tells s.sync) [ inl t ↦ rw t (omega arith) | inr f ↦ rw f (omega arith) ]
