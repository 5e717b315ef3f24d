-- The first bytes of a header or a record tell what all bytes tell.
use Rattle.std.proofs.Common.{◌≡◌, ℕ, ◌+◌, ◌-◌, ◌≤◌, ◌<◌, min, List, length, take, drop, Option, Some, None, Result, Ok, Err, refl, sym, ap, ◌∙◌, arith, inl, inr, lit<}
use Rattle.std.specs.List.{slice_index}
use Rattle.std.specs.Int.{w16, w32, w64, from_be_bytes}
use Rattle.std.proofs.lemmas.Bool.{cases_lt}
use Rattle.std.proofs.lemmas.List.{length-drop, length-take, take-take, drop-take, get_or-take}
use Rattle.std.proofs.Math.Seq.{take-length}
use Rattle.sf_box.specs.Boxes.{word16, word32, word64}
use Rattle.sf_world.specs.Contents.{HasLength}
use Rattle.sf_coded.specs.declared.types.CodedFault.{CodedFault}
use Rattle.sf_coded.specs.declared.types.CodedFault.TheVariants.{ReadFault, NoMemory}
use Rattle.sf_coded.specs.declared.fields.Header.{Header}
use Rattle.sf_coded.specs.declared.fields.Turn.{Turn}
use Rattle.sf_coded.specs.CodedFile.{header_in, record_in}
use Rattle.sf_coded.specs.inner.Window.{AreFrom}
use Rattle.sf_coded.specs.inner.Steps.{TurnIs, TurnTold, HeaderIs, HeaderTold}

-- a part that lies within the first bytes
part_in : (k m n : ℕ) (xs : List ℕ) → k + m ≤ n → take m (drop k (take n xs)) ≡ take m (drop k xs)
part_in k m n xs le =
    let e : n ≡ k + (n - k) = omega arith in
    ap (λ (x : ℕ). take m (drop k (take x xs))) e ∙ ap (take m) (drop-take k (n - k) xs) ∙ take-take m (n - k) (drop k xs) (omega arith)

half_in : (k n : ℕ) (xs : List ℕ) → k + 2 ≤ n → word16 (drop k (take n xs)) ≡ word16 (drop k xs)
unfolding word16
half_in k n xs le = ap (from_be_bytes w16) (part_in k 2 n xs le)

word_in : (k n : ℕ) (xs : List ℕ) → k + 4 ≤ n → word32 (drop k (take n xs)) ≡ word32 (drop k xs)
unfolding word32
word_in k n xs le = ap (from_be_bytes w32) (part_in k 4 n xs le)

wide_in : (k n : ℕ) (xs : List ℕ) → k + 8 ≤ n → word64 (drop k (take n xs)) ≡ word64 (drop k xs)
unfolding word64
wide_in k n xs le = ap (from_be_bytes w64) (part_in k 8 n xs le)

-- what is said of all bytes, where there are few, and of the first ones, where there are many
by_count : (P : List ℕ → Type 0) (first rest : List ℕ) → first ≡ take (min 22 (length rest)) rest → P rest → (22 < length rest → P (take 22 rest)) → P first
by_count P first rest e all some =
    elim (cases_lt 22 (length rest)) [
      | inl many ↦
          let m : min 22 (length rest) ≡ 22 = omega arith in
          rw (e, m) (some many)
      | inr few ↦
          let m : min 22 (length rest) ≡ length rest = omega arith in
          rw (e, m, take-length rest) all
    ]

record_first : (at : ℕ) (first rest : List ℕ) → first ≡ take (min 22 (length rest)) rest → record_in at (length rest) first ≡ record_in at (length rest) rest
record_first at first rest e =
    let P : List ℕ → Type 0 = λ xs. record_in at (length rest) xs ≡ record_in at (length rest) rest in
    by_count P first rest e refl
    (λ many.
    let tag : slice_index (take 22 rest) 0 ≡ slice_index rest 0 = get_or-take 22 rest 0 0 (lit< tt) in
    let flags : slice_index (take 22 rest) 1 ≡ slice_index rest 1 = get_or-take 22 rest 1 0 (lit< tt) in
    rw (tag, flags, word_in 18 22 rest (omega arith), wide_in 2 22 rest (omega arith), wide_in 10 22 rest (omega arith)) refl)

header_first : (first rest : List ℕ) → first ≡ take (min 22 (length rest)) rest → header_in (length rest) first ≡ header_in (length rest) rest
header_first first rest e =
    let P : List ℕ → Type 0 = λ xs. header_in (length rest) xs ≡ header_in (length rest) rest in
    by_count P first rest e refl
    (λ many.
    rw (
      take-take 4 22 rest (omega arith),
      half_in 4 22 rest (omega arith),
      half_in 6 22 rest (omega arith),
      half_in 12 22 rest (omega arith),
      half_in 14 22 rest (omega arith),
      half_in 16 22 rest (omega arith),
      word_in 8 22 rest (omega arith),
      word_in 18 22 rest (omega arith),
    ) refl)

-- an answer that is what the bytes say
turn_is : (at : ℕ) (rest : List ℕ) (result : Result Turn CodedFault) → result ≡ record_in at (length rest) rest → TurnIs at rest result
turn_is at rest (Ok turn) e = sym e
turn_is at rest (Err ReadFault) e = tt
turn_is at rest (Err NoMemory) e = tt
turn_is at rest (Err _) e = sym e

header_is : (bytes : List ℕ) (result : Result Header CodedFault) → result ≡ header_in (length bytes) bytes → HeaderIs bytes result
header_is bytes (Ok h) e = sym e
header_is bytes (Err ReadFault) e = tt
header_is bytes (Err NoMemory) e = tt
header_is bytes (Err _) e = sym e

pub turn_told : (contents : Option (List ℕ)) (size at : ℕ) (first : List ℕ) (result : Result Turn CodedFault) → HasLength contents size → AreFrom contents at first
    → length first ≡ min 22 (size - at) → result ≡ record_in at (size - at) first → TurnTold contents at result
turn_told None size at first result whole from len e = tt
turn_told (Some bytes) size at first result whole from len e =
    let room : size - at ≡ length (drop at bytes) = omega (arith, whole, length-drop at bytes) in
    let f : first ≡ take (min 22 (length (drop at bytes))) (drop at bytes) = from ∙ ap (λ (n : ℕ). take n (drop at bytes)) (len ∙ ap (min 22) room) in
    turn_is at (drop at bytes) result (e ∙ ap (λ (n : ℕ). record_in at n first) room ∙ record_first at first (drop at bytes) f)

pub header_told : (contents : Option (List ℕ)) (size : ℕ) (first : List ℕ) (result : Result Header CodedFault) → HasLength contents size → AreFrom contents 0 first
    → length first ≡ min 22 size → result ≡ header_in size first → HeaderTold contents result
header_told None size first result whole from len e = tt
header_told (Some bytes) size first result whole from len e =
    let room : size ≡ length bytes = sym whole in
    let f : first ≡ take (min 22 (length bytes)) bytes = from ∙ ap (λ (n : ℕ). take n bytes) (len ∙ ap (min 22) room) in
    header_is bytes result (e ∙ ap (λ (n : ℕ). header_in n first) room ∙ header_first first bytes f)

-- how many first bytes are read
pub length_firsts : (xs : List ℕ) (n size : ℕ) → length xs ≡ 22 → n ≡ min size 22 → length (take n xs) ≡ min 22 size
length_firsts xs n size len e = omega (arith, length-take n xs, len, e)
