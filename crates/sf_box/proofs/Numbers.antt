-- Numbers come back from their bytes, whatever follows, and the lengths of all that is written.
use Rattle.std.proofs.Common.{◌≡◌, ℕ, ◌+◌, ◌^◌, ◌<◌, List, ◌++◌, length, drop, refl, arith}
use Rattle.std.proofs.lemmas.List.{length-append, drop_at}
use Rattle.std.proofs.lemmas.Nat.{from_be_bytes-to_be_bytes_2, from_be_bytes-to_be_bytes_4, from_be_bytes-to_be_bytes_8}
use Rattle.sf_box.specs.Boxes.{be16, be32, be64, word16, word32, word64, box_of, wide_box, opened}

pub length-be16 : (n : ℕ) → length (be16 n) ≡ 2
unfolding be16
length-be16 n = refl

pub length-be32 : (n : ℕ) → length (be32 n) ≡ 4
unfolding be32
length-be32 n = refl

pub length-be64 : (n : ℕ) → length (be64 n) ≡ 8
unfolding be64
length-be64 n = refl

-- a number that was written is read back
pub word16_of : (n : ℕ) (rest : List ℕ) → n < 2 ^ 16 → word16 (be16 n ++ rest) ≡ n
unfolding word16 be16
word16_of n rest lt = from_be_bytes-to_be_bytes_2 n lt

pub word32_of : (n : ℕ) (rest : List ℕ) → n < 2 ^ 32 → word32 (be32 n ++ rest) ≡ n
unfolding word32 be32
word32_of n rest lt = from_be_bytes-to_be_bytes_4 n lt

pub word64_of : (n : ℕ) (rest : List ℕ) → n < 2 ^ 64 → word64 (be64 n ++ rest) ≡ n
unfolding word64 be64
word64_of n rest lt = from_be_bytes-to_be_bytes_8 n lt

-- what follows a number
pub drop_half : (n : ℕ) (rest : List ℕ) → drop 2 (be16 n ++ rest) ≡ rest
drop_half n rest = drop_at (be16 n) rest 2 (length-be16 n)

pub drop_word : (n : ℕ) (rest : List ℕ) → drop 4 (be32 n ++ rest) ≡ rest
drop_word n rest = drop_at (be32 n) rest 4 (length-be32 n)

pub drop_wide : (n : ℕ) (rest : List ℕ) → drop 8 (be64 n ++ rest) ≡ rest
drop_wide n rest = drop_at (be64 n) rest 8 (length-be64 n)

pub length-box_of : (kind body : List ℕ) → length kind ≡ 4 → length (box_of kind body) ≡ 8 + length body
unfolding box_of
length-box_of kind body k =
    omega (arith, length-append (be32 (8 + length body)) (kind ++ body), length-append kind body, length-be32 (8 + length body))

pub length-wide_box : (kind body : List ℕ) → length kind ≡ 4 → length (wide_box kind body) ≡ 16 + length body
unfolding wide_box
length-wide_box kind body k =
    omega (
      arith,
      length-append (be32 1) (kind ++ (be64 (16 + length body) ++ body)),
      length-append kind (be64 (16 + length body) ++ body),
      length-append (be64 (16 + length body)) body,
      length-be32 1,
      length-be64 (16 + length body),
    )

pub length-opened : (kind : List ℕ) → length kind ≡ 4 → length (opened kind) ≡ 8
unfolding opened
length-opened kind k = omega (arith, length-append (be32 0) kind, length-be32 0)

-- the lengths of what is put at the end
pub ruleset length_facts = (length-append, length-be16, length-be32, length-be64, length-box_of, length-opened)
