-- The chunks of a list of accepted samples are proper.
use Rattle.std.proofs.Common.{◌≡◌, ℕ, ◌+◌, ◌<◌, ◌≤◌, Bool, true, false, cond, List, [], ◌∷◌, ◌++◌, length, Option, Some, None, refl, ap, ◌∙◌, append_assoc, arith}
use Rattle.std.specs.List.{AllByRecursion}
use Rattle.std.proofs.lemmas.Bool.Decides.{nat_tests}
use Rattle.std.proofs.lemmas.List.{length-append}
use Rattle.std.proofs.lemmas.List.Sums.{sum_by_push}
use Rattle.sf_tick.specs.Samples.{samples_of}
use Rattle.sf_tick.specs.declared.types.Stored.{Stored}
use Rattle.sf_tick.specs.declared.types.Chunk.{Chunk}
use Rattle.sf_gather.specs.declared.given.Given.{Given}
use Rattle.sf_gather.specs.declared.given.LastSample.{LastSample}
use Rattle.sf_gather.specs.Accepting.{kept_of}
use Rattle.sf_gather.specs.Chunks.{size_of, belongs, chunk_of, chunks_from, chunks, marked}
use Rattle.sf_gather.specs.Proper.{AllFollow, IsChunk, AreChunks, OnlyLastMarked, Proper}
use Rattle.sf_gather.proofs.Growing.{closed_from, open_from, chunks_split}

joined_if : (b : Bool) (h : Chunk) (a c : List Chunk) (all : List Stored) → samples_of a ≡ all → h.samples ++ samples_of c ≡ all → samples_of (cond b a (h ∷ c)) ≡ all
joined_if true h a c all p q = p
joined_if false h a c all p q = q

-- the chunks hold the samples in order
pub chunks_joined : (given : Given) (number : ℕ) (so_far xs : List Stored) → samples_of (chunks_from given number so_far xs) ≡ so_far ++ xs
chunks_joined given number so_far [] = refl
chunks_joined given number so_far (x ∷ xs) =
    joined_if (belongs given so_far x) (chunk_of given number false so_far) _ _ _
    (chunks_joined given number (so_far ++ x ∷ []) xs ∙ append_assoc so_far (x ∷ []) xs)
    (ap (λ (ss : List Stored). so_far ++ ss) (chunks_joined given (number + 1) (x ∷ []) xs))

-- a chunk is only closed where it has samples
closed_some : (given : Given) (so_far : List Stored) (x : Stored) → belongs given so_far x ≡ false → 1 ≤ length so_far
closed_some given [] x e = cc
closed_some given (s ∷ so_far) x e = omega arith

-- a chunk grows only where it isn't full
pub room_left : (given : Given) (so_far : List Stored) (x : Stored) → belongs given so_far x ≡ true → size_of so_far < 4194304
room_left given [] x e = omega arith
room_left given (s ∷ so_far) x e = grind (arith, nat_tests)

-- A chunk so far has few samples, since each has a byte.
record Few (so_far : List Stored) : Type 0 where
  pub count : length so_far ≤ 4194304
  pub bytes : length so_far ≤ size_of so_far

few_more : (given : Given) (so_far : List Stored) (x : Stored) → Few so_far → belongs given so_far x ≡ true → 1 ≤ length x.bytes → Few (so_far ++ x ∷ [])
few_more given so_far x few b some =
    let room : size_of so_far < 4194304 = room_left given so_far x b in
    let len : length (so_far ++ x ∷ []) ≡ length so_far + 1 = length-append so_far (x ∷ []) in
    let size : size_of (so_far ++ x ∷ []) ≡ size_of so_far + length x.bytes = sum_by_push (λ (s : Stored). length s.bytes) so_far x in
    record { count = omega (arith, few.bytes); bytes = omega (arith, few.bytes) }

few_one : (x : Stored) → 1 ≤ length x.bytes → Few (x ∷ [])
few_one x some =
    let size : size_of (x ∷ []) ≡ 0 + length x.bytes = sum_by_push (λ (s : Stored). length s.bytes) [] x in
    record { count = omega arith; bytes = omega arith }

are_if : (b : Bool) (t n : ℕ) (h : Chunk) (a c : List Chunk) → (b ≡ true → AreChunks t n a) → (b ≡ false → IsChunk t n h × AreChunks t (n + 1) c) → AreChunks t n (cond b a (h ∷ c))
are_if true t n h a c p q = p refl
are_if false t n h a c p q = let both = q refl in (both.0, both.1)

are_chunks : (given : Given) (scale number : ℕ) (last : Option LastSample) (so_far xs : List Stored) → Few so_far → AllFollow scale last xs → AreChunks given.track number (chunks_from given number so_far xs)
are_chunks given scale number last so_far [] few all = (record { track = refl; number = refl; first = refl; some = λ e. cc; few = few.count }, tt)
are_chunks given scale number last so_far (x ∷ xs) few all =
    are_if (belongs given so_far x) given.track number (chunk_of given number false so_far) _ _
    (λ b. are_chunks given scale number (Some (kept_of x)) (so_far ++ x ∷ []) xs (few_more given so_far x few b all.0.some) all.1)
    (λ b. (
      record { track = refl; number = refl; first = refl; some = λ e. closed_some given so_far x b; few = few.count },
      are_chunks given scale (number + 1) (Some (kept_of x)) (x ∷ []) xs (few_one x all.0.some) all.1,
    ))

abbrev IsOpen : Chunk → Type 0
IsOpen chunk = chunk.last ≡ false

opens_if : (b : Bool) (h : Chunk) (a c : List Chunk) → AllByRecursion IsOpen a → IsOpen h × AllByRecursion IsOpen c → AllByRecursion IsOpen (cond b a (h ∷ c))
opens_if true h a c p q = p
opens_if false h a c p q = (q.0, q.1)

closed_open : (given : Given) (number : ℕ) (so_far xs : List Stored) → AllByRecursion IsOpen (closed_from given number so_far xs)
closed_open given number so_far [] = tt
closed_open given number so_far (x ∷ xs) =
    opens_if (belongs given so_far x) (chunk_of given number false so_far) _ _ (closed_open given number (so_far ++ x ∷ []) xs) (refl, closed_open given (number + 1) (x ∷ []) xs)

only_last : (cs : List Chunk) (c : Chunk) → AllByRecursion IsOpen cs → OnlyLastMarked (cs ++ c ∷ [])
only_last [] c all = tt
only_last (d ∷ []) c all = (all.0, tt)
only_last (d ∷ e ∷ cs) c all = (all.0, only_last (e ∷ cs) c all.1)

pub chunks_proper : (given : Given) (xs : List Stored) → AllFollow given.scale None xs → Proper given.track given.scale (chunks given xs)
chunks_proper given xs all =
    let join : samples_of (chunks given xs) ≡ xs = chunks_joined given 0 [] xs in
    let split : chunks given xs ≡ closed_from given 0 [] xs ++ marked (open_from given 0 [] xs) ∷ [] = chunks_split given 0 [] xs in
    record {
      each = are_chunks given given.scale 0 None [] xs (record { count = omega arith; bytes = omega arith }) all;
      mark = rw split (only_last _ _ (closed_open given 0 [] xs));
      samples = rw join all;
    }
