-- What more samples at the end of a list do to its chunks: one more grows the last one or closes it, and the others stay.
use Rattle.std.proofs.Common.{◌≡◌, ℕ, ◌+◌, ◌-◌, Bool, true, false, cond, List, [], ◌∷◌, ◌++◌, length, refl, sym, ap, ◌∙◌, arith}
use Rattle.std.proofs.lemmas.List.{length-append}
use Rattle.std.proofs.Math.Seq.{take-append_seam}
use Rattle.sf_tick.specs.declared.types.Stored.{Stored}
use Rattle.sf_tick.specs.declared.types.Chunk.{Chunk}
use Rattle.sf_gather.specs.declared.given.Given.{Given}
use Rattle.sf_gather.specs.Chunks.{belongs, chunk_of, chunks, chunks_from, without_last, closed, marked}

-- the chunks but the last one
abbrev pub closed_from : Given → ℕ → List Stored → List Stored → List Chunk
closed_from given number so_far [] = []
closed_from given number so_far (next ∷ rest) =
    cond (belongs given so_far next) (closed_from given number (so_far ++ next ∷ []) rest) (chunk_of given number false so_far ∷ closed_from given (number + 1) (next ∷ []) rest)

-- the last chunk, without its mark
abbrev pub open_from : Given → ℕ → List Stored → List Stored → Chunk
open_from given number so_far [] = chunk_of given number false so_far
open_from given number so_far (next ∷ rest) =
    cond (belongs given so_far next) (open_from given number (so_far ++ next ∷ []) rest) (open_from given (number + 1) (next ∷ []) rest)

split_if : (b : Bool) (h : Chunk) (a c e g : List Chunk) (m n : Chunk) → a ≡ c ++ marked m ∷ [] → e ≡ g ++ marked n ∷ []
    → cond b a (h ∷ e) ≡ cond b c (h ∷ g) ++ marked (cond b m n) ∷ []
split_if true h a c e g m n p q = p
split_if false h a c e g m n p q = ap (λ (cs : List Chunk). h ∷ cs) q

pub chunks_split : (given : Given) (number : ℕ) (so_far xs : List Stored) → chunks_from given number so_far xs ≡ closed_from given number so_far xs ++ marked (open_from given number so_far xs) ∷ []
chunks_split given number so_far [] = refl
chunks_split given number so_far (x ∷ xs) =
    split_if (belongs given so_far x) (chunk_of given number false so_far) _ _ _ _ _ _ (chunks_split given number (so_far ++ x ∷ []) xs) (chunks_split given (number + 1) (x ∷ []) xs)

-- the last chunk after one more sample
abbrev pub next_open : Given → Chunk → Stored → Chunk
next_open given chunk s =
    cond (belongs given chunk.samples s) (chunk_of given chunk.number false (chunk.samples ++ s ∷ [])) (chunk_of given (chunk.number + 1) false (s ∷ []))

-- the chunk that one more sample closes
abbrev pub closes : Given → Chunk → Stored → List Chunk
closes given chunk s = cond (belongs given chunk.samples s) [] (chunk ∷ [])

open_if : (P : Chunk → Chunk) (b : Bool) (a c m n : Chunk) → a ≡ P m → c ≡ P n → cond b a c ≡ P (cond b m n)
open_if P true a c m n p q = p
open_if P false a c m n p q = q

pub open_more : (given : Given) (number : ℕ) (so_far xs : List Stored) (s : Stored) → open_from given number so_far (xs ++ s ∷ []) ≡ next_open given (open_from given number so_far xs) s
open_more given number so_far [] s = refl
open_more given number so_far (x ∷ xs) s =
    open_if (λ (c : Chunk). next_open given c s) (belongs given so_far x) _ _ _ _ (open_more given number (so_far ++ x ∷ []) xs s) (open_more given (number + 1) (x ∷ []) xs s)

closed_if : (P : Chunk → List Chunk) (b : Bool) (h : Chunk) (a c e g : List Chunk) (m n : Chunk) → a ≡ c ++ P m → e ≡ g ++ P n
    → cond b a (h ∷ e) ≡ cond b c (h ∷ g) ++ P (cond b m n)
closed_if P true h a c e g m n p q = p
closed_if P false h a c e g m n p q = ap (λ (cs : List Chunk). h ∷ cs) q

pub closed_more : (given : Given) (number : ℕ) (so_far xs : List Stored) (s : Stored) → closed_from given number so_far (xs ++ s ∷ []) ≡ closed_from given number so_far xs ++ closes given (open_from given number so_far xs) s
closed_more given number so_far [] s = refl
closed_more given number so_far (x ∷ xs) s =
    closed_if (λ (c : Chunk). closes given c s) (belongs given so_far x) (chunk_of given number false so_far) _ _ _ _ _ _ (closed_more given number (so_far ++ x ∷ []) xs s) (closed_more given (number + 1) (x ∷ []) xs s)

unmarked_if : (b : Bool) (m n : Chunk) → m.last ≡ false → n.last ≡ false → (cond b m n).last ≡ false
unmarked_if true m n p q = p
unmarked_if false m n p q = q

pub open_unmarked : (given : Given) (number : ℕ) (so_far xs : List Stored) → (open_from given number so_far xs).last ≡ false
open_unmarked given number so_far [] = refl
open_unmarked given number so_far (x ∷ xs) =
    unmarked_if (belongs given so_far x) _ _ (open_unmarked given number (so_far ++ x ∷ []) xs) (open_unmarked given (number + 1) (x ∷ []) xs)

pub without_last_of : (cs : List Chunk) (c : Chunk) → without_last (cs ++ c ∷ []) ≡ cs
without_last_of cs c =
    let n : length (cs ++ c ∷ []) - 1 ≡ length cs = omega (arith, length-append cs (c ∷ [])) in
    rw n (take-append_seam cs (c ∷ []))

-- the closed chunks are those but the last
pub closed_is : (given : Given) (xs : List Stored) → closed given xs ≡ closed_from given 0 [] xs
closed_is given xs = ap without_last (chunks_split given 0 [] xs) ∙ without_last_of _ _

stays_if : (b : Bool) (h : Chunk) (a c e g : List Chunk) → (rest : List Chunk) × (a ≡ c ++ rest) → (rest : List Chunk) × (e ≡ g ++ rest)
    → (rest : List Chunk) × (cond b a (h ∷ e) ≡ cond b c (h ∷ g) ++ rest)
stays_if true h a c e g p q = p
stays_if false h a c e g p q = (q.0, ap (λ (cs : List Chunk). h ∷ cs) q.1)

closed_stays : (given : Given) (number : ℕ) (so_far xs more : List Stored) → (rest : List Chunk) × (chunks_from given number so_far (xs ++ more) ≡ closed_from given number so_far xs ++ rest)
closed_stays given number so_far [] more = (chunks_from given number so_far more, refl)
closed_stays given number so_far (x ∷ xs) more =
    stays_if (belongs given so_far x) (chunk_of given number false so_far) _ _ _ _ (closed_stays given number (so_far ++ x ∷ []) xs more) (closed_stays given (number + 1) (x ∷ []) xs more)

-- the closed chunks stay, whatever samples follow
pub closed_first : (given : Given) (xs more : List Stored) → (rest : List Chunk) × (chunks given (xs ++ more) ≡ closed given xs ++ rest)
closed_first given xs more =
    let stays = closed_stays given 0 [] xs more in
    (stays.0, stays.1 ∙ ap (λ (cs : List Chunk). cs ++ stays.0) (sym (closed_is given xs)))
