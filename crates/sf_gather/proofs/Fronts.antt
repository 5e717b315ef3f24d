-- The first chunk as a longest front, and the last one after one more sample.
use Rattle.std.proofs.Common.{◌≡◌, ℕ, ◌+◌, Bool, true, false, cond, List, [], ◌∷◌, ◌++◌, refl, sym, ap, ◌∙◌, append_assoc, append-nil}
use Rattle.std.proofs.lemmas.List.{append_cancel_left}
use Rattle.sf_tick.specs.declared.types.Stored.{Stored}
use Rattle.sf_tick.specs.declared.types.Chunk.{Chunk}
use Rattle.sf_gather.specs.declared.given.Given.{Given}
use Rattle.sf_gather.specs.Chunks.{belongs, chunk_of, chunks_from, chunks, closed, marked, front}
use Rattle.sf_gather.proofs.Growing.{closed_from, open_from, next_open, closes, chunks_split, open_more, closed_more, closed_is}

whole_if : (b : Bool) (given : Given) (number : ℕ) (so_far f xs : List Stored) (x : Stored) (a e : List Chunk)
    → (f ≡ xs → a ≡ chunk_of given number true ((so_far ++ x ∷ []) ++ xs) ∷ []) → cond b (x ∷ f) [] ≡ x ∷ xs
    → cond b a e ≡ chunk_of given number true (so_far ++ x ∷ xs) ∷ []
whole_if true given number so_far f xs x a e more p = more (cc) ∙ ap (λ (ss : List Stored). chunk_of given number true ss ∷ []) (append_assoc so_far (x ∷ []) xs)
whole_if false given number so_far f xs x a e more p = cc

pub front_whole : (given : Given) (number : ℕ) (so_far xs : List Stored) → front given so_far xs ≡ xs → chunks_from given number so_far xs ≡ chunk_of given number true (so_far ++ xs) ∷ []
front_whole given number so_far [] e = ap (λ (ss : List Stored). chunk_of given number true ss ∷ []) (sym (append-nil so_far))
front_whole given number so_far (x ∷ xs) e =
    whole_if (belongs given so_far x) given number so_far (front given (so_far ++ x ∷ []) xs) xs x _ _ (front_whole given number (so_far ++ x ∷ []) xs) e

cut_if : (b : Bool) (given : Given) (number : ℕ) (so_far f xs rest : List Stored) (x next : Stored) (a : List Chunk)
    → (xs ≡ f ++ next ∷ rest → a ≡ chunk_of given number false ((so_far ++ x ∷ []) ++ f) ∷ chunks_from given (number + 1) (next ∷ []) rest)
    → x ∷ xs ≡ cond b (x ∷ f) [] ++ next ∷ rest
    → cond b a (chunk_of given number false so_far ∷ chunks_from given (number + 1) (x ∷ []) xs)
    ≡ chunk_of given number false (so_far ++ cond b (x ∷ f) []) ∷ chunks_from given (number + 1) (next ∷ []) rest
cut_if true given number so_far f xs rest x next a more p =
    more (cc) ∙ ap (λ (ss : List Stored). chunk_of given number false ss ∷ chunks_from given (number + 1) (next ∷ []) rest) (append_assoc so_far (x ∷ []) f)
cut_if false given number so_far f xs rest x next a more p =
    let first : x ≡ next = cc in
    let others : xs ≡ rest = cc in
    ap (λ (ss : List Stored). chunk_of given number false ss ∷ chunks_from given (number + 1) (x ∷ []) xs) (sym (append-nil so_far))
    ∙ ap (λ (s : Stored). chunk_of given number false (so_far ++ []) ∷ chunks_from given (number + 1) (s ∷ []) xs) first
    ∙ ap (λ (ss : List Stored). chunk_of given number false (so_far ++ []) ∷ chunks_from given (number + 1) (next ∷ []) ss) others

pub front_cut : (given : Given) (number : ℕ) (so_far xs rest : List Stored) (next : Stored) → xs ≡ front given so_far xs ++ next ∷ rest
    → chunks_from given number so_far xs ≡ chunk_of given number false (so_far ++ front given so_far xs) ∷ chunks_from given (number + 1) (next ∷ []) rest
front_cut given number so_far [] rest next e = cc
front_cut given number so_far (x ∷ xs) rest next e =
    cut_if (belongs given so_far x) given number so_far (front given (so_far ++ x ∷ []) xs) xs rest x next _ (front_cut given number (so_far ++ x ∷ []) xs rest next) e

-- the last chunk is the open one, marked
last_is : (given : Given) (samples : List Stored) (last : Chunk) → chunks given samples ≡ closed given samples ++ last ∷ [] → last ≡ marked (open_from given 0 [] samples)
last_is given samples last e =
    let split : chunks given samples ≡ closed given samples ++ marked (open_from given 0 [] samples) ∷ [] =
    chunks_split given 0 [] samples ∙ ap (λ (cs : List Chunk). cs ++ marked (open_from given 0 [] samples) ∷ []) (sym (closed_is given samples)) in
    let ends : last ∷ [] ≡ marked (open_from given 0 [] samples) ∷ [] = append_cancel_left (closed given samples) _ _ (sym e ∙ split) in
    cc

-- the chunks after one more sample
more_split : (given : Given) (samples : List Stored) (next : Stored)
    → chunks given (samples ++ next ∷ []) ≡ (closed given samples ++ closes given (open_from given 0 [] samples) next) ++ marked (next_open given (open_from given 0 [] samples) next) ∷ []
more_split given samples next =
    chunks_split given 0 [] (samples ++ next ∷ [])
    ∙ ap (λ (cs : List Chunk). cs ++ marked (open_from given 0 [] (samples ++ next ∷ [])) ∷ []) (closed_more given 0 [] samples next)
    ∙ ap (λ (c : Chunk). (closed_from given 0 [] samples ++ closes given (open_from given 0 [] samples) next) ++ marked c ∷ []) (open_more given 0 [] samples next)
    ∙ ap (λ (cs : List Chunk). (cs ++ closes given (open_from given 0 [] samples) next) ++ marked (next_open given (open_from given 0 [] samples) next) ∷ []) (sym (closed_is given samples))

grows_if : (b : Bool) (given : Given) (cs : List Chunk) (c : Chunk) (s : Stored) → b ≡ true
    → (cs ++ cond b [] (c ∷ [])) ++ marked (cond b (chunk_of given c.number false (c.samples ++ s ∷ [])) (chunk_of given (c.number + 1) false (s ∷ []))) ∷ []
    ≡ cs ++ chunk_of given c.number true (c.samples ++ s ∷ []) ∷ []
grows_if true given cs c s e = ap (λ (ds : List Chunk). ds ++ chunk_of given c.number true (c.samples ++ s ∷ []) ∷ []) (append-nil cs)
grows_if false given cs c s e = cc

pub grows_by : (given : Given) (samples : List Stored) (next : Stored) (last : Chunk) → chunks given samples ≡ closed given samples ++ last ∷ [] → belongs given last.samples next ≡ true
    → chunks given (samples ++ next ∷ []) ≡ closed given samples ++ chunk_of given last.number true (last.samples ++ next ∷ []) ∷ []
grows_by given samples next last e b =
    let is : last ≡ marked (open_from given 0 [] samples) = last_is given samples last e in
    let o = open_from given 0 [] samples in
    let test : belongs given o.samples next ≡ true = ap (λ (c : Chunk). belongs given c.samples next) (sym is) ∙ b in
    more_split given samples next ∙ grows_if (belongs given o.samples next) given (closed given samples) o next test
    ∙ ap (λ (c : Chunk). closed given samples ++ chunk_of given c.number true (c.samples ++ next ∷ []) ∷ []) (sym is)

closes_if : (b : Bool) (given : Given) (cs : List Chunk) (c : Chunk) (s : Stored) → b ≡ false
    → (cs ++ cond b [] (c ∷ [])) ++ marked (cond b (chunk_of given c.number false (c.samples ++ s ∷ [])) (chunk_of given (c.number + 1) false (s ∷ []))) ∷ []
    ≡ cs ++ c ∷ chunk_of given (c.number + 1) true (s ∷ []) ∷ []
closes_if true given cs c s e = cc
closes_if false given cs c s e = append_assoc cs (c ∷ []) _

whole_open : (b : Bool) (given : Given) (m n : Chunk) → m ≡ chunk_of given m.number false m.samples → n ≡ chunk_of given n.number false n.samples
    → cond b m n ≡ chunk_of given (cond b m n).number false (cond b m n).samples
whole_open true given m n p q = p
whole_open false given m n p q = q

-- the open chunk is one of the track
open_whole : (given : Given) (number : ℕ) (so_far xs : List Stored) → open_from given number so_far xs ≡ chunk_of given (open_from given number so_far xs).number false (open_from given number so_far xs).samples
open_whole given number so_far [] = refl
open_whole given number so_far (x ∷ xs) =
    whole_open (belongs given so_far x) given _ _ (open_whole given number (so_far ++ x ∷ []) xs) (open_whole given (number + 1) (x ∷ []) xs)

pub closes_by : (given : Given) (samples : List Stored) (next : Stored) (last : Chunk) → chunks given samples ≡ closed given samples ++ last ∷ [] → belongs given last.samples next ≡ false
    → chunks given (samples ++ next ∷ []) ≡ closed given samples ++ chunk_of given last.number false last.samples ∷ chunk_of given (last.number + 1) true (next ∷ []) ∷ []
closes_by given samples next last e b =
    let is : last ≡ marked (open_from given 0 [] samples) = last_is given samples last e in
    let o = open_from given 0 [] samples in
    let test : belongs given o.samples next ≡ false = ap (λ (c : Chunk). belongs given c.samples next) (sym is) ∙ b in
    more_split given samples next ∙ closes_if (belongs given o.samples next) given (closed given samples) o next test
    ∙ ap (λ (c : Chunk). closed given samples ++ c ∷ chunk_of given (o.number + 1) true (next ∷ []) ∷ []) (open_whole given 0 [] samples)
    ∙ ap (λ (c : Chunk). closed given samples ++ chunk_of given c.number false c.samples ∷ chunk_of given (c.number + 1) true (next ∷ []) ∷ []) (sym is)
