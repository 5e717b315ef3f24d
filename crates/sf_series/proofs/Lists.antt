-- The lists of the tracks with one more chunk, or without a first one.
use Rattle.std.proofs.Common.{◌≡◌, ℕ, zero, suc, ◌<◌, ◌≤◌, ◌≢◌, List, [], ◌∷◌, ◌++◌, length, drop, refl, sym, ap, ◌∙◌, inl, inr, append-nil, arith, get_or-set_same, get_or-set_other}
use Rattle.std.proofs.lemmas.Bool.Decides.{eqb_tells}
use Rattle.std.proofs.lemmas.List.{length-set, get_or_past}
use Rattle.sf_tick.specs.declared.types.Chunk.{Chunk}
use Rattle.sf_interleave.specs.Waiting.{list_of, with_chunk, without_front}
use Rattle.sf_layout.specs.Layout.{track_chunks}

-- a chunk, where it is of this track
abbrev pub one : Chunk → ℕ → List Chunk
one c t = track_chunks t (c ∷ [])

pub one_same : (c : Chunk) (t : ℕ) → c.track ≡ t → one c t ≡ c ∷ []
one_same c t e = elim (eqb_tells c.track t) [ inl p ↦ rw p.0 refl | inr p ↦ absurd (p.1 e) ]

pub one_other : (c : Chunk) (t : ℕ) → (c.track ≡ t → ⊥) → one c t ≡ []
one_other c t e = elim (eqb_tells c.track t) [ inl p ↦ absurd (e p.1) | inr p ↦ rw p.0 refl ]

-- the list of a track with one more chunk, where there is such a track
pub list_with : (lists : List (List Chunk)) (c : Chunk) (t : ℕ) → t < length lists → list_of (with_chunk lists c) t ≡ list_of lists t ++ one c t
list_with lists c t less =
    elim (eqb_tells c.track t) [
      | inl p ↦ (let inside : c.track < length lists = omega (arith, p.1) in
          ap (λ (n : ℕ). list_of (with_chunk lists c) n) (sym p.1) ∙ get_or-set_same lists c.track (list_of lists c.track ++ c ∷ []) [] inside
          ∙ ap (λ (n : ℕ). list_of lists n ++ c ∷ []) p.1 ∙ ap (λ (cs : List Chunk). list_of lists t ++ cs) (sym (one_same c t p.1)))
      | inr p ↦ (let other : t ≢ c.track = λ (e : t ≡ c.track). p.1 (sym e) in
          get_or-set_other lists c.track t (list_of lists c.track ++ c ∷ []) [] other ∙ sym (append-nil (list_of lists t))
          ∙ ap (λ (cs : List Chunk). list_of lists t ++ cs) (sym (one_other c t p.1)))
    ]

-- past the last track there is no list, and none grows
pub list_past : (lists : List (List Chunk)) (c : Chunk) (t : ℕ) → length lists ≤ t → list_of (with_chunk lists c) t ≡ []
list_past lists c t past = get_or_past (with_chunk lists c) t [] (omega (arith, length-set lists c.track (list_of lists c.track ++ c ∷ [])))

-- a track with a chunk is there
pub some_inside : (lists : List (List Chunk)) (t : ℕ) (c : Chunk) (rest : List Chunk) → list_of lists t ≡ c ∷ rest → t < length lists
some_inside [] t c rest e = cc
some_inside (list ∷ lists) zero c rest e = omega arith
some_inside (list ∷ lists) (suc t) c rest e = let more = some_inside lists t c rest e in omega arith

-- the list of a track that has a first chunk is that chunk, and the list without it
pub list_without : (lists : List (List Chunk)) (c : Chunk) (t : ℕ) → list_of lists c.track ≡ c ∷ drop 1 (list_of lists c.track)
    → one c t ++ list_of (without_front lists c.track) t ≡ list_of lists t
list_without lists c t first =
    elim (eqb_tells c.track t) [
      | inl p ↦ (let inside : c.track < length lists = some_inside lists c.track c (drop 1 (list_of lists c.track)) first in
          ap (λ (cs : List Chunk). cs ++ list_of (without_front lists c.track) t) (one_same c t p.1)
          ∙ ap (λ (n : ℕ). c ∷ list_of (without_front lists c.track) n) (sym p.1)
          ∙ ap (λ (cs : List Chunk). c ∷ cs) (get_or-set_same lists c.track (drop 1 (list_of lists c.track)) [] inside)
          ∙ sym first ∙ ap (λ (n : ℕ). list_of lists n) p.1)
      | inr p ↦ (let other : t ≢ c.track = λ (e : t ≡ c.track). p.1 (sym e) in
          ap (λ (cs : List Chunk). cs ++ list_of (without_front lists c.track) t) (one_other c t p.1)
          ∙ get_or-set_other lists c.track t (drop 1 (list_of lists c.track)) [] other)
    ]
