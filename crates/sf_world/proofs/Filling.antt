-- A buffer while pieces are laid over what it holds.
use Rattle.std.proofs.Common.{◌≡◌, ℕ, ◌+◌, ◌≤◌, Bool, true, false, ◌&&◌, List, [], ◌∷◌, ◌++◌, length, take, drop, replicate, refl, arith, sym, ap, ◌∙◌, length-append, length-drop, nat_le}
use Rattle.std.proofs.lemmas.List.{length-take, length-replicate}
use Rattle.std.proofs.lemmas.Bool.{leb-true}
use Rattle.std.specs.List.{list_all}
use Rattle.sf_world.specs.Holes.{over, laid, lie_within, holed}

-- The buffer shows a range of bytes, and these with the pieces that are left are all of the contents.
pub record Filling (size at : ℕ) (into : List ℕ) (left all : List (ℕ × List ℕ)) : Type 0 where
  pub bytes : List ℕ
  pub sized : length bytes ≡ size
  pub shown : into ≡ take (length into) (drop at bytes)
  pub whole : laid bytes left ≡ holed size all
  pub inside : lie_within size left ≡ true

both : (a b : Bool) → (a && b) ≡ true → (a ≡ true) × (b ≡ true)
both true true e = (refl, refl)
both true false e = absurd (cc e)
both false b e = absurd (cc e)

length_over : (bytes piece : List ℕ) (place : ℕ) → place + length piece ≤ length bytes → length (over bytes place piece) ≡ length bytes
length_over bytes piece place le =
    omega (
      arith,
      le,
      length-append (take place bytes ++ piece) (drop (place + length piece) bytes),
      length-append (take place bytes) piece,
      length-take place bytes,
      length-drop (place + length piece) bytes,
    )

-- with the first piece that is left laid over
pub filled_more : (size at : ℕ) (into new : List ℕ) (piece : ℕ × List ℕ) (more all : List (ℕ × List ℕ)) → at + length into ≤ size
    → length new ≡ length into
    → ((bytes : List ℕ) → at + length into ≤ length bytes → piece.0 + length piece.1 ≤ length bytes → into ≡ take (length into) (drop at bytes)
    → new ≡ take (length into) (drop at (over bytes piece.0 piece.1)))
    → Filling size at into (piece ∷ more) all → Filling size at new more all
filled_more size at into new piece more all range same lays f =
    let two = both (nat_le (piece.0 + length piece.1) size) (list_all (λ p. nat_le (p.0 + length p.1) size) more) f.inside in
    let within : piece.0 + length piece.1 ≤ size = leb-true (piece.0 + length piece.1) size two.0 in
    let lies : piece.0 + length piece.1 ≤ length f.bytes = omega (arith, within, f.sized) in
    record {
      bytes = over f.bytes piece.0 piece.1;
      sized = length_over f.bytes piece.1 piece.0 lies ∙ f.sized;
      shown = lays f.bytes (omega (arith, range, f.sized)) lies f.shown ∙ ap (λ (n : ℕ). take n (drop at (over f.bytes piece.0 piece.1))) (sym same);
      whole = f.whole;
      inside = two.1;
    }

length_laid : (size : ℕ) (bytes : List ℕ) (pieces : List (ℕ × List ℕ)) → length bytes ≡ size → lie_within size pieces ≡ true → length (laid bytes pieces) ≡ size
length_laid size bytes [] sized inside = sized
length_laid size bytes (piece ∷ pieces) sized inside =
    let two = both (nat_le (piece.0 + length piece.1) size) (list_all (λ p. nat_le (p.0 + length p.1) size) pieces) inside in
    let within : piece.0 + length piece.1 ≤ size = leb-true (piece.0 + length piece.1) size two.0 in
    length_laid size (over bytes piece.0 piece.1) pieces (length_over bytes piece.1 piece.0 (omega (arith, within, sized)) ∙ sized) two.1

pub length_holed : (size : ℕ) (pieces : List (ℕ × List ℕ)) → lie_within size pieces ≡ true → length (holed size pieces) ≡ size
length_holed size pieces inside = length_laid size (replicate size 0) pieces (length-replicate size 0) inside
