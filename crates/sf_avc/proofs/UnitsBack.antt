-- Units that are written and read back.
use Rattle.std.proofs.Common.{◌≡◌, ◌≢◌, ℕ, ◌+◌, ◌≤◌, ◌<◌, ◌^◌, ◌==◌, inl, inr, false, List, [], ◌∷◌, ◌++◌, length, take, drop, Ok, refl, sym, ap, ◌∙◌, append_assoc, arith}
use Rattle.std.proofs.Math.Bool.{and-false}
use Rattle.std.proofs.lemmas.Bool.{ne_eqb}
use Rattle.std.proofs.lemmas.Bool.Decides.{eqb_tells}
use Rattle.std.proofs.lemmas.List.{append-nil, length-append, drop-drop, take_at, drop_at}
use Rattle.std.specs.List.{AllByRecursion}
use Rattle.std.proofs.lemmas.Nat.{from_be_bytes-to_be_bytes_4}
use Rattle.sf_box.specs.Boxes.{be32, word32}
use Rattle.sf_box.proofs.BoxLaws.{length-be32}
use Rattle.sf_avc.specs.Units.{Nal, is_code, longer, pieces, kept_before, trimmed, with_unit, unit_before, units_of, nals}
use Rattle.sf_avc.specs.Stored.{after_length, prefixed}
use Rattle.sf_avc.specs.Tiling.{length_in, tile_size, tiling}
use Rattle.sf_avc.specs.Units.{with_codes}
use Rattle.sf_avc.specs.UnitsBack.{Proper, IsShort, placed}
use Rattle.sf_avc.proofs.Pieces.{pieces_some}
use Rattle.sf_avc.proofs.Trimming.{trimmed_zero}
use Rattle.sf_avc.proofs.Tiling.{tiling_step, tiling_none}
use Rattle.sf_avc.proofs.Walking.{begins_at, unit_is}

-- three bytes that aren't 00 00 01
not_code : (a b c : ℕ) → (a ≡ 0 → b ≡ 0 → c ≡ 1 → ⊥) → is_code a b c ≡ false
not_code a b c free =
    elim (eqb_tells a 0) [
      | inr p ↦ rw p.0 refl
      | inl p ↦
          elim (eqb_tells b 0) [
            | inr q ↦ rw (p.0, q.0) refl
            | inl q ↦
                elim (eqb_tells c 1) [
                  | inr r ↦ rw (p.0, q.0, r.0) refl
                  | inl r ↦ absurd (free p.1 q.1 r.1)
                ]
          ]
    ]

-- bytes without 00 00 01 are one piece
one_piece : (bytes : List ℕ) → ((front after : List ℕ) → bytes ≢ front ++ 0 ∷ 0 ∷ 1 ∷ after) → pieces bytes ≡ bytes ∷ []
unfolding pieces
one_piece [] free = refl
one_piece (a ∷ []) free = refl
one_piece (a ∷ b ∷ []) free = refl
one_piece (a ∷ b ∷ c ∷ rest) free =
    let here : is_code a b c ≡ false = not_code a b c (λ x y z. free [] rest (rw (x, y, z) refl)) in
    let later = one_piece (b ∷ c ∷ rest) (λ front after e. free (a ∷ front) after (ap (λ (xs : List ℕ). a ∷ xs) e)) in
    rw here (ap (longer a) later)

-- in front of a start code of four bytes they are a piece with one zero byte more
piece_before : (bytes more : List ℕ) → ((front after : List ℕ) → bytes ≢ front ++ 0 ∷ 0 ∷ 1 ∷ after)
    → pieces (bytes ++ 0 ∷ 0 ∷ 0 ∷ 1 ∷ more) ≡ (bytes ++ 0 ∷ []) ∷ pieces more
unfolding pieces
piece_before [] more free = refl
piece_before (a ∷ []) more free = rw (and-false (a == 0)) refl
piece_before (a ∷ b ∷ []) more free =
    let none : is_code a b 0 ≡ false = not_code a b 0 (λ x y z. omega (arith, z)) in
    rw none (ap (longer a) (piece_before (b ∷ []) more (λ front after e. free (a ∷ front) after (ap (λ (xs : List ℕ). a ∷ xs) e))))
piece_before (a ∷ b ∷ c ∷ rest) more free =
    let here : is_code a b c ≡ false = not_code a b c (λ x y z. free [] rest (rw (x, y, z) refl)) in
    let later = piece_before (b ∷ c ∷ rest) more (λ front after e. free (a ∷ front) after (ap (λ (xs : List ℕ). a ∷ xs) e)) in
    rw here (ap (longer a) later)

-- bytes without a zero byte at their end stay
stays : (bytes : List ℕ) → ((front : List ℕ) → bytes ≢ front ++ 0 ∷ []) → trimmed bytes ≡ bytes
unfolding trimmed
stays [] free = refl
stays (a ∷ []) free = rw (ne_eqb a 0 (λ e. free [] (ap (λ (x : ℕ). x ∷ []) e))) refl
stays (a ∷ b ∷ rest) free = ap (kept_before a) (stays (b ∷ rest) (λ front e. free (a ∷ front) (ap (λ (xs : List ℕ). a ∷ xs) e)))

-- the units after the first start code
units_back : (at : ℕ) (u : Nal) (us : List Nal) → Proper u → AllByRecursion Proper us
    → units_of at (pieces (u.bytes ++ with_codes us)) ≡ Ok (record { at = at; bytes = u.bytes } ∷ placed (at + length u.bytes) us)
unfolding units_of
units_back at u [] p ps =
    ap (λ (bytes : List ℕ). units_of at (pieces bytes)) (append-nil u.bytes)
    ∙ ap (units_of at) (one_piece u.bytes p.no_code)
    ∙ ap (λ (bytes : List ℕ). unit_before at bytes (Ok [])) (stays u.bytes p.no_zero)
    ∙ unit_is at u.bytes (Ok []) p.some
units_back at u (v ∷ us) p ps =
    let more : List ℕ = v.bytes ++ with_codes us in
    let long : at + length (u.bytes ++ 0 ∷ []) + 3 ≡ at + length u.bytes + 4 = omega (arith, length-append u.bytes (0 ∷ [])) in
    let next = units_back (at + length u.bytes + 4) v us ps.0 ps.1 in
    ap (units_of at) (piece_before u.bytes more p.no_code)
    ∙ ap (λ (bytes : List ℕ). unit_before at bytes (units_of (at + length (u.bytes ++ 0 ∷ []) + 3) (pieces more))) (trimmed_zero u.bytes ∙ stays u.bytes p.no_zero)
    ∙ unit_is at u.bytes (units_of (at + length (u.bytes ++ 0 ∷ []) + 3) (pieces more)) p.some
    ∙ ap (λ (n : ℕ). with_unit (record { at = at; bytes = u.bytes }) (units_of n (pieces more))) long
    ∙ ap (with_unit (record { at = at; bytes = u.bytes })) next

-- units after start codes are read back
pub codes_back : (u : Nal) (us : List Nal) → AllByRecursion Proper (u ∷ us) → nals (with_codes (u ∷ us)) ≡ Ok (placed 0 (u ∷ us))
unfolding nals pieces
codes_back u us ps =
    let bytes : List ℕ = u.bytes ++ with_codes us in
    begins_at (0 ∷ []) (pieces bytes) (pieces_some bytes) refl ∙ units_back 4 u us ps.0 ps.1

-- ---- lengths

number_be32 : (n : ℕ) → n < 2 ^ 32 → length_in (be32 n) ≡ n
unfolding length_in word32 be32
number_be32 n lt = from_be_bytes-to_be_bytes_4 n lt

-- a unit after its length, in front of others
front_tile : (at : ℕ) (bytes rest : List ℕ) → length bytes < 2 ^ 32
    → tiling 4 at ((be32 (length bytes) ++ bytes) ++ rest) ≡ with_unit (record { at = at + 4; bytes = bytes }) (tiling 4 (at + 4 + length bytes) rest)
front_tile at bytes rest lt =
    let n : ℕ = length bytes in
    let whole : List ℕ = be32 n ++ (bytes ++ rest) in
    let num : length_in (take 4 whole) ≡ n = ap length_in (take_at (be32 n) (bytes ++ rest) 4 (length-be32 n)) ∙ number_be32 n lt in
    let size : ℕ = tile_size 4 whole in
    let size_is : size ≡ 4 + n = ap (λ (k : ℕ). 4 + k) num in
    let following : drop 4 whole ≡ bytes ++ rest = drop_at (be32 n) (bytes ++ rest) 4 (length-be32 n) in
    let body : take (length_in (take 4 whole)) (drop 4 whole) ≡ bytes = ap (λ (k : ℕ). take k (drop 4 whole)) num ∙ ap (take n) following ∙ take_at bytes rest n refl in
    let after : drop size whole ≡ rest = ap (λ (k : ℕ). drop k whole) size_is ∙ sym (drop-drop n 4 whole) ∙ ap (drop n) following ∙ drop_at bytes rest n refl in
    let long : size ≤ length whole = omega (arith, size_is, length-append (be32 n) (bytes ++ rest), length-append bytes rest, length-be32 n) in
    let place : at + size ≡ at + 4 + n = omega (arith, size_is) in
    ap (tiling 4 at) (append_assoc (be32 n) bytes rest)
    ∙ tiling_step 4 at whole (omega arith) long
    ∙ ap (λ (bs : List ℕ). with_unit (record { at = at + 4; bytes = bs }) (tiling 4 (at + size) (drop size whole))) body
    ∙ ap (λ (bs : List ℕ). with_unit (record { at = at + 4; bytes = bytes }) (tiling 4 (at + size) bs)) after
    ∙ ap (λ (k : ℕ). with_unit (record { at = at + 4; bytes = bytes }) (tiling 4 k rest)) place

-- units after their lengths are read back
pub lengths_back : (at : ℕ) (us : List Nal) → AllByRecursion IsShort us → tiling 4 at (prefixed us) ≡ Ok (placed at us)
unfolding after_length
lengths_back at [] ps = tiling_none 4 at [] refl
lengths_back at (u ∷ us) ps =
    front_tile at u.bytes (prefixed us) ps.0
    ∙ ap (with_unit (record { at = at + 4; bytes = u.bytes })) (lengths_back (at + 4 + length u.bytes) us ps.1)
