-- Units that are read one after the other from a stored sample.
use Rattle.std.proofs.Common.{◌≡◌, ℕ, zero, suc, ◌+◌, ◌-◌, ◌≤◌, ◌<◌, false, ltb, List, [], ◌∷◌, ◌++◌, length, take, drop, map, replicate, Result, Ok, Err, refl, sym, subst, ap, ◌∙◌, arith}
use Rattle.std.proofs.lemmas.Bool.{le-ltb}
use Rattle.std.proofs.lemmas.List.{length-drop, drop-drop, map-append, append-nil}
use Rattle.std.proofs.lemmas.List.Elements.{All-append, All-cons, All-nil}
use Rattle.std.specs.List.{All}
use Rattle.std.specs.Int.{w32, from_be_bytes}
use Rattle.sf_box.specs.Boxes.{word32}
use Rattle.std.specs.Result.{IsErrAnd}
use Rattle.sf_avc.specs.declared.nal.Unit.{Unit}
use Rattle.sf_avc.specs.declared.prefixed.LengthFault.{LengthFault}
use Rattle.sf_avc.specs.declared.prefixed.LengthFault.TheVariants.{BadLength, NoMemory}
use Rattle.sf_avc.specs.Units.{Nal, with_unit, unit_at, Within}
use Rattle.sf_avc.specs.Tiling.{length_in, tile_size, tile_before, first_tiles, tiling, AreTiles}
use Rattle.sf_avc.specs.inner.Tiling.{Tile, NoTile}
use Rattle.sf_avc.proofs.Walking.{joined_with, joined_more, joined_none}

-- a length of less than four bytes after zero bytes
padded : (bytes : List ℕ) → length bytes ≤ 4 → take (4 - length bytes) (0 ∷ 0 ∷ 0 ∷ 0 ∷ []) ++ bytes ≡ take 4 (replicate (4 - length bytes) 0 ++ bytes)
padded [] le = refl
padded (a ∷ []) le = refl
padded (a ∷ b ∷ []) le = refl
padded (a ∷ b ∷ c ∷ []) le = refl
padded (a ∷ b ∷ c ∷ d ∷ []) le = refl
padded (a ∷ b ∷ c ∷ d ∷ e ∷ bytes) le = absurd (omega arith)

pub number_of : (bytes moved word : List ℕ) → length bytes ≤ 4 → moved ≡ bytes → take 4 word ≡ take (4 - length bytes) (0 ∷ 0 ∷ 0 ∷ 0 ∷ []) ++ moved
    → word32 word ≡ length_in bytes
unfolding length_in word32
number_of bytes moved word le e w =
    ap (from_be_bytes w32) (w ∙ ap (λ (m : List ℕ). take (4 - length bytes) (0 ∷ 0 ∷ 0 ∷ 0 ∷ []) ++ m) e ∙ padded bytes le)

-- as many steps as there are bytes are enough
tiles_enough : (n m width at : ℕ) (bytes : List ℕ) → 1 ≤ width → length bytes ≤ n → length bytes ≤ m → first_tiles n width at bytes ≡ first_tiles m width at bytes
unfolding first_tiles
tiles_enough zero zero width at bytes some p q = refl
tiles_enough zero (suc m) width at [] some p q = refl
tiles_enough zero (suc m) width at (b ∷ bytes) some p q = absurd (omega arith)
tiles_enough (suc n) zero width at [] some p q = refl
tiles_enough (suc n) zero width at (b ∷ bytes) some p q = absurd (omega arith)
tiles_enough (suc n) (suc m) width at [] some p q = refl
tiles_enough (suc n) (suc m) width at (b ∷ bytes) some p q =
    let size : ℕ = tile_size width (b ∷ bytes) in
    let shorter = length-drop size (b ∷ bytes) in
    ap (tile_before width at (b ∷ bytes)) (tiles_enough n m width (at + size) (drop size (b ∷ bytes)) some (omega (arith, shorter, some, p)) (omega (arith, shorter, some, q)))

-- a unit begins the bytes
pub tiling_step : (width at : ℕ) (bytes : List ℕ) → 1 ≤ width → tile_size width bytes ≤ length bytes
    → tiling width at bytes ≡ with_unit (record { at = at + width; bytes = take (length_in (take width bytes)) (drop width bytes) }) (tiling width (at + tile_size width bytes) (drop (tile_size width bytes) bytes))
unfolding tiling first_tiles
tiling_step width at [] some le = absurd (omega (arith, some, le))
tiling_step width at (b ∷ bytes) some le =
    let size : ℕ = tile_size width (b ∷ bytes) in
    let short : ltb (length (b ∷ bytes)) width ≡ false = le-ltb _ _ (omega (arith, le)) in
    let passes : ltb (length (b ∷ bytes)) size ≡ false = le-ltb _ _ le in
    let u : Nal = record { at = at + width; bytes = take (length_in (take width (b ∷ bytes))) (drop width (b ∷ bytes)) } in
    let shorter = length-drop size (b ∷ bytes) in
    rw (short, passes) (ap (with_unit u) (tiles_enough (length bytes) (length (drop size (b ∷ bytes))) width (at + size) (drop size (b ∷ bytes)) some (omega (arith, shorter, some)) (omega arith)))

-- no unit begins the bytes
tiling_fault : (width at : ℕ) (bytes : List ℕ) (f : LengthFault) → 0 < length bytes → NoTile width at bytes f → tiling width at bytes ≡ Err f
unfolding tiling first_tiles
tiling_fault width at [] f some none = absurd (omega arith)
tiling_fault width at (b ∷ bytes) f some none = rw none.test (ap (λ (e : LengthFault). Err e) (sym none.is))

pub tiling_none : (width at : ℕ) (bytes : List ℕ) → length bytes ≡ 0 → tiling width at bytes ≡ Ok []
unfolding tiling first_tiles
tiling_none width at [] none = refl
tiling_none width at (b ∷ bytes) none = absurd (omega arith)

-- ---- a walk along units

-- The units so far, then those that tile the rest, are those of the sample.
pub record Tiled (width : ℕ) (stored : List ℕ) (units : List Unit) (at : ℕ) : Type 0 where
  pub whole : tiling width 0 stored ≡ joined_with (map (unit_at stored) units) (tiling width at (drop at stored))
  pub within : All (Within stored) units
  pub in_it : at ≤ length stored

pub tiled_begins : (width : ℕ) (stored : List ℕ) → Tiled width stored [] 0
tiled_begins width stored = record { whole = joined_none (tiling width 0 stored); within = All-nil (Within stored); in_it = omega arith }

unit_is_tile : (width at : ℕ) (stored : List ℕ) (u : Unit) → Tile width at (drop at stored) u
    → record { at = at + width; bytes = take (length_in (take width (drop at stored))) (drop width (drop at stored)) } ≡ unit_at stored u
unit_is_tile width at stored u t =
    let rest : List ℕ = drop at stored in
    ap (λ (bs : List ℕ). record { at = at + width; bytes = take (length_in (take width rest)) bs }) (drop-drop width at stored)
    ∙ ap (λ (k : ℕ). record { at = at + width; bytes = take k (drop (at + width) stored) }) (sym t.len)
    ∙ ap (λ (n : ℕ). record { at = n; bytes = take u.len (drop n stored) }) (sym t.place)

pub tiled_on : (width at : ℕ) (stored rest : List ℕ) (units more : List Unit) (u : Unit) → 1 ≤ width → more ≡ units ++ u ∷ [] → rest ≡ drop at stored
    → Tile width at rest u → Tiled width stored units at → Tiled width stored more (u.at + u.len)
tiled_on width at stored rest units more u some e r tile w =
    let t : Tile width at (drop at stored) u = subst (λ (xs : List ℕ). Tile width at xs u) r tile in
    let size : ℕ = tile_size width (drop at stored) in
    let next : at + size ≡ u.at + u.len = omega (arith, t.place, t.len) in
    let front : List Nal = map (unit_at stored) units in
    let units_are : map (unit_at stored) more ≡ front ++ unit_at stored u ∷ [] = ap (map (unit_at stored)) e ∙ map-append (unit_at stored) units (u ∷ []) in
    let others : tiling width (at + size) (drop size (drop at stored)) ≡ tiling width (u.at + u.len) (drop (u.at + u.len) stored) =
    ap (tiling width (at + size)) (drop-drop size at stored) ∙ ap (λ (n : ℕ). tiling width n (drop n stored)) next in
    let within : Within stored u = omega (arith, t.place, t.whole, some, w.in_it, length-drop at stored) in
    record {
      whole =
          w.whole
          ∙ ap (joined_with front) (tiling_step width at (drop at stored) some (omega (arith, t.whole, t.len)))
          ∙ ap (λ (r : Result (List Nal) LengthFault). joined_with front (with_unit (record { at = at + width; bytes = take (length_in (take width (drop at stored))) (drop width (drop at stored)) }) r)) others
          ∙ ap (λ (x : Nal). joined_with front (with_unit x (tiling width (u.at + u.len) (drop (u.at + u.len) stored)))) (unit_is_tile width at stored u t)
          ∙ joined_more front (unit_at stored u) (tiling width (u.at + u.len) (drop (u.at + u.len) stored))
          ∙ ap (λ (xs : List Nal). joined_with xs (tiling width (u.at + u.len) (drop (u.at + u.len) stored))) (sym units_are);
      within = rw e (All-append (Within stored) units (u ∷ []) w.within (All-cons (Within stored) u [] within (All-nil (Within stored))));
      in_it = within;
    }

-- a fault that is handed on
bad_is : (width : ℕ) (stored : List ℕ) (r : Result (List Unit) LengthFault) (at : ℕ) → IsErrAnd r (λ z. z ≡ BadLength at) → tiling width 0 stored ≡ Err (BadLength at) → AreTiles width stored r
bad_is width stored (Ok units) at h e = absurd h
bad_is width stored (Err (BadLength n)) at h e = e ∙ ap (λ (z : LengthFault). Err z) (sym h)
bad_is width stored (Err NoMemory) at h e = tt

pub bad_tile : (width at : ℕ) (stored rest : List ℕ) (units : List Unit) (f : LengthFault) (r : Result (List Unit) LengthFault) → IsErrAnd r (λ z. z ≡ f)
    → at < length stored → rest ≡ drop at stored → NoTile width at rest f → Tiled width stored units at → AreTiles width stored r
bad_tile width at stored rest units f r h before e none w =
    let t : NoTile width at (drop at stored) f = subst (λ (xs : List ℕ). NoTile width at xs f) e none in
    let fails : tiling width 0 stored ≡ Err f =
    w.whole ∙ ap (joined_with (map (unit_at stored) units)) (tiling_fault width at (drop at stored) f (omega (arith, length-drop at stored)) t) in
    bad_is width stored r at (subst (λ (g : LengthFault). IsErrAnd r (λ z. z ≡ g)) none.is h) (fails ∙ ap (λ (z : LengthFault). Err z) none.is)

pub tiled_ends : (width at : ℕ) (stored : List ℕ) (units : List Unit) → length stored ≤ at → Tiled width stored units at → tiling width 0 stored ≡ Ok (map (unit_at stored) units)
tiled_ends width at stored units end w =
    w.whole
    ∙ ap (joined_with (map (unit_at stored) units)) (tiling_none width at (drop at stored) (omega (arith, length-drop at stored)))
    ∙ ap (λ (xs : List Nal). Ok xs) (append-nil (map (unit_at stored) units))
