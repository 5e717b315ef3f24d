-- How many bytes are handed out.
use Rattle.std.proofs.Common.{◌≡◌, ℕ, zero, suc, ◌+◌, ◌*◌, ◌-◌, ◌≤◌, ◌<◌, ◌^◌, Bool, true, false, ◌||◌, if◌then◌else◌, nat_lt, List, [], ◌∷◌, ◌++◌, length, take, drop, Option, Some, option_and_then, option_map, Result, Ok, Err, refl, sym, ap, subst, ◌∙◌, arith}
use Rattle.std.proofs.lemmas.Bool.Decides.{nat_tests}
use Rattle.std.proofs.lemmas.List.{length-append, length-take, length-drop}
use Rattle.sf_meaning.specs.declared.movie.PlainSample.{PlainSample}
use Rattle.sf_movie.specs.Loaded.{Loaded, sample_of}
use Rattle.sf_extract.specs.Current.{Extracting, Positions, current}
use Rattle.sf_extract.specs.HandedOut.{cut_width, handed_by, handed_now, handed_out}
use Rattle.sf_extract.specs.declared.types.Standing.{Standing}
use Rattle.sf_avc.specs.Tiling.{first_tiles, length_in, tile_size, tiling}
use Rattle.sf_avc.specs.Units.{Nal, after_code, with_codes, with_unit}
use Rattle.sf_avc.specs.declared.prefixed.LengthFault.{LengthFault}
use Rattle.sf_avc.specs.declared.prefixed.LengthFault.TheVariants.{BadLength}

-- at most four bytes for each byte
abbrev pub Few : List ℕ → Result (List Nal) LengthFault → Type 0
Few bytes (Ok us) = length (with_codes us) ≤ 4 * length bytes
Few bytes (Err f) = Unit {0}

few_more : (w len : ℕ) (bs : List ℕ) (u : Nal) (us : List Nal) → 1 ≤ w → w + len ≤ length bs → length u.bytes ≤ len → length (with_codes us) ≤ 4 * length (drop (w + len) bs)
    → length (with_codes (u ∷ us)) ≤ 4 * length bs
few_more w len bs u us some fits short more =
    omega (arith, some, fits, short, more, length-append (after_code u) (with_codes us), length-append (0 ∷ 0 ∷ 0 ∷ 1 ∷ []) u.bytes, length-drop (w + len) bs)

before_few : (w len at : ℕ) (bs : List ℕ) (others : Result (List Nal) LengthFault) (short long : Bool) → 1 ≤ w → nat_lt (length bs) w ≡ short → nat_lt (length bs) (w + len) ≡ long
    → Few (drop (w + len) bs) others → Few bs (if short || long then Err (BadLength at) else with_unit (record { at = at + w; bytes = take len (drop w bs) }) others)
before_few w len at bs others true long some e f more = tt
before_few w len at bs others false true some e f more = tt
before_few w len at bs (Err fault) false false some e f more = tt
before_few w len at bs (Ok us) false false some e f more =
    few_more w len bs (record { at = at + w; bytes = take len (drop w bs) }) us some (grind (arith, nat_tests, f)) (omega (arith, length-take len (drop w bs))) more

few_tiles : (n w at : ℕ) (bs : List ℕ) → 1 ≤ w → Few bs (first_tiles n w at bs)
unfolding first_tiles
few_tiles zero w at bs some = omega arith
few_tiles (suc n) w at [] some = omega arith
few_tiles (suc n) w at (b ∷ bs) some =
    before_few w (length_in (take w (b ∷ bs))) at (b ∷ bs) (first_tiles n w (at + tile_size w (b ∷ bs)) (drop (tile_size w (b ∷ bs)) (b ∷ bs))) _ _ some refl refl
    (few_tiles n w (at + tile_size w (b ∷ bs)) (drop (tile_size w (b ∷ bs)) (b ∷ bs)) some)

-- units after start codes have at most four bytes for each stored byte
pub few_units : (w : ℕ) (stored : List ℕ) (us : List Nal) → 1 ≤ w → tiling w 0 stored ≡ Ok us → length (with_codes us) ≤ 4 * length stored
unfolding tiling
few_units w stored us some is = subst (Few stored) is (few_tiles (length stored) w 0 stored some)

-- how many bytes they have fits a number of four bytes
pub few_put : (w : ℕ) (stored : List ℕ) (us : List Nal) (old new : List ℕ) (a b : ℕ) → 1 ≤ w → length stored ≤ 67108864 → tiling w 0 stored ≡ Ok us → new ≡ old ++ with_codes us
    → a ≡ length new → b ≡ length old → a - b < 2 ^ 32
few_put w stored us old new a b some short is grew la lb =
    omega (arith, few_units w stored us some is, short, la, lb, ap length grew, length-append old (with_codes us))

-- what is handed out of the current sample
pub handed_is : (l : Loaded) (ps : Positions) (e : Extracting) (c : Standing) (s : PlainSample) (w : Option ℕ) (stored : List ℕ) → record { loaded = l; positions = ps } ≡ e → Some c ≡ current e
    → sample_of l.movie c.track c.sample ≡ Some s → w ≡ cut_width l c.track s.description → handed_now e stored ≡ Some (handed_by w stored)
unfolding handed_out
handed_is l ps e c s w stored is now at width =
    let here : Some c ≡ current (record { loaded = l; positions = ps }) = now ∙ ap current (sym is) in
    subst (λ (x : Extracting). handed_now x stored ≡ Some (handed_by w stored)) is
    (ap (λ (o : Option Standing). option_and_then (λ c. option_map (λ s. handed_out l c.track s stored) (sample_of l.movie c.track c.sample)) o) (sym here)
    ∙ ap (option_map (λ s. handed_out l c.track s stored)) at ∙ ap (λ (x : Option ℕ). Some (handed_by x stored)) (sym width))
