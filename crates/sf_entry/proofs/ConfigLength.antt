-- The length of a configuration record that is made.
use Rattle.std.proofs.Common.{◌≡◌, ℕ, ◌+◌, ◌*◌, ◌^◌, ◌-◌, ◌<◌, ◌≤◌, ◌||◌, nat_lt, ◌==◌, Bool, true, false, cond, ◌⊎◌, inl, inr, List, [], ◌∷◌, ◌++◌, length, take, drop, get_or, Result, Ok, Err, refl, ap, arith}
use Rattle.std.specs.List.{list_any, flat_map}
use Rattle.std.proofs.lemmas.List.{length-append, length-take}
use Rattle.std.proofs.lemmas.Bool.{ltb-false}
use Rattle.sf_box.specs.Boxes.{be16}
use Rattle.sf_box.proofs.BoxLaws.{length-be16}
use Rattle.sf_avc.specs.declared.sps.SpsHead.{SpsHead}
use Rattle.sf_avc.specs.declared.sps.SpsFault.{SpsFault}
use Rattle.sf_avc.specs.declared.nal.NalFault.{NalFault}
use Rattle.sf_avc.specs.declared.config_body.ConfigFault.TheVariants.{Profile}
use Rattle.sf_avc.specs.Units.{Nal, nals}
use Rattle.sf_avc.specs.Sps.{is_high, sps_of}
use Rattle.sf_avc.specs.ConfigBody.{of_type, sized_set, formats, config_body, is_long, too_long, is_known, with_head, with_sets, with_units, made_config}

-- what a choice was made of
pub chosen : {A : Type 0} (b : Bool) (x y z : A) → cond b x y ≡ z → ((b ≡ true) × (x ≡ z)) ⊎ ((b ≡ false) × (y ≡ z))
chosen true x y z e = inl (refl, e)
chosen false x y z e = inr (refl, e)

neither : (a b : Bool) → (a || b) ≡ false → (a ≡ false) × (b ≡ false)
neither true b e = absurd (cc)
neither false b e = (refl, e)

-- sets of at most 65535 bytes each, after their lengths in two bytes
sets_length : (sets : List (List ℕ)) → list_any is_long sets ≡ false → length (flat_map sized_set sets) ≤ 65537 * length sets
unfolding sized_set
sets_length [] short = omega arith
sets_length (set ∷ sets) short =
    let parts = neither (is_long set) (list_any is_long sets) short in
    let fits : length set ≤ 65535 = ltb-false _ _ parts.0 in
    let rest = sets_length sets parts.1 in
    let whole = length-append (sized_set set) (flat_map sized_set sets) in
    let one = length-append (be16 (length set)) set in
    omega (arith, fits, rest, whole, one, length-be16 (length set))

few_if : (b : Bool) (xs : List ℕ) → length xs ≤ 4 → length (cond b xs []) ≤ 4
few_if true xs le = le
few_if false xs le = omega arith

formats_length : (head : SpsHead) → length (formats head) ≤ 4
unfolding formats
formats_length head = few_if (is_high head.profile) _ (omega arith)

-- how many sets a record has room for, each of at most 65535 bytes
pub record HasRoom (sps pps : List (List ℕ)) : Type 0 where
  pub few_sps : length sps ≤ 31
  pub few_pps : length pps ≤ 255
  pub short_sps : list_any is_long sps ≡ false
  pub short_pps : list_any is_long pps ≡ false

pub has_room : (sps pps : List (List ℕ)) → too_long sps pps ≡ false → HasRoom sps pps
has_room sps pps room =
    let third = neither (nat_lt 31 (length sps) || nat_lt 255 (length pps) || list_any is_long sps) (list_any is_long pps) room in
    let second = neither (nat_lt 31 (length sps) || nat_lt 255 (length pps)) (list_any is_long sps) third.0 in
    let first = neither (nat_lt 31 (length sps)) (nat_lt 255 (length pps)) second.0 in
    record { few_sps = ltb-false _ _ first.0; few_pps = ltb-false _ _ first.1; short_sps = second.1; short_pps = third.1 }

-- a record takes eleven bytes at most besides its sets, each after its length
pub body_parts : (sps pps : List (List ℕ)) (head : SpsHead) → length (config_body sps pps head) ≤ 11 + (length (flat_map sized_set sps) + length (flat_map sized_set pps))
unfolding config_body
body_parts sps pps head =
    let front : List ℕ = flat_map sized_set sps in
    let more : List ℕ = flat_map sized_set pps in
    let three : List ℕ = take 3 (drop 1 (get_or sps 0 [])) in
    let a = length-append ((1 ∷ []) ++ three ++ (255 ∷ (224 + length sps) ∷ []) ++ front ++ (length pps ∷ []) ++ more) (formats head) in
    let b = length-append ((1 ∷ []) ++ three ++ (255 ∷ (224 + length sps) ∷ []) ++ front ++ (length pps ∷ [])) more in
    let c = length-append ((1 ∷ []) ++ three ++ (255 ∷ (224 + length sps) ∷ []) ++ front) (length pps ∷ []) in
    let d = length-append ((1 ∷ []) ++ three ++ (255 ∷ (224 + length sps) ∷ [])) front in
    let e = length-append ((1 ∷ []) ++ three) (255 ∷ (224 + length sps) ∷ []) in
    let f = length-append (1 ∷ []) three in
    let g = length-take 3 (drop 1 (get_or sps 0 [])) in
    omega (arith, formats_length head, a, b, c, d, e, f, g)

-- a record of sets that have room
body_length : (sps pps : List (List ℕ)) (head : SpsHead) → too_long sps pps ≡ false → length (config_body sps pps head) ≤ 2 ^ 25 - 95
body_length sps pps head room =
    let has = has_room sps pps room in
    omega (arith, has.few_sps, has.few_pps, sets_length sps has.short_sps, sets_length pps has.short_pps, body_parts sps pps head)

-- A bound of the records of these sets, as far as they have room.
abbrev pub IsWithin : ℕ → List (List ℕ) → List (List ℕ) → Type 0
IsWithin n sps pps = (head : SpsHead) → too_long sps pps ≡ false → length (config_body sps pps head) ≤ n

with_head_within : (n : ℕ) (sps pps : List (List ℕ)) (found : Result SpsHead SpsFault) (body : List ℕ) → IsWithin n sps pps → too_long sps pps ≡ false → with_head sps pps found ≡ Ok body → length body ≤ n
with_head_within n sps pps (Err fault) body within room e = absurd (cc e)
with_head_within n sps pps (Ok head) body within room e =
    elim (chosen (is_known head.profile) (Ok (config_body sps pps head)) (Err (Profile head.profile)) (Ok body) e) [
      | inl p ↦ let is : config_body sps pps head ≡ body = cc (p.1) in omega (arith, within head room, ap (length {A = ℕ}) is)
      | inr p ↦ absurd (cc (p.1))
    ]

-- a record that is made of sets is within the bound
pub with_sets_within : (n : ℕ) (sps pps : List (List ℕ)) (body : List ℕ) → IsWithin n sps pps → with_sets sps pps ≡ Ok body → length body ≤ n
unfolding with_sets
with_sets_within n sps pps body within e =
    elim (chosen (length sps == 0) _ _ (Ok body) e) [
      | inl p ↦ absurd (cc (p.1))
      | inr p ↦
          elim (chosen (length pps == 0) _ _ (Ok body) p.1) [
            | inl q ↦ absurd (cc (q.1))
            | inr q ↦
                elim (chosen (too_long sps pps) _ _ (Ok body) q.1) [
                  | inl r ↦ absurd (cc (r.1))
                  | inr r ↦ with_head_within n sps pps (sps_of (get_or sps 0 [])) body within r.0 r.1
                ]
          ]
    ]

with_units_length : (found : Result (List Nal) NalFault) (body : List ℕ) → with_units found ≡ Ok body → length body ≤ 2 ^ 25 - 95
with_units_length (Ok units) body e = with_sets_within (2 ^ 25 - 95) (of_type 7 units) (of_type 8 units) body (body_length (of_type 7 units) (of_type 8 units)) e
with_units_length (Err fault) body e = absurd (cc e)

-- a record that is made is short
pub config_length : (config body : List ℕ) → made_config config ≡ Ok body → length body < 2 ^ 25 - 94
unfolding made_config
config_length config body e = omega (arith, with_units_length (nals config) body e)
