-- The parameter sets of a configuration, as units of it and as bytes.
use Rattle.std.proofs.Common.{◌≡◌, ℕ, ◌+◌, ◌%◌, ◌==◌, ◌≤◌, ◌<◌, inl, inr, ◌||◌, nat_lt, Bool, true, false, cond, List, [], ◌∷◌, ◌++◌, length, take, drop, map, get_or, Result, Ok, Err, refl, ap, sym, ◌∙◌, arith}
use Rattle.std.specs.List.{All, filter, list_any, flat_map}
use Rattle.std.proofs.lemmas.List.{append-nil, take_more, take_all, map-append, length-drop, length-take, length-map, get_or-map}
use Rattle.std.proofs.lemmas.List.Elements.{filter-append, All-head, All-tail, All-nil, All-cons}
use Rattle.std.proofs.lemmas.List.Folds.{flat_map-map}
use Rattle.std.proofs.lemmas.Bool.{ltb-false, le-ltb, ne_eqb, cases_lt}
use Rattle.sf_avc.specs.declared.sps.SpsHead.{SpsHead}
use Rattle.sf_avc.specs.declared.sps.SpsFault.{SpsFault}
use Rattle.sf_avc.specs.declared.sps.SpsFault.TheVariants.{NotSps, Truncated}
use Rattle.sf_avc.specs.Bits.{bits_of}
use Rattle.sf_avc.specs.Sps.{without_emulation, fixed, fields_of, sps_of}
use Rattle.sf_avc.proofs.Emulation.{no_longer}
use Rattle.sf_avc.specs.declared.nal.Unit.{Unit}
use Rattle.sf_avc.specs.Units.{Nal, unit_at, Within}
use Rattle.sf_avc.specs.ConfigBody.{is_type, of_type, is_long, is_known, config_body, with_sets}
use Rattle.sf_avc.specs.inner.Sets.{bytes_at, sets_at, IsShortSet}

-- the units of a type among the first ones and one more
type_more : (config : List ℕ) (kind : ℕ) (units : List Unit) (i : ℕ) (d : Unit) → i < length units
    → of_type kind (map (unit_at config) (take (i + 1) units))
    ≡ of_type kind (map (unit_at config) (take i units)) ++ filter (is_type kind) (bytes_at config (get_or units i d) ∷ [])
type_more config kind units i d lt =
    ap (λ (us : List Unit). of_type kind (map (unit_at config) us)) (take_more units i d lt)
    ∙ ap (λ (us : List Nal). of_type kind us) (map-append (unit_at config) (take i units) (get_or units i d ∷ []))
    ∙ ap (filter (is_type kind)) (map-append (λ (u : Nal). u.bytes) (map (unit_at config) (take i units)) (unit_at config (get_or units i d) ∷ []))
    ∙ filter-append (is_type kind) (map (λ (u : Nal). u.bytes) (map (unit_at config) (take i units))) (bytes_at config (get_or units i d) ∷ [])

-- one unit more is kept, or left out
pub unit_kept : (config : List ℕ) (kind : ℕ) (units kept new : List Unit) (i : ℕ) (d : Unit) → i < length units → is_type kind (bytes_at config (get_or units i d)) ≡ true
    → new ≡ kept ++ get_or units i d ∷ [] → sets_at config kept ≡ of_type kind (map (unit_at config) (take i units))
    → sets_at config new ≡ of_type kind (map (unit_at config) (take (i + 1) units))
unit_kept config kind units kept new i d lt is more so_far =
    let bytes : List ℕ = bytes_at config (get_or units i d) in
    ap (sets_at config) more
    ∙ map-append (bytes_at config) kept (get_or units i d ∷ [])
    ∙ ap (λ (sets : List (List ℕ)). sets ++ bytes ∷ []) so_far
    ∙ sym (type_more config kind units i d lt ∙ ap (λ (keeps : Bool). of_type kind (map (unit_at config) (take i units)) ++ cond keeps (bytes ∷ []) []) is)

pub unit_left : (config : List ℕ) (kind : ℕ) (units kept : List Unit) (i : ℕ) (d : Unit) → i < length units → is_type kind (bytes_at config (get_or units i d)) ≡ false
    → sets_at config kept ≡ of_type kind (map (unit_at config) (take i units)) → sets_at config kept ≡ of_type kind (map (unit_at config) (take (i + 1) units))
unit_left config kind units kept i d lt is so_far =
    let bytes : List ℕ = bytes_at config (get_or units i d) in
    so_far ∙ sym (
    type_more config kind units i d lt
    ∙ ap (λ (keeps : Bool). of_type kind (map (unit_at config) (take i units)) ++ cond keeps (bytes ∷ []) []) is
    ∙ append-nil (of_type kind (map (unit_at config) (take i units)))
    )

-- all units were looked at
pub type_all : (config : List ℕ) (kind : ℕ) (units kept : List Unit) (n : ℕ) → length units ≤ n
    → sets_at config kept ≡ of_type kind (map (unit_at config) (take n units)) → sets_at config kept ≡ of_type kind (map (unit_at config) units)
type_all config kind units kept n le so_far = so_far ∙ ap (λ (us : List Unit). of_type kind (map (unit_at config) us)) (take_all n units le)

-- the forms of the first sets are those of all
pub all_sets : (form : List ℕ → List ℕ) (config : List ℕ) (units : List Unit) (n : ℕ) → length units ≤ n
    → flat_map (λ u. form (bytes_at config u)) (take n units) ≡ flat_map form (sets_at config units)
all_sets form config units n le =
    ap (λ (us : List Unit). flat_map (λ u. form (bytes_at config u)) us) (take_all n units le) ∙ sym (flat_map-map form (bytes_at config) units)

-- the bytes of a unit within its payload are as many as it says
length-bytes_at : (config : List ℕ) (u : Unit) → Within config u → length (bytes_at config u) ≡ u.len
length-bytes_at config u within = omega (arith, length-take u.len (drop u.at config), length-drop u.at config)

-- sets are too long where their units are
pub any_long_of : (config : List ℕ) (units : List Unit) → All (Within config) units → list_any is_long (sets_at config units) ≡ list_any (λ (u : Unit). nat_lt 65535 u.len) units
any_long_of config [] within = refl
any_long_of config (u ∷ us) within =
    ap (λ (n : ℕ). nat_lt 65535 n || list_any is_long (sets_at config us)) (length-bytes_at config u (All-head (Within config) u us within))
    ∙ ap (λ (any : Bool). nat_lt 65535 u.len || any) (any_long_of config us (All-tail (Within config) u us within))

neither : (a b : Bool) → (a || b) ≡ false → (a ≡ false) × (b ≡ false)
neither true b e = absurd (cc)
neither false b e = (refl, e)

pub none_long : (units : List Unit) → list_any (λ (u : Unit). nat_lt 65535 u.len) units ≡ false → All IsShortSet units
none_long [] e = All-nil IsShortSet
none_long (u ∷ us) e =
    let parts = neither (nat_lt 65535 u.len) (list_any (λ (v : Unit). nat_lt 65535 v.len) us) e in
    All-cons IsShortSet u us (ltb-false _ _ parts.0) (none_long us parts.1)

-- the first set is that of the first unit
pub first_set : (config : List ℕ) (units : List Unit) (d : Unit) → 1 ≤ length units → get_or (sets_at config units) 0 [] ≡ bytes_at config (get_or units 0 d)
first_set config units d some = get_or-map (bytes_at config) units 0 d [] (omega arith)

pub ruleset long_facts = (any_long_of, none_long)

-- ---- a set that is read has four bytes

-- a profile, its constraints and a level take three bytes
few_fields : (bytes : List ℕ) → length bytes ≤ 2 → fields_of bytes ≡ Err (Truncated (length (bits_of bytes)))
unfolding fields_of fixed bits_of
few_fields [] le = refl
few_fields (a ∷ []) le = refl
few_fields (a ∷ b ∷ []) le = refl
few_fields (a ∷ b ∷ c ∷ bytes) le = absurd (omega (arith, le))

chosen_head : (b : Bool) (found : Result SpsHead SpsFault) (fault : SpsFault) (head : SpsHead) → found ≡ Err fault → cond b found (Err NotSps) ≡ Ok head → ⊥
chosen_head true found fault head e is = cc
chosen_head false found fault head e is = cc

-- a sequence set that is read has four bytes
pub four_bytes : (set : List ℕ) (head : SpsHead) → sps_of set ≡ Ok head → 4 ≤ length set
unfolding sps_of
four_bytes [] head is = absurd (cc)
four_bytes (first ∷ bytes) head is =
    elim (cases_lt (length bytes) 3) [
      | inl few ↦
          absurd (
          chosen_head (first % 32 == 7) (fields_of (without_emulation 0 bytes)) (Truncated (length (bits_of (without_emulation 0 bytes)))) head
          (few_fields (without_emulation 0 bytes) (omega (arith, few, no_longer 0 bytes))) is
          )
      | inr enough ↦ omega (arith, enough)
    ]

-- ---- what is known of sets that are judged

pub first_four : (config : List ℕ) (units : List Unit) (d : Unit) (head : SpsHead) → 1 ≤ length units → sps_of (bytes_at config (get_or units 0 d)) ≡ Ok head
    → 4 ≤ length (get_or (sets_at config units) 0 [])
first_four config units d head some is = rw (first_set config units d some) (four_bytes (bytes_at config (get_or units 0 d)) head is)

-- the tests that sets pass, one after another
passes : (S P : List (List ℕ)) (head : SpsHead) → (length S == 0) ≡ false → (length P == 0) ≡ false → nat_lt 31 (length S) ≡ false → nat_lt 255 (length P) ≡ false
    → list_any is_long S ≡ false → list_any is_long P ≡ false → sps_of (get_or S 0 []) ≡ Ok head → is_known head.profile ≡ true
    → with_sets S P ≡ Ok (config_body S P head)
unfolding with_sets
passes S P head some_s some_p few_s few_p short_s short_p is known = rw (some_s, some_p, few_s, few_p, short_s, short_p, is, known) refl

-- a record is made of these sets
pub made_with : (config : List ℕ) (sps pps : List Unit) (d : Unit) (head : SpsHead) → 1 ≤ length sps → 1 ≤ length pps → length sps ≤ 31 → length pps ≤ 255
    → list_any is_long (sets_at config sps) ≡ false → list_any is_long (sets_at config pps) ≡ false
    → sps_of (bytes_at config (get_or sps 0 d)) ≡ Ok head → is_known head.profile ≡ true
    → with_sets (sets_at config sps) (sets_at config pps) ≡ Ok (config_body (sets_at config sps) (sets_at config pps) head)
made_with config sps pps d head some_s some_p few_s few_p short_s short_p is known =
    let s : length (sets_at config sps) ≡ length sps = length-map sps (bytes_at config) in
    let p : length (sets_at config pps) ≡ length pps = length-map pps (bytes_at config) in
    passes (sets_at config sps) (sets_at config pps) head
    (ne_eqb _ _ (λ e. omega (arith, e, s))) (ne_eqb _ _ (λ e. omega (arith, e, p)))
    (le-ltb _ _ (omega (arith, s))) (le-ltb _ _ (omega (arith, p))) short_s short_p
    (ap sps_of (first_set config sps d some_s) ∙ is) known
