-- The configuration that is read back from the record that was made of it.
use Rattle.std.proofs.Common.{◌≡◌, ℕ, suc, ◌+◌, ◌%◌, ◌==◌, ◌≤◌, ◌<◌, ◌^◌, ◌||◌, nat_lt, Bool, true, false, cond, List, [], ◌∷◌, ◌++◌, length, take, drop, get_or, Some, Result, Ok, Err, refl, ap, sym, ◌∙◌, arith, append_assoc}
use Rattle.std.specs.List.{list_any, flat_map}
use Rattle.std.proofs.lemmas.List.{length-append, take_at, drop_at}
use Rattle.std.proofs.lemmas.Bool.{ltb-false, le-ltb}
use Rattle.sf_box.specs.Boxes.{be16, word16}
use Rattle.sf_box.proofs.BoxLaws.{length-be16, word16_of, drop_half}
use Rattle.sf_avc.specs.declared.sps.SpsHead.{SpsHead}
use Rattle.sf_avc.specs.declared.sps.SpsFault.{SpsFault}
use Rattle.sf_avc.specs.declared.config_body.ConfigFault.{ConfigFault}
use Rattle.sf_avc.specs.declared.config_body.ConfigFault.TheVariants.{NoSps, NoPps, TooLong, Profile}
use Rattle.sf_avc.specs.Units.{Nal, nals}
use Rattle.sf_avc.specs.Sps.{sps_of}
use Rattle.sf_avc.specs.Config.{with_set, sets, with_pictures, sequences, config_of}
use Rattle.sf_avc.specs.ConfigBody.{of_type, sized_set, formats, config_body, is_long, too_long, is_known, with_head, with_sets, with_units, made_config}
use Rattle.sf_avc.proofs.RecordSets.{four_bytes}

-- the first set is read back
set_back : (set rest : List ℕ) (n : ℕ) → length set < 2 ^ 16 → sets (suc n) (sized_set set ++ rest) ≡ with_set set (sets n rest)
unfolding sets sized_set
set_back set rest n short =
    let bytes : List ℕ = be16 (length set) ++ (set ++ rest) in
    let word : word16 bytes ≡ length set = word16_of (length set) (set ++ rest) short in
    let after : drop 2 bytes ≡ set ++ rest = drop_half (length set) (set ++ rest) in
    let some : nat_lt (length bytes) 2 ≡ false = le-ltb _ _ (omega (arith, length-append (be16 (length set)) (set ++ rest), length-be16 (length set))) in
    let whole : nat_lt (length (set ++ rest)) (length set) ≡ false = le-ltb _ _ (omega (arith, length-append set rest)) in
    ap (λ (all : List ℕ). sets (suc n) all) (append_assoc (be16 (length set)) set rest)
    ∙ rw (some, after, word, whole, take_at set rest (length set) refl, drop_at set rest (length set) refl) refl

neither : (a b : Bool) → (a || b) ≡ false → (a ≡ false) × (b ≡ false)
neither true b e = absurd (cc)
neither false b e = (refl, e)

-- sets are read back, with what follows them
sets_back : (all : List (List ℕ)) (rest : List ℕ) → list_any is_long all ≡ false → sets (length all) (flat_map sized_set all ++ rest) ≡ Some (all, rest)
unfolding sets
sets_back [] rest short = refl
sets_back (set ∷ all) rest short =
    let parts = neither (is_long set) (list_any is_long all) short in
    let fits : length set ≤ 65535 = ltb-false _ _ parts.0 in
    ap (λ (bytes : List ℕ). sets (suc (length all)) bytes) (append_assoc (sized_set set) (flat_map sized_set all) rest)
    ∙ set_back set (flat_map sized_set all ++ rest) (length all) (omega (arith, fits))
    ∙ ap (with_set set) (sets_back all rest parts.1)

-- ---- the record

-- what is read from the sequence sets on, whatever the first set is, if it has four bytes
sets_on : (set : List ℕ) (n m : ℕ) (sps pps end : List ℕ) → 4 ≤ length set
    → config_of ((1 ∷ []) ++ take 3 (drop 1 set) ++ (255 ∷ (224 + n) ∷ []) ++ sps ++ (m ∷ []) ++ pps ++ end)
    ≡ sequences 4 (sets ((224 + n) % 32) (sps ++ (m ∷ []) ++ pps ++ end))
unfolding config_of
sets_on [] n m sps pps end four = absurd (omega (arith, four))
sets_on (a ∷ []) n m sps pps end four = absurd (omega (arith, four))
sets_on (a ∷ b ∷ []) n m sps pps end four = absurd (omega (arith, four))
sets_on (a ∷ b ∷ c ∷ []) n m sps pps end four = absurd (omega (arith, four))
sets_on (a ∷ b ∷ c ∷ d ∷ set) n m sps pps end four = refl

-- the record of sets is read back
record_back : (sps pps : List (List ℕ)) (head : SpsHead) → 4 ≤ length (get_or sps 0 []) → too_long sps pps ≡ false
    → config_of (config_body sps pps head) ≡ Ok (record { width = 4; sps = sps; pps = pps })
unfolding config_body
record_back sps pps head four room =
    let third = neither (nat_lt 31 (length sps) || nat_lt 255 (length pps) || list_any is_long sps) (list_any is_long pps) room in
    let second = neither (nat_lt 31 (length sps) || nat_lt 255 (length pps)) (list_any is_long sps) third.0 in
    let first = neither (nat_lt 31 (length sps)) (nat_lt 255 (length pps)) second.0 in
    let few : length sps ≤ 31 = ltb-false _ _ first.0 in
    let count : (224 + length sps) % 32 ≡ length sps = omega (arith, few) in
    let front : List ℕ = flat_map sized_set sps in
    let more : List ℕ = flat_map sized_set pps in
    let end : List ℕ = formats head in
    let joined : front ++ (length pps ∷ []) ++ more ++ end ≡ front ++ length pps ∷ (more ++ end) =
    append_assoc (front ++ length pps ∷ []) more end ∙ append_assoc front (length pps ∷ []) (more ++ end) in
    sets_on (get_or sps 0 []) (length sps) (length pps) front more end four
    ∙ ap (λ (n : ℕ). sequences 4 (sets n (front ++ (length pps ∷ []) ++ more ++ end))) count
    ∙ ap (λ (bytes : List ℕ). sequences 4 (sets (length sps) bytes)) joined
    ∙ ap (sequences 4) (sets_back sps (length pps ∷ (more ++ end)) second.1)
    ∙ ap (with_pictures 4 sps) (sets_back pps end third.1)

-- ---- what is known where a record is made

goes_on : (refused : Bool) (fault : ConfigFault) (found : Result (List ℕ) ConfigFault) (body : List ℕ) → cond refused (Err fault) found ≡ Ok body
    → (refused ≡ false) × (found ≡ Ok body)
goes_on true fault found body e = absurd (cc)
goes_on false fault found body e = (refl, e)

taken_body : (known : Bool) (made body : List ℕ) (fault : ConfigFault) → cond known (Ok made) (Err fault) ≡ Ok body → made ≡ body
taken_body true made body fault e = cc
taken_body false made body fault e = absurd (cc)

head_back : (sps pps : List (List ℕ)) (found : Result SpsHead SpsFault) (body : List ℕ) → sps_of (get_or sps 0 []) ≡ found → too_long sps pps ≡ false
    → with_head sps pps found ≡ Ok body → config_of body ≡ Ok (record { width = 4; sps = sps; pps = pps })
head_back sps pps (Err fault) body is room e = absurd (cc)
head_back sps pps (Ok head) body is room e =
    let made : config_body sps pps head ≡ body = taken_body (is_known head.profile) (config_body sps pps head) body (Profile head.profile) e in
    ap config_of (sym made) ∙ record_back sps pps head (four_bytes (get_or sps 0 []) head is) room

sets_again : (sps pps : List (List ℕ)) (body : List ℕ) → with_sets sps pps ≡ Ok body → config_of body ≡ Ok (record { width = 4; sps = sps; pps = pps })
unfolding with_sets
sets_again sps pps body e =
    let found = with_head sps pps (sps_of (get_or sps 0 [])) in
    let a = goes_on (length sps == 0) NoSps (cond (length pps == 0) (Err NoPps) (cond (too_long sps pps) (Err TooLong) found)) body e in
    let b = goes_on (length pps == 0) NoPps (cond (too_long sps pps) (Err TooLong) found) body a.1 in
    let c = goes_on (too_long sps pps) TooLong found body b.1 in
    head_back sps pps (sps_of (get_or sps 0 [])) body refl c.0 c.1

-- the record of a configuration is read back
pub config_back : (config body : List ℕ) (units : List Nal) → nals config ≡ Ok units → made_config config ≡ Ok body
    → config_of body ≡ Ok (record { width = 4; sps = of_type 7 units; pps = of_type 8 units })
unfolding made_config
config_back config body units is made = sets_again (of_type 7 units) (of_type 8 units) body (ap with_units (sym is) ∙ made)
