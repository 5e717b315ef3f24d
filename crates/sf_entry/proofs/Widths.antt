-- The lengths of units in video whose entry is read have one to four bytes.
use Rattle.std.proofs.Common.{◌≡◌, ℕ, ◌+◌, ◌≤◌, nat_le, codes, ◌%◌, ◌==◌, drop, Bool, true, false, not, if◌then◌else◌, List, [], ◌∷◌, length, take, Option, Some, None, Result, Ok, Err, refl, ap, subst, arith}
use Rattle.std.specs.List.{AllByRecursion}
use Rattle.std.specs.Str.{bytes_eq}
use Rattle.sf_avc.specs.Config.{Sets, config_of, pictures, record_of, sequences, sets, with_pictures}
use Rattle.sf_avc.specs.declared.config.AvcConfig.{AvcConfig}
use Rattle.sf_avc.specs.declared.config.AvcCFault.{AvcCFault}
use Rattle.sf_box.specs.Boxes.{Piece, word16, word32}
use Rattle.sf_box.specs.declared.types.FourCc.{FourCc}
use Rattle.sf_entry.specs.Steps.{◌>>=◌, ◌>>◌, as_fault, check, needed}
use Rattle.sf_entry.specs.Stsd.{HasWidth, IsWidth, boxes_after, child_in, entries_in, entries_of, entry_at, entry_in, sound_in, sound_of, video_in}
use Rattle.sf_entry.specs.declared.types.Entry.{Entry}
use Rattle.sf_entry.specs.declared.types.Entry.TheVariants.{Avc, Other}
use Rattle.sf_entry.specs.declared.types.EntryAt.{EntryAt}
use Rattle.sf_entry.specs.declared.types.EntryFault.{EntryFault}
use Rattle.sf_entry.specs.declared.types.EntryFault.TheVariants.{Short, NoAvcC, BadAvcC}

-- ---- the configuration

of_pictures : (w : ℕ) (sps : List (List ℕ)) (found : Option Sets) (c : AvcConfig) → with_pictures w sps found ≡ Ok c → IsWidth w → IsWidth c.width
of_pictures w sps None c e is = absurd (cc e)
of_pictures w sps (Some found) c e is =
    let same : record { width = w; sps = sps; pps = found.0 } ≡ c = cc e in
    subst (λ (x : AvcConfig). IsWidth x.width) same is

of_counted : (w : ℕ) (sps : List (List ℕ)) (bytes : List ℕ) (c : AvcConfig) → pictures w sps bytes ≡ Ok c → IsWidth w → IsWidth c.width
of_counted w sps [] c e is = absurd (cc e)
of_counted w sps (count ∷ bytes) c e is = of_pictures w sps (sets count bytes) c e is

of_sequences : (w : ℕ) (found : Option Sets) (c : AvcConfig) → sequences w found ≡ Ok c → IsWidth w → IsWidth c.width
of_sequences w None c e is = absurd (cc e)
of_sequences w (Some found) c e is = of_counted w found.0 found.1 c e is

of_record : (bytes : List ℕ) (c : AvcConfig) → record_of bytes ≡ Ok c → IsWidth c.width
of_record [] c e = absurd (cc e)
of_record (profile ∷ []) c e = absurd (cc e)
of_record (profile ∷ constraints ∷ []) c e = absurd (cc e)
of_record (profile ∷ constraints ∷ level ∷ []) c e = absurd (cc e)
of_record (profile ∷ constraints ∷ level ∷ size ∷ []) c e = absurd (cc e)
of_record (profile ∷ constraints ∷ level ∷ size ∷ count ∷ bytes) c e =
    of_sequences (size % 4 + 1) (sets (count % 32) bytes) c e (record { least = omega arith; most = omega arith })

unless : {A E : Type 0} (b : Bool) (fault : E) (r : Result A E) (x : A) → (if not b then Err fault else r) ≡ Ok x → r ≡ Ok x
unless true fault r x e = e
unless false fault r x e = absurd (cc e)

of_config : (body : List ℕ) (c : AvcConfig) → config_of body ≡ Ok c → IsWidth c.width
unfolding config_of
of_config [] c e = absurd (cc e)
of_config (version ∷ bytes) c e = of_record bytes c (unless (version == 1) _ (record_of bytes) c e)

-- ---- the entries

-- a step that succeeded came from steps that did
after_ok : {A B E : Type 0} (r : Result A E) (f : A → Result B E) (y : B) → (r >>= f) ≡ Ok y → (x : A) × (r ≡ Ok x) × (f x ≡ Ok y)
after_ok (Ok x) f y e = (x, refl, e)
after_ok (Err e') f y e = absurd (cc e)

checked : {B E : Type 0} (b : Bool) (fault : E) (q : Result B E) (y : B) → (check b fault >> q) ≡ Ok y → q ≡ Ok y
checked true fault q y e = e
checked false fault q y e = absurd (cc e)

of_avc : (fault : EntryFault) (r : Result AvcConfig AvcCFault) (x : Entry) → ((c : AvcConfig) → r ≡ Ok c → IsWidth c.width)
    → (as_fault (λ (f : AvcCFault). fault) r >>= (λ (c : AvcConfig). Ok (Avc c))) ≡ Ok x → HasWidth x
of_avc fault (Ok c) x is e = let same : Avc c ≡ x = cc e in subst HasWidth same (is c refl)
of_avc fault (Err f) x is e = absurd (cc e)

of_box : (none bad : EntryFault) (found : Option (List ℕ)) (x : Entry)
    → (needed found none >>= (λ (avcC : List ℕ). as_fault (λ (f : AvcCFault). bad) (config_of avcC) >>= (λ (c : AvcConfig). Ok (Avc c)))) ≡ Ok x → HasWidth x
of_box none bad None x e = absurd (cc e)
of_box none bad (Some avcC) x e = of_avc bad (config_of avcC) x (of_config avcC) e

of_video : (p : Piece) (x : Entry) → video_in p ≡ Ok x → HasWidth x
unfolding video_in
of_video p x e =
    of_box (NoAvcC p.head.at) (BadAvcC p.head.at) (child_in 78 (codes "avcC") p.body) x
    (checked (nat_le 78 (length p.body)) (Short p.head.at) _ x e)

of_sound : (kind : FourCc) (found : Option (List ℕ)) → HasWidth (sound_of kind found)
of_sound kind None = tt
of_sound kind (Some config) = tt

of_other : (b : Bool) (p : Piece) → HasWidth (if b then sound_in p else Other p.head.kind)
unfolding sound_in
of_other true p = of_sound p.head.kind _
of_other false p = tt

of_named : (b : Bool) (fault : EntryFault) (c : Bool) (p : Piece) (x : Entry) → (check b fault >> Ok (if c then sound_in p else Other p.head.kind)) ≡ Ok x → HasWidth x
of_named true fault c p x e = let same : (if c then sound_in p else Other p.head.kind) ≡ x = cc e in subst HasWidth same (of_other c p)
of_named false fault c p x e = absurd (cc e)

of_kind : (b : Bool) (r q : Result Entry EntryFault) (x : Entry) → ((y : Entry) → r ≡ Ok y → HasWidth y) → ((y : Entry) → q ≡ Ok y → HasWidth y)
    → (if b then r else q) ≡ Ok x → HasWidth x
of_kind true r q x one two e = one x e
of_kind false r q x one two e = two x e

of_entry : (p : Piece) (x : Entry) → entry_in p ≡ Ok x → HasWidth x
unfolding entry_in
of_entry p x e =
    of_kind (bytes_eq p.head.kind.0 (codes "avc1")) (video_in p) _ x (of_video p) (λ y is.
    of_named (nat_le 8 (length p.body)) (Short p.head.at) (bytes_eq p.head.kind.0 (codes "mp4a")) p y is) e

of_place : (p : Piece) (x : EntryAt) → entry_at p ≡ Ok x → HasWidth x.entry
unfolding entry_at
of_place p x e =
    let a = after_ok (entry_in p) _ x e in
    let same : record { at = p.head.at; len = p.head.size; reference = word16 (drop 6 p.body); entry = a.0 } ≡ x = cc a.2 in
    subst (λ (y : EntryAt). HasWidth y.entry) same (of_entry p a.0 a.1)

of_entries : (ps : List Piece) (es : List EntryAt) → entries_in ps ≡ Ok es → AllByRecursion (λ e. HasWidth e.entry) es
unfolding entries_in
of_entries [] es e = let none : [] ≡ es = cc e in subst (λ (xs : List EntryAt). AllByRecursion (λ x. HasWidth x.entry) xs) none tt
of_entries (p ∷ ps) es e =
    let a = after_ok (entry_at p) _ es e in
    let b = after_ok (entries_in ps) _ es a.2 in
    let same : a.0 ∷ b.0 ≡ es = cc b.2 in
    subst (λ (xs : List EntryAt). AllByRecursion (λ x. HasWidth x.entry) xs) same (of_place p a.0 a.1, of_entries ps b.0 b.1)

pub widths_read : (base : ℕ) (body : List ℕ) (es : List EntryAt) → entries_of base body ≡ Ok es → AllByRecursion (λ e. HasWidth e.entry) es
unfolding entries_of
widths_read base body es e =
    of_entries (take (word32 (drop 4 body)) (boxes_after base body)) es
    (checked (nat_le (word32 (drop 4 body)) (length (boxes_after base body))) (Short base) _ es
    (checked (nat_le 8 (length body)) (Short base) _ es e))
