-- The edit list that is written is read back: the lead, and the media from their start.
use Rattle.std.proofs.Common.{◌≡◌, ℕ, ◌-◌, ◌*◌, ◌^◌, ◌<◌, ◌≤◌, nat_le, true, List, [], ◌∷◌, ◌++◌, length, drop, replicate, Some, Ok, refl, ap, ◌∙◌, arith}
use Rattle.std.specs.List.{AllByRecursion}
use Rattle.std.proofs.lemmas.Bool.{le-leb}
use Rattle.sf_box.specs.declared.types.BoxHead.{BoxHead}
use Rattle.sf_box.specs.Boxes.{be64, word32, word64}
use Rattle.sf_box.specs.Parts.{tiled, Fits}
use Rattle.sf_box.proofs.BoxLaws.{word64_of, drop_wide}
use Rattle.sf_meaning.specs.Headers.{is_wide}
use Rattle.sf_meaning.specs.Tables.{count_in}
use Rattle.sf_meaning.specs.Edits.{edit_in, edits, edits_in, shift_in, shift_of}
use Rattle.sf_meaning.specs.declared.elst.Edit.{Edit}
use Rattle.sf_meaning.proofs.MeaningLaws.{inside_read}
use Rattle.sf_layout.specs.Headers.{zeros, length_us, elst_body, in_edts}
use Rattle.sf_layout.specs.declared.heads.TrackHead.{TrackHead}

-- an edit that shows the media, in front of other bytes
abbrev edit_bytes : ℕ → List ℕ → List ℕ → List ℕ
edit_bytes duration media_time rest = be64 duration ++ (media_time ++ ((0 ∷ 1 ∷ 0 ∷ 0 ∷ []) ++ rest))

pub length-elst_body : (lead media_us : ℕ) → length (elst_body lead media_us) ≡ 48
unfolding elst_body be64
length-elst_body lead media_us = refl

minus_one : (rest : List ℕ) → word64 (replicate 8 255 ++ rest) ≡ 2 ^ 64 - 1
unfolding word64
minus_one rest = refl

nothing : (rest : List ℕ) → word64 (zeros 8 ++ rest) ≡ 0
unfolding word64
nothing rest = refl

at_pace : (duration a b c d e f g h : ℕ) (rest : List ℕ) → word32 (drop 16 (edit_bytes duration (a ∷ b ∷ c ∷ d ∷ e ∷ f ∷ g ∷ h ∷ []) rest)) ≡ 0x10000
unfolding word32 be64
at_pace duration a b c d e f g h rest = refl

behind_edit : (duration a b c d e f g h : ℕ) (rest : List ℕ) → drop 20 (edit_bytes duration (a ∷ b ∷ c ∷ d ∷ e ∷ f ∷ g ∷ h ∷ []) rest) ≡ rest
unfolding be64
behind_edit duration a b c d e f g h rest = refl

-- the two edits
abbrev empty_edit : ℕ → Edit
empty_edit lead = record { duration = lead; media_time = 2 ^ 64 - 1; rate = 0x10000 }

first_edit : (lead : ℕ) (rest : List ℕ) → lead < 2 ^ 64 → edit_in true (edit_bytes lead (replicate 8 255) rest) ≡ empty_edit lead
first_edit lead rest lt =
    let duration : word64 (edit_bytes lead (replicate 8 255) rest) ≡ lead = word64_of lead _ lt in
    let media : word64 (drop 8 (edit_bytes lead (replicate 8 255) rest)) ≡ 2 ^ 64 - 1 = ap word64 (drop_wide lead _) ∙ minus_one _ in
    rw (duration, media, at_pace lead 255 255 255 255 255 255 255 255 rest) refl

second_edit : (media_us : ℕ) (rest : List ℕ) → edit_in true (edit_bytes media_us (zeros 8) rest) ≡ record { duration = word64 (edit_bytes media_us (zeros 8) rest); media_time = 0; rate = 0x10000 }
second_edit media_us rest =
    let media : word64 (drop 8 (edit_bytes media_us (zeros 8) rest)) ≡ 0 = ap word64 (drop_wide media_us _) ∙ nothing _ in
    rw (media, at_pace media_us 0 0 0 0 0 0 0 0 rest) refl

-- the edits of the list
abbrev both : ℕ → ℕ → List Edit
both lead media_us = empty_edit lead ∷ record { duration = word64 (edit_bytes media_us (zeros 8) []); media_time = 0; rate = 0x10000 } ∷ []

counts_two : (lead media_us : ℕ) → count_in (elst_body lead media_us) ≡ 2
unfolding elst_body word32
counts_two lead media_us = refl

wide_list : (lead media_us : ℕ) → is_wide (elst_body lead media_us) ≡ true
unfolding elst_body
wide_list lead media_us = refl

abbrev edits_bytes : ℕ → ℕ → List ℕ
edits_bytes lead media_us = edit_bytes lead (replicate 8 255) (edit_bytes media_us (zeros 8) [])

edits_follow : (lead media_us : ℕ) → drop 8 (elst_body lead media_us) ≡ edits_bytes lead media_us
unfolding elst_body
edits_follow lead media_us = refl

edits_back : (lead media_us : ℕ) → lead < 2 ^ 64 → edits true 2 (edits_bytes lead media_us) ≡ both lead media_us
edits_back lead media_us lt =
    rw (first_edit lead (edit_bytes media_us (zeros 8) []) lt, behind_edit lead 255 255 255 255 255 255 255 255 (edit_bytes media_us (zeros 8) []), second_edit media_us []) refl

both_read : (h : BoxHead) (lead media_us : ℕ) → lead < 2 ^ 64 → edits_in (record { head = h; body = elst_body lead media_us }) ≡ Ok (both lead media_us)
unfolding edits_in
both_read h lead media_us lt =
    let counted : nat_le 8 (length (elst_body lead media_us)) ≡ true = le-leb 8 _ (omega (arith, length-elst_body lead media_us)) in
    let whole : nat_le 48 (length (elst_body lead media_us)) ≡ true = le-leb 48 _ (omega (arith, length-elst_body lead media_us)) in
    rw (counted, wide_list lead media_us, counts_two lead media_us, whole, edits_follow lead media_us, edits_back lead media_us lt) refl

-- what the edit list says
elst_read : (scale lead media_us : ℕ) (h : BoxHead) → lead ≤ 2 ^ 48 → shift_in 1000000 scale (record { head = h; body = elst_body lead media_us }) ≡ Ok (record { lead = lead; media_time = 0 })
unfolding shift_in
elst_read scale lead media_us h le =
    let near : nat_le lead (2 ^ 40 * 1000000) ≡ true = le-leb lead _ (omega (arith, le)) in
    let start : nat_le 0 (2 ^ 40 * scale) ≡ true = le-leb 0 _ (omega arith) in
    rw (both_read h lead media_us (omega (arith, le)), wide_list lead media_us) (rw (near, start) refl)

edts_fits : (head : TrackHead) → AllByRecursion Fits (in_edts head)
edts_fits head = (record { kind = refl; body = omega (arith, length-elst_body head.lead_us (length_us head)) }, tt)

-- what the edits of a track say
pub edts_read : (scale : ℕ) (h : BoxHead) (head : TrackHead) → head.lead_us ≤ 2 ^ 48
    → shift_of 1000000 scale (Some (record { head = h; body = tiled (in_edts head) })) ≡ Ok (record { lead = head.lead_us; media_time = 0 })
unfolding shift_of
edts_read scale h head le = rw (inside_read h (in_edts head) (edts_fits head)) (elst_read scale head.lead_us (length_us head) _ le)
