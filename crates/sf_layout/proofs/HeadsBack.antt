-- The headers of a track are read back, in either version, with an edit list or without.
use Rattle.std.proofs.Common.{◌≡◌, ℕ, ◌+◌, ◌-◌, ◌^◌, ◌<◌, ◌≤◌, ◌==◌, Bool, true, false, cond, List, [], ◌∷◌, ◌++◌, length, codes, None, Ok, refl, arith}
use Rattle.std.specs.List.{AllByRecursion}
use Rattle.std.proofs.lemmas.Bool.{eqb-true}
use Rattle.sf_box.specs.declared.types.BoxHead.{BoxHead}
use Rattle.sf_box.specs.Boxes.{Piece}
use Rattle.sf_box.specs.Parts.{Part, tiled, laid, Fits}
use Rattle.sf_box.proofs.BoxLaws.{length-tiled-cons}
use Rattle.sf_tick.specs.declared.types.Kind.{Kind}
use Rattle.sf_tick.specs.declared.types.Kind.TheVariants as kinds
use Rattle.sf_meaning.specs.Stbl.{Row, stbl_parts}
use Rattle.sf_meaning.specs.WrittenHeaders.{in_dinf}
use Rattle.sf_meaning.specs.TrackHeads.{media_in, information_in, heads_in}
use Rattle.sf_meaning.specs.Edits.{shift_of}
use Rattle.sf_meaning.proofs.MeaningLaws.{kinds_fit, inside_read, scale_read, dinf_read, heads_by}
use Rattle.sf_layout.specs.Headers.{tkhd_body, in_edts, media_header}
use Rattle.sf_layout.specs.declared.heads.TrackHead.{TrackHead}
use Rattle.sf_meaning.proofs.ListLemmas.{all-append}
use Rattle.sf_layout.proofs.EditsBack.{edts_read}
use Rattle.sf_layout.proofs.Parts.{minf_parts, mdia_parts, parts_of_trak}

-- each type has four bytes
abbrev pub Kinds : List Part → Type 0
Kinds ps = AllByRecursion (λ p. length p.0 ≡ 4) ps

-- the last box is shorter than all of them
pub last_shorter : (front : List Part) (p : Part) → Kinds front → length p.0 ≡ 4 → length p.1 ≤ length (tiled (front ++ (p ∷ [])))
last_shorter [] p front k = omega (arith, length-tiled-cons p [] k)
last_shorter (q ∷ qs) p front k = omega (arith, length-tiled-cons q (qs ++ (p ∷ [])) front.0, last_shorter qs p front.1 k)

media_kind : (kind : Kind) → length (media_header kind).0 ≡ 4
media_kind kinds.Avc = refl
media_kind kinds.Aac = refl

-- the boxes of a track, by whether its edits are left out
abbrev trak_by : Bool → ℕ → TrackHead → List Part → List Part
trak_by none number head mdia = (codes "tkhd", tkhd_body number head) ∷ (cond none [] ((codes "edts", tiled (in_edts head)) ∷ []) ++ ((codes "mdia", tiled mdia) ∷ []))

front_kinds : (none : Bool) (number : ℕ) (head : TrackHead) → Kinds ((codes "tkhd", tkhd_body number head) ∷ cond none [] ((codes "edts", tiled (in_edts head)) ∷ []))
front_kinds true number head = (refl, tt)
front_kinds false number head = (refl, (refl, tt))

-- The boxes of a track fit their sizes.
record InBounds (none : Bool) (number : ℕ) (head : TrackHead) (stbl : List Part) : Type 0 where
  minf : AllByRecursion Fits (minf_parts head.kind stbl)
  mdia : AllByRecursion Fits (mdia_parts head (minf_parts head.kind stbl))
  trak : AllByRecursion Fits (trak_by none number head (mdia_parts head (minf_parts head.kind stbl)))
  stbl_short : length (tiled stbl) < 2 ^ 32 - 8

bounds_of : (none : Bool) (number : ℕ) (head : TrackHead) (stbl : List Part) → length (tiled (trak_by none number head (mdia_parts head (minf_parts head.kind stbl)))) < 2 ^ 32 - 8
    → InBounds none number head stbl
bounds_of none number head stbl short =
    let minf : List Part = minf_parts head.kind stbl in
    let mdia : List Part = mdia_parts head minf in
    let tkhd : List Part = (codes "tkhd", tkhd_body number head) ∷ cond none [] ((codes "edts", tiled (in_edts head)) ∷ []) in
    let a : length (tiled mdia) ≤ length (tiled (trak_by none number head mdia)) = last_shorter tkhd (codes "mdia", tiled mdia) (front_kinds none number head) refl in
    let b : length (tiled minf) ≤ length (tiled mdia) = last_shorter (_ ∷ _ ∷ []) (codes "minf", tiled minf) (refl, (refl, tt)) refl in
    let c : length (tiled stbl) ≤ length (tiled minf) = last_shorter (media_header head.kind ∷ (codes "dinf", tiled in_dinf) ∷ []) (codes "stbl", tiled stbl) (media_kind head.kind, (refl, tt)) refl in
    record {
      minf = kinds_fit minf (media_kind head.kind, (refl, (refl, tt))) (omega (arith, a, b, short));
      mdia = kinds_fit mdia (refl, (refl, (refl, tt))) (omega (arith, a, short));
      trak = kinds_fit (trak_by none number head mdia) (all-append (λ (p : Part). length p.0 ≡ 4) tkhd ((codes "mdia", tiled mdia) ∷ []) (front_kinds none number head) (refl, tt)) short;
      stbl_short = omega (arith, a, b, c, short);
    }

-- where the sample table box stands in the media information box
abbrev stbl_head : Kind → BoxHead → List Part → BoxHead
stbl_head kind h stbl =
    record { kind = record { 0 = codes "stbl" }; at = h.at + h.head + (8 + length (media_header kind).1) + (8 + length (tiled in_dinf)); head = 8; size = 8 + length (tiled stbl) }

information_read : (kind : Kind) (h : BoxHead) (stbl : List Part) → AllByRecursion Fits (minf_parts kind stbl)
    → information_in (record { head = h; body = tiled (minf_parts kind stbl) }) ≡ Ok (true ∷ [], record { head = stbl_head kind h stbl; body = tiled stbl })
unfolding information_in
information_read kinds.Avc h stbl fits = rw (inside_read h (minf_parts kinds.Avc stbl) fits, dinf_read) refl
information_read kinds.Aac h stbl fits = rw (inside_read h (minf_parts kinds.Aac stbl) fits, dinf_read) refl

media_read : (h : BoxHead) (head : TrackHead) (minf : List Part) → AllByRecursion Fits (mdia_parts head minf) → 1 ≤ head.scale → head.scale < 2 ^ 32
    → media_in (record { head = h; body = tiled (mdia_parts head minf) }) ≡ Ok (head.scale, laid (h.at + h.head) (mdia_parts head minf))
unfolding media_in
media_read h head minf fits some lt = rw (inside_read h (mdia_parts head minf) fits, scale_read) refl

-- what the headers of a track say
abbrev pub HeadsRead : Piece → TrackHead → List Part → Type 0
HeadsRead trak head stbl =
    (k : BoxHead) × (heads_in 1000000 trak ≡ Ok (record { scale = head.scale; shift = record { lead = head.lead_us; media_time = 0 }; own = true ∷ []; stbl = record { head = k; body = tiled stbl } }))

heads_read_by : (none : Bool) (h : BoxHead) (number : ℕ) (head : TrackHead) (stbl : List Part) → InBounds none number head stbl
    → (head.lead_us == 0) ≡ none → head.lead_us ≤ 2 ^ 48 → 1 ≤ head.scale → head.scale < 2 ^ 32
    → HeadsRead (record { head = h; body = tiled (trak_by none number head (mdia_parts head (minf_parts head.kind stbl))) }) head stbl
unfolding shift_of
heads_read_by true h number head stbl b none le some lt =
    let zero_lead : head.lead_us ≡ 0 = eqb-true head.lead_us 0 none in
    let shift : shift_of 1000000 head.scale None ≡ Ok (record { lead = head.lead_us; media_time = 0 }) = rw zero_lead refl in
    (_, heads_by 1000000 head.scale _ (true ∷ []) _ _ _ _ _ _ (inside_read h _ b.trak) refl (media_read _ head _ b.mdia some lt) shift refl (information_read head.kind _ stbl b.minf))
heads_read_by false h number head stbl b none le some lt =
    (_, heads_by 1000000 head.scale _ (true ∷ []) _ _ _ _ _ _ (inside_read h _ b.trak) refl (media_read _ head _ b.mdia some lt) (edts_read head.scale _ head le) refl (information_read head.kind _ stbl b.minf))

-- The headers of a track, and that its tables are short.
pub heads_read : (h : BoxHead) (number : ℕ) (head : TrackHead) (entry : List ℕ) (rs : List Row) → length (tiled (parts_of_trak number head entry rs)) < 2 ^ 32 - 8
    → head.lead_us ≤ 2 ^ 48 → 1 ≤ head.scale → head.scale < 2 ^ 32
    → HeadsRead (record { head = h; body = tiled (parts_of_trak number head entry rs) }) head (stbl_parts entry rs) × (length (tiled (stbl_parts entry rs)) < 2 ^ 32 - 8)
heads_read h number head entry rs short le some lt =
    let b : InBounds (head.lead_us == 0) number head (stbl_parts entry rs) = bounds_of (head.lead_us == 0) number head (stbl_parts entry rs) short in
    (heads_read_by (head.lead_us == 0) h number head (stbl_parts entry rs) b refl le some lt, b.stbl_short)
