-- Sample entries that are written and read back.
use Rattle.std.proofs.Common.{◌≡◌, ℕ, ◌+◌, ◌-◌, ◌^◌, ◌<◌, ◌≤◌, leb, true, false, List, [], ◌∷◌, ◌++◌, length, take, drop, Some, Ok, refl, sym, ap, ◌∙◌, arith, codes}
use Rattle.std.specs.Str.{bytes_eq}
use Rattle.std.proofs.lemmas.Bool.{le-leb}
use Rattle.std.proofs.lemmas.List.{length-append, drop_at, drop_all, take_all, append-nil}
use Rattle.sf_box.specs.declared.types.BoxHead.{BoxHead}
use Rattle.sf_box.specs.Boxes.{Piece, be16, be32, word16, word32, box_of, head_of, leading}
use Rattle.sf_box.proofs.BoxLaws.{box_body, drop_word, head_of_box, leading_none, leading_step, length-be32, length-box_of, word32_of}
use Rattle.sf_avc.specs.declared.config.AvcConfig.{AvcConfig}
use Rattle.sf_avc.specs.Config.{config_of}
use Rattle.sf_entry.specs.declared.types.Entry.TheVariants.{Avc, Aac}
use Rattle.sf_entry.specs.declared.types.EntryAt.{EntryAt}
use Rattle.sf_entry.specs.Esds.{config_in}
use Rattle.sf_entry.specs.Mp4a.{zeros, esds_body, mp4a_body, mp4a_entry}
use Rattle.sf_entry.specs.Avc1.{video_fields, avc1_body, avc1_entry}
use Rattle.sf_entry.specs.Stsd.{child_in, video_in, sound_in, entry_in, entry_at, entries_in, entries_of, stsd_of, only_entry}
use Rattle.sf_entry.proofs.EsdsBack.{esds_back, length-esds_body}

-- a box at a place
abbrev box_at : ℕ → List ℕ → List ℕ → Piece
box_at at kind body = record { head = record { kind = record { 0 = kind }; at = at; head = 8; size = 8 + length body }; body = body }

-- what stands in one box alone
leading_box : (at : ℕ) (kind body : List ℕ) → length kind ≡ 4 → length body < 2 ^ 32 - 8 → leading at (box_of kind body) ≡ box_at at kind body ∷ []
leading_box at kind body k lt =
    let bytes : List ℕ = box_of kind body in
    let h : BoxHead = record { kind = record { 0 = kind }; at = at; head = 8; size = 8 + length body } in
    let long : length bytes ≡ 8 + length body = length-box_of kind body k in
    let head : head_of false at bytes ≡ Ok h = ap (head_of false at) (sym (append-nil bytes)) ∙ head_of_box false at kind body [] k lt in
    let whole : take (8 + length body) bytes ≡ bytes = take_all (8 + length body) bytes (omega arith) in
    let none : drop (8 + length body) bytes ≡ [] = drop_all (8 + length body) bytes (omega arith) in
    leading_step at bytes h head
    ∙ ap (λ (b : List ℕ). record { head = h; body = b } ∷ leading (at + (8 + length body)) (drop (8 + length body) bytes)) (ap (drop 8) whole ∙ box_body kind body k)
    ∙ ap (λ (ps : List Piece). box_at at kind body ∷ ps) (ap (leading (at + (8 + length body))) none ∙ leading_none (at + (8 + length body)))

-- the box that stands alone after the fields of an entry is found
child_back : (fields : ℕ) (kind body child : List ℕ) → length kind ≡ 4 → length child < 2 ^ 32 - 8 → bytes_eq kind kind ≡ true → drop fields body ≡ box_of kind child
    → child_in fields kind body ≡ Some child
unfolding child_in
child_back fields kind body child k lt same inside = rw (inside, leading_box 0 kind child k lt, same) refl

-- the entries of a body that counts one
one_entry : (base : ℕ) (bytes : List ℕ) (p : Piece) (entry : EntryAt) → leb 8 (length bytes) ≡ true → word32 (drop 4 bytes) ≡ 1 → leading (base + 8) (drop 8 bytes) ≡ p ∷ []
    → entry_at p ≡ Ok entry → entries_of base bytes ≡ Ok (entry ∷ [])
unfolding entries_of entries_in
one_entry base bytes p entry long count boxes reads = rw (long, count, boxes, reads) refl

only_back : (base : ℕ) (kind body : List ℕ) (entry : EntryAt) → length kind ≡ 4 → length body < 2 ^ 32 - 8 → entry_at (box_at (base + 8) kind body) ≡ Ok entry
    → entries_of base (stsd_of (box_of kind body)) ≡ Ok (entry ∷ [])
unfolding stsd_of
only_back base kind body entry k lt reads =
    let bytes : List ℕ = box_of kind body in
    let long : leb 8 (length (zeros 4 ++ (be32 1 ++ bytes))) ≡ true = le-leb _ _ (omega (arith, length-append (be32 1) bytes, length-be32 1)) in
    one_entry base (zeros 4 ++ (be32 1 ++ bytes)) (box_at (base + 8) kind body) entry long (word32_of 1 bytes (omega arith))
    (ap (leading (base + 8)) (drop_word 1 bytes) ∙ leading_box (base + 8) kind body k lt) reads

-- the fields of sound, and the box after them
sound_fields : (channels rate : ℕ) (config : List ℕ) → drop 28 (mp4a_body channels rate config) ≡ box_of (codes "esds") (esds_body config)
unfolding mp4a_body be16 be32
sound_fields channels rate config = refl

sound_reference : (channels rate : ℕ) (config : List ℕ) → word16 (drop 6 (mp4a_body channels rate config)) ≡ 1
unfolding mp4a_body word16
sound_reference channels rate config = refl

length-mp4a_body : (channels rate : ℕ) (config : List ℕ) → length (mp4a_body channels rate config) ≡ 77 + length config
unfolding mp4a_body be16 be32
length-mp4a_body channels rate config = omega (arith, length-box_of (codes "esds") (esds_body config) refl, length-esds_body config)

-- an entry of sound by what is read of its body
sound_when : (at : ℕ) (body config esds : List ℕ) → leb 8 (length body) ≡ true → word16 (drop 6 body) ≡ 1 → child_in 28 (codes "esds") body ≡ Some esds → config_in esds ≡ Some config
    → entry_at (box_at at (codes "mp4a") body) ≡ Ok (record { at = at; len = 8 + length body; reference = 1; entry = Aac config })
unfolding entry_at entry_in sound_in
sound_when at body config esds long reference child reads = rw (long, reference, child, reads) refl

-- the entry of sound is read back
pub sound_back : (base channels rate : ℕ) (config : List ℕ) → length config ≤ 65536
    → entries_of base (stsd_of (mp4a_entry channels rate config)) ≡ Ok (only_entry base (mp4a_entry channels rate config) (Aac config) ∷ [])
unfolding mp4a_entry only_entry
sound_back base channels rate config le =
    let body : List ℕ = mp4a_body channels rate config in
    let long : length body ≡ 77 + length config = length-mp4a_body channels rate config in
    let child : child_in 28 (codes "esds") body ≡ Some (esds_body config) =
    child_back 28 (codes "esds") body (esds_body config) refl (omega (arith, le, length-esds_body config)) refl (sound_fields channels rate config) in
    let size : 8 + length body ≡ length (box_of (codes "mp4a") body) = sym (length-box_of (codes "mp4a") body refl) in
    only_back base (codes "mp4a") body _ refl (omega (arith, le, long))
    (sound_when (base + 8) body config (esds_body config) (le-leb _ _ (omega (arith, long))) (sound_reference channels rate config) child (esds_back config le))
    ∙ ap (λ (n : ℕ). Ok (record { at = base + 8; len = n; reference = 1; entry = Aac config } ∷ [])) size

length-video_fields : (width height : ℕ) → length (video_fields width height) ≡ 78
unfolding video_fields be16 be32
length-video_fields width height = refl

length-avc1_body : (width height : ℕ) (config : List ℕ) → length (avc1_body width height config) ≡ 86 + length config
unfolding avc1_body
length-avc1_body width height config =
    omega (arith, length-append (video_fields width height) (box_of (codes "avcC") config), length-video_fields width height, length-box_of (codes "avcC") config refl)

video_reference : (width height : ℕ) (config : List ℕ) → word16 (drop 6 (avc1_body width height config)) ≡ 1
unfolding avc1_body video_fields word16
video_reference width height config = refl

-- the configuration box stands after the fields of video
video_box : (width height : ℕ) (config : List ℕ) → drop 78 (avc1_body width height config) ≡ box_of (codes "avcC") config
unfolding avc1_body
video_box width height config = drop_at (video_fields width height) (box_of (codes "avcC") config) 78 (length-video_fields width height)

-- an entry of video by what is read of its body
video_when : (at : ℕ) (body bytes : List ℕ) (config : AvcConfig) → leb 78 (length body) ≡ true → word16 (drop 6 body) ≡ 1 → child_in 78 (codes "avcC") body ≡ Some bytes
    → config_of bytes ≡ Ok config → entry_at (box_at at (codes "avc1") body) ≡ Ok (record { at = at; len = 8 + length body; reference = 1; entry = Avc config })
unfolding entry_at entry_in video_in
video_when at body bytes config long reference child reads = rw (long, reference, child, reads) refl

-- the entry of video is read back, with a configuration that is
pub video_back : (base width height : ℕ) (bytes : List ℕ) (config : AvcConfig) → length bytes < 2 ^ 32 - 94 → config_of bytes ≡ Ok config
    → entries_of base (stsd_of (avc1_entry width height bytes)) ≡ Ok (only_entry base (avc1_entry width height bytes) (Avc config) ∷ [])
unfolding avc1_entry only_entry
video_back base width height bytes config lt reads =
    let body : List ℕ = avc1_body width height bytes in
    let long : length body ≡ 86 + length bytes = length-avc1_body width height bytes in
    let inside : drop 78 body ≡ box_of (codes "avcC") bytes = video_box width height bytes in
    let child : child_in 78 (codes "avcC") body ≡ Some bytes = child_back 78 (codes "avcC") body bytes refl (omega (arith, lt)) refl inside in
    let size : 8 + length body ≡ length (box_of (codes "avc1") body) = sym (length-box_of (codes "avc1") body refl) in
    only_back base (codes "avc1") body _ refl (omega (arith, lt, long))
    (video_when (base + 8) body bytes config (le-leb _ _ (omega (arith, long))) (video_reference width height bytes) child reads)
    ∙ ap (λ (n : ℕ). Ok (record { at = base + 8; len = n; reference = 1; entry = Avc config } ∷ [])) size
