-- Files with one more chunk.
use Rattle.std.proofs.Common.{◌≡◌, ◌<◌, List, [], ◌∷◌, ◌++◌, length, refl, sym, ap, ◌∙◌, append_assoc, append-nil}
use Rattle.sf_tick.specs.declared.types.Chunk.{Chunk}
use Rattle.sf_series.specs.Files.{flat, open_file, into_open, into_next, OnlyOpenEmpty}

pub flat_into : (files : List (List Chunk)) (c : Chunk) → flat (into_open files c) ≡ flat files ++ c ∷ []
flat_into [] c = refl
flat_into (file ∷ []) c = append-nil (file ++ c ∷ []) ∙ ap (λ (cs : List Chunk). cs ++ c ∷ []) (sym (append-nil file))
flat_into (file ∷ next ∷ files) c = ap (λ (cs : List Chunk). file ++ cs) (flat_into (next ∷ files) c) ∙ sym (append_assoc file (flat (next ∷ files)) (c ∷ []))

pub flat_next : (files : List (List Chunk)) (c : Chunk) → flat (into_next files c) ≡ flat files ++ c ∷ []
flat_next [] c = refl
flat_next (file ∷ files) c = ap (λ (cs : List Chunk). file ++ cs) (flat_next files c) ∙ sym (append_assoc file (flat files) (c ∷ []))

pub flat_empty : (files : List (List Chunk)) → flat (files ++ [] ∷ []) ≡ flat files
flat_empty [] = refl
flat_empty (file ∷ files) = ap (λ (cs : List Chunk). file ++ cs) (flat_empty files)

pub only_into : (files : List (List Chunk)) (c : Chunk) → OnlyOpenEmpty files → OnlyOpenEmpty (into_open files c)
only_into [] c only = tt
only_into (file ∷ []) c only = tt
only_into (file ∷ next ∷ []) c only = (only.0, tt)
only_into (file ∷ next ∷ more ∷ files) c only = (only.0, only_into (next ∷ more ∷ files) c only.1)

-- one more file after those whose last one isn't empty
pub only_more : (files : List (List Chunk)) (new : List Chunk) → OnlyOpenEmpty files → 0 < length (open_file files) → OnlyOpenEmpty (files ++ new ∷ [])
only_more [] new only some = tt
only_more (file ∷ []) new only some = (some, tt)
only_more (file ∷ next ∷ files) new only some = (only.0, only_more (next ∷ files) new only.1 some)
