-- Boxes inside an entry, and entries that are read one after the other.
use Rattle.std.proofs.Common.{◌≡◌, ℕ, suc, ◌^◌, ◌<◌, ◌≤◌, ltb, true, false, List, [], ◌∷◌, ◌++◌, length, drop, Some, None, Result, Ok, Err, IfOk, refl, sym, ap, ◌∙◌, append_assoc, arith, inl, inr}
use Rattle.std.proofs.lemmas.List.{drop_all, append-nil, length-map}
use Rattle.std.proofs.lemmas.Bool.{cases_lt, lt-ltb, le-ltb}
use Rattle.sf_box.specs.Boxes.{Piece, leading}
use Rattle.sf_box.specs.Parts.{child_piece}
use Rattle.sf_box.specs.Reading.{piece_at, pieces_at}
use Rattle.sf_box.specs.declared.types.BoxHead.{BoxHead}
use Rattle.sf_box.proofs.BoxLaws.{leading_none}
use Rattle.sf_entry.specs.declared.types.EntryAt.{EntryAt}
use Rattle.sf_entry.specs.declared.types.EntryFault.{EntryFault}
use Rattle.sf_entry.specs.declared.types.EntryFault.TheVariants.{Short, NoAvcC, BadAvcC, NoMemory}
use Rattle.sf_entry.specs.Steps.{◌>>=◌}
use Rattle.sf_entry.specs.Esds.{past}
use Rattle.sf_entry.specs.Stsd.{body_of, child_in, entry_at, entries_in, Answers, Stops}

-- there are no bytes after too many
past_none : (count : ℕ) (bytes : List ℕ) → None ≡ past count bytes → drop count bytes ≡ []
unfolding past
past_none count bytes e =
    elim (cases_lt (length bytes) count) [
      | inl few ↦ drop_all count bytes (omega (arith, few))
      | inr many ↦ let enough : ltb (length bytes) count ≡ false = le-ltb _ _ many in let is : None ≡ Some (drop count bytes) = rw enough at e in absurd (cc is)
    ]

-- what lies after so many bytes
past_is : (count : ℕ) (bytes rest : List ℕ) → Some rest ≡ past count bytes → rest ≡ drop count bytes
unfolding past
past_is count bytes rest e =
    elim (cases_lt (length bytes) count) [
      | inl few ↦ let short : ltb (length bytes) count ≡ true = lt-ltb _ _ few in let is : Some rest ≡ None = rw short at e in absurd (cc is)
      | inr many ↦ let enough : ltb (length bytes) count ≡ false = le-ltb _ _ many in let is : Some rest ≡ Some (drop count bytes) = rw enough at e in cc is
    ]

-- no box is inside an entry that is shorter than its fields
pub child_none : (fields : ℕ) (kind entry : List ℕ) → None ≡ past fields entry → child_in fields kind entry ≡ None
unfolding child_in
child_none fields kind entry e =
    let none : leading 0 (drop fields entry) ≡ [] = ap (leading 0) (past_none fields entry e) ∙ leading_none 0 in
    rw none refl

-- the first box after the fields is the one inside the entry
pub child_found : (fields : ℕ) (kind entry boxes : List ℕ) → Some boxes ≡ past fields entry → child_in fields kind entry ≡ body_of (child_piece (leading 0 boxes) kind)
unfolding child_in
child_found fields kind entry boxes e = ap (λ (bytes : List ℕ). body_of (child_piece (leading 0 bytes) kind)) (sym (past_is fields entry boxes e))

-- a fault of a part is that of the whole
pub stops_on : {A B : Type 0} (fault : EntryFault) (part : Result A EntryFault) (whole : Result B EntryFault) → ((f : EntryFault) → part ≡ Err f → whole ≡ Err f) → Stops fault part
    → Stops fault whole
stops_on (Short at) part whole on stops = on (Short at) stops
stops_on (NoAvcC at) part whole on stops = on (NoAvcC at) stops
stops_on (BadAvcC at) part whole on stops = on (BadAvcC at) stops
stops_on NoMemory part whole on stops = tt

-- entries that were read, and those of the rest
abbrev pub with_entries : List EntryAt → Result (List EntryAt) EntryFault → Result (List EntryAt) EntryFault
with_entries front (Ok entries) = Ok (front ++ entries)
with_entries front (Err fault) = Err fault

pub entries_begin : (said : Result (List EntryAt) EntryFault) → with_entries [] said ≡ said
entries_begin (Ok entries) = refl
entries_begin (Err fault) = refl

entry_moves : (front : List EntryAt) (entry : EntryAt) (said : Result (List EntryAt) EntryFault)
    → with_entries front (said >>= (λ entries. Ok (entry ∷ entries))) ≡ with_entries (front ++ entry ∷ []) said
entry_moves front entry (Ok entries) = ap (λ (all : List EntryAt). Ok all) (sym (append_assoc front (entry ∷ []) entries))
entry_moves front entry (Err fault) = refl

-- one more entry was read
pub entries_next : (front new : List EntryAt) (entry : EntryAt) (p : Piece) (ps : List Piece) (all : Result (List EntryAt) EntryFault) → new ≡ front ++ entry ∷ []
    → entry_at p ≡ Ok entry → with_entries front (entries_in (p ∷ ps)) ≡ all → with_entries new (entries_in ps) ≡ all
unfolding entries_in
entries_next front new entry p ps all more reads so_far =
    ap (λ (entries : List EntryAt). with_entries entries (entries_in ps)) more ∙ sym (entry_moves front entry (entries_in ps))
    ∙ ap (λ (said : Result EntryAt EntryFault). with_entries front (said >>= (λ e. entries_in ps >>= (λ entries. Ok (e ∷ entries))))) (sym reads)
    ∙ so_far

-- the first fault
pub entries_stop : (front : List EntryAt) (fault : EntryFault) (p : Piece) (ps : List Piece) (all : Result (List EntryAt) EntryFault) → entry_at p ≡ Err fault
    → with_entries front (entries_in (p ∷ ps)) ≡ all → all ≡ Err fault
unfolding entries_in
entries_stop front fault p ps all stops so_far =
    sym so_far ∙ ap (λ (said : Result EntryAt EntryFault). with_entries front (said >>= (λ e. entries_in ps >>= (λ entries. Ok (e ∷ entries))))) stops

one_more : (n : ℕ) (es : List EntryAt) (r : Result EntryAt EntryFault) (q : Result (List EntryAt) EntryFault) → ((xs : List EntryAt) → q ≡ Ok xs → length xs ≡ n)
    → (r >>= (λ x. q >>= (λ xs. Ok (x ∷ xs)))) ≡ Ok es → length es ≡ suc n
one_more n es (Ok x) (Ok xs) many e = let all : x ∷ xs ≡ es = cc e in ap length (sym all) ∙ ap suc (many xs refl)
one_more n es (Ok x) (Err fault) many e = absurd (cc e)
one_more n es (Err fault) q many e = absurd (cc e)

-- as many entries as boxes
as_many : (ps : List Piece) (es : List EntryAt) → entries_in ps ≡ Ok es → length es ≡ length ps
unfolding entries_in
as_many [] es e = let none : [] ≡ es = cc e in ap length (sym none)
as_many (p ∷ ps) es e = one_more (length ps) es (entry_at p) (entries_in ps) (as_many ps) e

-- so the entries of so many heads are as many
pub few_entries : (base count : ℕ) (bytes : List ℕ) (heads : List BoxHead) (r : Result (List EntryAt) EntryFault) → Answers r (entries_in (pieces_at base bytes heads))
    → length heads ≤ count → count < 2 ^ 32 → IfOk r (λ es. length es < 2 ^ 32)
few_entries base count bytes heads (Ok es) e le lt =
    let boxes : length es ≡ length (pieces_at base bytes heads) = as_many (pieces_at base bytes heads) es e in
    omega (arith, boxes, length-map heads (piece_at base bytes), le, lt)
few_entries base count bytes heads (Err fault) e le lt = tt

-- all entries were read
pub entries_end : (front : List EntryAt) (all : Result (List EntryAt) EntryFault) → with_entries front (entries_in []) ≡ all → all ≡ Ok front
unfolding entries_in
entries_end front all so_far = sym so_far ∙ ap (λ (entries : List EntryAt). Ok entries) (append-nil front)
