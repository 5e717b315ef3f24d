-- The walk along the boxes of a file, and the movie that its movie box is.
use Rattle.std.proofs.Common.{◌≡◌, ◌≢◌, ℕ, ◌+◌, ◌-◌, ◌<◌, ◌≤◌, min, true, ◌⊎◌, inl, inr, List, [], ◌∷◌, ◌++◌, length, take, drop, codes, Option, Some, Result, Ok, Err, refl, ap, sym, subst, ◌∙◌, arith}
use Rattle.std.proofs.lemmas.List.{length-drop, drop-drop, drop-take}
use Rattle.std.proofs.Math.Seq.{take-length}
use Rattle.sf_box.specs.Boxes.{Piece, head_in, head_of, piece_of, boxes, joined_with}
use Rattle.sf_box.specs.declared.types.BoxHead.{BoxHead}
use Rattle.sf_box.specs.declared.types.BoxFault.{BoxFault}
use Rattle.sf_box.proofs.BoxLaws.{box_end, box_step, boxes_fault, first_tells}
use Rattle.sf_meaning.specs.Steps.{◌>>=◌, as_fault, body_at, of_kind}
use Rattle.sf_meaning.specs.Entries.{moov_entries, movie_entries}
use Rattle.sf_meaning.specs.Movie.{Step, movie, movie_in, only_moov, top_boxes}
use Rattle.sf_meaning.specs.declared.faults.MovieFault.{MovieFault}
use Rattle.sf_meaning.specs.declared.faults.MovieFault.TheVariants.{Tiling}
use Rattle.sf_meaning.specs.declared.faults.MovieFault.TheVariants as movies
use Rattle.sf_meaning.specs.declared.movie.PlainMovie.{PlainMovie}
use Rattle.sf_world.specs.Contents.{HasLength, ReadsAt}
use Rattle.sf_entry.specs.declared.types.EntryAt.{EntryAt}
use Rattle.sf_movie.specs.Loaded.{Loaded}
use Rattle.sf_movie.specs.Loads.{IsCaused, Reads}
use Rattle.sf_movie.specs.inner.Walk.{Fits, Holds, Meets, box_at, moov_of}
use Rattle.sf_movie.specs.declared.load.LoadFault.{LoadFault}
use Rattle.sf_movie.specs.declared.load.LoadFault.TheVariants.{Refused, ReadFault, NoMemory}
use Rattle.sf_movie.specs.declared.walk.Moovs.{Moovs}
use Rattle.sf_movie.specs.declared.walk.Moovs.TheVariants.{Nothing}

-- told bytes are as many as there are
pub told_length : (contents : Option (List ℕ)) (size : ℕ) (file : List ℕ) → HasLength contents size → contents ≡ Some file → length file ≡ size
told_length contents size file h e = subst (λ (c : Option (List ℕ)). HasLength c size) e h

told_bytes : (contents : Option (List ℕ)) (at count : ℕ) (buffer file : List ℕ) → ReadsAt contents at count buffer → contents ≡ Some file → take count buffer ≡ take count (drop at file)
told_bytes contents at count buffer file h e = subst (λ (c : Option (List ℕ)). ReadsAt c at count buffer) e h

-- the first bytes at a place tell the head there
pub head_told : (contents : Option (List ℕ)) (at size count : ℕ) (buffer first file : List ℕ) (r : Result BoxHead BoxFault)
    → HasLength contents size → ReadsAt contents at count buffer → count ≡ min 16 (size - at) → first ≡ take count buffer
    → r ≡ head_in true at (size - at) first → contents ≡ Some file → head_of true at (drop at file) ≡ r
head_told contents at size count buffer first file r h reads counted is e told =
    let len : length file ≡ size = told_length contents size file h told in
    let left : length (drop at file) ≡ size - at = omega (arith, length-drop at file) in
    let few : count ≡ min 16 (length (drop at file)) = omega arith in
    let bytes : first ≡ take (min 16 (length (drop at file))) (drop at file)
    = is ∙ told_bytes contents at count buffer file reads told ∙ ap (λ (n : ℕ). take n (drop at file)) few in
    sym (first_tells true at (drop at file) first bytes) ∙ ap (λ (n : ℕ). head_in true at n first) left ∙ sym e

-- The boxes up to a place, and the movie boxes among them.
pub record Met (file : List ℕ) (at : ℕ) (moovs : Moovs) : Type 0 where
  pub front : List Piece
  pub whole : joined_with front (boxes true at (drop at file)) ≡ boxes true 0 file
  pub holds : Holds file moovs (of_kind (codes "moov") front)

joined_none : (r : Result (List Piece) BoxFault) → joined_with [] r ≡ r
joined_none (Ok qs) = refl
joined_none (Err f) = refl

pub met_first : (file : List ℕ) → Met file 0 Nothing
met_first file = record { front = []; whole = joined_none (boxes true 0 file); holds = refl }

-- one box further
pub met_on : (file : List ℕ) (at : ℕ) (moovs moovs' : Moovs) (h : BoxHead) → head_of true at (drop at file) ≡ Ok h → h.at ≡ at
    → ((ps : List Piece) → Holds file moovs (of_kind (codes "moov") ps) → Holds file moovs' (of_kind (codes "moov") (ps ++ box_at h file ∷ [])))
    → Met file at moovs → Met file (at + h.size) moovs'
met_on file at moovs moovs' h e place with_box m =
    let rest : List ℕ = drop at file in
    let box : piece_of h rest ≡ box_at h file = ap (λ (n : ℕ). piece_of h (drop n file)) (sym place) in
    let step = box_step true at rest h m.front (boxes true 0 file) e m.whole in
    let behind : drop h.size rest ≡ drop (at + h.size) file = drop-drop h.size at file in
    record {
      front = m.front ++ box_at h file ∷ [];
      whole = ap (λ (p : Piece). joined_with (m.front ++ p ∷ []) (boxes true (at + h.size) (drop (at + h.size) file))) (sym box)
          ∙ ap (λ (r : List ℕ). joined_with (m.front ++ piece_of h rest ∷ []) (boxes true (at + h.size) r)) (sym behind) ∙ step;
      holds = with_box m.front m.holds;
    }

-- the first place that is no whole box
stopped : (file : List ℕ) (at : ℕ) (moovs : Moovs) (f : MovieFault) (r : Result BoxHead BoxFault) → Met file at moovs → 0 < length (drop at file)
    → head_of true at (drop at file) ≡ r → as_fault Tiling r ≡ Err f → top_boxes file ≡ Err f
stopped file at moovs f (Ok h) m some is e = absurd (cc e)
stopped file at moovs f (Err b) m some is e =
    let all : boxes true 0 file ≡ Err b = sym m.whole ∙ ap (joined_with m.front) (boxes_fault true at (drop at file) b some is) in
    let same : Tiling b ≡ f = cc e in
    ap (as_fault (λ (x : BoxFault). Tiling x)) all ∙ ap (λ (x : MovieFault). Err x) same

-- a head that was read, under the fault of its file
pub head_ok : (r : Result BoxHead BoxFault) (h : BoxHead) → as_fault (λ (x : BoxFault). Tiling x) r ≡ Ok h → r ≡ Ok h
head_ok (Ok x) h e = let same : x ≡ h = cc e in ap (λ (y : BoxHead). Ok y) same
head_ok (Err b) h e = absurd (cc e)

pub met_wrong : (file : List ℕ) (at : ℕ) (moovs : Moovs) (fault : LoadFault) → Met file at moovs → at < length file
    → Reads {A = BoxHead} {B = BoxHead} (λ h. h) (Err fault) (as_fault Tiling (head_of true at (drop at file))) → Meets file (Err fault)
met_wrong file at moovs (Refused f) m lt e = stopped file at moovs f (head_of true at (drop at file)) m (omega (arith, length-drop at file)) refl e
met_wrong file at moovs ReadFault m lt e = tt
met_wrong file at moovs NoMemory m lt e = tt

pub met_end : (file : List ℕ) (at : ℕ) (moovs : Moovs) → Met file at moovs → length file ≤ at → Meets file (Ok moovs)
met_end file at moovs m le =
    let none : length (drop at file) ≡ 0 = omega (arith, length-drop at file) in
    (m.front, ap (as_fault (λ (x : BoxFault). Tiling x)) (box_end true at (drop at file) m.front (boxes true 0 file) none m.whole), m.holds)

-- the only movie box among those that were met
pub moov_found : (file : List ℕ) (ps : List Piece) (end : ℕ) (said : Step Piece) → top_boxes file ≡ Ok ps → length file ≡ end
    → only_moov end (of_kind (codes "moov") ps) ≡ said → moov_of file ≡ said
unfolding moov_of
moov_found file ps end said is len e = rw (is, len) e

pub moov_wrong : (file : List ℕ) (fault : LoadFault) → Meets file (Err fault) → Reads {A = BoxHead} (λ h. box_at h file) (Err fault) (moov_of file)
unfolding moov_of
moov_wrong file (Refused f) e = rw e refl
moov_wrong file ReadFault e = tt
moov_wrong file NoMemory e = tt

-- the bytes that were read are the body of the box
pub body_told : (contents : Option (List ℕ)) (h : BoxHead) (size count : ℕ) (buffer file : List ℕ) → Fits size h
    → ReadsAt contents (h.at + h.head) count buffer → count ≡ min (length buffer) (size - (h.at + h.head)) → length buffer ≡ h.size - h.head
    → contents ≡ Some file → buffer ≡ (box_at h file).body
body_told contents h size count buffer file fits reads counted len told =
    let all : count ≡ length buffer = omega (arith, fits.ends, fits.head) in
    let n : ℕ = h.size - h.head in
    let whole : h.size ≡ h.head + n = omega (arith, fits.head) in
    sym (take-length buffer) ∙ ap (λ (k : ℕ). take k buffer) (sym all) ∙ told_bytes contents (h.at + h.head) count buffer file reads told
    ∙ ap (λ (k : ℕ). take k (drop (h.at + h.head) file)) (all ∙ len)
    ∙ ap (take n) (sym (drop-drop h.head h.at file)) ∙ sym (drop-take h.head n (drop h.at file))
    ∙ ap (λ (k : ℕ). drop h.head (take k (drop h.at file))) (sym whole)

-- steps one after the other
steps_again : {A B C E : Type 0} (r : Result A E) (f : A → Result B E) (g : B → Result C E) → ((r >>= f) >>= g) ≡ (r >>= (λ x. f x >>= g))
steps_again (Ok x) f g = refl
steps_again (Err e) f g = refl

abbrev movie_of : ℕ → Piece → Step PlainMovie
movie_of bytes moov = movie_in moov.body (body_at moov) bytes

movie_of_moov : (file : List ℕ) → (moov_of file >>= movie_of (length file)) ≡ movie file
unfolding moov_of movie
movie_of_moov file = steps_again (top_boxes file) (λ ps. only_moov (length file) (of_kind (codes "moov") ps)) (movie_of (length file))

entries_of_moov : (file : List ℕ) → (moov_of file >>= (λ moov. moov_entries moov.body (body_at moov))) ≡ movie_entries file
unfolding moov_of movie_entries
entries_of_moov file = steps_again (top_boxes file) (λ ps. only_moov (length file) (of_kind (codes "moov") ps)) (λ moov. moov_entries moov.body (body_at moov))

-- the movie of the body of the only movie box
pub movie_found : (file body : List ℕ) (h : BoxHead) (end : ℕ) (said : Step PlainMovie) → moov_of file ≡ Ok (box_at h file) → body ≡ (box_at h file).body
    → length file ≡ end → movie_in body (h.at + h.head) end ≡ said → movie file ≡ said
movie_found file body h end said is same len e =
    sym (movie_of_moov file) ∙ ap (λ (r : Step Piece). r >>= movie_of (length file)) is
    ∙ ap (λ (b : List ℕ). movie_in b (h.at + h.head) (length file)) (sym same) ∙ ap (movie_in body (h.at + h.head)) len ∙ e

-- and its sample entries
pub entries_found : (file body : List ℕ) (h : BoxHead) (said : Step (List (List EntryAt))) → moov_of file ≡ Ok (box_at h file) → body ≡ (box_at h file).body
    → moov_entries body (h.at + h.head) ≡ said → movie_entries file ≡ said
entries_found file body h said is same e =
    sym (entries_of_moov file) ∙ ap (λ (r : Step Piece). r >>= (λ moov. moov_entries moov.body (body_at moov))) is
    ∙ ap (λ (b : List ℕ). moov_entries b (h.at + h.head)) (sym same) ∙ e

pub movie_wrong : (file : List ℕ) (fault : LoadFault) → Reads {A = BoxHead} (λ h. box_at h file) (Err fault) (moov_of file)
    → Reads {A = Loaded} (λ m. m.movie) (Err fault) (movie file)
movie_wrong file (Refused f) e = sym (movie_of_moov file) ∙ ap (λ (r : Step Piece). r >>= movie_of (length file)) e
movie_wrong file ReadFault e = tt
movie_wrong file NoMemory e = tt

-- a fault that was told is what the file says
pub fault_told : (file : List ℕ) (fault : MovieFault) (r : LoadFault) → (r ≡ NoMemory) ⊎ (r ≡ Refused fault) → (fault ≡ movies.NoMemory → r ≡ NoMemory)
    → (fault ≡ movies.NoMemory) ⊎ (movie file ≡ Err fault) → Reads {A = Loaded} (λ m. m.movie) (Err r) (movie file)
fault_told file fault r is memory said =
    let Told : LoadFault → Type 0 = λ x. Reads {A = Loaded} (λ m. m.movie) (Err x) (movie file) in
    elim is [
      | inl e ↦ subst Told (sym e) tt
      | inr e ↦ elim said [ inl n ↦ subst Told (sym (memory n)) tt | inr m ↦ subst Told (sym e) m ]
    ]

pub fault_cause : (fault : MovieFault) (r : LoadFault) (before after : ℕ) → (r ≡ NoMemory) ⊎ (r ≡ Refused fault) → r ≢ Refused movies.NoMemory
    → IsCaused {A = Loaded} before after (Err r)
fault_cause fault r before after is free =
    let Caused : LoadFault → Type 0 = λ x. IsCaused {A = Loaded} before after (Err x) in
    elim is [ inl e ↦ subst Caused (sym e) tt | inr e ↦ subst Caused (sym e) (λ none. free (e ∙ ap (λ (f : MovieFault). Refused f) none)) ]
