-- A track that is read through a cursor is the track that its box says.
use Rattle.std.proofs.Common.{◌≡◌, ℕ, Bool, false, codes, List, length, Result, Ok, Err, refl, ap, subst, ◌∙◌}
use Rattle.sf_box.specs.Boxes.{Piece, boxes}
use Rattle.sf_box.specs.declared.types.BoxFault.{BoxFault}
use Rattle.std.specs.List.{AllByRecursion}
use Rattle.sf_entry.specs.Stsd.{HasWidth, entries_of}
use Rattle.sf_entry.specs.declared.types.EntryAt.{EntryAt}
use Rattle.sf_entry.specs.declared.types.EntryFault.{EntryFault}
use Rattle.sf_meaning.specs.Headers.{Head}
use Rattle.sf_meaning.specs.SampleTables.{Table, in_stbl, needed_table}
use Rattle.sf_meaning.specs.Steps.{◌>>=◌, ◌>>◌, as_fault, body_at}
use Rattle.sf_meaning.specs.TrackHeads.{TrackHeads, heads_in}
use Rattle.sf_meaning.specs.TrackSamples.{Tables, listed, samples_in, samples_said, tables_told}
use Rattle.sf_meaning.specs.Tracks.{Step, TrackParts, all_own, entries_told, held_in, held_samples, kind_in, parts_in, samples_held, track_in}
use Rattle.sf_meaning.specs.declared.faults.MovieFault.TheVariants as movies
use Rattle.sf_meaning.specs.declared.faults.TableFault.TheVariants as tables
use Rattle.sf_meaning.specs.declared.faults.HeadFault.{HeadFault}
use Rattle.sf_meaning.specs.declared.faults.TableFault.{TableFault}
use Rattle.sf_meaning.specs.declared.movie.PlainSample.{PlainSample}
use Rattle.sf_meaning.specs.declared.movie.PlainTrack.{PlainTrack}
use Rattle.sf_cursor.specs.Cursor.{tables_in}
use Rattle.sf_movie.specs.inner.Kept.{Track, IsWhole, plain_of, track_of, track_read}

abbrev of_table : {A : Type 0} → Table A → Step A
of_table r = as_fault (λ (f : TableFault). movies.Table f) r

abbrev of_head : {A : Type 0} → Head A → Step A
of_head r = as_fault (λ (f : HeadFault). movies.Head f) r

-- the parts of a track with these tables
abbrev with_tables : TrackHeads → List EntryAt → Tables → Step TrackParts
with_tables h es t = Ok (record { heads = h; entries = es; tables = t })

-- the tables, if they say each sample
abbrev said : TrackHeads → List EntryAt → Tables → Table Tables
said h es t = samples_said h.scale (length es) (length t.sizes) t >> Ok t

-- the track with these tables, if the file holds its samples
abbrev held : ℕ → ℕ → TrackHeads → List EntryAt → Tables → Step Track
held bytes number h es t = held_in bytes number 0 (listed t) >> Ok (track_of h es t)

-- the track of these parts, if both hold
abbrev pub from_parts : ℕ → ℕ → TrackParts → Step Track
from_parts bytes number p =
    (of_table (samples_said p.heads.scale (length p.entries) (length p.tables.sizes) p.tables) >> held_in bytes number 0 (listed p.tables))
    >> Ok (track_of p.heads p.entries p.tables)

-- a step that succeeded came from steps that did
pub bind_ok : {A B E : Type 0} (r : Result A E) (f : A → Result B E) (y : B) → (r >>= f) ≡ Ok y → (x : A) × (r ≡ Ok x) × (f x ≡ Ok y)
bind_ok (Ok x) f y e = (x, refl, e)
bind_ok (Err e') f y e = absurd (cc e)

-- ---- step by step

by_said : (bytes number : ℕ) (h : TrackHeads) (es : List EntryAt) (t : Tables) (r : Table (Unit {0}))
    → ((of_table r >> held_in bytes number 0 (listed t)) >> Ok (track_of h es t)) ≡ (of_table (r >> Ok t) >>= held bytes number h es)
by_said bytes number h es t (Ok u) = refl
by_said bytes number h es t (Err f) = refl

by_tables : (bytes number : ℕ) (h : TrackHeads) (es : List EntryAt) (r : Table Tables)
    → ((of_table r >>= with_tables h es) >>= from_parts bytes number) ≡ (of_table (r >>= said h es) >>= held bytes number h es)
by_tables bytes number h es (Ok t) = by_said bytes number h es t (samples_said h.scale (length es) (length t.sizes) t)
by_tables bytes number h es (Err f) = refl

by_entries : (bytes number : ℕ) (h : TrackHeads) (told : Table Tables) (r : Step (List EntryAt))
    → ((r >>= (λ es. of_table told >>= with_tables h es)) >>= from_parts bytes number) ≡ (r >>= (λ es. of_table (told >>= said h es) >>= held bytes number h es))
by_entries bytes number h told (Ok es) = by_tables bytes number h es told
by_entries bytes number h told (Err f) = refl

abbrev tiling : {A : Type 0} → Result A BoxFault → Table A
tiling r = as_fault (λ (f : BoxFault). tables.Tiling f) r

by_boxes : (bytes number : ℕ) (h : TrackHeads) (r : Result (List Piece) BoxFault)
    → ((of_table (tiling r) >>= (λ ps. entries_told h.own (body_at h.stbl) ps >>= (λ es. of_table (tables_told (body_at h.stbl) ps) >>= with_tables h es))) >>= from_parts bytes number)
    ≡ (of_table (tiling r) >>= (λ ps. entries_told h.own (body_at h.stbl) ps
    >>= (λ es. of_table (tiling r >>= (λ qs. tables_told (body_at h.stbl) qs >>= said h es)) >>= held bytes number h es)))
by_boxes bytes number h (Ok ps) = by_entries bytes number h (tables_told (body_at h.stbl) ps) (entries_told h.own (body_at h.stbl) ps)
by_boxes bytes number h (Err f) = refl

by_heads : (bytes number : ℕ) (r : Head TrackHeads)
    → ((of_head r >>= (λ h. of_table (in_stbl h.stbl) >>= (λ ps. entries_told h.own (body_at h.stbl) ps >>= (λ es. of_table (tables_told (body_at h.stbl) ps) >>= with_tables h es))))
    >>= from_parts bytes number)
    ≡ (of_head r >>= (λ h. of_table (in_stbl h.stbl) >>= (λ ps. entries_told h.own (body_at h.stbl) ps
    >>= (λ es. of_table (tables_in (body_at h.stbl) h.scale (length es) h.stbl.body) >>= held bytes number h es))))
unfolding in_stbl tables_in
by_heads bytes number (Ok h) = by_boxes bytes number h (boxes false (body_at h.stbl) h.stbl.body)
by_heads bytes number (Err f) = refl

pub read_parts : (bytes scale number : ℕ) (trak : Piece) → (parts_in scale trak >>= from_parts bytes number) ≡ track_read bytes scale number trak
unfolding parts_in track_read
read_parts bytes scale number trak = by_heads bytes number (heads_in scale trak)

-- ---- the track that is kept

abbrev plain : TrackParts → List PlainSample → Step PlainTrack
plain p samples = Ok (record {
  kind = kind_in p.entries;
  scale = p.heads.scale;
  lead = p.heads.shift.lead;
  media_time = p.heads.shift.media_time;
  samples = samples;
})

abbrev as_plain : Track → Step PlainTrack
as_plain k = Ok (plain_of k)

by_held : (p : TrackParts) (r : Step (Unit {0})) → ((r >> Ok (listed p.tables)) >>= plain p) ≡ ((r >> Ok (track_of p.heads p.entries p.tables)) >>= as_plain)
by_held p (Ok u) = refl
by_held p (Err f) = refl

all_said : (bytes number : ℕ) (p : TrackParts) (r : Table (Unit {0}))
    → ((of_table (r >> Ok (listed p.tables)) >>= held_samples bytes number) >>= plain p)
    ≡ (((of_table r >> held_in bytes number 0 (listed p.tables)) >> Ok (track_of p.heads p.entries p.tables)) >>= as_plain)
all_said bytes number p (Ok u) = by_held p (held_in bytes number 0 (listed p.tables))
all_said bytes number p (Err f) = refl

one_track : (bytes number : ℕ) (p : TrackParts)
    → (samples_held bytes number p.heads.scale (length p.entries) p.tables >>= plain p) ≡ (from_parts bytes number p >>= as_plain)
unfolding samples_held samples_in
one_track bytes number p = all_said bytes number p (samples_said p.heads.scale (length p.entries) (length p.tables.sizes) p.tables)

each_track : (bytes number : ℕ) (r : Step TrackParts)
    → (r >>= (λ p. samples_held bytes number p.heads.scale (length p.entries) p.tables >>= plain p)) ≡ ((r >>= from_parts bytes number) >>= as_plain)
each_track bytes number (Ok p) = one_track bytes number p
each_track bytes number (Err f) = refl

-- a track is the one that is kept
pub track_is : (bytes scale number : ℕ) (trak : Piece) → track_in bytes scale number trak ≡ (track_read bytes scale number trak >>= (λ k. Ok (plain_of k)))
unfolding track_in
track_is bytes scale number trak =
    each_track bytes number (parts_in scale trak) ∙ ap (λ (r : Step Track). r >>= as_plain) (read_parts bytes scale number trak)

-- ---- its sample entries

last_ok : {A B : Type 0} (r : Step A) (x y : B) → (r >> Ok x) ≡ Ok y → x ≡ y
last_ok (Ok u) x y e = cc e
last_ok (Err f) x y e = absurd (cc e)

kept_entries : (bytes number : ℕ) (r : Step TrackParts) (k : Track) → (r >>= from_parts bytes number) ≡ Ok k → (p : TrackParts) × (r ≡ Ok p) × (p.entries ≡ k.entries)
kept_entries bytes number (Ok p) k e =
    let same : track_of p.heads p.entries p.tables ≡ k =
    last_ok (of_table (samples_said p.heads.scale (length p.entries) (length p.tables.sizes) p.tables) >> held_in bytes number 0 (listed p.tables)) (track_of p.heads p.entries p.tables) k e in
    (p, refl, ap (λ (x : Track). x.entries) same)
kept_entries bytes number (Err f) k e = absurd (cc e)

-- the entries that are kept of a track are those of its box
pub entries_kept : (bytes scale number : ℕ) (trak : Piece) (k : Track) → track_read bytes scale number trak ≡ Ok k → (p : TrackParts) × (parts_in scale trak ≡ Ok p) × (p.entries ≡ k.entries)
entries_kept bytes scale number trak k e = kept_entries bytes number (parts_in scale trak) k (read_parts bytes scale number trak ∙ e)

said_ok : (q : Table (Unit {0})) (h : Step (Unit {0})) (x k : Track) → ((of_table q >> h) >> Ok x) ≡ Ok k → q ≡ Ok tt
said_ok (Ok u) h x k e = refl
said_ok (Err f) h x k e = absurd (cc e)

kept_said : (bytes number : ℕ) (r : Step TrackParts) (k : Track) → (r >>= from_parts bytes number) ≡ Ok k
    → (scale : ℕ) × (entries : ℕ) × (samples_said scale entries (length k.samples.sizes) k.samples ≡ Ok tt)
kept_said bytes number (Ok p) k e =
    let q : Table (Unit {0}) = samples_said p.heads.scale (length p.entries) (length p.tables.sizes) p.tables in
    let track : Track = track_of p.heads p.entries p.tables in
    let same : track ≡ k = last_ok (of_table q >> held_in bytes number 0 (listed p.tables)) track k e in (
      p.heads.scale,
      length p.entries,
      subst (λ (x : Track). samples_said p.heads.scale (length p.entries) (length x.samples.sizes) x.samples ≡ Ok tt) same (said_ok q (held_in bytes number 0 (listed p.tables)) track k e),
    )
kept_said bytes number (Err f) k e = absurd (cc e)

all_listed : (scale entries : ℕ) (t : Tables) → samples_said scale entries (length t.sizes) t ≡ Ok tt → samples_in scale entries t ≡ Ok (listed t)
unfolding samples_in
all_listed scale entries t e = rw e refl

-- each sample of a track that is kept has a size, by the law of samples one by one
pub whole_kept : ((scale entries : ℕ) (t : Tables) (samples : List PlainSample) → samples_in scale entries t ≡ Ok samples → length samples ≡ length t.sizes)
    → (bytes scale number : ℕ) (trak : Piece) (k : Track) → track_read bytes scale number trak ≡ Ok k → IsWhole k
whole_kept law bytes scale number trak k e =
    let s = kept_said bytes number (parts_in scale trak) k (read_parts bytes scale number trak ∙ e) in
    law s.0 s.1 k.samples (listed k.samples) (all_listed s.0 s.1 k.samples s.2)

-- ---- the widths of its entries

-- the law of sample entries that are read, as it is handed on
abbrev pub WidthLaw : Type 0
WidthLaw = (base : ℕ) (body : List ℕ) (es : List EntryAt) → entries_of base body ≡ Ok es → AllByRecursion (λ e. HasWidth e.entry) es

entries_ok : (r : Result (List EntryAt) EntryFault) (es : List EntryAt) → as_fault (λ (f : EntryFault). movies.Entry f) r ≡ Ok es → r ≡ Ok es
entries_ok (Ok xs) es e = let same : xs ≡ es = cc e in let ok : List EntryAt → Result (List EntryAt) EntryFault = λ x. Ok x in ap ok same
entries_ok (Err f) es e = absurd (cc e)

told_wide : WidthLaw → (own : List Bool) (at : ℕ) (ps : List Piece) (es : List EntryAt) → entries_told own at ps ≡ Ok es → AllByRecursion (λ e. HasWidth e.entry) es
unfolding entries_told
told_wide law own at ps es e =
    let a = bind_ok (of_table (needed_table at (codes "stsd") ps)) _ es e in
    let b = bind_ok (as_fault (λ (f : EntryFault). movies.Entry f) (entries_of (body_at a.0) a.0.body)) _ es a.2 in
    let same : b.0 ≡ es = last_ok (all_own own b.0) b.0 es b.2 in
    subst (λ (xs : List EntryAt). AllByRecursion (λ x. HasWidth x.entry) xs) same
    (law (body_at a.0) a.0.body b.0 (entries_ok (entries_of (body_at a.0) a.0.body) b.0 b.1))

parts_wide : WidthLaw → (scale : ℕ) (trak : Piece) (p : TrackParts) → parts_in scale trak ≡ Ok p → AllByRecursion (λ e. HasWidth e.entry) p.entries
unfolding parts_in
parts_wide law scale trak p e =
    let a = bind_ok (of_head (heads_in scale trak)) _ p e in
    let b = bind_ok (of_table (in_stbl a.0.stbl)) _ p a.2 in
    let c = bind_ok (entries_told a.0.own (body_at a.0.stbl) b.0) _ p b.2 in
    let d = bind_ok (of_table (tables_told (body_at a.0.stbl) b.0)) _ p c.2 in
    let same : record { heads = a.0; entries = c.0; tables = d.0 } ≡ p = cc d.2 in
    subst (λ (q : TrackParts). AllByRecursion (λ x. HasWidth x.entry) q.entries) same (told_wide law a.0.own (body_at a.0.stbl) b.0 c.0 c.1)

pub wide_kept : WidthLaw → (bytes scale number : ℕ) (trak : Piece) (k : Track) → track_read bytes scale number trak ≡ Ok k → AllByRecursion (λ e. HasWidth e.entry) k.entries
wide_kept law bytes scale number trak k e =
    let p = entries_kept bytes scale number trak k e in
    subst (λ (es : List EntryAt). AllByRecursion (λ x. HasWidth x.entry) es) p.2 (parts_wide law scale trak p.0 p.1)
