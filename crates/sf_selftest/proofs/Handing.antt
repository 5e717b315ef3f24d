-- Of a file that was recorded no sample is refused when it is read out.
use Rattle.std.proofs.Common.{◌≡◌, ℕ, zero, suc, ◌+◌, ◌<◌, ◌^◌, List, [], ◌∷◌, ◌++◌, length, map, Option, Some, None, Result, Ok, Err, option_map, option_and_then, refl, sym, ap, subst, ◌∙◌, arith}
use Rattle.std.specs.List.{AllByRecursion, slice_get}
use Rattle.sf_tick.specs.declared.types.Kind.TheVariants as kinds
use Rattle.sf_tick.specs.declared.types.Stored.{Stored}
use Rattle.sf_avc.specs.Tiling.{tiling}
use Rattle.sf_avc.specs.Units.{Nal}
use Rattle.sf_avc.specs.declared.prefixed.LengthFault.{LengthFault}
use Rattle.sf_entry.specs.Stsd.{entries_of, stsd_of}
use Rattle.sf_entry.specs.declared.types.Entry.{Entry}
use Rattle.sf_entry.specs.declared.types.Entry.TheVariants.{Avc, Aac, Other}
use Rattle.sf_entry.specs.declared.types.EntryAt.{EntryAt}
use Rattle.sf_entry.specs.declared.track_setup.TrackSetup.{TrackSetup}
use Rattle.sf_meaning.specs.Joined.{Held, content, held_in_file, of_track, said_of}
use Rattle.sf_meaning.specs.Movie.{movie}
use Rattle.sf_meaning.specs.Rows.{held_as}
use Rattle.sf_layout.specs.Written.{HaveEntries}
use Rattle.sf_meaning.specs.declared.movie.PlainMovie.{PlainMovie}
use Rattle.sf_meaning.specs.declared.movie.PlainSample.{PlainSample}
use Rattle.sf_meaning.specs.declared.movie.PlainTrack.{PlainTrack}
use Rattle.sf_movie.specs.Loaded.{Loaded, entry_of, sample_of, unit_width, width_of}
use Rattle.sf_extract.specs.Current.{Extracting, advanced, current, past, selected}
use Rattle.sf_extract.specs.HandedOut.{a_width, coded_units, cut_width, handed_by, handed_out}
use Rattle.sf_extract.specs.Readout.{Readout, before, given, given_of, left_of, read_of, read_out, reads, record_or, stored_in, where_one, with_read}
use Rattle.sf_extract.specs.declared.plan.Command.{Command}
use Rattle.sf_extract.specs.declared.plan.Command.TheVariants.{Select, ToEnd}
use Rattle.sf_extract.specs.declared.types.BadSample.{BadSample}
use Rattle.sf_extract.specs.declared.types.Standing.{Standing}

-- a result that isn't a fault
abbrev pub Gives : {A E : Type 0} → Result A E → Type 0
Gives {A} r = (a : A) × (r ≡ Ok a)

-- each sample is handed out
abbrev pub HandsOutAll : List ℕ → Loaded → Type 0
HandsOutAll file m = (t i : ℕ) (s : PlainSample) → sample_of m.movie t i ≡ Some s → Gives (handed_out m t s (stored_in file s))

-- ---- a plan that reads to the end

record_ok : (c : Standing) (s : PlainSample) (r : Result (List ℕ) LengthFault) → Gives r → Gives (record_or c s r)
record_ok c s (Ok bytes) g = (_, refl)
record_ok c s (Err fault) g = absurd (let e = g.1 in cc)

given_ok : (file : List ℕ) (m : Loaded) (c : Standing) (o : Option PlainSample) → HandsOutAll file m → sample_of m.movie c.track c.sample ≡ o → Gives (given_of file m c o)
unfolding given
given_ok file m c None all e = ([], refl)
given_ok file m c (Some s) all e = record_ok c s (handed_out m c.track s (stored_in file s)) (all c.track c.sample s e)

past_same : (e : Extracting) (o : Option Standing) → (past e o).loaded ≡ e.loaded
past_same e None = refl
past_same e (Some s) = refl

where_ok : (o : Option Standing) (some : Standing → Readout) (none : Readout) → ((c : Standing) → (some c).refused ≡ None) → none.refused ≡ None → (where_one o some none).refused ≡ None
where_ok None some none one other = other
where_ok (Some c) some none one other = one c

with_ok : (r : Result (List ℕ) BadSample) (rest : Readout) → Gives r → rest.refused ≡ None → (with_read r rest).refused ≡ None
with_ok (Ok bytes) rest g none = none
with_ok (Err bad) rest g none = absurd (let e = g.1 in cc)

reads_whole : (n : ℕ) (file : List ℕ) (e : Extracting) (m : Loaded) (rest : Extracting → Readout) → e.loaded ≡ m → HandsOutAll file m
    → ((x : Extracting) → x.loaded ≡ m → (rest x).refused ≡ None) → (reads n file e rest).refused ≡ None
unfolding reads
reads_whole zero file e m rest is all ends = ends e is
reads_whole (suc n) file e m rest is all ends =
    where_ok (current e) _ (before (0 ∷ []) (rest e))
    (λ c. with_ok (read_of file e c) (reads n file (advanced e) rest)
    (given_ok file e.loaded c (sample_of e.loaded.movie c.track c.sample) (subst (λ (l : Loaded). HandsOutAll file l) (sym is) all) refl)
    (reads_whole n file (advanced e) m rest (past_same e (current e) ∙ is) all ends))
    (ends e is)

pub plan_whole : (file : List ℕ) (ts : List ℕ) (e : Extracting) → HandsOutAll file e.loaded → (read_out file (map Select ts ++ ToEnd ∷ []) e).refused ≡ None
unfolding read_out
plan_whole file [] e all = reads_whole (left_of e) file e e.loaded (read_out file []) refl all (λ x is. refl)
plan_whole file (t ∷ ts) e all = plan_whole file ts (selected e t) all

-- ---- each sample is handed out

-- units tile the bytes, after lengths of four bytes
abbrev pub Tiles : List ℕ → Type 0
Tiles bytes = (us : List Nal) × (tiling 4 0 bytes ≡ Ok us)

-- an entry of video has lengths of four bytes, and is that of a track of video
abbrev pub IsEntryOf : TrackSetup → Entry → Type 0
IsEntryOf setup (Avc config) = (config.width ≡ 4) × (setup.kind ≡ kinds.Avc)
IsEntryOf setup (Aac config) = Unit {0}
IsEntryOf setup (Other kind) = Unit {0}

-- The entry of a setup is read back, alone in its box, as one of the setup.
abbrev pub ReadsAs : TrackSetup → Type 0
ReadsAs setup = (base : ℕ) → (e : EntryAt) × (entries_of base (stsd_of setup.entry) ≡ Ok (e ∷ [])) × IsEntryOf setup e.entry

-- each track has one entry, which is that of its setup
abbrev pub AreOf : List TrackSetup → List (List EntryAt) → Type 0
AreOf [] [] = Unit {0}
AreOf [] (es ∷ entries) = ⊥
AreOf (setup ∷ setups) [] = ⊥
AreOf (setup ∷ setups) (es ∷ entries) = ((e : EntryAt) × (es ≡ e ∷ []) × IsEntryOf setup e.entry) × AreOf setups entries

one_of : (setup : TrackSetup) (at : ℕ) (es : List EntryAt) → ReadsAs setup → entries_of at (stsd_of setup.entry) ≡ Ok es → (e : EntryAt) × (es ≡ e ∷ []) × IsEntryOf setup e.entry
one_of setup at es reads told =
    let r = reads at in
    let both : Ok es ≡ Ok (r.0 ∷ []) = sym told ∙ r.1 in
    let same : es ≡ r.0 ∷ [] = cc in
    (r.0, same, r.2)

-- tracks that have the entries of their setups
pub are_of : (setups : List TrackSetup) (entries : List (List EntryAt)) → AllByRecursion ReadsAs setups → HaveEntries setups entries → AreOf setups entries
are_of [] [] reads have = tt
are_of [] (es ∷ entries) reads have = absurd have
are_of (setup ∷ setups) [] reads have = absurd have
are_of (setup ∷ setups) (es ∷ entries) reads have = (one_of setup have.0.0 es reads.0 have.0.1, are_of setups entries reads.1 have.1)

-- what is cut by an entry of a track
cut_ok : (setup : TrackSetup) (e : Entry) (stored : List ℕ) → IsEntryOf setup e → (setup.kind ≡ kinds.Avc → Tiles stored) → Gives (handed_by (option_and_then a_width (width_of e)) stored)
cut_ok setup (Avc config) stored is tiles =
    let t = tiles is.1 in
    rw (is.0) (rw (t.1) (_, refl))
cut_ok setup (Aac config) stored is tiles = (stored, refl)
cut_ok setup (Other kind) stored is tiles = (stored, refl)

by_number : (setup : TrackSetup) (e : EntryAt) (d : ℕ) (stored : List ℕ) → IsEntryOf setup e.entry → (setup.kind ≡ kinds.Avc → Tiles stored)
    → Gives (handed_by (option_and_then a_width (option_and_then (λ (x : EntryAt). width_of x.entry) (entry_of (e ∷ []) d))) stored)
by_number setup e zero stored is tiles = (stored, refl)
by_number setup e (suc zero) stored is tiles = cut_ok setup e.entry stored is tiles
by_number setup e (suc (suc d)) stored is tiles = (stored, refl)

by_track : (setups : List TrackSetup) (entries : List (List EntryAt)) (t d : ℕ) (stored : List ℕ) → AreOf setups entries
    → ((setup : TrackSetup) → slice_get setups t ≡ Some setup → setup.kind ≡ kinds.Avc → Tiles stored)
    → Gives (handed_by (option_and_then a_width (option_and_then (λ (es : List EntryAt). option_and_then (λ (x : EntryAt). width_of x.entry) (entry_of es d)) (slice_get entries t))) stored)
by_track [] [] t d stored are tiles = (stored, refl)
by_track [] (es ∷ entries) t d stored are tiles = absurd are
by_track (setup ∷ setups) [] t d stored are tiles = absurd are
by_track (setup ∷ setups) (es ∷ entries) zero d stored are tiles = rw are.0.1 (by_number setup are.0.0 d stored are.0.2 (tiles setup refl))
by_track (setup ∷ setups) (es ∷ entries) (suc t) d stored are tiles = by_track setups entries t d stored are.1 tiles

-- the bytes of samples as a file holds them
held_bytes : (file : List ℕ) (ps : List PlainSample) (ss : List Stored) (i : ℕ) (s : PlainSample) → map (held_in_file file) ps ≡ map held_as ss → AllByRecursion (λ x. Tiles x.bytes) ss
    → slice_get ps i ≡ Some s → Tiles (stored_in file s)
held_bytes file [] ss i s same all at = absurd cc
held_bytes file (p ∷ ps) [] i s same all at = absurd cc
held_bytes file (p ∷ ps) (x ∷ ss) zero s same all at =
    let here : p ≡ s = cc in
    let both : held_in_file file p ≡ held_as x = cc in
    let bytes : stored_in file p ≡ x.bytes = ap (λ (h : Held). h.bytes) both in
    subst (λ (y : PlainSample). Tiles (stored_in file y)) here (subst Tiles (sym bytes) all.0)
held_bytes file (p ∷ ps) (x ∷ ss) (suc i) s same all at =
    let rest : map (held_in_file file) ps ≡ map held_as ss = cc in
    held_bytes file ps ss i s rest all.1 at

-- A track of a movie, and a sample of it.
record SampleAt (m : PlainMovie) (t i : ℕ) (s : PlainSample) : Type 0 where
  track : PlainTrack
  there : slice_get m.tracks t ≡ Some track
  at : slice_get track.samples i ≡ Some s

sample_at : (m : PlainMovie) (t i : ℕ) (s : PlainSample) (o : Option PlainTrack) → slice_get m.tracks t ≡ o → option_and_then (λ (x : PlainTrack). slice_get x.samples i) o ≡ Some s → SampleAt m t i s
sample_at m t i s None is e = absurd cc
sample_at m t i s (Some track) is e = record { track = track; there = is; at = e }

pub content_at : (file : List ℕ) (t : ℕ) (m : PlainMovie) (track : PlainTrack) (held : List Held) → movie file ≡ Ok m → slice_get m.tracks t ≡ Some track → content file t ≡ Some held → map (held_in_file file) track.samples ≡ held
unfolding content
content_at file t m track held is there e =
    let same : of_track (λ (x : PlainMovie) (y : PlainTrack). map (held_in_file file) y.samples) t (movie file) ≡ Some (map (held_in_file file) track.samples) = rw (is, there) refl in
    let both : Some (map (held_in_file file) track.samples) ≡ Some held = sym same ∙ e in
    cc

-- a file each of whose tracks of video holds samples that units tile, and has one entry of its setup
pub hands_out : (file : List ℕ) (m : Loaded) (setups : List TrackSetup) → movie file ≡ Ok m.movie → AreOf setups m.entries
    → ((t : ℕ) (setup : TrackSetup) → slice_get setups t ≡ Some setup → setup.kind ≡ kinds.Avc → (ss : List Stored) × (content file t ≡ Some (map held_as ss)) × AllByRecursion (λ x. Tiles x.bytes) ss)
    → HandsOutAll file m
unfolding handed_out
hands_out file m setups is are holds t i s e =
    let x = sample_at m.movie t i s (slice_get m.movie.tracks t) refl e in
    by_track setups m.entries t s.description (stored_in file s) are
    (λ setup there video.
    let h = holds t setup there video in
    held_bytes file x.track.samples h.0 i s (content_at file t m.movie x.track (map held_as h.0) is x.there h.1) h.2 x.at)
