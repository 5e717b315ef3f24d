-- What holds of the files of a series still holds after a file is made, closed, or gets a chunk.
use Rattle.std.proofs.Common.{◌≡◌, ℕ, zero, suc, ◌+◌, ◌*◌, ◌^◌, ◌<◌, ◌≤◌, List, [], ◌∷◌, ◌++◌, length, map, set, get_or, replicate, Option, Some, None, refl, sym, subst, ap, ◌∙◌, inl, inr, append-nil, length-append, arith, get_or-set_same, get_or-set_other}
use Rattle.std.specs.Prelude.{slice_get, option_map, unwrap_or}
use Rattle.std.specs.List.{AllByRecursion}
use Rattle.std.proofs.lemmas.Bool.{cases_lt}
use Rattle.std.proofs.lemmas.Bool.Decides.{eqb_tells}
use Rattle.std.proofs.lemmas.List.{length-map, length-replicate, get_or-replicate, get_or_past}
use Rattle.std.proofs.lemmas.List.Concat.{flat_map-append}
use Rattle.sf_tick.specs.declared.types.Chunk.{Chunk}
use Rattle.sf_entry.specs.declared.track_setup.TrackSetup.{TrackSetup}
use Rattle.sf_meaning.specs.Stbl.{Row, Timed, timed_of}
use Rattle.sf_meaning.specs.Rows.{row_at, timed}
use Rattle.sf_file.specs.Open.{Appendable, HeldTrack, OpenFile, closing_box_with, count_of, held_from, setups_of, track_with, tracks_with}
use Rattle.sf_file.specs.Open as one_file
use Rattle.std.proofs.lemmas.Option.{slice_get_within}
use Rattle.sf_series.specs.Series.{HoldsOn}
use Rattle.sf_series.specs.inner.Writing.{CanPut, CountsFit, HasRoomAlone, HasRoomFor, IsFresh, IsOpen, open_count}
use Rattle.sf_series.proofs.Waits.{weaken}

-- how many samples a track has with one more chunk
timed_more : (rows : List Row) (place : ℕ) (c : Chunk) → timed_of (rows ++ row_at place c ∷ []) ≡ timed_of rows ++ map timed c.samples
timed_more rows place c =
    flat_map-append (λ (r : Row). r.samples) rows (row_at place c ∷ []) ∙ ap (λ (ss : List Timed). timed_of rows ++ ss) (append-nil (map timed c.samples))

pub count_with : (t : HeldTrack) (place : ℕ) (c : Chunk) → count_of (track_with t place c) ≡ count_of t + length c.samples
count_with t place c =
    omega (arith, ap (λ (ss : List Timed). length ss) (timed_more t.track.rows place c), length-append (timed_of t.track.rows) (map timed c.samples), length-map c.samples timed)

abbrev pub HasFew : HeldTrack → Type 0
HasFew t = count_of t ≤ 2 ^ 24

few_at : (ts : List HeldTrack) (k : ℕ) (t : HeldTrack) → AllByRecursion HasFew ts → slice_get ts k ≡ Some t → count_of t ≤ 2 ^ 24
few_at [] k t few e = cc
few_at (u ∷ ts) zero t few e = let same : u ≡ t = cc in subst HasFew same few.0
few_at (u ∷ ts) (suc k) t few e = few_at ts k t few.1 e

few_fresh : (number : ℕ) (setups : List TrackSetup) → AllByRecursion HasFew (held_from number setups [])
few_fresh number [] = tt
few_fresh number (setup ∷ setups) = (omega arith, few_fresh (number + 1) setups)

pub few_with : (number : ℕ) (ts : List HeldTrack) (place : ℕ) (c : Chunk) → AllByRecursion HasFew ts
    → ((k : ℕ) (t : HeldTrack) → c.track ≡ number + k → slice_get ts k ≡ Some t → count_of t + length c.samples ≤ 2 ^ 24) → AllByRecursion HasFew (tracks_with number ts place c)
few_with number [] place c few room = tt
few_with number (t ∷ ts) place c few room =
    let more : AllByRecursion HasFew (tracks_with (number + 1) ts place c) = few_with (number + 1) ts place c few.1 (λ k u e at. room (suc k) u (omega (arith, e)) at) in
    elim (eqb_tells c.track number) [
      | inl p ↦ (let fits = room 0 t (omega (arith, p.1)) refl in rw p.0 (omega (arith, fits, count_with t place c), more))
      | inr p ↦ rw p.0 (few.0, more)
    ]

-- a file without chunks can be open
pub fresh_open : (setups : List TrackSetup) (file : OpenFile) → IsFresh setups file → IsOpen setups file
fresh_open setups file f = record { own = f.own; few = subst (λ (ts : List HeldTrack). AllByRecursion HasFew ts) (sym f.tracks) (few_fresh 0 setups) }

-- so can one that has room for a chunk, with it
setups_more : (number : ℕ) (ts : List HeldTrack) (place : ℕ) (c : Chunk) → map (λ t. t.track.setup) (tracks_with number ts place c) ≡ map (λ t. t.track.setup) ts
setups_more number [] place c = refl
setups_more number (t ∷ ts) place c =
    let more : map (λ u. u.track.setup) (tracks_with (number + 1) ts place c) ≡ map (λ u. u.track.setup) ts = setups_more (number + 1) ts place c in
    elim (eqb_tells c.track number) [
      | inl p ↦ rw p.0 (ap (λ (ss : List TrackSetup). t.track.setup ∷ ss) more)
      | inr p ↦ rw p.0 (ap (λ (ss : List TrackSetup). t.track.setup ∷ ss) more)
    ]

pub grown_open : {setups : List TrackSetup} {file grown : OpenFile} (c : Chunk) → IsOpen setups file → HasRoomFor file c → grown.tracks ≡ tracks_with 0 file.tracks file.end c → IsOpen setups grown
grown_open {setups} {file} {grown} c o room is =
    record {
      own = ap (λ (ts : List HeldTrack). map (λ (t : HeldTrack). t.track.setup) ts) is ∙ setups_more 0 file.tracks file.end c ∙ o.own;
      few = subst (λ (ts : List HeldTrack). AllByRecursion HasFew ts) (sym is)
          (few_with 0 file.tracks file.end c o.few (λ k t e at. room.count t (ap (λ (n : ℕ). slice_get file.tracks n) (omega (arith, e)) ∙ at)));
    }

-- a chunk that can be put can be appended
pub appendable : {setups : List TrackSetup} {file : OpenFile} {c : Chunk} → IsOpen setups file → CanPut file c → Appendable file c
appendable {setups} {file} {c} o p =
    record { track = p.track; among = p.among; joins = record { some = p.some; follow = p.follow; few = omega (arith, few_at file.tracks c.track p.track o.few p.among, p.few) } }

-- and so it can to a file without chunks
fresh_track : (number k : ℕ) (ts : List HeldTrack) (setups : List TrackSetup) (t : HeldTrack) → map (λ u. u.track.setup) ts ≡ setups → slice_get ts k ≡ Some t
    → slice_get (held_from number setups []) k ≡ Some (record { track = record { setup = t.track.setup; first = None; rows = [] }; last = None })
fresh_track number k [] setups t same e = cc
fresh_track number k (u ∷ ts) [] t same e = cc
fresh_track number zero (u ∷ ts) (s ∷ setups) t same e =
    let is : u ≡ t = cc in
    let setup : u.track.setup ≡ s = cc in
    let own : s ≡ t.track.setup = sym setup ∙ ap (λ (h : HeldTrack). h.track.setup) is in
    ap (λ (x : TrackSetup). Some (record { track = record { setup = x; first = None; rows = [] }; last = None })) own
fresh_track number (suc k) (u ∷ ts) (s ∷ setups) t same e =
    let rest : map (λ v. v.track.setup) ts ≡ setups = cc in
    fresh_track (number + 1) k ts setups t rest e

pub can_put_fresh : {setups : List TrackSetup} {file fresh : OpenFile} {c : Chunk} → setups_of file ≡ setups → fresh.tracks ≡ held_from 0 setups [] → CanPut file c → CanPut fresh c
can_put_fresh {setups} {file} {fresh} {c} own is p =
    record {
      track = record { track = record { setup = p.track.track.setup; first = None; rows = [] }; last = None };
      among = ap (λ (ts : List HeldTrack). slice_get ts c.track) is ∙ fresh_track 0 c.track file.tracks setups p.track own p.among;
      some = p.some;
      few = p.few;
      follow = weaken p.track.track.setup.scale p.track.last c.samples p.follow;
    }

-- a fresh file has room for a chunk that has room alone
fresh_count : (number k : ℕ) (setups : List TrackSetup) (t : HeldTrack) → slice_get (held_from number setups []) k ≡ Some t → count_of t ≡ 0
fresh_count number k [] t e = cc
fresh_count number zero (s ∷ setups) t e =
    let same : record { track = record { setup = s; first = None; rows = [] }; last = None } ≡ t = cc in sym (ap (λ (h : HeldTrack). count_of h) same)
fresh_count number (suc k) (s ∷ setups) t e = fresh_count (number + 1) k setups t e

pub room_alone : {setups : List TrackSetup} {file : OpenFile} {c : Chunk} → IsFresh setups file → HasRoomAlone setups c → HasRoomFor file c
room_alone {setups} {file} {c} f room =
    record {
      box = rw (f.tracks, f.end) room.box;
      count = λ t at. omega (arith, fresh_count 0 c.track setups t (ap (λ (ts : List HeldTrack). slice_get ts c.track) (sym f.tracks) ∙ at), room.count);
    }

-- the counts of samples fit
bound_in : (ts : List HeldTrack) (k : ℕ) → AllByRecursion HasFew ts → unwrap_or (option_map count_of (slice_get ts k)) 0 ≤ 2 ^ 24
bound_in [] k few = omega arith
bound_in (t ∷ ts) zero few = few.0
bound_in (t ∷ ts) (suc k) few = bound_in ts k few.1

pub count_bound : (setups : List TrackSetup) (file : OpenFile) (t : ℕ) → IsOpen setups file → open_count (Some file) t ≤ 2 ^ 24
count_bound setups file t o = bound_in file.tracks t o.few

pub fit_made : (counts closed : List ℕ) (file : OpenFile) → CountsFit counts closed None → CountsFit counts closed (Some file)
fit_made counts closed file fit t = let le = fit t in omega (arith, le)

pub fit_closed : (setups : List TrackSetup) (counts closed : List ℕ) (size : ℕ) (file : OpenFile) → IsOpen setups file → CountsFit counts closed (Some file) → CountsFit counts (closed ++ size ∷ []) None
fit_closed setups counts closed size file o fit t =
    omega (arith, fit t, count_bound setups file t o, length-append closed (size ∷ []))

pub fit_none : (n : ℕ) → CountsFit (replicate n 0) [] None
fit_none n t =
    elim (cases_lt t n) [
      | inl less ↦ omega (arith, get_or-replicate {A = ℕ} n t 0 0 less)
      | inr past ↦ omega (arith, get_or_past {X = ℕ} (replicate n 0) t 0 (omega (arith, past, length-replicate {A = ℕ} n 0)))
    ]

-- with one more chunk
open_at : (file : OpenFile) (k : ℕ) (t : HeldTrack) → slice_get file.tracks k ≡ Some t → open_count (Some file) k ≡ count_of t
open_at file k t e = ap (λ (o : Option HeldTrack). unwrap_or (option_map count_of o) 0) e

read_own : (counts : List ℕ) (k n : ℕ) → slice_get counts k ≡ Some n → (k < length counts) × (get_or counts k 0 ≡ n)
read_own [] k n e = cc
read_own (m ∷ counts) zero n e = (omega arith, cc)
read_own (m ∷ counts) (suc k) n e = let more = read_own counts k n e in (omega (arith, more.0), more.1)

grown_at : (number k : ℕ) (ts : List HeldTrack) (place : ℕ) (c : Chunk) (t : HeldTrack) → c.track ≡ number + k → slice_get ts k ≡ Some t → slice_get (tracks_with number ts place c) k ≡ Some (track_with t place c)
grown_at number k [] place c t e at = cc
grown_at number zero (u ∷ ts) place c t e at =
    let same : u ≡ t = cc in
    elim (eqb_tells c.track number) [ inl p ↦ rw p.0 (ap (λ (h : HeldTrack). Some (track_with h place c)) same) | inr p ↦ absurd (p.1 (omega (arith, e))) ]
grown_at number (suc k) (u ∷ ts) place c t e at = grown_at (number + 1) k ts place c t (omega (arith, e)) at

kept_at : (number k : ℕ) (ts : List HeldTrack) (place : ℕ) (c : Chunk) → (c.track ≡ number + k → ⊥) → slice_get (tracks_with number ts place c) k ≡ slice_get ts k
kept_at number k [] place c other = refl
kept_at number zero (u ∷ ts) place c other = elim (eqb_tells c.track number) [ inl p ↦ absurd (other (omega (arith, p.1))) | inr p ↦ rw p.0 refl ]
kept_at number (suc k) (u ∷ ts) place c other = kept_at (number + 1) k ts place c (λ e. other (omega (arith, e)))

pub fit_grown : (counts closed : List ℕ) (file grown : OpenFile) (c : Chunk) (n : ℕ) → CanPut file c → grown.tracks ≡ tracks_with 0 file.tracks file.end c → slice_get counts c.track ≡ Some n
    → CountsFit counts closed (Some file) → CountsFit (set counts c.track (n + length c.samples)) closed (Some grown)
fit_grown counts closed file grown c n p is at fit t =
    elim (eqb_tells c.track t) [
      | inl e ↦ (
          let own = read_own counts c.track n at in
          let inside = own.0 in
          let count : get_or (set counts c.track (n + length c.samples)) t 0 ≡ n + length c.samples = ap (λ (k : ℕ). get_or (set counts c.track (n + length c.samples)) k 0) (sym e.1) ∙ get_or-set_same counts c.track (n + length c.samples) 0 inside in
          let before : n ≤ 2 ^ 24 * length closed + count_of p.track = let le = fit c.track in omega (arith, le, own.1, open_at file c.track p.track p.among) in
          let now : slice_get grown.tracks t ≡ Some (track_with p.track file.end c) =
          ap (λ (ts : List HeldTrack). slice_get ts t) is ∙ ap (λ (k : ℕ). slice_get (tracks_with 0 file.tracks file.end c) k) (sym e.1) ∙ grown_at 0 c.track file.tracks file.end c p.track (omega arith) p.among in
          omega (arith, count, before, open_at grown t (track_with p.track file.end c) now, count_with p.track file.end c))
      | inr e ↦ (
          let count : get_or (set counts c.track (n + length c.samples)) t 0 ≡ get_or counts t 0 = get_or-set_other counts c.track t (n + length c.samples) 0 (λ s. e.1 (sym s)) in
          let same : open_count (Some grown) t ≡ open_count (Some file) t =
          ap (λ (ts : List HeldTrack). unwrap_or (option_map count_of (slice_get ts t)) 0) is ∙ ap (λ (o : Option HeldTrack). unwrap_or (option_map count_of o) 0) (kept_at 0 t file.tracks file.end c (λ s. e.1 (omega (arith, s)))) in
          omega (arith, count, same, fit t))
    ]

-- a file that holds no chunks is fresh
pub fresh_holds : {shelf : Option (List (List ℕ))} {setups : List TrackSetup} {file : OpenFile} → HoldsOn shelf setups [] file → IsFresh setups file
fresh_holds {shelf} {setups} {file} h =
    record { own = h.own; tracks = h.stands.tracks ∙ ap (λ (ss : List TrackSetup). held_from 0 ss []) h.own; end = h.stands.end ∙ omega arith }

-- the chunk that can be put is of one of the tracks
pub put_inside : {setups : List TrackSetup} {file : OpenFile} {c : Chunk} → IsOpen setups file → CanPut file c → c.track < length setups
put_inside {setups} {file} {c} o p =
    let within : c.track < length file.tracks = slice_get_within file.tracks c.track p.track p.among in
    let long : length (setups_of file) ≡ length file.tracks = length-map file.tracks (λ (t : HeldTrack). t.track.setup) in
    let same : length (setups_of file) ≡ length setups = ap (λ (ss : List TrackSetup). length ss) o.own in
    omega (arith, within, long, same)

-- a file that holds no chunks is fresh, wherever its sink is
pub stands_fresh : {begun : Option (List ℕ)} {setups : List TrackSetup} {file : OpenFile} → setups_of file ≡ setups → one_file.Stands begun [] file → IsFresh setups file
stands_fresh {begun} {setups} {file} own s =
    record { own = own; tracks = s.tracks ∙ ap (λ (ss : List TrackSetup). held_from 0 ss []) own; end = s.end ∙ omega arith }
