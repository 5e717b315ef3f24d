-- The bytes of a file, as it is closed.
use Rattle.std.proofs.Common.{◌≡◌, ℕ, zero, suc, ◌+◌, ◌-◌, ◌*◌, ◌^◌, ◌<◌, ◌≤◌, false, List, [], ◌∷◌, ◌++◌, length, map, take, drop, codes, Option, Some, None, IfSome, refl, sym, ap, ◌∙◌, subst, append_assoc, arith}
use Rattle.std.specs.Prelude.{◌==◌, slice_get, sum_by}
use Rattle.std.specs.List.{AllByRecursion}
use Rattle.std.proofs.lemmas.List.{length-append, length-map, append-nil, take_at, drop_at, drop-drop}
use Rattle.std.proofs.lemmas.List.Concat.{flat_map-append}
use Rattle.std.proofs.lemmas.List.Sums.{sum_by-cons}
use Rattle.std.proofs.lemmas.Option.{slice_get_within}
use Rattle.sf_box.specs.Boxes.{be32, be64, box_of, wide_box}
use Rattle.sf_box.proofs.BoxLaws.{length-be64}
use Rattle.sf_tick.specs.declared.types.Stored.{Stored}
use Rattle.sf_tick.specs.declared.types.Chunk.{Chunk}
use Rattle.sf_world.specs.Contents.{grown, patched}
use Rattle.sf_world.proofs.GrownLemmas.{grown_twice}
use Rattle.sf_entry.specs.declared.track_setup.TrackSetup.{TrackSetup}
use Rattle.sf_meaning.specs.Stbl.{Timed}
use Rattle.sf_layout.specs.Headers.{ftyp_body}
use Rattle.sf_meaning.specs.Rows.{timed}
use Rattle.sf_layout.specs.Layout.{samples_of, stored_bytes, layout, movie_box, track_samples, tracks_of}
use Rattle.sf_layout.proofs.LayoutLaws.{payload_grown, rows_timed, samples_grown}
use Rattle.sf_gather.specs.declared.given.LastSample.{LastSample}
use Rattle.sf_gather.specs.Proper.{AllFollow}
use Rattle.sf_file.specs.FileHead.{file_head}
use Rattle.sf_file.specs.Open.{HeldTrack, OpenFile, AreSetups, Stands, Appendable, Joins, HasBytes, IsEmpty, opened, rows_in, setups_of, tracks_with, count_of, closing_box, closing_box_with, held_from}
use Rattle.sf_file.specs.inner.Tracks.{fresh}
use Rattle.sf_file.specs.inner.Sound.{HasFew, Sound}
use Rattle.sf_file.proofs.Room.{follow_short, short_sum}
use Rattle.sf_file.proofs.OneMore.{few_with, held_grown, joins_from, length_with, other_number, rows_held, same_number, setups_with, total_few, total_with}
use Rattle.sf_file.proofs.MovieLengths.{empty_box}

pub length_more : (chunks : List Chunk) (c : Chunk)
    → length (stored_bytes (samples_of (chunks ++ c ∷ []))) ≡ length (stored_bytes (samples_of chunks)) + length (stored_bytes c.samples)
length_more chunks c = ap (λ (b : List ℕ). length b) (payload_grown chunks c) ∙ length-append (stored_bytes (samples_of chunks)) (stored_bytes c.samples)

-- a file's bytes: its head, the samples' bytes, and the movie box
layout_is : (setups : List TrackSetup) (chunks : List Chunk)
    → layout setups chunks ≡ file_head (16 + length (stored_bytes (samples_of chunks))) ++ (stored_bytes (samples_of chunks) ++ movie_box (tracks_of setups chunks))
unfolding layout file_head wide_box
layout_is setups chunks = simp append_assoc

pub length_head : (n : ℕ) → length (file_head n) ≡ 40
unfolding file_head box_of be32 be64
length_head n = refl

pub length_layout : (setups : List TrackSetup) (chunks : List Chunk) → length (layout setups chunks) ≡ 40 + length (stored_bytes (samples_of chunks)) + length (movie_box (tracks_of setups chunks))
length_layout setups chunks =
    let stored : List ℕ = stored_bytes (samples_of chunks) in
    let box : List ℕ = movie_box (tracks_of setups chunks) in
    omega (arith, ap (λ (b : List ℕ). length b) (layout_is setups chunks), length-append (file_head (16 + length stored)) (stored ++ box), length-append stored box, length_head (16 + length stored))

-- what the movie box of an open file is made of
pub stands_rows : {begun : Option (List ℕ)} {chunks : List Chunk} {file : OpenFile} → Stands begun chunks file → rows_in file.tracks ≡ tracks_of (setups_of file) chunks
stands_rows {begun} {chunks} {file} s = ap rows_in s.tracks ∙ rows_held 0 (setups_of file) chunks

pub stands_box : {begun : Option (List ℕ)} {chunks : List Chunk} {file : OpenFile} → Stands begun chunks file → closing_box file ≡ movie_box (tracks_of (setups_of file) chunks)
stands_box s = ap movie_box (stands_rows s)

pub held_more : {begun : Option (List ℕ)} {chunks : List Chunk} {file : OpenFile} (c : Chunk) → Stands begun chunks file
    → tracks_with 0 file.tracks file.end c ≡ held_from 0 (setups_of file) (chunks ++ c ∷ [])
held_more {begun} {chunks} {file} c s =
    ap (λ (ts : List HeldTrack). tracks_with 0 ts file.end c) s.tracks
    ∙ ap (λ (n : ℕ). tracks_with 0 (held_from 0 (setups_of file) chunks) n c) s.end
    ∙ sym (held_grown 0 (setups_of file) chunks c)

pub stands_box_with : {begun : Option (List ℕ)} {chunks : List Chunk} {file : OpenFile} (c : Chunk) → Stands begun chunks file
    → closing_box_with file c ≡ movie_box (tracks_of (setups_of file) (chunks ++ c ∷ []))
stands_box_with {begun} {chunks} {file} c s =
    ap (λ (ts : List HeldTrack). movie_box (rows_in ts)) (held_more c s) ∙ ap movie_box (rows_held 0 (setups_of file) (chunks ++ c ∷ []))

pub stands_length : {begun : Option (List ℕ)} {chunks : List Chunk} {file : OpenFile} → Stands begun chunks file
    → length (layout (setups_of file) chunks) ≡ file.end + length (closing_box file)
stands_length {begun} {chunks} {file} s =
    omega (arith, length_layout (setups_of file) chunks, s.end, ap (λ (b : List ℕ). length b) (stands_box s))

pub stands_length_with : {begun : Option (List ℕ)} {chunks : List Chunk} {file : OpenFile} (c : Chunk) → Stands begun chunks file
    → length (layout (setups_of file) (chunks ++ c ∷ [])) ≡ file.end + length (stored_bytes c.samples) + length (closing_box_with file c)
stands_length_with {begun} {chunks} {file} c s =
    omega (arith, length_layout (setups_of file) (chunks ++ c ∷ []), s.end, length_more chunks c, ap (λ (b : List ℕ). length b) (stands_box_with c s))

opened_more : (chunks : List Chunk) (c : Chunk) → opened (chunks ++ c ∷ []) ≡ opened chunks ++ stored_bytes c.samples
opened_more chunks c =
    ap (λ (b : List ℕ). file_head 16 ++ b) (payload_grown chunks c) ∙ sym (append_assoc (file_head 16) (stored_bytes (samples_of chunks)) (stored_bytes c.samples))

-- one more of what holds of all
pub all_more : {X : Type 0} (P : X → Type 0) (xs : List X) (y : X) → AllByRecursion P xs → P y → AllByRecursion P (xs ++ y ∷ [])
all_more P [] y all p = (p, tt)
all_more P (x ∷ xs) y all p = (all.0, all_more P xs y all.1 p)

-- samples that follow have bytes
follow_bytes : (scale : ℕ) (last : Option LastSample) (ss : List Stored) → 1 ≤ length ss → AllFollow scale last ss → 0 < length (stored_bytes ss)
follow_bytes scale last [] some f = absurd (omega (arith, some))
follow_bytes scale last (s ∷ ss) some f = omega (arith, f.0.some, length-append s.bytes (stored_bytes ss))

-- A file with one more chunk holds it.
pub stands_more : {begun : Option (List ℕ)} {chunks : List Chunk} {file after : OpenFile} (c : Chunk)
    → Stands begun chunks file → Appendable file c → after.tracks ≡ tracks_with 0 file.tracks file.end c
    → after.end ≡ file.end + length (stored_bytes c.samples) → after.sink.content ≡ grown file.sink.content (stored_bytes c.samples)
    → Stands begun (chunks ++ c ∷ []) after
stands_more {begun} {chunks} {file} {after} c s a tracks end told =
    let same : setups_of after ≡ setups_of file =
    ap (λ (ts : List HeldTrack). map (λ (t : HeldTrack). t.track.setup) ts) tracks ∙ setups_with 0 file.tracks file.end c in
    let long : length after.tracks ≡ length file.tracks = ap (λ (ts : List HeldTrack). length ts) tracks ∙ length_with 0 file.tracks file.end c in
    let known : AllByRecursion (λ d. d.track < length file.tracks) (chunks ++ c ∷ []) =
    all_more (λ (d : Chunk). d.track < length file.tracks) chunks c s.known (slice_get_within file.tracks c.track a.track a.among) in
    let bytes : HasBytes c = follow_bytes a.track.track.setup.scale a.track.last c.samples a.joins.some a.joins.follow in
    record {
      tracks = tracks ∙ held_more c s ∙ ap (λ (ss : List TrackSetup). held_from 0 ss (chunks ++ c ∷ [])) (sym same);
      known = subst (λ (n : ℕ). AllByRecursion (λ d. d.track < n) (chunks ++ c ∷ [])) (sym long) known;
      filled = all_more HasBytes chunks c s.filled bytes;
      end = omega (arith, end, s.end, length_more chunks c);
      told = told ∙ ap (λ (b : Option (List ℕ)). grown b (stored_bytes c.samples)) s.told ∙ grown_twice begun (opened chunks) (stored_bytes c.samples)
          ∙ ap (grown begun) (sym (opened_more chunks c));
    }

-- what stands in front of the size of the media data box
size_front : List ℕ
size_front = box_of (codes "ftyp") ftyp_body ++ (be32 1 ++ codes "mdat")

head_is : (n : ℕ) → file_head n ≡ size_front ++ be64 n
unfolding file_head size_front
head_is n = simp append_assoc

length_front : length size_front ≡ 32
unfolding size_front box_of be32
length_front = refl

-- the size of the media data box is written over the first one
sized : (n : ℕ) (rest : List ℕ) → patched (Some (file_head 16 ++ rest)) 32 (be64 n) ≡ Some (file_head n ++ rest)
sized n rest =
    let split : (m : ℕ) → file_head m ++ rest ≡ size_front ++ (be64 m ++ rest) = λ m. ap (λ (b : List ℕ). b ++ rest) (head_is m) ∙ append_assoc size_front (be64 m) rest in
    let front : take 32 (file_head 16 ++ rest) ≡ size_front = ap (take 32) (split 16) ∙ take_at size_front (be64 16 ++ rest) 32 length_front in
    let eight : drop 32 (file_head 16 ++ rest) ≡ be64 16 ++ rest = ap (drop 32) (split 16) ∙ drop_at size_front (be64 16 ++ rest) 32 length_front in
    let back : drop (32 + length (be64 n)) (file_head 16 ++ rest) ≡ rest =
    ap (λ (k : ℕ). drop (32 + k) (file_head 16 ++ rest)) (length-be64 n) ∙ sym (drop-drop 8 32 (file_head 16 ++ rest)) ∙ ap (drop 8) eight ∙ drop_at (be64 16) rest 8 (length-be64 16) in
    ap (λ (b : List ℕ). Some b)
    (ap (λ (b : List ℕ). take 32 (file_head 16 ++ rest) ++ be64 n ++ b) back ∙ ap (λ (b : List ℕ). b ++ be64 n ++ rest) front ∙ append_assoc size_front (be64 n) rest ∙ sym (split n))

closed_told : (setups : List TrackSetup) (chunks : List Chunk) (begun : Option (List ℕ)) (n : ℕ) (box : List ℕ) → IsEmpty begun
    → n ≡ 16 + length (stored_bytes (samples_of chunks)) → box ≡ movie_box (tracks_of setups chunks)
    → patched (grown (grown begun (opened chunks)) box) 32 (be64 n) ≡ grown begun (layout setups chunks)
closed_told setups chunks None n box i e b = refl
closed_told setups chunks (Some []) n box i e b =
    let stored : List ℕ = stored_bytes (samples_of chunks) in
    rw (e, b)
    (ap (λ (bs : List ℕ). patched (Some bs) 32 (be64 (16 + length stored))) (append_assoc (file_head 16) stored (movie_box (tracks_of setups chunks)))
    ∙ sized (16 + length stored) (stored ++ movie_box (tracks_of setups chunks))
    ∙ ap (λ (bs : List ℕ). Some bs) (sym (layout_is setups chunks)))
closed_told setups chunks (Some (x ∷ xs)) n box i e b = cc

-- A file that is closed is laid out.
pub stands_closed : {begun : Option (List ℕ)} {chunks : List Chunk} {file : OpenFile} {written after : Option (List ℕ)} (n : ℕ) (box : List ℕ)
    → IsEmpty begun → Stands begun chunks file → n ≡ file.end - 24 → box ≡ closing_box file → written ≡ grown file.sink.content box → after ≡ patched written 32 (be64 n)
    → after ≡ grown begun (layout (setups_of file) chunks)
stands_closed {begun} {chunks} {file} {written} {after} n box i s e b w p =
    let size : n ≡ 16 + length (stored_bytes (samples_of chunks)) = omega (arith, e, s.end) in
    p ∙ ap (λ (bs : Option (List ℕ)). patched bs 32 (be64 n)) (w ∙ ap (λ (bs : Option (List ℕ)). grown bs box) s.told)
    ∙ closed_told (setups_of file) chunks begun n box i size (b ∙ stands_box s)

-- a file with one more chunk is sound
pub sound_more : {ts after : List HeldTrack} {end size size_after len : ℕ} (c : Chunk) (t : HeldTrack) → Sound ts end size → slice_get ts c.track ≡ Some t → Joins t c
    → length (movie_box (rows_in (tracks_with 0 ts end c))) ≤ 2 ^ 28 → after ≡ tracks_with 0 ts end c → len ≡ length (stored_bytes c.samples) → 40 ≤ size_after
    → Sound after (end + len) size_after
sound_more {ts} {after} {end} {size} {size_after} {len} c t s among joins box e n h =
    let bytes : length (stored_bytes c.samples) ≤ 2 ^ 25 * length c.samples = short_sum c.samples (follow_short t.track.setup.scale t.last c.samples joins.follow) in
    let far : 40 ≤ end = s.far in
    record {
      most = rw e (omega (arith, length_with 0 ts end c, s.most));
      few = rw e (few_with 0 ts end c (joins_from 0 c.track ts c t (omega arith) among joins) s.few);
      near = rw e (omega (arith, total_with 0 c.track ts end c t (omega arith) among, bytes, s.near, n));
      box = rw e box;
      far = omega (arith, far);
      head = h;
    }

-- a file without chunks is sound
few_fresh : (setups : List TrackSetup) → AllByRecursion HasFew (map fresh setups)
few_fresh [] = tt
few_fresh (s ∷ setups) = (omega arith, few_fresh setups)

pub sound_fresh : {ts : List HeldTrack} (setups : List TrackSetup) (size : ℕ) → AreSetups setups → ts ≡ map fresh setups → 40 ≤ size → Sound ts 40 size
sound_fresh {ts} setups size a e h =
    record {
      most = rw e (omega (arith, length-map setups fresh, a.few));
      few = rw e (few_fresh setups);
      near = omega arith;
      box = rw e (empty_box setups a.few a.entries);
      far = omega arith;
      head = h;
    }

pub fresh_held : (number : ℕ) (setups : List TrackSetup) → map fresh setups ≡ held_from number setups []
fresh_held number [] = refl
fresh_held number (s ∷ setups) = ap (λ (ts : List HeldTrack). fresh s ∷ ts) (fresh_held (number + 1) setups)

pub setups_fresh : (setups : List TrackSetup) → map (λ t. t.track.setup) (map fresh setups) ≡ setups
setups_fresh [] = refl
setups_fresh (s ∷ setups) = ap (λ (ss : List TrackSetup). s ∷ ss) (setups_fresh setups)

pub stands_fresh : {begun : Option (List ℕ)} {file : OpenFile} (setups : List TrackSetup) → file.tracks ≡ map fresh setups → file.end ≡ 40
    → file.sink.content ≡ grown begun (file_head 16) → Stands begun [] file
stands_fresh {begun} {file} setups tracks end told =
    let same : setups_of file ≡ setups = ap (λ (ts : List HeldTrack). map (λ (t : HeldTrack). t.track.setup) ts) tracks ∙ setups_fresh setups in
    record {
      tracks = tracks ∙ fresh_held 0 setups ∙ ap (λ (ss : List TrackSetup). held_from 0 ss []) (sym same);
      known = tt;
      filled = tt;
      end = end;
      told = told ∙ ap (grown begun) (sym (append-nil (file_head 16)));
    }

-- no sample entry is longer than all together
pub each_entry : (most : ℕ) (setups : List TrackSetup) → sum_by (λ s. length s.entry) setups ≤ most → AllByRecursion (λ s. length s.entry ≤ most) setups
each_entry most [] le = tt
each_entry most (s ∷ setups) le =
    let sum = sum_by-cons (λ (t : TrackSetup). length t.entry) s setups in
    (omega (arith, le, sum), each_entry most setups (omega (arith, le, sum)))

stored_append : (ss ts : List Stored) → stored_bytes (ss ++ ts) ≡ stored_bytes ss ++ stored_bytes ts
stored_append ss ts = flat_map-append (λ (s : Stored). s.bytes) ss ts

-- an open file without bytes of samples holds no chunks
bytes_some : (chunks : List Chunk) (c : Chunk) → 0 < length (stored_bytes c.samples) → 0 < length (stored_bytes (samples_of (c ∷ chunks)))
bytes_some chunks c some = omega (arith, some, ap (λ (b : List ℕ). length b) (stored_append c.samples (samples_of chunks)), length-append (stored_bytes c.samples) (stored_bytes (samples_of chunks)))

pub none_at : (chunks : List Chunk) (end : ℕ) → AllByRecursion HasBytes chunks → end ≡ 40 + length (stored_bytes (samples_of chunks)) → (end == 40) ≡ (length chunks == 0)
none_at [] end filled e = same_number end 40 (omega (arith, e))
none_at (c ∷ chunks) end filled e =
    let some : (length (c ∷ chunks) == 0) ≡ false = other_number (length (c ∷ chunks)) 0 (λ n. omega (arith, n)) in
    other_number end 40 (λ n. omega (arith, n, e, bytes_some chunks c filled.0)) ∙ sym some

-- how many samples of a track an open file holds
counted : (number k n : ℕ) (setups : List TrackSetup) (chunks : List Chunk) → k < length setups → IfSome (slice_get (held_from number setups chunks) k) (λ t. n ≡ count_of t)
    → n ≡ length (track_samples (number + k) chunks)
counted number k n [] chunks lt i = absurd (omega (arith, lt))
counted number zero n (setup ∷ setups) chunks lt i =
    let same : number ≡ number + 0 = omega arith in
    i ∙ ap (λ (ss : List Timed). length ss) (rows_timed number 40 chunks) ∙ length-map (track_samples number chunks) timed ∙ ap (λ (m : ℕ). length (track_samples m chunks)) same
counted number (suc k) n (setup ∷ setups) chunks lt i =
    let same : (number + 1) + k ≡ number + suc k = omega arith in
    counted (number + 1) k n setups chunks (omega (arith, lt)) i ∙ ap (λ (m : ℕ). length (track_samples m chunks)) same

pub stands_count : {begun : Option (List ℕ)} {chunks : List Chunk} {file : OpenFile} (k n : ℕ) → Stands begun chunks file → k < length file.tracks
    → IfSome (slice_get file.tracks k) (λ t. n ≡ count_of t) → n ≡ length (track_samples k chunks)
stands_count {begun} {chunks} {file} k n s lt i =
    let same : 0 + k ≡ k = omega arith in
    let long : length (setups_of file) ≡ length file.tracks = length-map file.tracks (λ (t : HeldTrack). t.track.setup) in
    counted 0 k n (setups_of file) chunks (omega (arith, lt, long)) (subst (λ (ts : List HeldTrack). IfSome (slice_get ts k) (λ t. n ≡ count_of t)) s.tracks i)
    ∙ ap (λ (m : ℕ). length (track_samples m chunks)) same

-- the same with one more chunk of the track
pub count_more : (chunks : List Chunk) (c : Chunk) → length (track_samples c.track (chunks ++ c ∷ [])) ≡ length (track_samples c.track chunks) + length c.samples
count_more chunks c = ap (λ (ss : List Stored). length ss) (samples_grown c.track chunks c refl) ∙ length-append (track_samples c.track chunks) c.samples

-- what is written ends at a number of eight bytes
pub end_fits : {ts : List HeldTrack} {end size bytes : ℕ} → Sound ts end size → bytes ≤ 2 ^ 57 → end + bytes ≤ 2 ^ 63 + 2 ^ 57 + 40
end_fits {ts} {end} {size} {bytes} s le = omega (arith, s.near, total_few ts s.few, s.most, le)

pub bytes_short : (t : HeldTrack) (c : Chunk) → Joins t c → length (stored_bytes c.samples) ≤ 2 ^ 57
bytes_short t c j = omega (arith, short_sum c.samples (follow_short t.track.setup.scale t.last c.samples j.follow), j.few)
