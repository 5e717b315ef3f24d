-- Commands, reads, and what is left of a plan.
use Rattle.std.proofs.Common.{◌≡◌, ℕ, zero, suc, ◌+◌, ◌*◌, ◌≤◌, ◌<◌, Bool, true, false, List, [], ◌∷◌, ◌++◌, length, take, set, get_or, Option, Some, None, option_map, option_and_then, is_some, Result, Ok, Err, refl, sym, ap, subst, ◌∙◌, arith, if◌then◌else◌, ℤ, pos, unwrap_or}
use mir.Val.{bool_byte}
use Rattle.std.proofs.lemmas.List.{append_assoc, length-set, length-take, take_all, take_at}
use Rattle.sf_meaning.specs.declared.movie.PlainMovie.{PlainMovie}
use Rattle.sf_meaning.specs.declared.movie.PlainSample.{PlainSample}
use Rattle.sf_movie.specs.Loaded.{Loaded, sample_count, sample_of}
use Rattle.sf_extract.specs.Current.{Extracting, Positions, advanced, current, moved_to, past, selected, unselected}
use Rattle.sf_extract.specs.SyncAt.{all_sought, seeked}
use Rattle.sf_extract.specs.Readout.{Readout, before, ended_by, given, given_of, left_from, left_of, read_of, read_or, read_out, reads, remains, stored_in, where_one, with_read}
use Rattle.sf_extract.specs.Runs.{GoesOn, GrowsBy, PutsRecord, Running, Stores, after_read, all_from, given_now, most_of, reads_first, rest_of, weight}
use Rattle.sf_extract.specs.inner.Acts.{IsDone, IsHeld, Starts}
use Rattle.sf_extract.specs.inner.Seats.{AreTheSeats}
use Rattle.sf_extract.specs.declared.seats.Seat.{Seat}
use Rattle.sf_extract.specs.declared.plan.Command.{Command}
use Rattle.sf_extract.specs.declared.plan.Command.TheVariants.{Select, Unselect, Seek, Read, Advance, ToEnd}
use Rattle.sf_extract.specs.declared.types.BadSample.{BadSample}
use Rattle.sf_extract.specs.declared.types.GiveFault.{GiveFault}
use Rattle.sf_extract.specs.declared.types.GiveFault.TheVariants.{Bad, NoMemory}
use Rattle.sf_extract.specs.declared.types.Mode.{Mode}
use Rattle.sf_extract.specs.declared.types.Standing.{Standing}
use Rattle.sf_extract.proofs.SeatLemmas.{current_among, is_counted}

-- what two options hold
pub some_same : {A : Type 0} (a b : A) → Some a ≡ Some b → a ≡ b
some_same a b e = ap (λ o. unwrap_or o a) e

-- bytes before bytes before what is read out
before_more : (a b : List ℕ) (r : Readout) → before (a ++ b) r ≡ before a (before b r)
before_more a b r = ap (λ (d : List ℕ). record { dump = d; refused = r.refused }) (append_assoc a b r.dump)

take_shorter : (xs : List ℕ) (n m : ℕ) → n ≤ m → take n (take m xs) ≡ take n xs
take_shorter xs zero m le = refl
take_shorter [] (suc n) zero le = absurd (omega (arith, le))
take_shorter [] (suc n) (suc m) le = refl
take_shorter (x ∷ xs) (suc n) zero le = absurd (omega (arith, le))
take_shorter (x ∷ xs) (suc n) (suc m) le = ap (λ (ys : List ℕ). x ∷ ys) (take_shorter xs n m (omega (arith, le)))

-- bytes stand in front of themselves
pub starts_same : (old new : List ℕ) → new ≡ old → Starts old new
starts_same old new e = rw e (take_all (length old) old (omega arith))

-- and of more bytes
pub starts_more : (old mid more new : List ℕ) → Starts old mid → new ≡ mid ++ more → Starts old new
starts_more old mid more new h e =
    let short : length old ≤ length mid = omega (arith, ap length h, length-take (length old) mid) in
    rw e (sym (take_shorter (mid ++ more) (length old) (length mid) short) ∙ ap (take (length old)) (take_at mid more (length mid) refl) ∙ h)

-- and of what stands after them
pub starts_on : (a b c : List ℕ) → Starts a b → Starts b c → Starts a c
starts_on a b c h k =
    let short : length a ≤ length b = omega (arith, ap length h, length-take (length a) b) in
    sym (take_shorter c (length a) (length b) short) ∙ ap (take (length a)) k ∙ h

-- nothing happened
pub goes_nowhere : (a : List ℕ) (r : Running) → GoesOn a a r r
goes_nowhere a r = record { rest = λ file. refl; out = take_all (length a) a (omega arith); loaded = refl; lighter = omega arith }

-- a run went on twice
pub goes_on_twice : (a b c : List ℕ) (r s t : Running) → GoesOn a b r s → GoesOn b c s t → GoesOn a c r t
goes_on_twice a b c r s t h k = record {
  rest = λ file. k.rest file ∙ h.rest file;
  out = starts_on a b c h.out k.out;
  loaded = k.loaded ∙ h.loaded;
  lighter = omega (arith, h.lighter, k.lighter);
}

-- a run that went on carried out one command more
pub carry_on : (a b c : List ℕ) (r : Running) (e now : Extracting) (k : Command) (left rest : List Command) → GoesOn a b r (record { at = e; left = left }) → left ≡ k ∷ rest → IsDone k b c e now
    → GoesOn a c r (record { at = now; left = rest })
carry_on a b c r e now k left rest h is d =
    goes_on_twice a b c r (record { at = e; left = left }) (record { at = now; left = rest }) h
    (subst (λ (l : List Command). GoesOn b c (record { at = e; left = l }) (record { at = now; left = rest })) (sym is) (d rest))

-- a run that went on stays where a command reads
pub held_on : (a b c : List ℕ) (r : Running) (e now : Extracting) (k : Command) (left : List Command) → GoesOn a b r (record { at = e; left = left }) → IsHeld k b c e now
    → GoesOn a c r (record { at = now; left = left })
held_on a b c r e now k left h d = rw (d.stays, d.out) h

-- there a sample is read
pub held_reads : (b c : List ℕ) (e now : Extracting) (k : Command) (left rest : List Command) → left ≡ k ∷ rest → IsHeld k b c e now → (reads_first left ≡ true) × (is_some (current now) ≡ true)
held_reads b c e now k left rest is d = (rw is d.reads, rw d.stays d.some)

-- how many samples are left where a track stands at its next sample
left_set : (l : Loaded) (k : ℕ) (ps : Positions) (j i : ℕ) → get_or ps j None ≡ Some i → i < sample_count l.movie (k + j)
    → left_from l k ps ≡ left_from l k (set ps j (Some (i + 1))) + 1
unfolding left_from
left_set l k [] j i e lt = absurd (grind (arith, e))
left_set l k (None ∷ ps) zero i e lt = absurd (grind (arith, e))
left_set l k (Some x ∷ ps) zero i e lt =
    let same : x ≡ i = some_same x i e in
    let there : i < sample_count l.movie k = subst (λ (n : ℕ). i < sample_count l.movie n) (omega arith) lt in
    omega (arith, same, there)
left_set l k (None ∷ ps) (suc j) i e lt = left_set l (k + 1) ps j i e (subst (λ (n : ℕ). i < sample_count l.movie n) (omega arith) lt)
left_set l k (Some x ∷ ps) (suc j) i e lt =
    let rest = left_set l (k + 1) ps j i e (subst (λ (n : ℕ). i < sample_count l.movie n) (omega arith) lt) in
    omega (arith, rest)

-- an advance leaves one sample less
left_next : (e : Extracting) (c : Standing) → current e ≡ Some c → left_of e ≡ suc (left_of (advanced e))
left_next e c is =
    let among = current_among e c is in
    let at : get_or e.positions c.track None ≡ Some c.sample = subst (λ (n : ℕ). get_or e.positions n None ≡ Some c.sample) (omega arith) among.position in
    let there : c.sample < sample_count e.loaded.movie (0 + c.track) = subst (λ (n : ℕ). c.sample < sample_count e.loaded.movie n) (omega arith) (is_counted e.loaded.movie c.track c.sample c.shown_us among.shown) in
    let here = left_set e.loaded 0 e.positions c.track c.sample at there in
    let after : left_of (advanced e) ≡ left_from e.loaded 0 (set e.positions c.track (Some (c.sample + 1))) = ap (λ (o : Option Standing). left_of (past e o)) is in
    omega (arith, here, after)

left_most : (l : Loaded) (k : ℕ) (ps : Positions) → left_from l k ps ≤ all_from l k (length ps)
unfolding left_from all_from
left_most l k [] = omega arith
left_most l k (None ∷ ps) = omega (arith, left_most l (k + 1) ps)
left_most l k (Some i ∷ ps) = omega (arith, left_most l (k + 1) ps)

weighs_less : (n m a b : ℕ) → a ≤ m → n * (m + 1) + a < suc n * (m + 1) + b
weighs_less n m a b le = omega (arith, le)

-- an extractor of the same movie, with as many positions
pub record IsLike (was now : Extracting) : Type 0 where
  pub loaded : now.loaded ≡ was.loaded
  pub positions : length now.positions ≡ length was.positions

most_like : (was now : Extracting) → IsLike was now → most_of now ≡ most_of was
most_like was now h = ap (λ (l : Loaded). all_from l 0 (length now.positions)) h.loaded ∙ ap (all_from was.loaded 0) h.positions

lighter_by : (was now : Extracting) (c : Command) (cs : List Command) → IsLike was now → weight (record { at = now; left = cs }) < weight (record { at = was; left = c ∷ cs })
lighter_by was now c cs h =
    rw (most_like was now h) (weighs_less (length cs) (most_of was) (left_of now) (left_of was) (subst (λ (n : ℕ). left_of now ≤ n) (most_like was now h) (left_most now.loaded 0 now.positions)))

like_set : (e : Extracting) (t : ℕ) (p : Option ℕ) → IsLike e (moved_to e (set e.positions t p))
like_set e t p = record { loaded = refl; positions = length-set e.positions t p }

length_sought : (m : PlainMovie) (us : ℤ) (mode : Mode) (t : ℕ) (ps : Positions) → length (all_sought m us mode t ps) ≡ length ps
unfolding all_sought
length_sought m us mode t [] = refl
length_sought m us mode t (p ∷ ps) = ap suc (length_sought m us mode (t + 1) ps)

like_past : (e : Extracting) (o : Option Standing) → IsLike e (past e o)
like_past e None = record { loaded = refl; positions = refl }
like_past e (Some s) = like_set e s.track (Some (s.sample + 1))

-- a command was carried out, after which the extractor stands so
did : (c : Command) (old more : List ℕ) (was now : Extracting) → IsLike was now
    → ((file : List ℕ) (cs : List Command) → read_out file (c ∷ cs) was ≡ before more (read_out file cs now)) → IsDone c old (old ++ more) was now
did c old more was now like h = λ cs. record {
  rest = λ file. before_more old more (read_out file cs now) ∙ ap (before old) (sym (h file cs));
  out = take_at old more (length old) refl;
  loaded = like.loaded;
  lighter = (let less = lighter_by was now c cs like in omega (arith, less));
}

-- the same where nothing is put out
did_quietly : (c : Command) (old : List ℕ) (was now : Extracting) → IsLike was now
    → ((file : List ℕ) (cs : List Command) → read_out file (c ∷ cs) was ≡ read_out file cs now) → IsDone c old old was now
did_quietly c old was now like h = λ cs. record {
  rest = λ file. ap (before old) (sym (h file cs));
  out = take_all (length old) old (omega arith);
  loaded = like.loaded;
  lighter = (let less = lighter_by was now c cs like in omega (arith, less));
}

-- a command changes no movie
pub selected_loaded : (e now : Extracting) (t : ℕ) → now ≡ selected e t → now.loaded ≡ e.loaded
selected_loaded e now t h = ap (λ (x : Extracting). x.loaded) h

pub unselected_loaded : (e now : Extracting) (t : ℕ) → now ≡ unselected e t → now.loaded ≡ e.loaded
unselected_loaded e now t h = ap (λ (x : Extracting). x.loaded) h

pub seeked_loaded : (e now : Extracting) (us : ℤ) (mode : Mode) → now ≡ seeked e us mode → now.loaded ≡ e.loaded
seeked_loaded e now us mode h = ap (λ (x : Extracting). x.loaded) h

pub advanced_loaded : (e now : Extracting) → now ≡ advanced e → now.loaded ≡ e.loaded
advanced_loaded e now h = ap (λ (x : Extracting). x.loaded) h ∙ (like_past e (current e)).loaded

-- an extractor whose tracks stand where they stood
pub put_back_same : (was mid now : Extracting) (ps : Positions) → now ≡ moved_to mid ps → ps ≡ was.positions → mid.loaded ≡ was.loaded → now ≡ was
put_back_same was mid now ps e p l = e ∙ ap (moved_to mid) p ∙ ap (λ (x : Loaded). record { loaded = x; positions = was.positions }) l

-- seats of a movie are those of the same movie
pub seats_kept : (a b : Loaded) (ss : List (Option Seat)) → a ≡ b → AreTheSeats b.movie ss → AreTheSeats a.movie ss
seats_kept a b ss e h = subst (λ (x : Loaded). AreTheSeats x.movie ss) (sym e) h

pub did_select : (t : ℕ) (old : List ℕ) (e : Extracting) → IsDone (Select t) old old e (selected e t)
unfolding read_out
did_select t old e = did_quietly (Select t) old e (selected e t) (like_set e t _) (λ file cs. refl)

pub did_unselect : (t : ℕ) (old : List ℕ) (e : Extracting) → IsDone (Unselect t) old old e (unselected e t)
unfolding read_out
did_unselect t old e = did_quietly (Unselect t) old e (unselected e t) (like_set e t _) (λ file cs. refl)

pub did_seek : (mode : Mode) (us : ℕ) (old : List ℕ) (e : Extracting) → IsDone (Seek mode us) old old e (seeked e (pos us) mode)
unfolding read_out
did_seek mode us old e =
    did_quietly (Seek mode us) old e (seeked e (pos us) mode) (record { loaded = refl; positions = length_sought e.loaded.movie (pos us) mode 0 e.positions }) (λ file cs. refl)

pub did_advance : (old : List ℕ) (e : Extracting) → IsDone Advance old (old ++ remains (advanced e)) e (advanced e)
unfolding read_out
did_advance old e = did Advance old (remains (advanced e)) e (advanced e) (like_past e (current e)) (λ file cs. refl)

byte_is : (b : Bool) → bool_byte b ≡ (if b then 1 else 0)
byte_is true = refl
byte_is false = refl

-- the same by what an advance answers
pub did_step : (old new : List ℕ) (e now : Extracting) (b : Bool) (n : ℕ) → now ≡ advanced e → b ≡ is_some (current now) → n ≡ bool_byte b → new ≡ old ++ 2 ∷ n ∷ []
    → IsDone Advance old new e now
did_step old new e now b n ne be me grew =
    let out : new ≡ old ++ remains (advanced e) =
    grew ∙ ap (λ (x : ℕ). old ++ 2 ∷ x ∷ []) (me ∙ byte_is b ∙ ap (λ (x : Bool). if x then 1 else 0) (be ∙ ap (λ (x : Extracting). is_some (current x)) ne)) in
    rw (out, ne) (did_advance old e)

like_same : (e : Extracting) → IsLike e e
like_same e = record { loaded = refl; positions = refl }

pub did_read : (old : List ℕ) (e : Extracting) → current e ≡ None → IsDone Read old (old ++ 0 ∷ []) e e
unfolding read_out
did_read old e none = did Read old (0 ∷ []) e e (like_same e) (λ file cs. ap (λ (o : Option Standing). with_read (read_or file e o) (read_out file cs e)) none)

reads_none : (n : ℕ) (file : List ℕ) (e : Extracting) (rest : Extracting → Readout) → current e ≡ None → reads n file e rest ≡ before (0 ∷ []) (rest e)
unfolding reads
reads_none zero file e rest none = refl
reads_none (suc n) file e rest none =
    ap (λ (o : Option Standing). where_one o (λ c. with_read (read_of file e c) (reads n file (advanced e) rest)) (before (0 ∷ []) (rest e))) none

pub did_to_end : (old : List ℕ) (e : Extracting) → current e ≡ None → IsDone ToEnd old (old ++ 0 ∷ []) e e
unfolding read_out
did_to_end old e none = did ToEnd old (0 ∷ []) e e (like_same e) (λ file cs. reads_none (left_of e) file e (read_out file cs) none)

reads_one : (n : ℕ) (file : List ℕ) (e : Extracting) (c : Standing) (rest : Extracting → Readout) → current e ≡ Some c
    → reads (suc n) file e rest ≡ with_read (read_of file e c) (reads n file (advanced e) rest)
unfolding reads
reads_one n file e c rest is =
    ap (λ (o : Option Standing). where_one o (λ c. with_read (read_of file e c) (reads n file (advanced e) rest)) (before (0 ∷ []) (rest e))) is

-- what is left to read out begins with the current sample
rest_read : (file : List ℕ) (e : Extracting) (cs : List Command) (c : Standing) → reads_first cs ≡ true → current e ≡ Some c
    → read_out file cs e ≡ with_read (read_of file e c) (rest_of file (after_read e cs))
unfolding read_out
rest_read file e [] c h is = absurd (grind (arith, h))
rest_read file e (Select t ∷ cs) c h is = absurd (grind (arith, h))
rest_read file e (Unselect t ∷ cs) c h is = absurd (grind (arith, h))
rest_read file e (Seek mode us ∷ cs) c h is = absurd (grind (arith, h))
rest_read file e (Read ∷ cs) c h is = ap (λ (o : Option Standing). with_read (read_or file e o) (read_out file cs e)) is
rest_read file e (Advance ∷ cs) c h is = absurd (grind (arith, h))
rest_read file e (ToEnd ∷ cs) c h is =
    ap (λ (n : ℕ). reads n file e (read_out file cs)) (left_next e c is) ∙ reads_one (left_of (advanced e)) file e c (read_out file cs) is

given_by : (file : List ℕ) (l : Loaded) (c : Standing) (stored : List ℕ) (r : Result (List ℕ) BadSample) (o : Option PlainSample) → option_map (λ s. given l c s stored) o ≡ Some r
    → option_map (stored_in file) o ≡ Some stored → given_of file l c o ≡ r
given_by file l c stored r None e f = absurd (grind (arith, e))
given_by file l c stored r (Some s) e f = ap (given l c s) (some_same (stored_in file s) stored f) ∙ some_same (given l c s stored) r e

-- there is a current sample where one is given
pub given_some : (e : Extracting) (stored : List ℕ) (o : Option Standing) (r : Result (List ℕ) BadSample)
    → option_and_then (λ c. option_map (λ s. given e.loaded c s stored) (sample_of e.loaded.movie c.track c.sample)) o ≡ Some r → (c : Standing) × (o ≡ Some c)
given_some e stored None r h = absurd (grind (arith, h))
given_some e stored (Some c) r h = (c, refl)

-- what is read of a file that stores these bytes is what is given
read_is : (file : List ℕ) (e : Extracting) (c : Standing) (stored : List ℕ) (r : Result (List ℕ) BadSample) → current e ≡ Some c → given_now e stored ≡ Some r → Stores file e stored
    → read_of file e c ≡ r
read_is file e c stored r is g s =
    given_by file e.loaded c stored r (sample_of e.loaded.movie c.track c.sample)
    (sym (ap (λ (o : Option Standing). option_and_then (λ c. option_map (λ s. given e.loaded c s stored) (sample_of e.loaded.movie c.track c.sample)) o) is) ∙ g)
    (sym (ap (λ (o : Option Standing). option_map (stored_in file) (option_and_then (λ c. sample_of e.loaded.movie c.track c.sample) o)) is) ∙ s)

-- a sample is given, and stands before what is left to read out
pub read_on : (file : List ℕ) (e : Extracting) (cs : List Command) (stored old bytes new : List ℕ) → reads_first cs ≡ true → given_now e stored ≡ Some (Ok bytes) → new ≡ old ++ bytes
    → Stores file e stored → before new (rest_of file (after_read e cs)) ≡ before old (read_out file cs e)
read_on file e cs stored old bytes new h g grew s =
    let c = given_some e stored (current e) (Ok bytes) g in
    let r : read_out file cs e ≡ before bytes (rest_of file (after_read e cs)) =
    rest_read file e cs c.0 h c.1 ∙ ap (λ (x : Result (List ℕ) BadSample). with_read x (rest_of file (after_read e cs))) (read_is file e c.0 stored (Ok bytes) c.1 g s) in
    ap (λ (x : List ℕ). before x (rest_of file (after_read e cs))) grew ∙ before_more old bytes (rest_of file (after_read e cs)) ∙ ap (before old) (sym r)

-- a refused sample ends what is left to read out
pub read_bad : (file : List ℕ) (e : Extracting) (cs : List Command) (stored : List ℕ) (bad : BadSample) → reads_first cs ≡ true → given_now e stored ≡ Some (Err bad) → Stores file e stored
    → read_out file cs e ≡ ended_by bad
read_bad file e cs stored bad h g s =
    let c = given_some e stored (current e) (Err bad) g in
    rest_read file e cs c.0 h c.1 ∙ ap (λ (x : Result (List ℕ) BadSample). with_read x (rest_of file (after_read e cs))) (read_is file e c.0 stored (Err bad) c.1 g s)

-- a read makes a run lighter
pub lighter_read : (e : Extracting) (cs : List Command) (stored : List ℕ) (r : Result (List ℕ) BadSample) → reads_first cs ≡ true → given_now e stored ≡ Some r
    → weight (after_read e cs) < weight (record { at = e; left = cs })
lighter_read e [] stored r h g = absurd (grind (arith, h))
lighter_read e (Select t ∷ cs) stored r h g = absurd (grind (arith, h))
lighter_read e (Unselect t ∷ cs) stored r h g = absurd (grind (arith, h))
lighter_read e (Seek mode us ∷ cs) stored r h g = absurd (grind (arith, h))
lighter_read e (Read ∷ cs) stored r h g = lighter_by e e Read cs (like_same e)
lighter_read e (Advance ∷ cs) stored r h g = absurd (grind (arith, h))
lighter_read e (ToEnd ∷ cs) stored r h g =
    let c = given_some e stored (current e) r g in
    let less = left_next e c.0 c.1 in
    let most = most_like e (advanced e) (like_past e (current e)) in
    let same : (suc (length cs)) * (most_of (advanced e) + 1) ≡ (suc (length cs)) * (most_of e + 1) = ap (λ (n : ℕ). (suc (length cs)) * (n + 1)) most in
    omega (arith, less, same)

bad_in : BadSample → Result (Unit {0}) GiveFault → BadSample
bad_in x (Ok u) = x
bad_in x (Err (Bad bad)) = bad
bad_in x (Err NoMemory) = x

-- a refused sample is the one that is told
pub bad_same : (said : Option (Result (List ℕ) BadSample)) (x bad : BadSample) → said ≡ Some (Err x) → ◌≡◌ {A = Result (Unit {0}) GiveFault} (Err (Bad x)) (Err (Bad bad)) → said ≡ Some (Err bad)
unfolding bad_in
bad_same said x bad h e = h ∙ ap (λ (r : Result (Unit {0}) GiveFault). Some (Err (bad_in x r))) e

bad_said : (said : Option (Result (List ℕ) BadSample)) (old new : List ℕ) (fault : GiveFault) (bad : BadSample) → PutsRecord old new said (Err fault) → ◌≡◌ {A = Result (Unit {0}) GiveFault} (Err fault) (Err (Bad bad)) → said ≡ Some (Err bad)
bad_said said old new (Bad x) bad g e = bad_same said x bad g.0 e
bad_said said old new NoMemory bad g e = absurd (grind (arith, e))

-- a run whose sample is refused ends there
pub give_bad : (e : Extracting) (left : List Command) (run : Running) (stored old new : List ℕ) (fault : GiveFault) (bad : BadSample) (file : List ℕ) → record { at = e; left = left } ≡ run
    → PutsRecord old new (given_now e stored) (Err fault) → ◌≡◌ {A = Result (Unit {0}) GiveFault} (Err fault) (Err (Bad bad)) → reads_first run.left ≡ true → Stores file run.at stored → rest_of file run ≡ ended_by bad
give_bad e left run stored old new fault bad file is g f =
    subst (λ (r : Running). reads_first r.left ≡ true → Stores file r.at stored → rest_of file r ≡ ended_by bad) is
    (λ h s. read_bad file e left stored bad h (bad_said (given_now e stored) old new fault bad g f) s)

-- a run whose sample was given went on
pub give_on : (e : Extracting) (left : List Command) (run now : Running) (stored old new : List ℕ) (file : List ℕ) → record { at = e; left = left } ≡ run
    → GrowsBy old new (given_now e stored) → now ≡ after_read run.at run.left → reads_first run.left ≡ true → Stores file run.at stored → before new (rest_of file now) ≡ before old (rest_of file run)
give_on e left run now stored old new file is g n =
    subst (λ (r : Running). now ≡ after_read r.at r.left → reads_first r.left ≡ true → Stores file r.at stored → before new (rest_of file now) ≡ before old (rest_of file r)) is
    (λ k h s. ap (λ (x : Running). before new (rest_of file x)) k ∙ read_on file e left stored old g.bytes new h g.is g.grew s) n

-- and is lighter
pub give_lighter : (e : Extracting) (left : List Command) (run now : Running) (stored old new : List ℕ) → record { at = e; left = left } ≡ run
    → GrowsBy old new (given_now e stored) → now ≡ after_read run.at run.left → reads_first run.left ≡ true → weight now < weight run
give_lighter e left run now stored old new is g n =
    subst (λ (r : Running). now ≡ after_read r.at r.left → reads_first r.left ≡ true → weight now < weight r) is
    (λ k h. rw k (lighter_read e left stored (Ok g.bytes) h g.is)) n
