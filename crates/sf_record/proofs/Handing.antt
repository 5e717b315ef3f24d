-- How the chunks of pumps are handed to a series of files.
use Rattle.std.proofs.Common.{◌≡◌, ℕ, zero, suc, ◌+◌, ◌-◌, ◌*◌, ◌<◌, ◌≤◌, ◌⊎◌, nat_lt, Bool, true, false, cond, List, [], ◌∷◌, ◌++◌, length, set, take, Option, Some, None, IsSome, is_some, refl, sym, ap, ◌∙◌, subst, inl, inr, length-append, get_or-set_same, arith}
use Rattle.std.specs.Prelude.{get_or, slice_get}
use Rattle.std.specs.List.{AllByRecursion}
use Rattle.std.specs.Option.{option_to_list}
use Rattle.std.proofs.lemmas.Option.{slice_get_within}
use Rattle.std.proofs.lemmas.List.{append-nil}
use Rattle.std.proofs.lemmas.List.Elements.{filter-append}
use Rattle.std.proofs.lemmas.Bool.Decides.{nat_tests}
use Rattle.sf_tick.specs.declared.types.Stored.{Stored}
use Rattle.sf_tick.specs.declared.types.Chunk.{Chunk}
use Rattle.sf_entry.specs.declared.track_setup.TrackSetup.{TrackSetup}
use Rattle.sf_world.specs.Views.{ShelfView}
use Rattle.sf_gather.specs.declared.given.Given.{Given}
use Rattle.sf_gather.specs.Accepting.{last_of}
use Rattle.sf_gather.specs.Chunks.{belongs, chunk_of, chunks_from, without_last}
use Rattle.sf_gather.specs.Gathered.{Gathered}
use Rattle.sf_gather.specs.Proper.{AreChunks, Extends, OnlyLastMarked, Proper, Tail, ends_marked, samples_of, tail_of}
use Rattle.sf_gather.proofs.GatherLaws.{proper_extends, proper_front}
use Rattle.sf_interleave.specs.Waiting.{how_many, list_of, with_chunk}
use Rattle.sf_series.specs.declared.faults.SeriesFault.{SeriesFault}
use Rattle.sf_series.specs.Core.{State, hand, is_filled, taken as with_taken}
use Rattle.sf_series.specs.Fitting.{CanHand, tail_in}
use Rattle.sf_series.specs.Series.{OpenFiles, OpenSeries, Stands as SeriesStands}
use Rattle.sf_series.proofs.SeriesLaws.{hand_taken, list_long}
use Rattle.sf_record.specs.Serial.{filled}
use Rattle.sf_record.specs.Pump.{Pumping, Stands, StepsTo, Works, given_chunks, left, turns_left}
use Rattle.sf_record.specs.declared.pump.Stepped.{Stepped}
use Rattle.sf_record.specs.declared.pump.Stepped.TheVariants.{Done, HasChunk, Moved, NoMemory}
use Rattle.sf_record.specs.inner.Deal.{Fed, Feeds, GoesOn, Hands, IsOver, NextIs, Took, TrackBegins, Waits}

-- ---- a pump of which a chunk is taken

-- a pump that accepted a sample, or holds a chunk
pub goes_moved : (contents : Option (List ℕ)) (accepted : List Stored) (taken : List Chunk) (pump : Pumping) → StepsTo contents accepted taken pump Moved → GoesOn contents taken pump
goes_moved contents accepted taken pump m = (accepted ++ m.1.0 ∷ [], m.1.1)

pub goes_held : (contents : Option (List ℕ)) (accepted : List Stored) (taken : List Chunk) (pump : Pumping) → StepsTo contents accepted taken pump HasChunk → GoesOn contents taken pump
goes_held contents accepted taken pump m = elim m [ inl same ↦ (accepted, same) | inr one ↦ (accepted ++ one.1.0 ∷ [], one.1.1) ]

pub bool_tells : (b : Bool) → (b ≡ true) ⊎ (b ≡ false)
bool_tells true = inl refl
bool_tells false = inr refl

abbrev pub Unmarked : List Chunk → Type 0
Unmarked cs = AllByRecursion (λ c. c.last ≡ false) cs

pub some_from : (given : Given) (number : ℕ) (so_far samples : List Stored) → 1 ≤ length (chunks_from given number so_far samples)
some_from given number so_far [] = omega arith
some_from given number so_far (next ∷ rest) =
    elim (bool_tells (belongs given so_far next)) [
      | inl t ↦ rw t (some_from given number (so_far ++ next ∷ []) rest)
      | inr f ↦ rw f (omega arith)
    ]

cut_cons : (c d : Chunk) (cs : List Chunk) → without_last (c ∷ d ∷ cs) ≡ c ∷ without_last (d ∷ cs)
cut_cons c d cs = let e : length (c ∷ d ∷ cs) - 1 ≡ suc (length (d ∷ cs) - 1) = omega arith in ap (λ (n : ℕ). take n (c ∷ d ∷ cs)) e

unmarked_cons : (c : Chunk) (cs : List Chunk) → c.last ≡ false → 1 ≤ length cs → Unmarked (without_last cs) → Unmarked (without_last (c ∷ cs))
unmarked_cons c [] e some all = absurd (omega (arith, some))
unmarked_cons c (d ∷ cs) e some all = subst (λ (ds : List Chunk). Unmarked ds) (sym (cut_cons c d cs)) (e, all)

pub unmarked_from : (given : Given) (number : ℕ) (so_far samples : List Stored) → Unmarked (without_last (chunks_from given number so_far samples))
unmarked_from given number so_far [] = tt
unmarked_from given number so_far (next ∷ rest) =
    elim (bool_tells (belongs given so_far next)) [
      | inl t ↦ rw t (unmarked_from given number (so_far ++ next ∷ []) rest)
      | inr f ↦ rw f (unmarked_cons (chunk_of given number false so_far) (chunks_from given (number + 1) (next ∷ []) rest) refl (some_from given (number + 1) (next ∷ []) rest)
          (unmarked_from given (number + 1) (next ∷ []) rest))
    ]

last_unmarked : (cs : List Chunk) (c : Chunk) → Unmarked (cs ++ c ∷ []) → c.last ≡ false
last_unmarked [] c all = all.0
last_unmarked (d ∷ cs) c all = last_unmarked cs c all.1

-- the chunks that were taken, where none is held
taken_all : (taken : List Chunk) (pump : Pumping) → pump.chunk ≡ None → given_chunks taken pump ≡ taken
taken_all taken pump free = ap (λ (o : Option Chunk). taken ++ option_to_list o) free ∙ append-nil taken

pub is_proper : (contents : Option (List ℕ)) (accepted : List Stored) (taken : List Chunk) (pump : Pumping) → Stands contents accepted taken pump → pump.chunk ≡ None → Proper pump.given.track pump.given.scale taken
is_proper contents accepted taken pump s free = subst (λ (cs : List Chunk). Proper pump.given.track pump.given.scale cs) (taken_all taken pump free) s.proper

works_unmarked : (contents : Option (List ℕ)) (accepted : List Stored) (cs : List Chunk) (c : Chunk) (pump : Pumping) (gatherer : Option Gathered)
    → Works contents accepted (cs ++ c ∷ []) pump gatherer → (c.last ≡ false → ⊥) → gatherer ≡ None
works_unmarked contents accepted cs c pump None w last = refl
works_unmarked contents accepted cs c pump (Some g) w last =
    absurd (last (last_unmarked cs c (subst (λ (ds : List Chunk). Unmarked ds) (sym w.chunks) (unmarked_from pump.given 0 [] accepted))))

-- an empty chunk is the last one
pub empty_last : (contents : Option (List ℕ)) (accepted : List Stored) (taken : List Chunk) (chunk : Chunk) (pump : Pumping) → Stands contents accepted (taken ++ chunk ∷ []) pump → pump.chunk ≡ None
    → length chunk.samples ≡ 0 → pump.gatherer ≡ None
empty_last contents accepted taken chunk pump s free none =
    let e = proper_extends pump.given.track pump.given.scale taken chunk (is_proper contents accepted (taken ++ chunk ∷ []) pump s free) in
    let works = subst (λ (cs : List Chunk). Works contents accepted cs pump pump.gatherer) (taken_all (taken ++ chunk ∷ []) pump free) s.works in
    works_unmarked contents accepted taken chunk pump pump.gatherer works (λ last. let some = e.itself.some last in omega (arith, some, none))

-- ---- a chunk that is handed

filled_one : (c : Chunk) (cs : List Chunk) → 1 ≤ length c.samples → filled cs ≡ cs → filled (c ∷ cs) ≡ c ∷ cs
filled_one c cs some rest = let t : nat_lt 0 (length c.samples) ≡ true = grind (arith, nat_tests) in rw t (ap (λ (ds : List Chunk). c ∷ ds) rest)

-- chunks none of which is marked all have samples
filled_all : (t n : ℕ) (cs : List Chunk) → AreChunks t n cs → OnlyLastMarked cs → ends_marked cs ≡ false → filled cs ≡ cs
filled_all t n [] each mark e = refl
filled_all t n (c ∷ []) each mark e = filled_one c [] (each.0.some e) refl
filled_all t n (c ∷ d ∷ cs) each mark e = filled_one c (d ∷ cs) (each.0.some mark.0) (filled_all t (n + 1) (d ∷ cs) each.1 mark.1 e)

grown : (b : Bool) (lists : List (List Chunk)) (c : Chunk) (t : ℕ) → c.track ≡ t → t < length lists → list_of (cond b (with_chunk lists c) lists) t ≡ list_of lists t ++ cond b (c ∷ []) []
grown true lists c t e less =
    let inside : c.track < length lists = omega (arith, e, less) in
    subst (λ (n : ℕ). list_of (with_chunk lists c) n ≡ list_of lists n ++ c ∷ []) e (get_or-set_same lists c.track _ [] inside)
grown false lists c t e less = sym (append-nil (list_of lists t))

mark_here : (b : Bool) (marks : List Bool) (at t : ℕ) → at ≡ t → t < length marks → get_or marks t false ≡ false → get_or (cond b (set marks at true) marks) t false ≡ b
mark_here true marks at t e less was = let inside : at < length marks = omega (arith, e, less) in subst (λ (n : ℕ). get_or (set marks at true) n false ≡ true) e (get_or-set_same marks at true false inside)
mark_here false marks at t e less was = was

marked_last : (cs : List Chunk) (d : Chunk) → ends_marked (cs ++ d ∷ []) ≡ d.last
marked_last [] d = refl
marked_last (c ∷ []) d = refl
marked_last (c ∷ f ∷ cs) d = marked_last (f ∷ cs) d

-- What is known of a chunk that was taken after others: it goes on from them, and they all have samples.
record Goes (number scale : ℕ) (taken : List Chunk) (chunk : Chunk) : Type 0 where
  goes_on : Extends number scale (tail_of taken) chunk
  all : filled taken ≡ taken

goes : (number scale : ℕ) (taken : List Chunk) (chunk : Chunk) → Proper number scale (taken ++ chunk ∷ []) → Goes number scale taken chunk
goes number scale taken chunk proper =
    let more = proper_extends number scale taken chunk proper in
    let front = proper_front number scale taken (chunk ∷ []) proper in
    record { goes_on = more; all = filled_all number 0 taken front.each front.mark more.goes_on }

took_goes : {contents : Option (List ℕ)} {number scale : ℕ} {taken : List Chunk} {chunk : Chunk} {pump : Pumping} → pump.given.track ≡ number → pump.given.scale ≡ scale → Took contents taken chunk pump
    → Goes number scale taken chunk
took_goes {contents} {number} {scale} {taken} {chunk} {pump} track ticks t =
    let proper = is_proper contents t.goes.0 (taken ++ chunk ∷ []) pump t.goes.1 t.free in
    goes number scale taken chunk
    (subst (λ (n : ℕ). Proper n scale (taken ++ chunk ∷ [])) track (subst (λ (n : ℕ). Proper pump.given.track n (taken ++ chunk ∷ [])) ticks proper))

tail_is : (state : State) (number : ℕ) (taken : List Chunk) → list_of state.handed number ≡ taken → get_or state.marks number false ≡ ends_marked taken → tail_in state number ≡ tail_of taken
tail_is state number taken list mark =
    ap (λ (cs : List Chunk). record { count = length cs; ended = get_or state.marks number false; last = last_of (samples_of cs) }) list
    ∙ ap (λ (b : Bool). record { count = length taken; ended = b; last = last_of (samples_of taken) }) mark

-- a chunk that was taken can be handed
pub can_hand : {begun shelf : ShelfView} {state : State} {number : ℕ} {pump after : Pumping} {series : OpenSeries} (chunk : Chunk) (f : Feeds begun shelf state number pump series) → after.given ≡ pump.given
    → Took pump.coded.source.content f.hands.taken chunk after → (chunk.track ≡ number) × CanHand series.files.setups state chunk
can_hand {begun} {shelf} {state} {number} {pump} {after} {series} chunk f given t =
    let track = ap (λ (g : Given). g.track) given ∙ f.hands.track in
    let ticks = ap (λ (g : Given). g.scale) given ∙ f.hands.ticks in
    let go = took_goes track ticks t in
    let own : chunk.track ≡ number = go.goes_on.itself.track in
    let tail = tail_is state number f.hands.taken (f.hands.handed ∙ go.all) f.hands.mark in (
      own,
      record {
        setup = f.setup;
        there = subst (λ (n : ℕ). slice_get series.files.setups n ≡ Some f.setup) (sym own) f.there;
        goes_on = subst (λ (n : ℕ). Extends n f.setup.scale (tail_in state n) chunk) (sym own) (subst (λ (x : Tail). Extends number f.setup.scale x chunk) (sym tail) go.goes_on);
      },
    )

filled_more : (cs : List Chunk) (c : Chunk) → filled (cs ++ c ∷ []) ≡ filled cs ++ filled (c ∷ [])
filled_more cs c = filter-append (λ (d : Chunk). nat_lt 0 (length d.samples)) cs (c ∷ [])

waits_if : (b : Bool) (lists : List (List Chunk)) (c : Chunk) (t : ℕ) (pump : Pumping) → is_filled c ≡ b → c.track ≡ t → t < length lists → (length c.samples ≡ 0 → IsOver pump)
    → (0 < length (list_of (cond b (with_chunk lists c) lists) t)) ⊎ IsOver pump
waits_if true lists c t pump is e less over =
    let long = ap (λ (cs : List Chunk). length cs) (grown true lists c t e less) in
    inl (omega (arith, long, length-append (list_of lists t) (c ∷ [])))
waits_if false lists c t pump is e less over = inr (over (grind (arith, nat_tests)))

-- a chunk of a track was handed
pub fed : {begun shelf : ShelfView} {state : State} {number : ℕ} {pump after : Pumping} {series new : OpenSeries} (chunk : Chunk) (f : Feeds begun shelf state number pump series) → series.fault ≡ None → after.given ≡ pump.given
    → after.coded.source.content ≡ pump.coded.source.content → Took pump.coded.source.content f.hands.taken chunk after → new.files ≡ series.files → SeriesStands begun (hand state chunk) new shelf
    → Fed begun shelf state (hand state chunk) number after new
fed {begun} {shelf} {state} {number} {pump} {after} {series} {new} chunk f goes_on given content t files stands =
    let track = ap (λ (g : Given). g.track) given ∙ f.hands.track in
    let ticks = ap (λ (g : Given). g.scale) given ∙ f.hands.ticks in
    let go = took_goes track ticks t in
    let can = can_hand chunk f given t in
    let setups = ap (λ (fs : OpenFiles). fs.setups) files in
    let ended : state.ended ≡ false = sym f.stands.ended ∙ ap (λ (o : Option SeriesFault). is_some o) goes_on in
    let is : hand state chunk ≡ with_taken state chunk = hand_taken state chunk ended in
    let inside : number < length series.files.setups = slice_get_within series.files.setups number f.setup f.there in
    let handed : number < length state.handed = omega (arith, inside, f.stands.handed) in
    let marked : number < length state.marks = omega (arith, inside, f.stands.marks) in
    let unmarked : get_or state.marks number false ≡ false = f.hands.mark ∙ go.goes_on.goes_on in
    record {
      one = inr (chunk, can.0, subst (λ (ss : List TrackSetup). CanHand ss state chunk) (sym setups) can.1, refl);
      feeds = record {
        stands = stands;
        setup = f.setup;
        there = ap (λ (ss : List TrackSetup). slice_get ss number) setups ∙ f.there;
        long = subst (λ (st : State). number < length st.pending) (sym is) (let same = list_long (is_filled chunk) state.pending chunk in omega (arith, same, f.long));
        hands = subst (λ (st : State). Hands after.coded.source.content number f.setup.scale st after) (sym is) (record {
          track = track;
          ticks = ticks;
          taken = f.hands.taken ++ chunk ∷ [];
          goes = subst (λ (o : Option (List ℕ)). GoesOn o (f.hands.taken ++ chunk ∷ []) after) (sym content) t.goes;
          handed = grown (is_filled chunk) state.handed chunk number can.0 handed ∙ ap (λ (cs : List Chunk). cs ++ filled (chunk ∷ [])) f.hands.handed ∙ sym (filled_more f.hands.taken chunk);
          mark = mark_here chunk.last state.marks chunk.track number can.0 marked unmarked ∙ sym (marked_last f.hands.taken chunk);
        });
      };
      waits = subst (λ (st : State). Waits st number after) (sym is)
          (waits_if (is_filled chunk) state.pending chunk number after refl can.0 f.long (λ none. record { free = t.free; last = t.empty none }));
    }

-- no chunk of a track is left
pub fed_none : {begun shelf : ShelfView} {state : State} {number : ℕ} {pump after : Pumping} {series : OpenSeries} (f : Feeds begun shelf state number pump series) → after.given ≡ pump.given
    → after.coded.source.content ≡ pump.coded.source.content → NextIs pump.coded.source.content f.hands.taken after None → Fed begun shelf state state number after series
fed_none {begun} {shelf} {state} {number} {pump} {after} {series} f given content n =
    record {
      one = inl refl;
      feeds = record {
        stands = f.stands;
        setup = f.setup;
        there = f.there;
        long = f.long;
        hands = record {
          track = ap (λ (g : Given). g.track) given ∙ f.hands.track;
          ticks = ap (λ (g : Given). g.scale) given ∙ f.hands.ticks;
          taken = f.hands.taken;
          goes = subst (λ (o : Option (List ℕ)). GoesOn o f.hands.taken after) (sym content) n.0;
          handed = f.hands.handed;
          mark = f.hands.mark;
        };
      };
      waits = inr n.1;
    }

-- chunks were taken of a pump after those that were handed
begins_with : {begun shelf : ShelfView} {state : State} {number : ℕ} {pump after : Pumping} {series : OpenSeries} {setups : List TrackSetup} (f : Feeds begun shelf state number pump series) (taken rest : List Chunk) → after.given ≡ pump.given
    → after.coded.source.content ≡ pump.coded.source.content → GoesOn pump.coded.source.content taken after → filled taken ≡ list_of state.handed number ++ rest → setups ≡ series.files.setups
    → TrackBegins setups state number after
begins_with {begun} {shelf} {state} {number} {pump} {after} {series} {setups} f taken rest given content more first same =
    record {
      setup = f.setup;
      there = ap (λ (ss : List TrackSetup). slice_get ss number) same ∙ f.there;
      hands = record {
        track = ap (λ (g : Given). g.track) given ∙ f.hands.track;
        ticks = ap (λ (g : Given). g.scale) given ∙ f.hands.ticks;
        taken = taken;
        goes = subst (λ (o : Option (List ℕ)). GoesOn o taken after) (sym content) more;
        rest = rest;
        first = first;
      };
    }

-- a chunk was taken that isn't handed
pub chunk_lost : {begun shelf : ShelfView} {state : State} {number : ℕ} {pump after : Pumping} {series : OpenSeries} {setups : List TrackSetup} (chunk : Chunk) (f : Feeds begun shelf state number pump series) → after.given ≡ pump.given
    → after.coded.source.content ≡ pump.coded.source.content → Took pump.coded.source.content f.hands.taken chunk after → setups ≡ series.files.setups → TrackBegins setups state number after
chunk_lost {begun} {shelf} {state} {number} {pump} {after} {series} {setups} chunk f given content t same =
    begins_with f (f.hands.taken ++ chunk ∷ []) (filled (chunk ∷ [])) given content t.goes
    (filled_more f.hands.taken chunk ∙ ap (λ (cs : List Chunk). cs ++ filled (chunk ∷ [])) (sym f.hands.handed)) same

-- no chunk was taken
pub none_lost : {begun shelf : ShelfView} {state : State} {number : ℕ} {pump after : Pumping} {series : OpenSeries} {setups : List TrackSetup} (f : Feeds begun shelf state number pump series) → after.given ≡ pump.given
    → after.coded.source.content ≡ pump.coded.source.content → GoesOn pump.coded.source.content f.hands.taken after → setups ≡ series.files.setups → TrackBegins setups state number after
none_lost {begun} {shelf} {state} {number} {pump} {after} {series} {setups} f given content more same =
    begins_with f f.hands.taken [] given content more (sym f.hands.handed ∙ sym (append-nil (list_of state.handed number))) same

-- how many chunks wait with one more
many_with : (lists : List (List Chunk)) (t : ℕ) (c : Chunk) → how_many (set lists t (list_of lists t ++ c ∷ [])) ≤ how_many lists + 1
many_with [] t c = omega arith
many_with (l ∷ ls) zero c = omega (arith, length-append l (c ∷ []))
many_with (l ∷ ls) (suc t) c = omega (arith, many_with ls t c)

many_if : (b : Bool) (lists : List (List Chunk)) (c : Chunk) → how_many (cond b (with_chunk lists c) lists) ≤ how_many lists + 1
many_if true lists c = many_with lists c.track c
many_if false lists c = omega arith

hand_many : (b : Bool) (state : State) (c : Chunk) → how_many (cond b state (with_taken state c)).pending ≤ how_many state.pending + 1
hand_many true state c = omega arith
hand_many false state c = many_if (is_filled c) state.pending c

pub more_wait : {begun shelf : ShelfView} {state : State} {series new : OpenSeries} (chunk : Chunk) → SeriesStands begun state series shelf → SeriesStands begun (hand state chunk) new shelf
    → how_many new.pending ≤ how_many series.pending + 1
more_wait {begun} {shelf} {state} {series} {new} chunk before after =
    let was = ap (λ (ls : List (List Chunk)). how_many ls) before.pending in
    let is = ap (λ (ls : List (List Chunk)). how_many ls) after.pending in
    omega (arith, was, is, hand_many state.ended state chunk)

-- ---- a pump over several steps

step_goes : (contents : Option (List ℕ)) (accepted : List Stored) (taken : List Chunk) (pump : Pumping) (s : Stepped) → StepsTo contents accepted taken pump s → GoesOn contents taken pump
step_goes contents accepted taken pump Moved m = goes_moved contents accepted taken pump m
step_goes contents accepted taken pump HasChunk m = goes_held contents accepted taken pump m
step_goes contents accepted taken pump Done m = (accepted, m)
step_goes contents accepted taken pump NoMemory m = (accepted, m)

pub stepped : {first second third : Option (List ℕ)} (taken : List Chunk) (pump after : Pumping) (s : Stepped) → second ≡ first → third ≡ second → GoesOn first taken pump
    → ((accepted : List Stored) (cs : List Chunk) → Stands second accepted cs pump → StepsTo third accepted cs after s) → GoesOn first taken after
stepped {first} {second} {third} taken pump after s same later goes step =
    let m = step goes.0 taken (subst (λ (c : Option (List ℕ)). Stands c goes.0 taken pump) (sym same) goes.1) in
    subst (λ (c : Option (List ℕ)). GoesOn c taken after) (later ∙ same) (step_goes third goes.0 taken after s m)

pub took : {first second third : Option (List ℕ)} (taken : List Chunk) (pump after : Pumping) (result : Option Chunk) → second ≡ first → third ≡ second → GoesOn first taken pump → result ≡ pump.chunk → IsSome pump.chunk
    → after ≡ record pump { chunk = None } → ((accepted : List Stored) (cs : List Chunk) → Stands second accepted cs pump → Stands third accepted (cs ++ option_to_list result) after) → NextIs first taken after result
took {first} {second} {third} taken pump after None same later goes is some rest take = let none : None ≡ pump.chunk = is in let wrong = subst (λ (o : Option Chunk). IsSome o) (sym none) some in cc
took {first} {second} {third} taken pump after (Some chunk) same later goes is some rest take =
    let m = take goes.0 taken (subst (λ (c : Option (List ℕ)). Stands c goes.0 taken pump) (sym same) goes.1) in
    let now : Stands first goes.0 (taken ++ chunk ∷ []) after = subst (λ (c : Option (List ℕ)). Stands c goes.0 (taken ++ chunk ∷ []) after) (later ∙ same) m in
    let free : after.chunk ≡ None = ap (λ (p : Pumping). p.chunk) rest in
    record { goes = (goes.0, now); free = free; empty = λ none. empty_last first goes.0 taken chunk after now free none }

-- how many turns are left, where no chunk is held
turns_free : (size : ℕ) (pump : Pumping) → pump.chunk ≡ None → turns_left size pump ≡ 2 * left size pump
turns_free size pump free = let none : length (option_to_list pump.chunk) ≡ 0 = ap (λ (o : Option Chunk). length (option_to_list o)) free in omega (arith, none)

pub turns_moved : (size was : ℕ) (pump after : Pumping) → was ≡ size → after.chunk ≡ None → left was after < left was pump → turns_left size after < turns_left size pump
turns_moved size was pump after same free less =
    let now : left size after < left size pump = subst (λ (n : ℕ). left n after < left n pump) same less in
    omega (arith, turns_free size after free, now)
