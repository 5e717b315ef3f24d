-- What readers make of their readouts, one after the other.
use Rattle.std.proofs.Common.{◌≡◌, ℕ, zero, suc, ◌+◌, ◌≤◌, List, [], ◌∷◌, ◌++◌, length, map, Option, Some, None, Result, Ok, Err, refl, sym, ap, subst, ◌∙◌, arith, append_assoc, append-nil, length-append, ◌⊎◌, inl, inr}
use Rattle.std.specs.List.{AllByRecursion}
use Rattle.std.proofs.lemmas.List.{length-map, map-append}
use Rattle.sf_world.specs.Contents.{BeginsEmpty, grown, shelved}
use Rattle.sf_world.specs.Counts.{Rose}
use Rattle.sf_world.specs.Views.{ShelfView, SinkView, with_kept}
use Rattle.sf_movie.specs.Loaded.{Loaded}
use Rattle.sf_extract.specs.Current.{unmoved}
use Rattle.sf_extract.specs.Readout.{Readout, read_out}
use Rattle.sf_extract.specs.declared.plan.Command.{Command}
use Rattle.sf_extract.specs.declared.types.BadSample.{BadSample as Refusal}
use Rattle.sf_reader.specs.Dumps.{AreBegun, AreUpTo, AreWhole, Begins, dump_name, dump_names, dumps_of, readouts, told_length}
use Rattle.sf_reader.specs.Extracted.{KeptDumps, with_dumps}
use Rattle.sf_reader.specs.inner.Readers.{Answers, AreDumps, IsDump, KeptOne, PlansEnd, Ran, answer_of, first_fault}
use Rattle.sf_reader.specs.inner.Reading.{Dumped}
use Rattle.sf_reader.specs.declared.dump.ReaderFault.{ReaderFault}
use Rattle.sf_reader.specs.declared.dump.ReaderFault.TheVariants as by
use Rattle.sf_reader.specs.declared.outcome.ExtractOutcome.{ExtractOutcome}
use Rattle.sf_reader.specs.declared.outcome.ExtractOutcome.TheVariants.{Done, Refused, NoTrack, BadSample, ReadFault, WriteFault, NoMemory}

-- what a sink gained is a dump
dump_is : (r : Readout) (read : Result ℕ ReaderFault) (was now : SinkView) → Dumped r read was now → (d : List ℕ) × IsDump r read d × (now.content ≡ grown was.content d)
dump_is r (Ok n) was now h = (r.dump, (h.0, h.1, refl), h.2)
dump_is r (Err (by.Bad bad)) was now h = (r.dump, (h.0, refl), h.1)
dump_is r (Err by.ReadFault) was now h = (h.dump, h.begins, h.gained)
dump_is r (Err by.WriteFault) was now h = (h.dump, h.begins, h.gained)
dump_is r (Err by.NoMemory) was now h = (h.dump, h.begins, h.gained)

-- and was kept
pub kept_one : (r : Readout) (read : Result ℕ ReaderFault) (was now : SinkView) (before after : ShelfView) → Dumped r read was now → after ≡ with_kept now before → KeptOne r read was.content before after
kept_one r read was now before after h e =
    let d = dump_is r read was now h in
    record {
      dump = d.0;
      is = d.1;
      kept = ap (λ (v : ShelfView). v.files) e ∙ ap (shelved before.files) d.2;
    }

begins_all : (d : List ℕ) (r : Readout) → d ≡ r.dump → Begins d r
begins_all d r e = record { rest = []; whole = sym e ∙ sym (append-nil d) }

begins_of : (r : Readout) (read : Result ℕ ReaderFault) (d : List ℕ) → IsDump r read d → Begins d r
begins_of r (Ok n) d h = begins_all d r h.2
begins_of r (Err (by.Bad bad)) d h = begins_all d r h.1
begins_of r (Err by.ReadFault) d h = h
begins_of r (Err by.WriteFault) d h = h
begins_of r (Err by.NoMemory) d h = h

begun_whole : (rs : List Readout) → AreBegun (dumps_of rs) rs
begun_whole [] = tt
begun_whole (r ∷ rs) = (begins_all r.dump r refl, begun_whole rs)

begun_one_more : (ds : List (List ℕ)) (rs : List Readout) (d : List ℕ) (r : Readout) → length ds ≡ length rs → AreBegun ds rs → Begins d r → AreBegun (ds ++ d ∷ []) (rs ++ r ∷ [])
begun_one_more [] [] d r n h b = (b, tt)
begun_one_more [] (q ∷ rs) d r n h b = absurd (omega (arith, n))
begun_one_more (e ∷ ds) [] d r n h b = absurd h
begun_one_more (e ∷ ds) (q ∷ rs) d r n h b = (h.0, begun_one_more ds rs d r (omega (arith, n)) h.1 b)

begun_longer : (ds : List (List ℕ)) (rs more : List Readout) → AreBegun ds rs → AreBegun ds (rs ++ more)
begun_longer [] rs more h = tt
begun_longer (d ∷ ds) [] more h = absurd h
begun_longer (d ∷ ds) (r ∷ rs) more h = (h.0, begun_longer ds rs more h.1)

whole_one_more : (rs : List Readout) (r : Readout) → AreWhole rs → r.refused ≡ None → AreWhole (rs ++ r ∷ [])
whole_one_more [] r h e = (e, tt)
whole_one_more (q ∷ rs) r h e = (h.0, whole_one_more rs r h.1 e)

upto_here : (rs : List Readout) (d : List ℕ) (r : Readout) (bad : Refusal) → AreWhole rs → d ≡ r.dump → r.refused ≡ Some bad → AreUpTo (length rs) bad (dumps_of rs ++ d ∷ []) (rs ++ r ∷ [])
upto_here [] d r bad h e f = (e, f, refl, tt)
upto_here (q ∷ rs) d r bad h e f = (refl, h.0, upto_here rs d r bad h.1 e f)

upto_one_more : (n : ℕ) (bad : Refusal) (ds : List (List ℕ)) (rs : List Readout) (d : List ℕ) (r : Readout) → AreUpTo n bad ds rs → Begins d r → AreUpTo n bad (ds ++ d ∷ []) (rs ++ r ∷ [])
upto_one_more zero bad [] rs d r h b = absurd h
upto_one_more zero bad (e ∷ ds) [] d r h b = absurd h
upto_one_more zero bad (e ∷ ds) (q ∷ rs) d r h b =
    (h.0, h.1, omega (arith, h.2, length-append ds (d ∷ []), length-append rs (r ∷ [])), begun_one_more ds rs d r h.2 h.3 b)
upto_one_more (suc n) bad [] rs d r h b = absurd h
upto_one_more (suc n) bad (e ∷ ds) [] d r h b = absurd h
upto_one_more (suc n) bad (e ∷ ds) (q ∷ rs) d r h b = (h.0, h.1, upto_one_more n bad ds rs d r h.2 b)

upto_begun : (n : ℕ) (bad : Refusal) (ds : List (List ℕ)) (rs : List Readout) → AreUpTo n bad ds rs → AreBegun ds rs
upto_begun zero bad [] rs h = absurd h
upto_begun zero bad (e ∷ ds) [] h = absurd h
upto_begun zero bad (e ∷ ds) (q ∷ rs) h = (begins_all e q h.0, h.3)
upto_begun (suc n) bad [] rs h = absurd h
upto_begun (suc n) bad (e ∷ ds) [] h = absurd h
upto_begun (suc n) bad (e ∷ ds) (q ∷ rs) h = (begins_all e q h.0, upto_begun n bad ds rs h.2)

dumps_begun : (rs : List Readout) (ds : List (List ℕ)) (o : ExtractOutcome) → AreDumps rs ds o → AreBegun ds rs
dumps_begun rs ds Done h = subst (λ (x : List (List ℕ)). AreBegun x rs) (sym h.1) (begun_whole rs)
dumps_begun rs ds (Refused fault) h = absurd h
dumps_begun rs ds (NoTrack reader command) h = absurd h
dumps_begun rs ds (BadSample reader track sample at) h = upto_begun reader (record { track = track; sample = sample; at = at }) ds rs h
dumps_begun rs ds ReadFault h = h
dumps_begun rs ds WriteFault h = h
dumps_begun rs ds NoMemory h = h

-- all were read out whole, and then one more reader answered
whole_then : (rs : List Readout) (ds : List (List ℕ)) (d : List ℕ) (r : Readout) (read : Result ℕ ReaderFault) (n : ℕ) (old new : List ℕ) (answer : ExtractOutcome)
    → length ds ≡ length rs → AreWhole rs × (ds ≡ dumps_of rs) → IsDump r read d → n ≡ length rs → Answers n read old new answer → AreDumps (rs ++ r ∷ []) (ds ++ d ∷ []) answer
whole_then rs ds d r (Ok m) n old new answer k h is e (inl a) =
    subst (AreDumps (rs ++ r ∷ []) (ds ++ d ∷ [])) (sym a.0) (
      whole_one_more rs r h.0 is.0,
      ap (λ (x : List (List ℕ)). x ++ d ∷ []) h.1 ∙ ap (λ (x : List ℕ). dumps_of rs ++ x ∷ []) is.2 ∙ sym (map-append (λ (q : Readout). q.dump) rs (r ∷ [])),
    )
whole_then rs ds d r (Ok m) n old new answer k h is e (inr a) =
    subst (AreDumps (rs ++ r ∷ []) (ds ++ d ∷ [])) (sym a) (begun_one_more ds rs d r k (dumps_begun rs ds Done h) (begins_of r (Ok m) d is))
whole_then rs ds d r (Err (by.Bad bad)) n old new answer k h is e a =
    subst (AreDumps (rs ++ r ∷ []) (ds ++ d ∷ [])) (sym a)
    (subst (λ (x : List (List ℕ)). AreUpTo n bad (x ++ d ∷ []) (rs ++ r ∷ [])) (sym h.1)
    (subst (λ (x : ℕ). AreUpTo x bad (dumps_of rs ++ d ∷ []) (rs ++ r ∷ [])) (sym e) (upto_here rs d r bad h.0 is.1 is.0)))
whole_then rs ds d r (Err by.ReadFault) n old new answer k h is e a =
    subst (AreDumps (rs ++ r ∷ []) (ds ++ d ∷ [])) (sym a) (begun_one_more ds rs d r k (dumps_begun rs ds Done h) is)
whole_then rs ds d r (Err by.WriteFault) n old new answer k h is e a =
    subst (AreDumps (rs ++ r ∷ []) (ds ++ d ∷ [])) (sym a) (begun_one_more ds rs d r k (dumps_begun rs ds Done h) is)
whole_then rs ds d r (Err by.NoMemory) n old new answer k h is e a =
    subst (AreDumps (rs ++ r ∷ []) (ds ++ d ∷ [])) (sym a) (begun_one_more ds rs d r k (dumps_begun rs ds Done h) is)

-- readers ran, and then one more answered
dumps_then : (rs : List Readout) (ds : List (List ℕ)) (d : List ℕ) (r : Readout) (read : Result ℕ ReaderFault) (n : ℕ) (old new : List ℕ) (o answer : ExtractOutcome)
    → length ds ≡ length rs → AreDumps rs ds o → IsDump r read d → n ≡ length rs → Answers n read old new answer → AreDumps (rs ++ r ∷ []) (ds ++ d ∷ []) (first_fault o answer)
dumps_then rs ds d r read n old new Done answer k h is e a = whole_then rs ds d r read n old new answer k h is e a
dumps_then rs ds d r read n old new (Refused fault) answer k h is e a = absurd h
dumps_then rs ds d r read n old new (NoTrack reader command) answer k h is e a = absurd h
dumps_then rs ds d r read n old new (BadSample reader track sample at) answer k h is e a =
    upto_one_more reader (record { track = track; sample = sample; at = at }) ds rs d r h (begins_of r read d is)
dumps_then rs ds d r read n old new ReadFault answer k h is e a = begun_one_more ds rs d r k h (begins_of r read d is)
dumps_then rs ds d r read n old new WriteFault answer k h is e a = begun_one_more ds rs d r k h (begins_of r read d is)
dumps_then rs ds d r read n old new NoMemory answer k h is e a = begun_one_more ds rs d r k h (begins_of r read d is)

-- the lengths where one more reader was done
told_done : (ds : List (List ℕ)) (d : List ℕ) (r : Readout) (read : Result ℕ ReaderFault) (n : ℕ) (old new : List ℕ) (answer : ExtractOutcome)
    → old ≡ map told_length ds → IsDump r read d → Answers n read old new answer → answer ≡ Done → new ≡ map told_length (ds ++ d ∷ [])
told_done ds d r (Ok m) n old new answer h is (inl a) done =
    a.1 ∙ ap (λ (x : List ℕ). x ++ m ∷ []) h ∙ ap (λ (x : ℕ). map told_length ds ++ x ∷ []) is.1 ∙ sym (map-append told_length ds (d ∷ []))
told_done ds d r (Ok m) n old new answer h is (inr a) done = absurd (cc (sym a ∙ done))
told_done ds d r (Err (by.Bad bad)) n old new answer h is a done = absurd (cc (sym a ∙ done))
told_done ds d r (Err by.ReadFault) n old new answer h is a done = absurd (cc (sym a ∙ done))
told_done ds d r (Err by.WriteFault) n old new answer h is a done = absurd (cc (sym a ∙ done))
told_done ds d r (Err by.NoMemory) n old new answer h is a done = absurd (cc (sym a ∙ done))

told_then : (ds : List (List ℕ)) (d : List ℕ) (r : Readout) (read : Result ℕ ReaderFault) (n : ℕ) (old new : List ℕ) (o answer : ExtractOutcome)
    → (o ≡ Done → old ≡ map told_length ds) → IsDump r read d → Answers n read old new answer → first_fault o answer ≡ Done → new ≡ map told_length (ds ++ d ∷ [])
told_then ds d r read n old new Done answer h is a done = told_done ds d r read n old new answer (h refl) is a done
told_then ds d r read n old new (Refused fault) answer h is a done = absurd (cc done)
told_then ds d r read n old new (NoTrack reader command) answer h is a done = absurd (cc done)
told_then ds d r read n old new (BadSample reader track sample at) answer h is a done = absurd (cc done)
told_then ds d r read n old new ReadFault answer h is a done = absurd (cc done)
told_then ds d r read n old new WriteFault answer h is a done = absurd (cc done)
told_then ds d r read n old new NoMemory answer h is a done = absurd (cc done)

-- one more dump is kept
files_then : (files : Option (List (List ℕ))) (ds : List (List ℕ)) (d : List ℕ) (contents : Option (List ℕ)) → BeginsEmpty files contents
    → shelved (with_dumps files ds) (grown contents d) ≡ with_dumps files (ds ++ d ∷ [])
files_then None ds d contents h = refl
files_then (Some fs) ds d contents h =
    ap (λ (c : Option (List ℕ)). shelved (Some (fs ++ ds)) (grown c d)) h ∙ ap (λ (x : List (List ℕ)). Some x) (append_assoc fs ds (d ∷ []))

files_none : (files : Option (List (List ℕ))) → files ≡ with_dumps files []
files_none None = refl
files_none (Some fs) = ap (λ (x : List (List ℕ)). Some x) (sym (append-nil fs))

-- no reader ran
pub ran_none : (before : ShelfView) (lengths : List ℕ) → lengths ≡ [] → Ran [] Done lengths before before
ran_none before lengths e = record { dumps = []; count = refl; are = (tt, refl); kept = files_none before.files; told = λ _. e }

-- one more reader ran
pub ran_then : (rs : List Readout) (r : Readout) (read : Result ℕ ReaderFault) (n : ℕ) (old new : List ℕ) (o answer : ExtractOutcome) (contents : Option (List ℕ)) (before mid after : ShelfView)
    → Ran rs o old before mid → KeptOne r read contents mid after → BeginsEmpty before.files contents → n ≡ length rs → Answers n read old new answer
    → Ran (rs ++ r ∷ []) (first_fault o answer) new before after
ran_then rs r read n old new o answer contents before mid after h k b e a = record {
  dumps = h.dumps ++ k.dump ∷ [];
  count = omega (arith, h.count, length-append h.dumps (k.dump ∷ []), length-append rs (r ∷ []));
  are = dumps_then rs h.dumps k.dump r read n old new o answer h.count h.are k.is e a;
  kept = k.kept ∙ ap (λ (fs : Option (List (List ℕ))). shelved fs (grown contents k.dump)) h.kept ∙ files_then before.files h.dumps k.dump contents b;
  told = told_then h.dumps k.dump r read n old new o answer h.told k.is a;
}

-- the readouts of one more plan
pub readouts_then : (file : List ℕ) (m : Loaded) (plans : List (List Command)) (plan : List Command) → readouts file m (plans ++ plan ∷ []) ≡ readouts file m plans ++ read_out file plan (unmoved m) ∷ []
readouts_then file m plans plan = map-append (λ (p : List Command). read_out file p (unmoved m)) plans (plan ∷ [])

pub names_then : (stem : List ℕ) (n m k : ℕ) → m ≡ n + 1 → k ≡ n + 1 → dump_names stem m ≡ dump_names stem n ++ dump_name stem k ∷ []
names_then stem n m k e f =
    let s : m ≡ suc n = omega (arith, e) in
    let t : k ≡ suc n = omega (arith, f) in
    rw (s, t) refl

kept_dumps : (stem : List ℕ) (rs : List Readout) (n : ℕ) (o : ExtractOutcome) (lengths : List ℕ) (before mid after : ShelfView) → mid.names ≡ before.names ++ dump_names stem n → mid.files ≡ before.files
    → after.names ≡ mid.names → n ≡ length rs → (h : Ran rs o lengths mid after) → KeptDumps stem h.dumps before after
kept_dumps stem rs n o lengths before mid after names files same e h = record {
  named = same ∙ names ∙ ap (λ (x : ℕ). before.names ++ dump_names stem x) (e ∙ sym h.count);
  kept = h.kept ∙ ap (λ (fs : Option (List (List ℕ))). with_dumps fs h.dumps) files;
}

-- readers of all plans ran
pub plans_end : (stem : List ℕ) (rs : List Readout) (n : ℕ) (o : ExtractOutcome) (lengths : List ℕ) (before mid after : ShelfView) → mid.names ≡ before.names ++ dump_names stem n → mid.files ≡ before.files
    → after.names ≡ mid.names → n ≡ length rs → Ran rs o lengths mid after → PlansEnd rs stem o lengths before after
plans_end stem rs n o lengths before mid after names files same e h = (h.dumps, kept_dumps stem rs n o lengths before mid after names files same e h, (h.are, h.told))

-- readers of the first plans ran, and no more dumps were made
pub plans_cut : (stem : List ℕ) (rs more : List Readout) (n : ℕ) (o : ExtractOutcome) (fault : ReaderFault) (lengths : List ℕ) (before mid after : ShelfView) → mid.names ≡ before.names ++ dump_names stem n
    → mid.files ≡ before.files → after.names ≡ mid.names → n ≡ length rs → Ran rs o lengths mid after → (fault ≡ by.WriteFault) ⊎ (fault ≡ by.NoMemory)
    → PlansEnd (rs ++ more) stem (answer_of 0 fault) lengths before after
plans_cut stem rs more n o fault lengths before mid after names files same e h (inl f) =
    subst (λ (x : ReaderFault). PlansEnd (rs ++ more) stem (answer_of 0 x) lengths before after) (sym f)
    (h.dumps, kept_dumps stem rs n o lengths before mid after names files same e h, (begun_longer h.dumps rs more (dumps_begun rs h.dumps o h.are), λ d. absurd (cc d)))
plans_cut stem rs more n o fault lengths before mid after names files same e h (inr f) =
    subst (λ (x : ReaderFault). PlansEnd (rs ++ more) stem (answer_of 0 x) lengths before after) (sym f)
    (h.dumps, kept_dumps stem rs n o lengths before mid after names files same e h, (begun_longer h.dumps rs more (dumps_begun rs h.dumps o h.are), λ d. absurd (cc d)))

readouts_count : (file : List ℕ) (m : Loaded) (plans : List (List Command)) → length (readouts file m plans) ≡ length plans
readouts_count file m plans = length-map plans (λ (p : List Command). read_out file p (unmoved m))

-- how many readouts the plans of so many readers have
pub counted : {A : Type 0} (P : A → List Command) (file : List ℕ) (m : Loaded) (xs : List A) → length xs ≡ length (readouts file m (map P xs))
counted P file m xs = sym (length-map xs P) ∙ sym (readouts_count file m (map P xs))

-- one more reader ran
pub ran_over : {A : Type 0} (P : A → List Command) (file : List ℕ) (m : Loaded) (ran : List A) (x : A) (read : Result ℕ ReaderFault) (n : ℕ) (old new : List ℕ) (o answer now : ExtractOutcome) (contents : Option (List ℕ))
    (before mid after : ShelfView) → Ran (readouts file m (map P ran)) o old before mid → KeptOne (read_out file (P x) (unmoved m)) read contents mid after → BeginsEmpty before.files contents
    → n ≡ length ran → Answers n read old new answer → now ≡ first_fault o answer → Ran (readouts file m (map P (ran ++ x ∷ []))) now new before after
ran_over P file m ran x read n old new o answer now contents before mid after h k b e a f =
    subst (λ (rs : List Readout). Ran rs now new before after) (sym (ap (readouts file m) (map-append P ran (x ∷ [])) ∙ readouts_then file m (map P ran) (P x)))
    (subst (λ (z : ExtractOutcome). Ran (readouts file m (map P ran) ++ read_out file (P x) (unmoved m) ∷ []) z new before after) (sym f)
    (ran_then (readouts file m (map P ran)) (read_out file (P x) (unmoved m)) read n old new o answer contents before mid after h k b (e ∙ counted P file m ran) a))

read_told : (o answer : ExtractOutcome) → first_fault o answer ≡ ReadFault → (o ≡ ReadFault) ⊎ (answer ≡ ReadFault)
read_told Done answer e = inr e
read_told (Refused fault) answer e = inl e
read_told (NoTrack reader command) answer e = inl e
read_told (BadSample reader track sample at) answer e = inl e
read_told ReadFault answer e = inl e
read_told WriteFault answer e = inl e
read_told NoMemory answer e = inl e

write_told : (o answer : ExtractOutcome) → first_fault o answer ≡ WriteFault → (o ≡ WriteFault) ⊎ (answer ≡ WriteFault)
write_told Done answer e = inr e
write_told (Refused fault) answer e = inl e
write_told (NoTrack reader command) answer e = inl e
write_told (BadSample reader track sample at) answer e = inl e
write_told ReadFault answer e = inl e
write_told WriteFault answer e = inl e
write_told NoMemory answer e = inl e

read_answered : (n : ℕ) (read : Result ℕ ReaderFault) (old new : List ℕ) (answer : ExtractOutcome) → Answers n read old new answer → answer ≡ ReadFault → read ≡ Err by.ReadFault
read_answered n (Ok m) old new answer (inl a) e = absurd (cc (sym a.0 ∙ e))
read_answered n (Ok m) old new answer (inr a) e = absurd (cc (sym a ∙ e))
read_answered n (Err (by.Bad bad)) old new answer a e = absurd (cc (sym a ∙ e))
read_answered n (Err by.ReadFault) old new answer a e = refl
read_answered n (Err by.WriteFault) old new answer a e = absurd (cc (sym a ∙ e))
read_answered n (Err by.NoMemory) old new answer a e = absurd (cc (sym a ∙ e))

write_answered : (n : ℕ) (read : Result ℕ ReaderFault) (old new : List ℕ) (answer : ExtractOutcome) → Answers n read old new answer → answer ≡ WriteFault → read ≡ Err by.WriteFault
write_answered n (Ok m) old new answer (inl a) e = absurd (cc (sym a.0 ∙ e))
write_answered n (Ok m) old new answer (inr a) e = absurd (cc (sym a ∙ e))
write_answered n (Err (by.Bad bad)) old new answer a e = absurd (cc (sym a ∙ e))
write_answered n (Err by.ReadFault) old new answer a e = absurd (cc (sym a ∙ e))
write_answered n (Err by.WriteFault) old new answer a e = refl
write_answered n (Err by.NoMemory) old new answer a e = absurd (cc (sym a ∙ e))

rose_then : (a b c : ℕ) {P Q : Type 0} → P ⊎ Q → (P → Rose a b) → (Q → Rose b c) → a ≤ b → b ≤ c → Rose a c
rose_then a b c (inl p) f g l k = omega (arith, f p, k)
rose_then a b c (inr q) f g l k = omega (arith, g q, l)

-- a failed read is blamed on the source
pub read_blamed : (n : ℕ) (read : Result ℕ ReaderFault) (old new : List ℕ) (o answer now : ExtractOutcome) (a b c : ℕ) → now ≡ first_fault o answer → Answers n read old new answer
    → (o ≡ ReadFault → Rose a b) → (read ≡ Err by.ReadFault → Rose b c) → a ≤ b → b ≤ c → now ≡ ReadFault → Rose a c
read_blamed n read old new o answer now a b c is w f g l k e = rose_then a b c (read_told o answer (sym is ∙ e)) f (λ h. g (read_answered n read old new answer w h)) l k

-- and a failed write on the shelf
pub write_blamed : (n : ℕ) (read : Result ℕ ReaderFault) (old new : List ℕ) (o answer now : ExtractOutcome) (a b c : ℕ) → now ≡ first_fault o answer → Answers n read old new answer
    → (o ≡ WriteFault → Rose a b) → (read ≡ Err by.WriteFault → Rose b c) → a ≤ b → b ≤ c → now ≡ WriteFault → Rose a c
write_blamed n read old new o answer now a b c is w f g l k e = rose_then a b c (write_told o answer (sym is ∙ e)) f (λ h. g (write_answered n read old new answer w h)) l k

-- the names of one more dump
pub names_more : (before mid after : List (List ℕ)) (stem : List ℕ) (n m k : ℕ) → mid ≡ before ++ dump_names stem n → after ≡ mid ++ dump_name stem k ∷ [] → m ≡ n + 1 → k ≡ n + 1 → after ≡ before ++ dump_names stem m
names_more before mid after stem n m k e f g h =
    f ∙ ap (λ (ns : List (List ℕ)). ns ++ dump_name stem k ∷ []) e ∙ append_assoc before (dump_names stem n) (dump_name stem k ∷ []) ∙ ap (λ (ns : List (List ℕ)). before ++ ns) (sym (names_then stem n m k g h))

-- lists that move from one to the other
pub all_one_more : {X : Type 0} (P : X → Type 0) (xs : List X) (y : X) → AllByRecursion P xs → P y → AllByRecursion P (xs ++ y ∷ [])
all_one_more P [] y h e = (e, tt)
all_one_more P (x ∷ xs) y h e = (h.0, all_one_more P xs y h.1 e)

pub moved_one : {A B : Type 0} (P : A → B) (all : List B) (xs new : List A) (r : A) (x : B) (left rest : List B) → all ≡ map P xs ++ left → left ≡ x ∷ rest → P r ≡ x → new ≡ xs ++ r ∷ []
    → all ≡ map P new ++ rest
moved_one {A} {B} P all xs new r x left rest e f g h =
    e ∙ ap (λ (l : List B). map P xs ++ l) (f ∙ ap (λ (y : B). y ∷ rest) (sym g)) ∙ sym (append_assoc (map P xs) (P r ∷ []) rest)
    ∙ ap (λ (l : List B). l ++ rest) (sym (map-append P xs (r ∷ []))) ∙ ap (λ (l : List A). map P l ++ rest) (sym h)
