-- Sources that are fetched one after the other, and given back one after the other.
use Rattle.std.proofs.Common.{◌≡◌, ℕ, zero, suc, ◌+◌, ◌^◌, ◌<◌, ◌≤◌, Bool, true, false, List, [], ◌∷◌, ◌++◌, length, take, replicate, Option, Some, refl, sym, ap, subst, ◌∙◌, append_assoc, append-nil, length-append, arith}
use Rattle.std.specs.Prelude.{get_or, slice_get}
use Rattle.std.proofs.lemmas.Option.{slice_get-get_or}
use Rattle.std.proofs.lemmas.List.{length-map, length-take-le, map-append, take_more}
use Rattle.std.proofs.lemmas.List.Sums.{sum_by-append, sum_by-cons}
use Rattle.sf_world.specs.Counts.{Rose, both}
use Rattle.sf_world.specs.Views.{Gave, InputsView, IsGiven, NotAsked, NotGiven, SourceView, TakesBack}
use Rattle.sf_world.specs.declared.failures.Denied.{Denied}
use Rattle.sf_world.specs.declared.failures.Denied.TheVariants as denials
use Rattle.sf_app.specs.Lending.{AreGiven, BackUnread, all_given, faults_of, total}
use Rattle.sf_app.specs.Outside.{KeepInputs}
use Rattle.sf_app.specs.inner.Fetching.{Fetched, TakesAllBack, Unfetched, unfetched}

-- counts that aren't greater than the last value stand still where none is added
both_none : (a : ℕ) → a < 2 ^ 64 → a ≡ both a 0
both_none a lt = omega (arith, lt)

pub total_more : (counts : List ℕ) (c : ℕ) → total (counts ++ c ∷ []) ≡ total counts + c
total_more counts c =
    let one = sum_by-cons (λ (n : ℕ). n) c [] in
    let all = sum_by-append (λ (n : ℕ). n) counts (c ∷ []) in
    omega (arith, one, all)

both_more : (a s c : ℕ) (m m' t : ℕ) → m ≡ both a s → m' ≡ both m c → t ≡ s + c → m' ≡ both a t
both_more a s c m m' t e f g = omega (arith, e, f, g)

pub taken_none : (i : InputsView) → i.faults < 2 ^ 64 → TakesAllBack [] i i
taken_none i lt = record { holds = λ name. refl; asked = refl; returned = sym (append-nil i.returned); faults = both_none i.faults lt; misses = refl; spare = omega arith }

pub taken_more : (counts : List ℕ) (c : ℕ) (i m i' : InputsView) → TakesAllBack counts i m → TakesBack c m i' → TakesAllBack (counts ++ c ∷ []) i i'
taken_more counts c i m i' t b =
    record {
      holds = λ name. b.holds name ∙ t.holds name;
      asked = b.asked ∙ t.asked;
      returned = b.returned ∙ ap (λ (l : List ℕ). l ++ c ∷ []) t.returned ∙ append_assoc i.returned counts (c ∷ []);
      faults = both_more i.faults (total counts) c m.faults i'.faults (total (counts ++ c ∷ [])) t.faults b.faults (total_more counts c);
      misses = b.misses ∙ t.misses;
      spare = omega (arith, t.spare, b.spare, length-append counts (c ∷ []));
    }

given_more : (holds : List ℕ → Option (List ℕ)) (names : List (List ℕ)) (sources : List SourceView) (name : List ℕ) (source : SourceView)
    → AreGiven holds names sources → IsGiven (holds name) source → AreGiven holds (names ++ name ∷ []) (sources ++ source ∷ [])
given_more holds [] [] name source all one = (one, tt)
given_more holds [] (s ∷ sources) name source all one = absurd all
given_more holds (n ∷ names) [] name source all one = absurd all
given_more holds (n ∷ names) (s ∷ sources) name source all one = (all.0, given_more holds names sources name source all.1 one)

pub given_long : (holds : List ℕ → Option (List ℕ)) (names : List (List ℕ)) (sources : List SourceView) → AreGiven holds names sources → length sources ≡ length names
given_long holds [] [] all = refl
given_long holds [] (s ∷ sources) all = absurd all
given_long holds (n ∷ names) [] all = absurd all
given_long holds (n ∷ names) (s ∷ sources) all = ap (λ (n : ℕ). suc n) (given_long holds names sources all.1)

pub fetched_none : (i : InputsView) → Fetched [] [] i i
fetched_none i = record { given = tt; asked = sym (append-nil i.asked); returned = refl; faults = refl; holds = λ name. refl; misses = omega arith; spare = omega arith }

-- What a fetch that gives a source does to the inputs.
pub record GaveOne (name : List ℕ) (source : SourceView) (before after : InputsView) : Type 0 where
  pub given : IsGiven (before.holds name) source
  pub gave : Gave name before after
  pub holds : (other : List ℕ) → after.holds other ≡ before.holds other
  pub faults : after.faults ≡ before.faults
  pub misses : before.misses ≤ after.misses
  pub spare : before.spare + 1 ≤ after.spare

pub fetched_more : (names : List (List ℕ)) (sources : List SourceView) (name : List ℕ) (source : SourceView) (i m i' : InputsView) → Fetched names sources i m → GaveOne name source m i'
    → Fetched (names ++ name ∷ []) (sources ++ source ∷ []) i i'
fetched_more names sources name source i m i' f g =
    record {
      given = given_more i.holds names sources name source f.given (subst (λ (o : Option (List ℕ)). IsGiven o source) (f.holds name) g.given);
      asked =
          g.gave.asked ∙ ap (λ (l : List (List ℕ × Bool)). l ++ (name, true) ∷ []) f.asked ∙ append_assoc i.asked (all_given names) ((name, true) ∷ [])
          ∙ ap (λ (l : List (List ℕ × Bool)). i.asked ++ l) (sym (map-append (λ (n : List ℕ). (n, true)) names (name ∷ [])));
      returned = g.gave.returned ∙ f.returned;
      faults = g.faults ∙ f.faults;
      holds = λ other. g.holds other ∙ f.holds other;
      misses = omega (arith, f.misses, g.misses);
      spare = omega (arith, f.spare, g.spare, length-append sources (source ∷ []));
    }

-- sources that were given and not read have no fault
unread_counts : (holds : List ℕ → Option (List ℕ)) (names : List (List ℕ)) (sources : List SourceView) → AreGiven holds names sources → faults_of sources ≡ replicate (length names) 0
unread_counts holds [] [] all = refl
unread_counts holds [] (s ∷ sources) all = absurd all
unread_counts holds (n ∷ names) [] all = absurd all
unread_counts holds (n ∷ names) (s ∷ sources) all = ap (λ (c : ℕ). c ∷ faults_of sources) all.0.faults ∙ ap (λ (cs : List ℕ). 0 ∷ cs) (unread_counts holds names sources all.1)

total_none : (n : ℕ) → total (replicate n 0) ≡ 0
total_none zero = refl
total_none (suc n) = let one = sum_by-cons (λ (n : ℕ). n) 0 (replicate n 0) in omega (arith, one, total_none n)

-- What a fetch that gives no source leaves as it was.
pub record GaveNone (more : List (List ℕ × Bool)) (before after : InputsView) : Type 0 where
  pub asked : after.asked ≡ before.asked ++ more
  pub returned : after.returned ≡ before.returned
  pub holds : (other : List ℕ) → after.holds other ≡ before.holds other
  pub faults : after.faults ≡ before.faults
  pub spare : after.spare ≡ before.spare

-- the sources of the first names are given back, since the next one isn't given
pub back_unread : (names : List (List ℕ)) (number : ℕ) (sources : List SourceView) (more : List (List ℕ × Bool)) (i m m' i' : InputsView) → number ≤ length names → i.faults < 2 ^ 64
    → Fetched (take number names) sources i m → GaveNone more m m' → TakesAllBack (faults_of sources) m' i' → BackUnread names number more i i'
back_unread names number sources more i m m' i' le lt f g t =
    let long : length (take number names) ≡ number = length-take-le number names le in
    let counts : faults_of sources ≡ replicate number 0 = unread_counts i.holds (take number names) sources f.given ∙ ap (λ (n : ℕ). replicate n 0) long in
    let none : total (faults_of sources) ≡ 0 = ap total counts ∙ total_none number in
    let faults = t.faults in
    let same = g.faults ∙ f.faults in
    record {
      few = le;
      asked = t.asked ∙ g.asked ∙ ap (λ (l : List (List ℕ × Bool)). l ++ more) f.asked ∙ append_assoc i.asked (all_given (take number names)) more;
      returned = t.returned ∙ ap (λ (l : List ℕ). l ++ faults_of sources) (g.returned ∙ f.returned) ∙ ap (λ (l : List ℕ). i.returned ++ l) counts;
      faults = omega (arith, faults, none, same, lt);
    }

pub keep_unread : (names : List (List ℕ)) (sources : List SourceView) (more : List (List ℕ × Bool)) (i m m' i' : InputsView)
    → Fetched names sources i m → GaveNone more m m' → TakesAllBack (faults_of sources) m' i' → KeepInputs i i'
keep_unread names sources more i m m' i' f g t =
    record {
      holds = λ name. t.holds name ∙ g.holds name ∙ f.holds name;
      spare = omega (arith, f.spare, g.spare, t.spare, length-map sources (λ (s : SourceView). s.faults));
    }

-- the name of a number among names
pub name_there : (names : List (List ℕ)) (n : ℕ) (name : List ℕ) → n < length names → name ≡ get_or names n name → slice_get names n ≡ Some name
name_there names n name lt is = slice_get-get_or names n name lt ∙ ap (λ (y : List ℕ). Some y) (sym is)

pub next_name : (names : List (List ℕ)) (n : ℕ) (name : List ℕ) → n < length names → name ≡ get_or names n name → take (n + 1) names ≡ take n names ++ name ∷ []
next_name names n name lt is = take_more names n name lt ∙ ap (λ (y : List ℕ). take n names ++ y ∷ []) (sym is)

-- What a fetch that is denied does to the inputs.
pub record DeniedOne (name : List ℕ) (denied : Denied) (before after : InputsView) : Type 0 where
  pub failed : denied ≡ denials.Failed → NotGiven name before after
  pub none : denied ≡ denials.NoMemory → NotAsked before after
  pub rose : denied ≡ denials.Failed → Rose before.misses after.misses
  pub holds : (other : List ℕ) → after.holds other ≡ before.holds other
  pub faults : after.faults ≡ before.faults
  pub spare : after.spare ≡ before.spare

rose_over : (a b c d : ℕ) → a ≤ b → d ≡ c → Rose b c → Rose a d
rose_over a b c d le e rose = omega (arith, le, e, rose)

-- the answer where the next name is denied
pub unfetched_by : (names : List (List ℕ)) (number : ℕ) (name : List ℕ) (denied : Denied) (sources : List SourceView) (i m m' i' : InputsView) → slice_get names number ≡ Some name → number ≤ length names → i.faults < 2 ^ 64
    → Fetched (take number names) sources i m → DeniedOne name denied m m' → TakesAllBack (faults_of sources) m' i' → Unfetched names (unfetched number denied) i i'
unfetched_by names number name denials.Failed sources i m m' i' there le lt f d t =
    let none = d.failed refl in
    record {
      failed = rose_over i.misses m.misses m'.misses i'.misses f.misses t.misses (d.rose refl);
      name = name;
      there = there;
      back = back_unread names number sources ((name, false) ∷ []) i m m' i' le lt f (record { asked = none.asked; returned = none.returned; holds = d.holds; faults = d.faults; spare = d.spare }) t;
    }
unfetched_by names number name denials.NoMemory sources i m m' i' there le lt f d t =
    let none = d.none refl in
    (number, back_unread names number sources [] i m m' i' le lt f (record { asked = none.asked ∙ sym (append-nil m.asked); returned = none.returned; holds = d.holds; faults = d.faults; spare = d.spare }) t)
