-- Lines that are gathered and put into a text, one after the other.
use Rattle.std.proofs.Common.{◌≡◌, ℕ, ◌+◌, ◌≤◌, ◌<◌, List, [], ◌++◌, length, codes, Result, Ok, Err, IfErr, IsErrAnd, refl, ap, sym, subst, ◌∙◌, append_assoc, append-nil, rules, arith}
use Rattle.sf_world.proofs.GrownLemmas.{grown_facts}
use Rattle.sf_world.specs.Counts.{Rose}
use Rattle.sf_world.specs.Views.{Gains, GainsPart, SinkView}
use Rattle.sf_world.specs.declared.failures.Denied.{Denied}
use Rattle.sf_world.specs.declared.failures.Denied.TheVariants.{Failed, NoMemory}
use Rattle.sf_app.specs.ListEnds.{GainsSome}
use Rattle.sf_app.specs.ListText.{start_line}
use Rattle.sf_app.specs.inner.Gathered.{Stops, Takes}

-- parts of the same bytes under another name
part_same : (a b : List ℕ) (before after : SinkView) → a ≡ b → GainsPart a before after → GainsPart b before after
part_same a b before after e g = subst (λ (whole : List ℕ). GainsPart whole before after) e g

gains_same : (a b : List ℕ) (before after : SinkView) → a ≡ b → Gains a before after → Gains b before after
gains_same a b before after e g = subst (λ (whole : List ℕ). Gains whole before after) e g

part_none : (a : List ℕ) (before : SinkView) → GainsPart a before before
part_none a before = let e : before ≡ before = refl in search (rules, grown_facts)

part_front : (a b : List ℕ) (before after : SinkView) → GainsPart a before after → GainsPart (a ++ b) before after
part_front a b before after g = search (rules, grown_facts)

part_behind : (a b : List ℕ) (before middle after : SinkView) → Gains a before middle → GainsPart b middle after → GainsPart (a ++ b) before after
part_behind a b before middle after x g = search (rules, grown_facts)

gains_twice : (a b : List ℕ) (before middle after : SinkView) → Gains a before middle → Gains b middle after → Gains (a ++ b) before after
gains_twice a b before middle after x y = search (rules, grown_facts)

gains_none : (before : SinkView) → Gains [] before before
gains_none before = search (rules, grown_facts, arith)

pub takes_none : (text : SinkView) (gathered : List ℕ) → Takes [] text gathered text gathered
takes_none text gathered = record { front = []; put = gains_none text; rest = append-nil gathered }

-- lines after lines
pub takes_twice : (a b : List ℕ) (t t' t'' : SinkView) (g g' g'' : List ℕ) → Takes a t g t' g' → Takes b t' g' t'' g'' → Takes (a ++ b) t g t'' g''
takes_twice a b t t' t'' g g' g'' x y =
    record {
      front = x.front ++ y.front;
      put = gains_twice x.front y.front t t' t'' x.put y.put;
      rest = sym (append_assoc g a b) ∙ ap (λ (l : List ℕ). l ++ b) x.rest ∙ append_assoc x.front g' b ∙ ap (λ (l : List ℕ). x.front ++ l) y.rest ∙ sym (append_assoc x.front y.front g'');
    }

-- lines that were taken, and a part of those after them
part_after : (a b : List ℕ) (t t' t'' : SinkView) (g g' : List ℕ) → Takes a t g t' g' → GainsPart (g' ++ b) t' t'' → GainsPart (g ++ (a ++ b)) t t''
part_after a b t t' t'' g g' x p =
    part_same (x.front ++ (g' ++ b)) (g ++ (a ++ b)) t t''
    (sym (append_assoc x.front g' b) ∙ ap (λ (l : List ℕ). l ++ b) (sym x.rest) ∙ append_assoc g a b)
    (part_behind x.front (g' ++ b) t t' t'' x.put p)

-- a part of the lines in front
part_first : (a b : List ℕ) (t t' : SinkView) (g : List ℕ) → GainsPart (g ++ a) t t' → GainsPart (g ++ (a ++ b)) t t'
part_first a b t t' g p = part_same ((g ++ a) ++ b) (g ++ (a ++ b)) t t' (append_assoc g a b) (part_front (g ++ a) b t t' p)

-- a count that rose later has risen from before too
rose_before : (a b c : ℕ) → a ≤ b → Rose b c → Rose a c
rose_before a b c le r = omega (arith, le, r)

grew : (a b c m n : ℕ) → 0 < m → b ≡ a + m → c ≡ b + n → a < c
grew a b c m n lt e f = omega (arith, lt, e, f)

-- a stop within bytes is one within more of them
stop_by : (a b : List ℕ) (denied : Denied) (before middle after : SinkView) → before.faults ≤ middle.faults
    → (GainsPart a middle after → GainsPart b before after) → Stops a denied middle after → Stops b denied before after
stop_by a b Failed before middle after later f s = record { part = f s.part; failed = rose_before before.faults middle.faults after.faults later s.failed }
stop_by a b NoMemory before middle after later f s = f s

-- a stop after lines that were taken
pub stop_after : (a b : List ℕ) (denied : Denied) (t t' t'' : SinkView) (g g' : List ℕ) → t.faults ≤ t'.faults → Takes a t g t' g' → Stops (g' ++ b) denied t' t''
    → Stops (g ++ (a ++ b)) denied t t''
stop_after a b denied t t' t'' g g' later x s = stop_by (g' ++ b) (g ++ (a ++ b)) denied t t' t'' later (part_after a b t t' t'' g g' x) s

-- a stop within the first lines
pub stop_first : (a b : List ℕ) (denied : Denied) (t t' : SinkView) (g : List ℕ) → Stops (g ++ a) denied t t' → Stops (g ++ (a ++ b)) denied t t'
stop_first a b denied t t' g s = stop_by (g ++ a) (g ++ (a ++ b)) denied t t t' (omega arith) (part_first a b t t' g) s

-- a stop in the end, where all lines are gathered or put
pub stop_end : (a : List ℕ) (denied : Denied) (t t' t'' : SinkView) (g' : List ℕ) → t.faults ≤ t'.faults → Takes a t [] t' g' → Stops g' denied t' t'' → Stops a denied t t''
stop_end a denied t t' t'' g' later x s =
    stop_by g' a denied t t' t'' later (λ p. part_same (x.front ++ g') a t t'' (sym x.rest) (part_behind x.front g' t t' t'' x.put p)) s

-- want of memory while nothing more is put
pub stop_quiet : (a : List ℕ) (t : SinkView) → Stops a NoMemory t t
stop_quiet a t = part_none a t

-- a stop within all lines, where the first ones are put
pub stop_within : (a b : List ℕ) (denied : Denied) (t t' t'' : SinkView) → t.faults ≤ t'.faults → Gains a t t' → Stops b denied t' t'' → Stops (a ++ b) denied t t''
stop_within a b denied t t' t'' later x s = stop_by b (a ++ b) denied t t' t'' later (part_behind a b t t' t'' x) s

-- the first line isn't empty
pub start_some : (us : ℕ) → 0 < length (start_line us)
unfolding start_line
start_some us = omega arith

-- want of memory within the rest, where the first ones are put
pub stop_some : (a b : List ℕ) (t t' t'' : SinkView) → 0 < length a → Gains a t t' → GainsPart b t' t'' → GainsSome (a ++ b) t t''
stop_some a b t t' t'' lt x p = record { part = part_behind a b t t' t'' x p; some = grew t.size t'.size t''.size (length a) p.count lt x.size p.size }

-- what was gathered is put in the end
pub all_put : (a : List ℕ) (t t' t'' : SinkView) (g' : List ℕ) → Takes a t [] t' g' → Gains g' t' t'' → Gains a t t''
all_put a t t' t'' g' x e = gains_same (x.front ++ g') a t t'' (sym x.rest) (gains_twice x.front g' t t' t'' x.put e)

-- Of some lines a front was taken, and the rest is left.
pub record Going (all rest : List ℕ) (text : SinkView) (gathered : List ℕ) (text' : SinkView) (gathered' : List ℕ) : Type 0 where
  pub taken : List ℕ
  pub whole : taken ++ rest ≡ all
  pub takes : Takes taken text gathered text' gathered'

pub going_first : (all : List ℕ) (text : SinkView) (gathered : List ℕ) → Going all all text gathered text gathered
going_first all text gathered = record { taken = []; whole = refl; takes = takes_none text gathered }

pub going_on : (all line rest : List ℕ) (t t' t'' : SinkView) (g g' g'' : List ℕ) → Going all (line ++ rest) t g t' g' → Takes line t' g' t'' g'' → Going all rest t g t'' g''
going_on all line rest t t' t'' g g' g'' x y =
    record {
      taken = x.taken ++ line;
      whole = append_assoc x.taken line rest ∙ x.whole;
      takes = takes_twice x.taken line t t' t'' g g' g'' x.takes y;
    }

pub going_end : (all : List ℕ) (t t' : SinkView) (g g' : List ℕ) → Going all [] t g t' g' → Takes all t g t' g'
going_end all t t' g g' x = subst (λ (l : List ℕ). Takes l t g t' g') (sym (append-nil x.taken) ∙ x.whole) x.takes

-- a stop within the line that is next
pub going_stop : (all line rest : List ℕ) (denied : Denied) (t t' t'' : SinkView) (g g' : List ℕ) → t.faults ≤ t'.faults → Going all (line ++ rest) t g t' g'
    → Stops (g' ++ line) denied t' t'' → Stops (g ++ all) denied t t''
going_stop all line rest denied t t' t'' g g' later x s =
    subst (λ (l : List ℕ). Stops (g ++ l) denied t t'') x.whole
    (stop_after x.taken (line ++ rest) denied t t' t'' g g' later x.takes (stop_first line rest denied t' t'' g' s))

-- want of memory before the line that is next
pub going_quiet : (all rest : List ℕ) (t t' : SinkView) (g g' : List ℕ) → t.faults ≤ t'.faults → Going all rest t g t' g' → Stops (g ++ all) NoMemory t t'
going_quiet all rest t t' g g' later x =
    subst (λ (l : List ℕ). Stops (g ++ l) NoMemory t t') x.whole
    (stop_after x.taken rest NoMemory t t' t' g g' later x.takes (stop_quiet (g' ++ rest) t'))

-- a word and three numbers with a space after each, in front of others
pub three_first : (word a b c rest : List ℕ)
    → (word ++ (a ++ (codes " " ++ (b ++ (codes " " ++ (c ++ codes " ")))))) ++ rest ≡ word ++ (a ++ (codes " " ++ (b ++ (codes " " ++ (c ++ (codes " " ++ rest))))))
three_first word a b c rest = simp append_assoc

-- what follows from what holds of an error
pub if_err_weaker : {A E : Type 0} (r : Result A E) (P Q : E → Type 0) → ((e : E) → P e → Q e) → IfErr r P → IfErr r Q
if_err_weaker (Ok x) P Q f p = p
if_err_weaker (Err e) P Q f p = f e p

-- what holds of the error of an answer
pub err_is : {A E : Type 0} (r : Result A E) (e : E) (P : E → Type 0) → IsErrAnd r (λ z. z ≡ e) → P e → IfErr r P
err_is (Ok x) e P is p = tt
err_is (Err f) e P is p = subst P (sym is) p
