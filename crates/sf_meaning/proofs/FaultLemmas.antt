-- What stops a part of a movie stops the movie.
use Rattle.std.proofs.Common.{◌≡◌, ◌⊎◌, Result, Ok, Err, refl, inl, inr, ap, sym, ◌∙◌}
use Rattle.std.specs.Result.{IsErrAnd}
use Rattle.sf_meaning.specs.Answers.{Gives}
use Rattle.sf_meaning.specs.Steps.{◌>>=◌, as_fault}
use Rattle.sf_meaning.specs.declared.faults.HeadFault.{HeadFault}
use Rattle.sf_meaning.specs.declared.faults.HeadFault.TheVariants as heads
use Rattle.sf_meaning.specs.declared.faults.TableFault.{TableFault}
use Rattle.sf_meaning.specs.declared.faults.TableFault.TheVariants as tables
use Rattle.sf_meaning.specs.declared.faults.MovieFault.{MovieFault}
use Rattle.sf_meaning.specs.declared.faults.MovieFault.TheVariants as movies
use Rattle.sf_meaning.specs.inner.Faults.{of_head, of_table}

-- a fault, or none where it is want of memory
under : {A E : Type 0} (to : E → MovieFault) (f : E) (said : Result A E) → said ≡ Err f → as_fault to said ≡ Err (to f)
under to f said e = rw e refl

pub head_stops : {A : Type 0} (f : HeadFault) (said : Result A HeadFault) → (f ≡ heads.NoMemory) ⊎ (said ≡ Err f) → (of_head f ≡ movies.NoMemory) ⊎ (as_fault movies.Head said ≡ Err (of_head f))
head_stops heads.NoMemory said h = inl refl
head_stops f said (inl e) = absurd (cc e)
head_stops f said (inr e) = inr (under (λ (x : HeadFault). movies.Head x) f said e)

pub table_stops : {A : Type 0} (f : TableFault) (said : Result A TableFault) → (f ≡ tables.NoMemory) ⊎ (said ≡ Err f) → (of_table f ≡ movies.NoMemory) ⊎ (as_fault movies.Table said ≡ Err (of_table f))
table_stops tables.NoMemory said h = inl refl
table_stops f said (inl e) = absurd (cc e)
table_stops f said (inr e) = inr (under (λ (x : TableFault). movies.Table x) f said e)

-- what stops the first step stops all
pub stops_all : {A B E : Type 0} (none e : E) (a : Result A E) (k : A → Result B E) → (e ≡ none) ⊎ (a ≡ Err e) → (e ≡ none) ⊎ ((a >>= k) ≡ Err e)
stops_all none e a k (inl p) = inl p
stops_all none e a k (inr p) = inr (rw p refl)

-- an answer that `?` made of a fault
pub stopped_by : {X Y E : Type 0} (none : E) (view : X → Y) (r : Result X E) (e : E) (said : Result Y E) → IsErrAnd r (λ x. x ≡ e) → (e ≡ none) ⊎ (said ≡ Err e) → Gives none view r said
stopped_by none view (Ok x) e said h k = absurd h
stopped_by none view (Err x) e said h (inl k) = inl (h ∙ k)
stopped_by none view (Err x) e said h (inr k) = inr (k ∙ ap (λ y. Err y) (sym h))
