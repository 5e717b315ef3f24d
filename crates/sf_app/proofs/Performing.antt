-- What an input that was fetched and given back says of a list.
use Rattle.std.proofs.Common.{◌≡◌, ℕ, inr, List, [], ◌∷◌, ◌++◌, Result, Err, refl, ap, sym, subst, ◌∙◌, arith}
use Rattle.sf_meaning.specs.Movie.{movie}
use Rattle.sf_meaning.specs.declared.movie.PlainMovie.{PlainMovie}
use Rattle.sf_world.specs.Counts.{Rose}
use Rattle.sf_world.specs.Views.{Gave, GivenBack, InputsView, IsGiven, SinkView, SourceView, TakesBack}
use Rattle.sf_world.specs.declared.failures.Denied.{Denied}
use Rattle.sf_app.specs.AnswerText.{Puts}
use Rattle.sf_app.specs.ListEnds.{Reads}
use Rattle.sf_app.specs.Outside.{Faulty, OfTold}
use Rattle.sf_movie.specs.Loads.{IsCaused, Reads as Loads}
use Rattle.sf_app.specs.inner.Load.{read_status}
use Rattle.sf_movie.specs.declared.load.LoadFault.{LoadFault}
use Rattle.sf_movie.specs.declared.load.LoadFault.TheVariants.{Refused, ReadFault, NoMemory}

-- Inputs gave a source, which was given back with this view.
pub record Visit (name : List ℕ) (source end : SourceView) (before middle after : InputsView) : Type 0 where
  pub given : IsGiven (before.holds name) source
  pub gave : Gave name before middle
  pub kept : middle.faults ≡ before.faults
  pub takes : TakesBack end.faults middle after

abbrev pub given_back : (name : List ℕ) (source end : SourceView) (i m i' : InputsView) → Visit name source end i m i' → GivenBack name i i'
given_back name source end i m i' v = record {
  asked = v.takes.asked ∙ v.gave.asked;
  faults = end.faults;
  returned = v.takes.returned ∙ ap (λ (l : List ℕ). l ++ end.faults ∷ []) v.gave.returned;
}

pub faulty : (name : List ℕ) (source end : SourceView) (i m i' : InputsView) → Visit name source end i m i' → Rose source.faults end.faults → Faulty name i i'
faulty name source end i m i' v rose = record {
  back = given_back name source end i m i' v;
  some = omega (arith, rose, v.given.faults);
  failed = omega (arith, rose, v.given.faults, v.kept, v.takes.faults);
}

-- why a movie wasn't read
pub reads_by : (name : List ℕ) (fault : LoadFault) (source end : SourceView) (i m i' : InputsView) → Visit name source end i m i'
    → OfTold source.content (λ file. Loads {A = PlainMovie} {B = PlainMovie} (λ it. it) (Err fault) (movie file)) → IsCaused {A = PlainMovie} source.faults end.faults (Err fault)
    → Reads name (Err (read_status fault)) i i'
reads_by name (Refused fault) source end i m i' v said cause = (record { so = λ file told. said file (v.given.content ∙ told); free = cause }, given_back name source end i m i' v)
reads_by name ReadFault source end i m i' v said cause = (refl, faulty name source end i m i' v cause)
reads_by name NoMemory source end i m i' v said cause = inr (given_back name source end i m i' v)

-- the same lines under another name
pub puts_same : (lines lines' : List ℕ) (r : Result (Unit {0}) Denied) (before after : SinkView) → lines' ≡ lines → Puts lines r before after → Puts lines' r before after
puts_same lines lines' r before after e p = subst (λ (l : List ℕ). Puts l r before after) (sym e) p
