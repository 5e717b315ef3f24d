-- How the list of a movie ends.
use Rattle.std.specs.Prelude.{◌≡◌, ◌≢◌, ◌<◌, ℕ, ◌⊎◌, List, Option, Some, Result, Ok, Err}
use Rattle.sf_world.specs.Counts.{Rose}
use Rattle.sf_world.specs.Views.{FailsWithin, Gains, GainsPart, GivenBack, InputsView, NotAsked, Says, SinkView, SourceView}
use Rattle.sf_meaning.specs.Movie.{Step, movie}
use Rattle.sf_meaning.specs.declared.faults.MovieFault.{MovieFault}
use Rattle.sf_meaning.specs.declared.faults.MovieFault.TheVariants as faults
use Rattle.sf_meaning.specs.declared.movie.PlainMovie.{PlainMovie}
use Rattle.sf_app.specs.AnswerText.{line_of}
use Rattle.sf_app.specs.ListText.{listed}
use Rattle.sf_app.specs.Outside.{Faulty, KeepInputs, Missed, OfTold, Outside}
use Rattle.sf_app.specs.declared.movie.ListFault.{ListFault}
use Rattle.sf_app.specs.declared.movie.ListFault.TheVariants as lists
use Rattle.sf_app.specs.declared.status.Status.{Status}
use Rattle.sf_app.specs.declared.status.Status.TheVariants.{Done, Usage, OpenFault, ReadFault, WriteFault, InputRefused, MovieRefused, SampleRefused, LimitReached, PlanRefused, NoMemory}

-- the bytes of a file are this movie, where they are told
abbrev pub AreMovie : Option (List ℕ) → PlainMovie → Type 0
AreMovie contents it = OfTold contents (λ file. movie file ≡ Ok it)

-- The bytes of a file are refused so, where they are told. Want of memory is no refusal.
pub record AreRefused (contents : Option (List ℕ)) (fault : MovieFault) : Type 0 where
  pub so : OfTold contents (λ file. movie file ≡ Err fault)
  pub free : fault ≢ faults.NoMemory

-- The bytes are a movie, of which the text gained a first part of the list.
pub record ListsPart (contents : Option (List ℕ)) (before after : SinkView) : Type 0 where
  pub it : PlainMovie
  pub is : AreMovie contents it
  pub part : GainsPart (listed it) before after

-- what stands after each answer of the list of a source: the whole list; or the movie is refused, or a read failed, before the first line; or the text failed within the list; or memory ran out, and a first part of the list was put at most
abbrev pub Lists : Result (Unit {0}) ListFault → SourceView → SourceView → SinkView → SinkView → Type 0
Lists (Ok done) s s' t t' = (it : PlainMovie) × AreMovie s.content it × Gains (listed it) t t'
Lists (Err (lists.Refused fault)) s s' t t' = AreRefused s.content fault × (t' ≡ t)
Lists (Err lists.ReadFault) s s' t t' = Rose s.faults s'.faults × (t' ≡ t)
Lists (Err lists.WriteFault) s s' t t' = (it : PlainMovie) × AreMovie s.content it × FailsWithin (listed it) t t'
Lists (Err lists.NoMemory) s s' t t' = (t' ≡ t) ⊎ ListsPart s.content t t'

-- the answer of the list of a source for a movie, or for what is wrong with its bytes
abbrev pub list_answer : Step PlainMovie → Result (Unit {0}) ListFault
list_answer (Ok it) = Ok tt
list_answer (Err fault) = Err (lists.Refused fault)

-- How the movie of a name was read, before the text says so, by the answer: its bytes are this movie; or it can't be opened, or a read failed; or it is refused; or memory ran out. No other answer comes.
abbrev pub Reads : List ℕ → Result PlainMovie Status → InputsView → InputsView → Type 0
Reads name (Ok it) i i' = AreMovie (i.holds name) it × GivenBack name i i'
Reads name (Err Done) i i' = ⊥
Reads name (Err (Usage fault)) i i' = ⊥
Reads name (Err (OpenFault input)) i i' = (input ≡ 0) × Missed name i i'
Reads name (Err (ReadFault input)) i i' = (input ≡ 0) × Faulty name i i'
Reads name (Err WriteFault) i i' = ⊥
Reads name (Err (InputRefused track fault)) i i' = ⊥
Reads name (Err (MovieRefused fault)) i i' = AreRefused (i.holds name) fault × GivenBack name i i'
Reads name (Err (SampleRefused reader track sample at)) i i' = ⊥
Reads name (Err (LimitReached limit)) i i' = ⊥
Reads name (Err (PlanRefused reader command)) i i' = ⊥
Reads name (Err NoMemory) i i' = NotAsked i i' ⊎ GivenBack name i i'

-- A text gained a first part of some lines, and not nothing.
pub record GainsSome (lines : List ℕ) (before after : SinkView) : Type 0 where
  pub part : GainsPart lines before after
  pub some : before.size < after.size

-- what becomes of a text into which the list of a movie is put, by the answer: it gained all of it, or failed within it, or memory ran out once a part of it was put
abbrev pub TellsList : List ℕ → Status → SinkView → SinkView → Type 0
TellsList lines Done t t' = Gains lines t t'
TellsList lines (Usage fault) t t' = ⊥
TellsList lines (OpenFault input) t t' = ⊥
TellsList lines (ReadFault input) t t' = ⊥
TellsList lines WriteFault t t' = FailsWithin lines t t'
TellsList lines (InputRefused track fault) t t' = ⊥
TellsList lines (MovieRefused fault) t t' = ⊥
TellsList lines (SampleRefused reader track sample at) t t' = ⊥
TellsList lines (LimitReached limit) t t' = ⊥
TellsList lines (PlanRefused reader command) t t' = ⊥
TellsList lines NoMemory t t' = GainsSome lines t t'

-- The movie was read, and the text lists it as far as the answer says.
pub record TellsMovie (name : List ℕ) (result : Status) (b a : Outside) : Type 0 where
  pub it : PlainMovie
  pub reads : Reads name (Ok it) b.inputs a.inputs
  pub tells : TellsList (listed it) result b.text a.text

-- The answer came before the first line, and the text gained its line as far as it goes.
pub record TellsAnswer (name : List ℕ) (result : Status) (b a : Outside) : Type 0 where
  pub reads : Reads name (Err result) b.inputs a.inputs
  pub says : Says (line_of result) b.text a.text

-- the answer for a movie, or for what is wrong with the bytes
abbrev pub movie_answer : Step PlainMovie → Status
movie_answer (Ok it) = Done
movie_answer (Err fault) = MovieRefused fault

-- before the text: the answer is the one that a movie, or what is wrong with the bytes, calls for, or want of memory
abbrev pub Answered : Result PlainMovie Status → Step PlainMovie → Type 0
Answered (Ok it) said = said ≡ Ok it
Answered (Err status) said = (status ≡ NoMemory) ⊎ (status ≡ movie_answer said)

-- The movie of a name was listed, with this answer.
pub record ListEnds (name : List ℕ) (result : Status) (b a : Outside) : Type 0 where
  pub ends : TellsMovie name result b a ⊎ TellsAnswer name result b a
  pub inputs : KeepInputs b.inputs a.inputs
  -- Where no count rose, the answer is the one that the bytes call for, or want of memory.
  pub complete : (file : List ℕ) → b.inputs.holds name ≡ Some file
      → ¬ Rose b.inputs.misses a.inputs.misses → ¬ Rose b.inputs.faults a.inputs.faults → ¬ Rose b.text.faults a.text.faults
      → (result ≡ NoMemory) ⊎ (result ≡ movie_answer (movie file))
