-- Lines that are gathered before they are put into a text.
use Rattle.std.specs.Prelude.{◌≡◌, ℕ, List, ◌++◌, Result, Ok, Err}
use Rattle.sf_world.specs.Views.{FailsWithin, Gains, GainsPart, SinkView}
use Rattle.sf_world.specs.declared.failures.Denied.{Denied}
use Rattle.sf_world.specs.declared.failures.Denied.TheVariants.{Failed, NoMemory}
use Rattle.sf_app.specs.ListEnds.{GainsSome, TellsList}
use Rattle.sf_app.specs.declared.list_text.PutFault.{PutFault}
use Rattle.sf_app.specs.declared.list_text.PutFault.TheVariants as puts
use Rattle.sf_app.specs.declared.status.Status.{Status}
use Rattle.sf_app.specs.declared.status.Status.TheVariants as statuses

-- Lines were taken: of those that were gathered, and these after them, a front was put into the text, and the rest is gathered.
pub record Takes (lines : List ℕ) (text : SinkView) (gathered : List ℕ) (text' : SinkView) (gathered' : List ℕ) : Type 0 where
  pub front : List ℕ
  pub put : Gains front text text'
  pub rest : gathered ++ lines ≡ front ++ gathered'

-- what becomes of a text into which at most these lines are put, by the answer: they may be gathered in place of being put; the text failed within them; without memory it gained a first part of them
abbrev pub Stops : List ℕ → Denied → SinkView → SinkView → Type 0
Stops lines Failed before after = FailsWithin lines before after
Stops lines NoMemory before after = GainsPart lines before after

-- what becomes of a text into which the list of a movie is put, by the answer: all of it; the text failed within it; nothing for want of memory; or a first part of it, and not nothing
abbrev pub PutsList : List ℕ → Result (Unit {0}) PutFault → SinkView → SinkView → Type 0
PutsList lines (Ok done) before after = Gains lines before after
PutsList lines (Err puts.WriteFault) before after = FailsWithin lines before after
PutsList lines (Err puts.NoMemory) before after = after ≡ before
PutsList lines (Err puts.NoMemoryWithin) before after = GainsSome lines before after

-- what becomes of a text, by the answer of the command for a movie that was read; or nothing was put for want of memory, and the answer is still to be told
abbrev pub TellsOrNot : List ℕ → Result Status Status → SinkView → SinkView → Type 0
TellsOrNot lines (Ok status) before after = TellsList lines status before after
TellsOrNot lines (Err status) before after = (status ≡ statuses.NoMemory) × (after ≡ before)
