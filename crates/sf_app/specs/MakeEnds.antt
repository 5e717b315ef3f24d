-- How the making of a movie ends, which is recorded in memory from inputs that are generated, and read back.
use Rattle.std.specs.Prelude.{◌≡◌, ℕ, ◌+◌, ◌⊎◌, List, [], ◌∷◌, ◌++◌, codes}
use Rattle.std.specs.Fmt.{decimal}
use Rattle.sf_world.specs.Counts.{Rose}
use Rattle.sf_world.specs.Views.{Says, SinkView}
use Rattle.sf_selftest.specs.SelfTest.{IsTested}
use Rattle.sf_selftest.specs.declared.summary.Summary.{Summary}
use Rattle.sf_selftest.specs.declared.summary.TrackSummary.{TrackSummary}
use Rattle.sf_app.specs.AnswerText.{TellsDone, line_of}
use Rattle.sf_app.specs.Outside.{Outside}
use Rattle.sf_app.specs.declared.status.Status.{Status}
use Rattle.sf_app.specs.declared.status.Status.TheVariants.{Done, NoMemory}

-- the line of a track: its number, how many samples and how many sync samples it has, how many bytes those have together, and when the last one is decoded, in ticks
unfoldable pub summary_line : ℕ → TrackSummary → List ℕ
summary_line number t =
    codes "track "
    ++ (decimal number ++ (codes " " ++ (decimal t.samples ++ (codes " " ++ (decimal t.syncs ++ (codes " " ++ (decimal t.stored ++ (codes " " ++ (decimal t.last ++ codes "\n")))))))))

-- the lines of tracks, numbered from here on
unfoldable pub summary_lines : ℕ → List TrackSummary → List ℕ
summary_lines number [] = []
summary_lines number (t ∷ ts) = summary_line number t ++ summary_lines (number + 1) ts

-- the line of a dump of so many bytes
unfoldable pub dump_line : ℕ → List ℕ
dump_line size = codes "dump " ++ (decimal size ++ codes "\n")

-- the lines of a self-test
abbrev pub made_lines : Summary → List ℕ
made_lines s = summary_lines 0 s.tracks ++ dump_line s.dump

-- The generated inputs were recorded and read back, and the text tells what was, as far as the answer says.
pub record TellsMade (count tracks : ℕ) (result : Status) (before after : SinkView) : Type 0 where
  pub summary : Summary
  pub tested : IsTested count tracks summary
  pub tells : TellsDone (made_lines summary) result before after

-- Memory ran out before the text, which gained the line of that as far as it goes.
pub record MakesNothing (result : Status) (before after : SinkView) : Type 0 where
  pub answer : result ≡ NoMemory
  pub says : Says (line_of NoMemory) before after

-- A movie of so many samples of each of so many tracks was made in memory and read back, with this answer. Inputs and shelf aren't touched.
pub record MakeEnds (count tracks : ℕ) (result : Status) (b a : Outside) : Type 0 where
  pub ends : TellsMade count tracks result b.text a.text ⊎ MakesNothing result b.text a.text
  pub inputs : a.inputs ≡ b.inputs
  pub shelf : a.shelf ≡ b.shelf
  -- Unless the text failed, the answer is Done, or memory ran out.
  pub complete : ¬ Rose b.text.faults a.text.faults → (result ≡ NoMemory) ⊎ (result ≡ Done)
