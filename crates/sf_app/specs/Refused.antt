-- How wrong words end.
use Rattle.std.specs.Prelude.{◌≡◌, ◌⊎◌}
use Rattle.sf_world.specs.Views.{Says}
use Rattle.sf_app.specs.AnswerText.{line_of}
use Rattle.sf_app.specs.Outside.{Outside}
use Rattle.sf_app.specs.declared.status.Status.{Status}
use Rattle.sf_app.specs.declared.status.Status.TheVariants.{Usage, NoMemory}
use Rattle.sf_app.specs.declared.status.UsageFault.{UsageFault}

-- Words were refused so, or memory ran out before all were read; only the text is touched.
pub record WordsRefused (fault : UsageFault) (result : Status) (b a : Outside) : Type 0 where
  pub answer : (result ≡ Usage fault) ⊎ (result ≡ NoMemory)
  pub inputs : a.inputs ≡ b.inputs
  pub shelf : a.shelf ≡ b.shelf
  pub says : Says (line_of result) b.text a.text
