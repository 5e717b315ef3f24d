use Rattle.std.proofs.Common.{◌≡◌, ℕ, OnOk, subst}
use Rattle.sf_meaning.specs.TrackSamples.{Tables, listed}
use Rattle.sf_meaning.specs.Tracks.{held_in}
use Rattle.sf_cursor.specs.Cursor.{HasPlace}
use Rattle.sf_cursor.proofs.cursor.Cursor.held.Goals as goal

pub returns-clause-held : goal.returns-clause-held
returns-clause-held c =
    subst (λ (x : Tables). c.tables_held.result ≡ held_in c.args.bytes c.args.track 0 (listed x)) c.self.view_is c.tables_held.ensures.held

pub returns-clause-places : goal.returns-clause-places
returns-clause-places c =
    subst (λ (x : Tables). OnOk c.tables_held.result ((i : ℕ) → HasPlace x i)) c.self.view_is c.tables_held.ensures.places
