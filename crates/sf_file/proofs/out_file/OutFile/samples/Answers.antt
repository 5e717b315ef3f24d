use Rattle.std.proofs.Common.{◌≡◌, List, IfSome, ap, ◌∙◌, subst}
use Rattle.std.specs.Prelude.{slice_get}
use Rattle.sf_file.specs.Open.{HeldTrack, OpenFile, count_of}
use Rattle.sf_file.specs.inner.Tracks.{held_in}
use Rattle.sf_file.proofs.ClosedFile.{stands_count}
use Rattle.sf_file.proofs.out_file.OutFile.samples.Goals as goal

pub returns : goal.returns
returns g c begun chunks s =
    let same : held_in c.deref.result.now ≡ c.args.self.now.tracks = ap held_in c.deref.ensures.value ∙ ap (λ (f : OpenFile). f.tracks) c.self.view_is in
    stands_count c.args.track c.count.result s c.requires (subst (λ (ts : List HeldTrack). IfSome (slice_get ts c.args.track) (λ t. c.count.result ≡ count_of t)) same c.count.ensures.exact)
