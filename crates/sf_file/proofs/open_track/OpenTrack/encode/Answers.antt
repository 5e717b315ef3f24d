use Rattle.std.proofs.Common.{◌^◌, ◌<◌, length, sym, ap, subst, arith}
use Rattle.sf_meaning.specs.Stbl.{stbl_box}
use Rattle.sf_layout.specs.Layout.{stbl_of}
use Rattle.sf_file.specs.inner.Tracks.{KeptTrack}
use Rattle.sf_file.proofs.Heads.{stbl_is}
use Rattle.sf_file.proofs.open_track.OpenTrack.encode.Goals as goal

pub encode-requires : goal.encode-requires
encode-requires c =
    let short = subst (λ (k : KeptTrack). length (stbl_of k.held.track) < 2 ^ 32) (sym c.self.view_is) c.requires in
    rw c.as_slice.ensures (omega (arith, short, stbl_is c.self.inside.setup.entry c.self.inside.tables.rows))

pub returns : goal.returns
unfolding stbl_box
returns c =
    rw (c.in_ok-encode.ensures.ok, c.new-stbl.ensures, c.as_slice.ensures) (ap (λ (k : KeptTrack). stbl_of k.held.track) c.self.view_is)
