use Rattle.std.proofs.Common.{ℕ, Option, sym, ap, ◌∙◌}
use Rattle.sf_layout.specs.Layout.{head_of, lead_of}
use Rattle.sf_file.specs.inner.Tracks.{KeptTrack}
use Rattle.sf_file.proofs.Room.{kept, rows_short}
use Rattle.sf_file.proofs.Heads.{head_made, end_made}
use Rattle.sf_file.proofs.open_track.OpenTrack.head.Goals as goal

pub returns-clause-exact : goal.returns-clause-exact
returns-clause-exact c =
    let lead = c.lead_of.ensures ∙ ap (λ (f : Option ℕ). lead_of c.args.start_us f) c.first_dts.ensures in
    let made = head_made c.args.start_us (kept c.self.inside.setup c.self.inside.tables c.self.inside.last).held.track lead c.duration.ensures (c.size.ensures.exact c.self.inside.setup.entry (sym c.len.ensures)) in
    made ∙ ap (λ (k : KeptTrack). head_of c.args.start_us k.held.track) c.self.view_is

pub returns-clause-end : goal.returns-clause-end
returns-clause-end c =
    let lead = c.lead_of.ensures ∙ ap (λ (f : Option ℕ). lead_of c.args.start_us f) c.first_dts.ensures in
    let s = c.self.invariant in
    record {
      scale = s.ticks;
      ends = end_made c.self.inside.setup.scale c.args.start_us c.self.inside.tables.first_dts c.self.inside.tables.rows lead c.duration.ensures s.first
          (rows_short c.self.inside.setup.scale c.self.inside.last c.self.inside.tables.rows s.ticks s.room s.behind s.timed);
    }
