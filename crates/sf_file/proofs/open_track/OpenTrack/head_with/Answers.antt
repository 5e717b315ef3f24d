use Rattle.std.proofs.Common.{ℕ, Option, sym, ap, ◌∙◌}
use Rattle.sf_layout.specs.Layout.{head_of, lead_of}
use Rattle.sf_tables.specs.Rows.{first_dts_with, with_chunk}
use Rattle.sf_file.specs.Open.{track_with}
use Rattle.sf_file.specs.inner.Tracks.{KeptTrack}
use Rattle.sf_file.proofs.Room.{kept, grows_seen}
use Rattle.sf_file.proofs.Heads.{head_made, end_made}
use Rattle.sf_file.proofs.open_track.OpenTrack.head_with.Goals as goal

pub duration_with-requires : goal.duration_with-requires
duration_with-requires c = (grows_seen c.args.place c.args.chunk.now c.self.view_is c.self.invariant c.requires).addable

pub size_with-requires-clause-addable : goal.size_with-requires-clause-addable
size_with-requires-clause-addable c = (grows_seen c.args.place c.args.chunk.now c.self.view_is c.self.invariant c.requires).addable

pub returns-clause-exact : goal.returns-clause-exact
returns-clause-exact c =
    let chunk = c.args.chunk.now in
    let place = c.args.place in
    let lead = c.lead_of.ensures ∙ ap (λ (f : Option ℕ). lead_of c.args.start_us f) c.first_us_with.ensures
    ∙ ap (λ (k : KeptTrack). lead_of c.args.start_us (first_dts_with k.held.track.first chunk.samples)) (sym c.self.view_is) in
    let view = kept c.self.inside.setup c.self.inside.tables c.self.inside.last in
    let made = head_made c.args.start_us (track_with view.held place chunk).track lead (c.duration_with.ensures place) (c.size_with.ensures.exact c.self.inside.setup.entry (sym c.len-entry_len.ensures)) in
    made ∙ ap (λ (k : KeptTrack). head_of c.args.start_us (track_with k.held place chunk).track) c.self.view_is

pub returns-clause-end : goal.returns-clause-end
returns-clause-end c =
    let chunk = c.args.chunk.now in
    let place = c.args.place in
    let tables = c.self.inside.tables in
    let g = grows_seen place chunk c.self.view_is c.self.invariant c.requires in
    let lead = c.lead_of.ensures ∙ ap (λ (f : Option ℕ). lead_of c.args.start_us f) c.first_us_with.ensures
    ∙ ap (λ (k : KeptTrack). lead_of c.args.start_us (first_dts_with k.held.track.first chunk.samples)) (sym c.self.view_is) in
    record {
      scale = c.self.invariant.ticks;
      ends = end_made c.self.inside.setup.scale c.args.start_us (first_dts_with tables.first_dts chunk.samples) (with_chunk tables.rows place chunk) lead (c.duration_with.ensures place) g.early g.short;
    }
