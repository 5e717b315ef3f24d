use Rattle.std.proofs.Common.{◌≡◌, ℤ, pos, ◌+ℤ◌, ◌-ℤ◌, rules, Some, sym, ap, subst, ◌∙◌}
use mir.Syntax.{w64}
use mir.Val.{SFits, of_z, to_z}
use Rattle.sf_meaning.specs.Shown.{shown}
use Rattle.sf_tick.specs.Tick.{us}
use Rattle.sf_movie.specs.Loaded.{Loaded}
use Rattle.sf_movie.proofs.KeptTracks.{shown_there}
use Rattle.sf_movie.proofs.Times.{shown_is}
use Rattle.sf_movie.proofs.movie.Movie.shown.Goals as goal

pub returns : goal.returns
returns c =
    let p = c.self.inside.parts in
    let k = c.track_at-track.result.now in
    let z = c.composed-compose.result in
    let f : SFits w64 c.shown_us.result = search rules in
    let g : SFits w64 z = search rules in
    let h : SFits w64 c.length_us-lead_us.result = search rules in
    let i : SFits w64 c.length_us-media_us.result = search rules in
    let is = shown_is c.shown_us.result z c.length_us-lead_us.result c.length_us-media_us.result _ _ k.scale f g h i c.shown_us.ensures c.length_us-lead_us.ensures.exact c.length_us-media_us.ensures.exact in
    subst (λ (m : Loaded). shown m.movie c.args.t c.args.i ≡ Some (to_z w64 (of_z w64 c.shown_us.result))) c.self.view_is
    (shown_there p c.as_slice.result.now c.args.t c.args.i k c.composed-compose.ensures.s (to_z w64 (of_z w64 c.shown_us.result)) c.as_slice.ensures c.track_at-track.ensures c.composed-compose.ensures.at (is ∙ ap (λ (x : ℤ). (us x k.scale +ℤ us (pos k.shift.lead) p.scale) -ℤ us (pos k.shift.media_time) k.scale) (sym c.composed-compose.ensures.compose)))
