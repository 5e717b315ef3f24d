use Rattle.std.proofs.Common.{ℤ, rules, ap, ◌∙◌}
use Rattle.std.proofs.lemmas.Int.{to_z-of_z}
use Rattle.std.specs.List.{slice_get}
use mir.Syntax.{w64}
use mir.Val.{SFits, of_z, to_z}
use Rattle.sf_extract.specs.SyncAt.{sought, syncs_of}
use Rattle.sf_extract.proofs.NumberLemmas.{numbered_of}
use Rattle.sf_extract.proofs.SoughtLemmas.{sought_closest, sought_next, sought_none, sought_some}
use Rattle.sf_extract.proofs.seek.sought.Goals as goal

pub returns-in-Some : goal.returns-in-Some
returns-in-Some c =
    let f : SFits w64 c.args.us = search rules in
    sought_some (to_z w64 (of_z w64 c.args.us)) c.args.mode _ c.latest_until.result c.in-Some.sync (numbered_of c.args.movie.now.movie (slice_get c.args.movie.now.movie.tracks c.args.t)) c.in-Previous.is c.latest_until.ensures c.in-Some.is
    ∙ ap (λ (z : ℤ). sought z c.args.mode (syncs_of c.args.movie.now.movie (slice_get c.args.movie.now.movie.tracks c.args.t))) (to_z-of_z w64 c.args.us f)

pub returns-in-None : goal.returns-in-None
returns-in-None c =
    let f : SFits w64 c.args.us = search rules in
    sought_none (to_z w64 (of_z w64 c.args.us)) c.args.mode _ c.latest_until.result c.earliest.result (numbered_of c.args.movie.now.movie (slice_get c.args.movie.now.movie.tracks c.args.t)) c.in-Previous.is c.latest_until.ensures c.in-None.is c.earliest.ensures
    ∙ ap (λ (z : ℤ). sought z c.args.mode (syncs_of c.args.movie.now.movie (slice_get c.args.movie.now.movie.tracks c.args.t))) (to_z-of_z w64 c.args.us f)

pub returns-in-Next : goal.returns-in-Next
returns-in-Next c =
    let f : SFits w64 c.args.us = search rules in
    sought_next (to_z w64 (of_z w64 c.args.us)) c.args.mode _ c.earliest_from.result (numbered_of c.args.movie.now.movie (slice_get c.args.movie.now.movie.tracks c.args.t)) c.in-Next.is c.earliest_from.ensures
    ∙ ap (λ (z : ℤ). sought z c.args.mode (syncs_of c.args.movie.now.movie (slice_get c.args.movie.now.movie.tracks c.args.t))) (to_z-of_z w64 c.args.us f)

pub returns-in-Closest : goal.returns-in-Closest
returns-in-Closest c =
    let f : SFits w64 c.args.us = search rules in
    sought_closest (to_z w64 (of_z w64 c.args.us)) c.args.mode _ c.latest_until-in-Closest.result c.earliest_from-in-Closest.result c.nearer.result (numbered_of c.args.movie.now.movie (slice_get c.args.movie.now.movie.tracks c.args.t)) c.in-Closest.is
    c.latest_until-in-Closest.ensures c.earliest_from-in-Closest.ensures c.nearer.ensures
    ∙ ap (λ (z : ℤ). sought z c.args.mode (syncs_of c.args.movie.now.movie (slice_get c.args.movie.now.movie.tracks c.args.t))) (to_z-of_z w64 c.args.us f)
