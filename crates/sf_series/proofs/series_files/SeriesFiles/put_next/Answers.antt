use Rattle.std.proofs.Common.{List, [], ◌∷◌, ◌++◌, true, sym, ap, subst, ◌∙◌}
use Rattle.std.proofs.lemmas.Option.{IfSome_then}
use Rattle.sf_tick.specs.declared.types.Chunk.{Chunk}
use Rattle.sf_entry.specs.declared.track_setup.TrackSetup.{TrackSetup}
use Rattle.sf_file.specs.Open.{held_from}
use Rattle.sf_series.specs.Series.{FilesStand}
use Rattle.sf_series.specs.inner.Writing.{HasRoomAlone}
use Rattle.sf_series.proofs.Answers.{of_some, on_err, on_err_then, on_ok_then, some_of}
use Rattle.sf_series.proofs.Shelving.{into_more}
use Rattle.sf_series.proofs.SoundFiles.{can_put_fresh, room_alone}
use Rattle.sf_series.proofs.series_files.SeriesFiles.put_next.Goals as goal

pub returns-in_err-make-clause-broken : goal.returns-in_err-make-clause-broken
returns-in_err-make-clause-broken g c =
    on_err c.from_residual-in_err-make.result _ (true, λ begun files s. c.in_err-make.ensures.stands begun files (c.in_ok-close.ensures.closed begun files s))

pub append-requires-clause-can_put : goal.append-requires-clause-can_put
append-requires-clause-can_put g c κs lt =
    let old = some_of c.args.self.now.file c.requires.is_open in
    let own = of_some old.0 _ old.1 c.requires.own in
    let put = of_some old.0 _ old.1 c.requires.can_put in
    IfSome_then c.make.new.self.file c.in_ok-make.ensures.fresh
    (λ f fresh. can_put_fresh own (fresh.tracks ∙ ap (λ (ss : List TrackSetup). held_from 0 ss []) c.in_ok-close.ensures.same.setups) put)

pub append-requires-clause-room : goal.append-requires-clause-room
append-requires-clause-room g c κs lt =
    let room = subst (λ (ss : List TrackSetup). HasRoomAlone ss c.args.chunk.now) (sym c.in_ok-close.ensures.same.setups) c.requires.room in
    IfSome_then c.make.new.self.file c.in_ok-make.ensures.fresh (λ f fresh. room_alone fresh room)

pub returns-clause-done : goal.returns-clause-done
returns-clause-done g c =
    on_ok_then c.append.result (λ p begun files s.
    subst (λ (fs : List (List Chunk)). FilesStand begun fs c.append.new.self (g.O.Shelf.seen c.append.new.shelf)) (into_more files [] c.args.chunk.now)
    (p begun (files ++ [] ∷ []) (c.in_ok-make.ensures.stands begun files (c.in_ok-close.ensures.closed begun files s)))) c.append.ensures.done

pub returns-clause-broken : goal.returns-clause-broken
returns-clause-broken g c =
    on_err_then c.append.result (λ p. (true, λ begun files s. p begun (files ++ [] ∷ []) (c.in_ok-make.ensures.stands begun files (c.in_ok-close.ensures.closed begun files s)))) c.append.ensures.broken
