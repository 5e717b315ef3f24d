use Rattle.std.proofs.Common.{◌≡◌, [], Ok, Err, refl, sym, subst, arith}
use Rattle.sf_tick.specs.declared.types.Setup.{Setup}
use Rattle.sf_coded.specs.Progress.{Progress}
use Rattle.sf_entry.specs.TrackSetup.{Makes, made}
use Rattle.sf_world.specs.Views.{Unchanged}
use Rattle.sf_record.specs.Pump.{Stands}
use Rattle.sf_record.proofs.EntryLength.{entry_short}
use Rattle.sf_record.proofs.HeaderSaid.{header_opened}
use Rattle.sf_record.proofs.Opened.{setup_untaken}
use Rattle.sf_record.proofs.headers.pump_of.Goals as goal

pub returns-in-Ok-clause-opened : goal.returns-in-Ok-clause-opened
returns-in-Ok-clause-opened g c =
    let is : made c.args.coded.setup ≡ Ok c.in-Ok.setup = subst (λ (s : Setup). Makes s (Ok c.in-Ok.setup)) c.setup.ensures.setup c.in-Ok.ensures.made in
    let short = entry_short c.args.coded.setup c.in-Ok.setup is c.setup.ensures.bound in
    record {
      given = c.new-pump.ensures.given;
      readable = c.track_is_readable.ensures;
      short = omega (arith, short);
      opens = header_opened c.args.number c.args.options c.args.coded.source.content c.args.coded.setup c.in-Ok.setup c.args.coded.place c.requires.unread is;
      stands = subst (λ (p : Progress). Stands p.source.content [] [] c.new-pump.result) (sym c.new-pump.ensures.coded) c.new-pump.ensures.stands;
      free = c.new-pump.ensures.chunk;
      live = c.new-pump.ensures.gatherer;
      fault = c.new-pump.ensures.fault;
      source = subst (λ (p : Progress). Unchanged c.args.coded.source p.source) (sym c.new-pump.ensures.coded) (record { content = refl; size = refl; later = omega arith });
    }

pub returns-in-Err-clause-untaken : goal.returns-in-Err-clause-untaken
returns-in-Err-clause-untaken g c =
    let makes : Makes c.args.coded.setup (Err c.in-Err.fault) = subst (λ (s : Setup). Makes s (Err c.in-Err.fault)) c.setup.ensures.setup c.in-Err.ensures.made in
    setup_untaken c.args.number c.args.options c.args.coded.source _ c.args.coded.setup c.args.coded.place c.in-Err.fault c.unmade.result c.requires.unread makes c.unmade.ensures.told
