use Rattle.std.proofs.Common.{◌≡◌, List, [], ◌∷◌, ◌++◌, Option, None, Result, Ok, Err, sym}
use Rattle.std.specs.Prelude.{IfOk, OnOk}
use Rattle.std.specs.Option.{option_to_list}
use Rattle.sf_tick.specs.declared.types.Chunk.{Chunk}
use Rattle.sf_tick.specs.declared.types.Stored.{Stored}
use Rattle.sf_gather.specs.Accepting.{not_units, stored_of, time_refusal}
use Rattle.sf_gather.specs.Chunks.{closed}
use Rattle.sf_gather.specs.Gathered.{AfterSample, Gathered, Stands}
use Rattle.sf_gather.specs.Proper.{Follows, Proper}
use Rattle.sf_gather.proofs.Accepted.{accepted_follows, no_refusal}
use Rattle.sf_gather.proofs.Standing.{stands_more, closed_grows, closed_proper}
use Rattle.sf_gather.proofs.gather.Gather.accept.Goals as goal

stands_if : {E : Type 0} (r : Result (Option Chunk) E) (g h : Gathered) (s : Stored) (A : Type 0) → IfOk r (λ chunk. AfterSample g s h chunk) → OnOk r A → (A → Follows g.given.scale g.last s)
    → OnOk r ((samples : List Stored) → Stands samples g → Stands (samples ++ s ∷ []) h)
stands_if (Ok chunk) g h s A after a follows = λ samples stands. stands_more samples g h s chunk after (follows a) stands
stands_if (Err e) g h s A after a follows = tt

grows_if : {E : Type 0} (r : Result (Option Chunk) E) (g h : Gathered) (s : Stored) → IfOk r (λ chunk. AfterSample g s h chunk)
    → IfOk r (λ chunk. (samples : List Stored) → Stands samples g → closed g.given (samples ++ s ∷ []) ≡ closed g.given samples ++ option_to_list chunk)
grows_if (Ok chunk) g h s after = λ samples stands. closed_grows samples g h s chunk after stands
grows_if (Err e) g h s after = tt

proper_if : {E : Type 0} (r : Result (Option Chunk) E) (h : Gathered) → OnOk r ((samples : List Stored) → Stands samples h → Proper h.given.track h.given.scale (closed h.given samples))
proper_if (Ok chunk) h = λ samples stands. closed_proper samples h stands
proper_if (Err e) h = tt

pub returns-clause-stands : goal.returns-clause-stands
returns-clause-stands c =
    let g = c.args.self.now in
    let sample = c.args.sample in
    let times : time_refusal g.given g.last sample ≡ None = rw (← c.self.view_is) (sym c.in-Ok.ensures.refused) in
    stands_if c.put_sample.result g c.put_sample.new.self (stored_of g.given sample) (not_units g.given sample ≡ None) c.put_sample.ensures.ok c.put_sample.ensures.units
    (λ units. accepted_follows g.given g.last sample (no_refusal g.given g.last sample times units) c.requires.some c.requires.size)

pub returns-clause-grows : goal.returns-clause-grows
returns-clause-grows c = grows_if c.put_sample.result c.args.self.now c.put_sample.new.self (stored_of c.args.self.now.given c.args.sample) c.put_sample.ensures.ok

pub returns-clause-proper : goal.returns-clause-proper
returns-clause-proper c = proper_if c.put_sample.result c.put_sample.new.self
