use Rattle.std.proofs.Common.{◌≡◌, List, ◌++◌, sym, ap, subst, ◌∙◌}
use Rattle.sf_tick.specs.declared.types.Chunk.{Chunk}
use Rattle.sf_tick.specs.declared.types.Stored.{Stored}
use Rattle.sf_gather.specs.declared.given.Given.{Given}
use Rattle.sf_gather.specs.Chunks.{chunks, closed}
use Rattle.sf_record.proofs.Staying.{chunk_stays}
use Rattle.sf_record.proofs.pump.Pump.take_chunk.Goals as goal

pub returns-clause-stays : goal.returns-clause-stays
returns-clause-stays g c =
    λ accepted taken stands some more.
    let pump = c.args.self.now in
    let held : pump.chunk ≡ c.take.result = sym (ap (λ p. p.chunk) c.self.view_is) ∙ sym c.take.ensures.value in
    let P : Given → Type 0 = λ given. (samples more : List Stored) → (rest : List Chunk) × (chunks given (samples ++ more) ≡ closed given samples ++ rest) in
    chunk_stays _ accepted taken pump c.take.result held (subst P (ap (λ p. p.given) c.self.view_is) c.closed_chunks_stay.ensures) stands some more
