-- What a pump handed out stays, whatever samples follow.
use Rattle.std.proofs.Common.{◌≡◌, ℕ, List, ◌++◌, Option, Some, None, IsSome, sym, ap, ◌∙◌}
use Rattle.std.specs.Option.{option_to_list}
use Rattle.sf_tick.specs.declared.types.Chunk.{Chunk}
use Rattle.sf_tick.specs.declared.types.Stored.{Stored}
use Rattle.sf_gather.specs.Chunks.{chunks, closed}
use Rattle.sf_gather.specs.Gathered.{Gathered}
use Rattle.sf_record.specs.Pump.{Pumping, Stands, Works, given_chunks}

-- until the last chunk is made, the chunks that a pump gave are the first ones, whatever samples follow
gave_stays : (contents : Option (List ℕ)) (accepted : List Stored) (gave : List Chunk) (pump : Pumping) (gatherer : Option Gathered)
    → Works contents accepted gave pump gatherer → IsSome gatherer → ((samples more : List Stored) → (rest : List Chunk) × (chunks pump.given (samples ++ more) ≡ closed pump.given samples ++ rest))
    → (more : List Stored) → (rest : List Chunk) × (chunks pump.given (accepted ++ more) ≡ gave ++ rest)
gave_stays contents accepted gave pump None works some law more = cc some
gave_stays contents accepted gave pump (Some gatherer) works some law more =
    let first = law accepted more in
    (first.0, first.1 ∙ ap (λ (cs : List Chunk). cs ++ first.0) (sym works.chunks))

-- the same with the chunk that it holds, which is taken
pub chunk_stays : (contents : Option (List ℕ)) (accepted : List Stored) (taken : List Chunk) (pump : Pumping) (chunk : Option Chunk)
    → pump.chunk ≡ chunk → ((samples more : List Stored) → (rest : List Chunk) × (chunks pump.given (samples ++ more) ≡ closed pump.given samples ++ rest))
    → Stands contents accepted taken pump → IsSome pump.gatherer
    → (more : List Stored) → (rest : List Chunk) × (chunks pump.given (accepted ++ more) ≡ (taken ++ option_to_list chunk) ++ rest)
chunk_stays contents accepted taken pump chunk e law stands some more =
    let first = gave_stays contents accepted (given_chunks taken pump) pump pump.gatherer stands.works some law more in
    (first.0, first.1 ∙ ap (λ (held : Option Chunk). (taken ++ option_to_list held) ++ first.0) e)
