-- For which lists a gatherer stands after a sample.
use Rattle.std.proofs.Common.{◌≡◌, ◌+◌, Bool, true, false, cond, List, [], ◌∷◌, ◌++◌, Option, Some, None, refl, sym, ap, ◌∙◌}
use Rattle.std.specs.Option.{option_to_list}
use Rattle.std.proofs.lemmas.List.{append_cancel_left}
use Rattle.sf_tick.specs.declared.types.Stored.{Stored}
use Rattle.sf_tick.specs.declared.types.Chunk.{Chunk}
use Rattle.sf_gather.specs.Accepting.{kept_of, last_of}
use Rattle.sf_gather.specs.Chunks.{belongs, chunk_of, chunks, closed, marked}
use Rattle.sf_gather.specs.Proper.{Follows, Proper}
use Rattle.sf_gather.specs.Gathered.{Gathered, Stands, AfterSample, grown, begun}
use Rattle.sf_gather.proofs.Accepted.{follow_more, last_from-append}
use Rattle.sf_gather.proofs.Growing.{closed_from, open_from, next_open, closes, chunks_split, open_more, closed_more, open_unmarked, closed_is}
use Rattle.sf_gather.proofs.ProperLists.{chunks_proper}
use Rattle.sf_gather.proofs.Tails.{proper_front}

same_marked : (c d : Chunk) → marked c ≡ marked d → c.last ≡ false → d.last ≡ false → c ≡ d
same_marked c d e p q =
    let c_is : record c { last = false } ≡ c = ap (λ (b : Bool). record c { last = b }) (sym p) in
    let d_is : record d { last = false } ≡ d = ap (λ (b : Bool). record d { last = b }) (sym q) in
    sym c_is ∙ ap (λ (m : Chunk). record m { last = false }) e ∙ d_is

-- the chunk of a gatherer is the last one of its samples
chunk_is : (samples : List Stored) (g : Gathered) → Stands samples g → g.chunk ≡ open_from g.given 0 [] samples
chunk_is samples g stands =
    let split : chunks g.given samples ≡ closed g.given samples ++ marked (open_from g.given 0 [] samples) ∷ [] =
    chunks_split g.given 0 [] samples ∙ ap (λ (cs : List Chunk). cs ++ marked (open_from g.given 0 [] samples) ∷ []) (sym (closed_is g.given samples)) in
    let ends : marked g.chunk ∷ [] ≡ marked (open_from g.given 0 [] samples) ∷ [] = append_cancel_left (closed g.given samples) _ _ (sym stands.chunks ∙ split) in
    same_marked g.chunk (open_from g.given 0 [] samples) (cc) stands.unmarked (open_unmarked g.given 0 [] samples)

after_if : (b : Bool) (g : Gathered) (s : Stored)
    → cond b (grown g s) (begun g s) ≡ record { given = g.given; chunk = cond b (chunk_of g.given g.chunk.number false (g.chunk.samples ++ s ∷ [])) (chunk_of g.given (g.chunk.number + 1) false (s ∷ [])); last = Some (kept_of s) }
after_if true g s = refl
after_if false g s = refl

-- what the gatherer is after a sample
abbrev behind : Gathered → Stored → Gathered
behind g s = record { given = g.given; chunk = next_open g.given g.chunk s; last = Some (kept_of s) }

stands_behind : (samples : List Stored) (g : Gathered) (s : Stored) → Stands samples g → Follows g.given.scale (last_of samples) s → Stands (samples ++ s ∷ []) (behind g s)
stands_behind samples g s stands follows =
    let chunk : next_open g.given g.chunk s ≡ open_from g.given 0 [] (samples ++ s ∷ []) =
    ap (λ (c : Chunk). next_open g.given c s) (chunk_is samples g stands) ∙ sym (open_more g.given 0 [] samples s) in
    record {
      accepted = follow_more g.given.scale None samples s stands.accepted follows;
      chunks = chunks_split g.given 0 [] (samples ++ s ∷ [])
          ∙ ap (λ (cs : List Chunk). cs ++ marked (open_from g.given 0 [] (samples ++ s ∷ [])) ∷ []) (sym (closed_is g.given (samples ++ s ∷ [])))
          ∙ ap (λ (c : Chunk). closed g.given (samples ++ s ∷ []) ++ marked c ∷ []) (sym chunk);
      unmarked = ap (λ (c : Chunk). c.last) chunk ∙ open_unmarked g.given 0 [] (samples ++ s ∷ []);
      last = sym (last_from-append None samples (s ∷ []));
    }

-- a gatherer stands for its samples with one more that it takes
pub stands_more : (samples : List Stored) (g h : Gathered) (s : Stored) (chunk : Option Chunk) → AfterSample g s h chunk → Follows g.given.scale g.last s → Stands samples g → Stands (samples ++ s ∷ []) h
stands_more samples g h s chunk after follows stands =
    let last : g.last ≡ last_of samples = stands.last in
    rw (after.after, after_if) (stands_behind samples g s stands (rw last at follows))

handed_if : (b : Bool) (c : Chunk) → cond b [] (c ∷ []) ≡ option_to_list (cond b None (Some c))
handed_if true c = refl
handed_if false c = refl

-- the chunk that is handed out is the one by which the closed chunks grow
pub closed_grows : (samples : List Stored) (g h : Gathered) (s : Stored) (chunk : Option Chunk) → AfterSample g s h chunk → Stands samples g
    → closed g.given (samples ++ s ∷ []) ≡ closed g.given samples ++ option_to_list chunk
closed_grows samples g h s chunk after stands =
    closed_is g.given (samples ++ s ∷ [])
    ∙ closed_more g.given 0 [] samples s
    ∙ ap (λ (c : Chunk). closed_from g.given 0 [] samples ++ closes g.given c s) (sym (chunk_is samples g stands))
    ∙ ap (λ (cs : List Chunk). cs ++ closes g.given g.chunk s) (sym (closed_is g.given samples))
    ∙ ap (λ (cs : List Chunk). closed g.given samples ++ cs) (handed_if (belongs g.given g.chunk.samples s) g.chunk ∙ ap option_to_list (sym after.handed))

-- the chunks of a gatherer's samples are proper
pub stands_proper : (samples : List Stored) (g : Gathered) → Stands samples g → Proper g.given.track g.given.scale (chunks g.given samples)
stands_proper samples g stands = chunks_proper g.given samples stands.accepted

-- and those that it has handed out
pub closed_proper : (samples : List Stored) (g : Gathered) → Stands samples g → Proper g.given.track g.given.scale (closed g.given samples)
closed_proper samples g stands =
    let whole : chunks g.given samples ≡ closed g.given samples ++ marked g.chunk ∷ [] = stands.chunks in
    proper_front g.given.track g.given.scale (closed g.given samples) (marked g.chunk ∷ []) (rw whole at (stands_proper samples g stands))
