-- Proper lists cut in two, and made longer by a chunk.
use Rattle.std.proofs.Common.{◌≡◌, ℕ, ◌+◌, false, List, [], ◌∷◌, ◌++◌, length, None, refl, ap, ◌∙◌, append-nil, arith}
use Rattle.std.proofs.lemmas.List.Concat.{flat_map-append}
use Rattle.sf_tick.specs.Samples.{samples_of}
use Rattle.sf_tick.specs.declared.types.Stored.{Stored}
use Rattle.sf_tick.specs.declared.types.Chunk.{Chunk}
use Rattle.sf_gather.specs.Proper.{AllFollow, IsChunk, AreChunks, OnlyLastMarked, Proper, ends_marked, tail_of, Extends}
use Rattle.sf_gather.proofs.Accepted.{follow_append, append_follows}

samples_append : (cs ds : List Chunk) → samples_of (cs ++ ds) ≡ samples_of cs ++ samples_of ds
samples_append cs ds = flat_map-append (λ (c : Chunk). c.samples) cs ds

are_append : (t n : ℕ) (cs ds : List Chunk) → AreChunks t n (cs ++ ds) → AreChunks t n cs × AreChunks t (n + length cs) ds
are_append t n [] ds all = (tt, let e : n + 0 ≡ n = omega arith in rw e all)
are_append t n (c ∷ cs) ds all =
    let more = are_append t (n + 1) cs ds all.1 in
    let e : n + length (c ∷ cs) ≡ (n + 1) + length cs = omega arith in
    ((all.0, more.0), rw e more.1)

append_are : (t n : ℕ) (cs : List Chunk) (d : Chunk) → AreChunks t n cs → IsChunk t (n + length cs) d → AreChunks t n (cs ++ d ∷ [])
append_are t n [] d all one = (let e : n ≡ n + 0 = omega arith in rw e one, tt)
append_are t n (c ∷ cs) d all one =
    let e : (n + 1) + length cs ≡ n + length (c ∷ cs) = omega arith in
    (all.0, append_are t (n + 1) cs d all.1 (rw e one))

marks_front : (cs ds : List Chunk) → OnlyLastMarked (cs ++ ds) → OnlyLastMarked cs
marks_front [] ds all = tt
marks_front (c ∷ []) ds all = tt
marks_front (c ∷ d ∷ cs) ds all = (all.0, marks_front (d ∷ cs) ds all.1)

marks_open : (cs : List Chunk) (d : Chunk) → OnlyLastMarked (cs ++ d ∷ []) → ends_marked cs ≡ false
marks_open [] d all = refl
marks_open (c ∷ []) d all = all.0
marks_open (c ∷ e ∷ cs) d all = marks_open (e ∷ cs) d all.1

marks_more : (cs : List Chunk) (d : Chunk) → OnlyLastMarked cs → ends_marked cs ≡ false → OnlyLastMarked (cs ++ d ∷ [])
marks_more [] d all e = tt
marks_more (c ∷ []) d all e = (e, tt)
marks_more (c ∷ f ∷ cs) d all e = (all.0, marks_more (f ∷ cs) d all.1 e)

-- a front of a proper list is proper
pub proper_front : (track scale : ℕ) (cs ds : List Chunk) → Proper track scale (cs ++ ds) → Proper track scale cs
proper_front track scale cs ds proper =
    let samples : AllFollow scale None (samples_of cs ++ samples_of ds) = rw samples_append at proper.samples in
    record {
      each = (are_append track 0 cs ds proper.each).0;
      mark = marks_front cs ds proper.mark;
      samples = (follow_append scale None (samples_of cs) (samples_of ds) samples).0;
    }

-- a chunk of a proper list extends the ones before
pub proper_extends : (track scale : ℕ) (cs : List Chunk) (d : Chunk) → Proper track scale (cs ++ d ∷ []) → Extends track scale (tail_of cs) d
proper_extends track scale cs d proper =
    let join : samples_of (cs ++ d ∷ []) ≡ samples_of cs ++ d.samples = samples_append cs (d ∷ []) ∙ ap (λ (ss : List Stored). samples_of cs ++ ss) (append-nil d.samples) in
    let samples : AllFollow scale None (samples_of cs ++ d.samples) = rw join at proper.samples in
    let zero_more : 0 + length cs ≡ length cs = omega arith in
    record {
      goes_on = marks_open cs d proper.mark;
      itself = rw zero_more at (are_append track 0 cs (d ∷ []) proper.each).1.0;
      samples = (follow_append scale None (samples_of cs) d.samples samples).1;
    }

-- a proper list and a chunk that extends it
pub extended_proper : (track scale : ℕ) (cs : List Chunk) (d : Chunk) → Proper track scale cs → Extends track scale (tail_of cs) d → Proper track scale (cs ++ d ∷ [])
extended_proper track scale cs d proper more =
    let join : samples_of (cs ++ d ∷ []) ≡ samples_of cs ++ d.samples = samples_append cs (d ∷ []) ∙ ap (λ (ss : List Stored). samples_of cs ++ ss) (append-nil d.samples) in
    let zero_more : 0 + length cs ≡ length cs = omega arith in
    record {
      each = append_are track 0 cs d proper.each (rw zero_more more.itself);
      mark = marks_more cs d proper.mark more.goes_on;
      samples = rw join (append_follows scale None (samples_of cs) d.samples proper.samples more.samples);
    }
