-- The totals stay those of the samples and of the chunks as more are added.
use Rattle.std.proofs.Common.{◌≡◌, ℕ, ◌^◌, ◌==◌, nat_lt, nat_le, List, [], ◌∷◌, ◌++◌, length, map, sym, ◌∙◌, append_assoc, arith}
use Rattle.std.proofs.lemmas.List.{append-nil, length-append, length-map, map-append}
use Rattle.sf_meaning.specs.Stbl.{Timed, offset_word, offset_words}
use Rattle.sf_tables.specs.declared.totals.SampleTotals.{SampleTotals}
use Rattle.sf_tables.specs.declared.totals.ChunkTotals.{ChunkTotals}
use Rattle.sf_tables.specs.inner.Totals.{CountsSamples, CountsChunks, after_sample, after_samples, after_chunk}
use Rattle.sf_tables.proofs.Backs.{last_more, runs_with, delta_with, sum_with, delta_runs_with, size_with, all_with, syncs_more, spreads_more}

pub counts_sample : (t : SampleTotals) (ss : List Timed) (s : Timed) → CountsSamples t ss → CountsSamples (after_sample t s) (ss ++ s ∷ [])
counts_sample t ss s c =
    let ticks : List ℕ = map (λ (x : Timed). x.decode) ss in
    let ticks_are : map (λ (x : Timed). x.decode) (ss ++ s ∷ []) ≡ ticks ++ s.decode ∷ [] = map-append (λ (x : Timed). x.decode) ss (s ∷ []) in
    let words_are : offset_words (ss ++ s ∷ []) ≡ offset_words ss ++ offset_word s ∷ [] = map-append offset_word ss (s ∷ []) in
    let sizes_are : map (λ (x : Timed). x.size) (ss ++ s ∷ []) ≡ map (λ (x : Timed). x.size) ss ++ s.size ∷ [] = map-append (λ (x : Timed). x.size) ss (s ∷ []) in
    let n_ticks : t.count ≡ length ticks = c.count ∙ sym (length-map ss (λ (x : Timed). x.decode)) in
    let n_words : t.count ≡ length (offset_words ss) = c.count ∙ sym (length-map ss offset_word) in
    let n_sizes : t.count ≡ length (map (λ (x : Timed). x.size) ss) = c.count ∙ sym (length-map ss (λ (x : Timed). x.size)) in
    record {
      count = omega (arith, c.count, length-append ss (s ∷ []));
      decode = rw ticks_are (sym (last_more 0 s.decode ticks));
      delta = rw ticks_are (delta_with t.count t.decode s.decode ticks n_ticks c.decode);
      delta_runs = rw ticks_are (delta_runs_with t.count t.decode t.delta t.delta_runs s.decode ticks n_ticks c.decode c.delta c.delta_runs);
      duration = rw ticks_are (sum_with t.count t.decode t.closed t.delta s.decode ticks n_ticks c.decode c.delta c.duration);
      offset = rw words_are (sym (last_more 0 (offset_word s) (offset_words ss)));
      offset_runs = rw words_are (runs_with t.count t.offset_runs t.offset (offset_word s) (offset_words ss) n_words c.offset_runs c.offset);
      in_time = all_with (λ (x : Timed). x.compose == x.decode) t.in_time s ss c.in_time;
      none_early = all_with (λ (x : Timed). nat_le x.decode x.compose) t.none_early s ss c.none_early;
      all_sync = all_with (λ (x : Timed). x.sync) t.all_sync s ss c.all_sync;
      syncs = rw c.syncs (sym (syncs_more 1 s ss));
      size = rw sizes_are (size_with t.count t.size s.size (map (λ (x : Timed). x.size) ss) n_sizes c.size);
    }

pub counts_samples : (t : SampleTotals) (ss more : List Timed) → CountsSamples t ss → CountsSamples (after_samples t more) (ss ++ more)
counts_samples t ss [] c = rw append-nil c
counts_samples t ss (s ∷ more) c =
    rw (sym (append_assoc ss (s ∷ []) more)) (counts_samples (after_sample t s) (ss ++ s ∷ []) more (counts_sample t ss s c))

pub counts_chunk : (t : ChunkTotals) (places counts : List ℕ) (place count : ℕ) → CountsChunks t places counts
    → CountsChunks (after_chunk t place count) (places ++ place ∷ []) (counts ++ count ∷ [])
counts_chunk t places counts place count c =
    record {
      chunks = omega (arith, c.chunks, length-append places (place ∷ []));
      last_count = sym (last_more 0 count counts);
      spreads = rw (c.spreads, c.last_count) (sym (spreads_more 1 0 count counts));
      near = all_with (λ p. nat_lt p (2 ^ 32)) t.near place places c.near;
    }
