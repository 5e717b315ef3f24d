use Rattle.std.proofs.Common.{ℕ, ◌≡◌, ◌+◌, ◌≤◌, ◌∷◌, [], ◌++◌, List, length, drop, sym, ap, subst, ◌∙◌, arith, rules}
use Rattle.std.proofs.lemmas.List.{drop_all}
use Rattle.sf_meaning.specs.declared.movie.PlainSample.{PlainSample}
use Rattle.sf_app.specs.ListText.{sample_line, sample_lines}
use Rattle.sf_app.proofs.Gathering.{Going, err_is, going_first, going_on, going_end, going_quiet, going_stop}
use Rattle.sf_app.proofs.list_text.put_samples.Goals as goal
use Rattle.sf_app.specs.inner.Listing.{track_at}
use Rattle.sf_app.proofs.Listing.{count_told, sample_told}
use Rattle.sf_world.specs.Views.{SinkView}
use Rattle.sf_world.specs.declared.failures.Denied.{Denied}
use Rattle.sf_app.specs.inner.Gathered.{Stops, Takes}

-- the lines of the samples that are left
next_line : (track i : ℕ) (samples : List PlainSample) (s : PlainSample) → drop i samples ≡ s ∷ drop (i + 1) samples
    → sample_lines track i (drop i samples) ≡ sample_line track i s ++ sample_lines track (i + 1) (drop (i + 1) samples)
unfolding sample_lines
next_line track i samples s e = ap (sample_lines track i) e

no_lines : (track i : ℕ) (samples : List PlainSample) → length samples ≤ i → sample_lines track i (drop i samples) ≡ []
unfolding sample_lines
no_lines track i samples le = ap (sample_lines track i) (drop_all i samples le)

-- one line further
pub on : (track i : ℕ) (samples : List PlainSample) (s : PlainSample) (line all : List ℕ) (t t' t'' : SinkView) (g g' g'' : List ℕ)
    → drop i samples ≡ s ∷ drop (i + 1) samples → line ≡ sample_line track i s
    → Going all (sample_lines track i (drop i samples)) t g t' g' → Takes line t' g' t'' g''
    → Going all (sample_lines track (i + 1) (drop (i + 1) samples)) t g t'' g''
on track i samples s line all t t' t'' g g' g'' split is x y =
    going_on all line (sample_lines track (i + 1) (drop (i + 1) samples)) t t' t'' g g' g''
    (subst (λ (rest : List ℕ). Going all rest t g t' g') (next_line track i samples s split ∙ ap (λ (l : List ℕ). l ++ sample_lines track (i + 1) (drop (i + 1) samples)) (sym is)) x) y

stop : (track i : ℕ) (samples : List PlainSample) (s : PlainSample) (line all : List ℕ) (denied : Denied) (t t' t'' : SinkView) (g g' : List ℕ)
    → t.faults ≤ t'.faults → drop i samples ≡ s ∷ drop (i + 1) samples → line ≡ sample_line track i s
    → Going all (sample_lines track i (drop i samples)) t g t' g' → Stops (g' ++ line) denied t' t'' → Stops (g ++ all) denied t t''
stop track i samples s line all denied t t' t'' g g' later split is x y =
    going_stop all line (sample_lines track (i + 1) (drop (i + 1) samples)) denied t t' t'' g g' later
    (subst (λ (rest : List ℕ). Going all rest t g t' g') (next_line track i samples s split ∙ ap (λ (l : List ℕ). l ++ sample_lines track (i + 1) (drop (i + 1) samples)) (sym is)) x) y

pub loop-number-init : goal.loop-number-init
loop-number-init g c = record {
  later = omega arith;
  going = going_first (sample_lines c.args.track 0 (track_at c.args.movie.now.movie c.args.track).samples) (g.T.Sink.seen c.args.text.now) c.args.gathered.now;
}

pub loop-number-preserved : goal.loop-number-preserved
loop-number-preserved g c =
    let samples : List PlainSample = (track_at c.args.movie.now.movie c.args.track).samples in
    let s : PlainSample = c.sample.result in
    record {
      later = omega (arith, c.loop-number.invariant.later, c.put_line.ensures.later);
      going = on c.args.track c.loop-number.number samples s c.as_str.result.now (sample_lines c.args.track 0 samples)
          (g.T.Sink.seen c.args.text.now) (g.T.Sink.seen c.loop-number.text) (g.T.Sink.seen c.put_line.new.text)
          c.args.gathered.now c.loop-number.gathered c.put_line.new.gathered
          (sample_told c.args.movie.now.movie c.args.track c.loop-number.number s c.requires c.sample.ensures.sample)
          (c.as_str.ensures.value ∙ c.in_ok-sample_line.ensures) c.loop-number.invariant.going c.in_ok-put_line.ensures.ok;
    }

pub returns-in_err-sample_line-clause-err : goal.returns-in_err-sample_line-clause-err
returns-in_err-sample_line-clause-err g c =
    let quiet = going_quiet _ _ _ _ _ _ c.loop-number.invariant.later c.loop-number.invariant.going in
    search (rules, quiet)

pub returns-in_err-put_line-clause-err : goal.returns-in_err-put_line-clause-err
returns-in_err-put_line-clause-err g c =
    let samples : List PlainSample = (track_at c.args.movie.now.movie c.args.track).samples in
    let s : PlainSample = c.sample.result in
    err_is _ _ _ c.from_residual-in_err-put_line.ensures.1
    (stop c.args.track c.loop-number.number samples s c.as_str.result.now (sample_lines c.args.track 0 samples) _
    (g.T.Sink.seen c.args.text.now) (g.T.Sink.seen c.loop-number.text) (g.T.Sink.seen c.put_line.new.text)
    c.args.gathered.now c.loop-number.gathered c.loop-number.invariant.later
    (sample_told c.args.movie.now.movie c.args.track c.loop-number.number s c.requires c.sample.ensures.sample)
    (c.as_str.ensures.value ∙ c.in_ok-sample_line.ensures) c.loop-number.invariant.going c.in_err-put_line.ensures.err)

pub returns-clause-ok : goal.returns-clause-ok
returns-clause-ok g c =
    let samples : List PlainSample = (track_at c.args.movie.now.movie c.args.track).samples in
    let count : c.count-number-end.result ≡ length samples = count_told c.args.movie.now.movie c.args.track c.count-number-end.result c.requires c.count-number-end.ensures in
    going_end _ _ _ _ _
    (subst (λ (rest : List ℕ). Going (sample_lines c.args.track 0 samples) rest (g.T.Sink.seen c.args.text.now) c.args.gathered.now (g.T.Sink.seen c.loop-number.text) c.loop-number.gathered)
    (no_lines c.args.track c.loop-number.number samples (omega (arith, count, c.loop-number-test.false))) c.loop-number.invariant.going)
