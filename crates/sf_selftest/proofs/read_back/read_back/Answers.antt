use Rattle.std.proofs.Common.{◌≡◌, ℕ, ◌+◌, List, length, map, Some, Ok, sym, ap, subst, ◌∙◌, arith}
use Rattle.std.specs.List.{AllByRecursion}
use Rattle.sf_world.specs.Views.{SourceView}
use Rattle.sf_meaning.specs.Accepted.{IsAccepted}
use Rattle.sf_meaning.specs.Joined.{content}
use Rattle.sf_meaning.specs.Movie.{movie}
use Rattle.sf_meaning.specs.Rows.{held_as}
use Rattle.sf_movie.specs.Loaded.{Loaded}
use Rattle.sf_movie.specs.Loads.{IsWithin}
use Rattle.sf_extract.specs.Current.{unmoved}
use Rattle.sf_extract.specs.Readout.{read_out}
use Rattle.sf_extract.specs.declared.plan.Command.{Command}
use Rattle.sf_make.specs.Generator.{generated_inputs}
use Rattle.sf_reader.specs.Dumps.{told_length}
use Rattle.sf_reader.specs.Extracted.{IsLoaded}
use Rattle.sf_record.specs.Called.{all_said}
use Rattle.sf_record.specs.Said.{usual}
use Rattle.sf_selftest.specs.SelfTest.{whole_plan}
use Rattle.sf_selftest.proofs.Counting.{few_samples, listed_are}
use Rattle.sf_selftest.proofs.MadeFile.{saids_many}
use Rattle.sf_selftest.proofs.ReadWhole.{whole_for}
use Rattle.sf_selftest.proofs.read_back.read_back.Goals as goal

pub loaded-requires : goal.loaded-requires
loaded-requires c = λ file told.
    let own = ap (λ (s : SourceView). s.content) c.new-source.ensures in
    let both : Some c.args.file ≡ Some file = sym own ∙ told in
    let same : c.args.file ≡ file = cc in
    let m : Loaded = c.requires.made.read.loaded in
    (m.movie, subst (λ (b : List ℕ). movie b ≡ Ok m.movie) same c.requires.made.read.is.movie)

pub track_summaries-requires-clause-few : goal.track_summaries-requires-clause-few
track_summaries-requires-clause-few c = λ track.
    let w = c.in_ok-movie.ensures.within in
    few_samples (length c.new-source.result.contents) c.in_ok-movie.movie.movie track (c.accepted_movies.ensures.tracks w.body w.at _ c.in_ok-movie.movie.movie w.movie)

pub returns : goal.returns
returns c =
    let file : List ℕ = c.args.file in
    let count : ℕ = c.args.count in
    let tracks : ℕ = c.args.tracks in
    let made = c.requires.made in
    let m : Loaded = c.in_ok-movie.movie in
    let told = ap (λ (s : SourceView). s.content) c.new-source.ensures in
    let own : c.new-source.result.contents ≡ file = cc in
    let is : IsLoaded file m = c.in_ok-movie.ensures.movie file told in
    let within : IsWithin (length file) m = subst (λ (b : List ℕ). IsWithin (length b) m) own c.in_ok-movie.ensures.within in
    let accepted : AllByRecursion (IsAccepted (length file) m.movie.scale) m.movie.tracks = c.accepted_movies.ensures.tracks within.body within.at (length file) m.movie within.movie in
    let saids = all_said 0 usual (generated_inputs count tracks) in
    record {
      file = file;
      holds = made.holds;
      read = read_out file (whole_plan tracks) (unmoved m);
      is = c.files_are_read_out.ensures file m (whole_plan tracks) is;
      whole = whole_for file (whole_plan tracks) m made.read is;
      dump = c.in_ok-dump.ensures file (c.in_ok-movie.ensures.source ∙ told) m is ∙ ap (λ (p : List Command). told_length (read_out file p (unmoved m)).dump) c.in_ok-plan.ensures;
      tracks_are =
          c.in_ok-summaries.ensures
          ∙ listed_are file m.movie 0 tracks saids (saids_many count tracks) is.movie accepted
          (λ j said at. (let here : j ≡ 0 + j = omega arith in subst (λ (k : ℕ). content file k ≡ Some (map held_as said.samples)) here (made.said j said at)));
    }
