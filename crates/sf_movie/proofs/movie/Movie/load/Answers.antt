use Rattle.std.proofs.Common.{◌≡◌, ◌⊎◌, ◌+◌, Err, inl, inr, rules, sym, ap, ◌∙◌, arith, ℕ}
use Rattle.sf_meaning.specs.Movie.{movie, movie_in}
use Rattle.sf_meaning.specs.declared.faults.MovieFault.TheVariants as movies
use Rattle.sf_movie.specs.Loaded.{Loaded}
use Rattle.sf_movie.specs.Loads.{Reads}
use Rattle.sf_movie.proofs.MovieBoxes.{entries_found, fault_told, movie_found, movie_wrong, told_length}
use Rattle.sf_movie.proofs.movie.Movie.load.Goals as goal

pub returns-in_err-moov-clause-reads : goal.returns-in_err-moov-clause-reads
returns-in_err-moov-clause-reads g c =
    λ file told.
    let stop : Reads {A = Loaded} (λ m. m.movie) (Err c.in_err-moov.field-0.0) (movie file) = movie_wrong file c.in_err-moov.field-0.0 (c.in_err-moov.ensures.reads file told) in
    search (rules, stop)

pub movie_in-requires : goal.movie_in-requires
movie_in-requires g c =
    omega (arith, c.in_ok-body.ensures.length, c.in_ok-moov.ensures.fits.ends, c.length-end.type_inv)

pub returns-in-Ok-clause-reads : goal.returns-in-Ok-clause-reads
returns-in-Ok-clause-reads g c =
    λ file told.
    movie_found file c.in_ok-body.body c.in_ok-moov.moov c.length-end.result _ (c.in_ok-moov.ensures.reads file told)
    (c.in_ok-body.ensures.body file (c.in_ok-moov.ensures.source.content ∙ told))
    (told_length (g.S.Source.seen c.args.source.now).content c.length-end.result file c.length-end.ensures.told told) c.in-Ok.ensures.movie

pub returns-in-Ok-clause-entries : goal.returns-in-Ok-clause-entries
returns-in-Ok-clause-entries g c =
    λ file told.
    entries_found file c.in_ok-body.body c.in_ok-moov.moov _ (c.in_ok-moov.ensures.reads file told)
    (c.in_ok-body.ensures.body file (c.in_ok-moov.ensures.source.content ∙ told)) c.in-Ok.ensures.entries

pub returns-in-Ok-clause-within : goal.returns-in-Ok-clause-within
returns-in-Ok-clause-within g c =
    record {
      body = c.in_ok-body.body;
      at = c.in_ok-moov.moov.at + c.in_ok-moov.moov.head;
      ends = omega (arith, c.in_ok-body.ensures.length, c.in_ok-moov.ensures.fits.ends, c.length-end.ensures.length);
      short = omega (arith, c.in_ok-body.ensures.length, c.in_ok-moov.ensures.short);
      movie = ap (λ (n : ℕ). movie_in c.in_ok-body.body (c.in_ok-moov.moov.at + c.in_ok-moov.moov.head) n) (sym c.length-end.ensures.length) ∙ c.in-Ok.ensures.movie;
      entries = c.in-Ok.ensures.entries;
    }

pub returns-in-Err-clause-reads : goal.returns-in-Err-clause-reads
returns-in-Err-clause-reads g c =
    λ file told.
    let found : movie_in c.in_ok-body.body (c.in_ok-moov.moov.at + c.in_ok-moov.moov.head) c.length-end.result ≡ Err c.in-Err.fault → movie file ≡ Err c.in-Err.fault =
    λ said. movie_found file c.in_ok-body.body c.in_ok-moov.moov c.length-end.result _ (c.in_ok-moov.ensures.reads file told)
    (c.in_ok-body.ensures.body file (c.in_ok-moov.ensures.source.content ∙ told))
    (told_length (g.S.Source.seen c.args.source.now).content c.length-end.result file c.length-end.ensures.told told) said in
    fault_told file c.in-Err.fault c.load_fault.result c.load_fault.ensures.is c.load_fault.ensures.no_memory
    (elim c.in-Err.ensures.movie as (λ _. (c.in-Err.fault ≡ movies.NoMemory) ⊎ (movie file ≡ Err c.in-Err.fault)) [ inl n ↦ inl n | inr said ↦ inr (found said) ])
