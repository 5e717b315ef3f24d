use Rattle.std.proofs.Common.{rules}
use Rattle.sf_movie.proofs.MovieRead.{entries_of_kept, is_kept, movie_kept, movie_refused}
use Rattle.sf_movie.proofs.movie.movie_in.Goals as goal

pub invariant_of-result : goal.invariant_of-result
invariant_of-result c = is_kept c.samples_one_by_one.ensures.all c.lengths_have_a_width.ensures c.args.moov c.args.at c.args.file_len c.in-Ok.parts c.in-Ok.ensures (search rules)

pub returns-in-Ok-clause-movie : goal.returns-in-Ok-clause-movie
returns-in-Ok-clause-movie c = movie_kept c.args.moov c.args.at c.args.file_len c.in-Ok.parts c.in-Ok.ensures

pub returns-in-Ok-clause-entries : goal.returns-in-Ok-clause-entries
returns-in-Ok-clause-entries c = entries_of_kept c.args.moov c.args.at c.args.file_len c.in-Ok.parts c.in-Ok.ensures

pub returns-in-Err-clause-movie : goal.returns-in-Err-clause-movie
returns-in-Err-clause-movie c = movie_refused c.args.moov c.args.at c.args.file_len c.in-Err.fault c.in-Err.ensures
