use Rattle.sf_file.proofs.Holdable.{holdable_writable}
use Rattle.sf_file.proofs.laws.closed_file_means.Goals as goal

pub returns-clause-means : goal.returns-clause-means
returns-clause-means c = λ setups chunks t h. c.layouts_are_read_back.ensures.one setups chunks t (holdable_writable setups chunks h)

pub returns-clause-movie : goal.returns-clause-movie
returns-clause-movie c = λ setups chunks h. c.layout_is_movie.ensures.movie setups chunks (holdable_writable setups chunks h)

pub returns-clause-content : goal.returns-clause-content
returns-clause-content c = λ setups chunks t h. c.layout_is_movie.ensures.content setups chunks t (holdable_writable setups chunks h)

pub returns-clause-begins : goal.returns-clause-begins
returns-clause-begins c = λ setups chunks t h. c.layout_is_movie.ensures.begins setups chunks t (holdable_writable setups chunks h)

pub returns-clause-groups : goal.returns-clause-groups
returns-clause-groups c = λ setups chunks t h. c.layout_is_movie.ensures.groups setups chunks t (holdable_writable setups chunks h)
