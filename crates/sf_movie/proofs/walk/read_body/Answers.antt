use Rattle.std.proofs.Common.{◌≡◌, ◌-◌, length, drop, rules, ◌∙◌}
use Rattle.std.proofs.lemmas.List.{take_at}
use Rattle.sf_movie.proofs.MovieBoxes.{body_told}
use Rattle.sf_movie.proofs.walk.read_body.Goals as goal

pub returns-in-Ok-read_at-clause-body : goal.returns-in-Ok-read_at-clause-body
returns-in-Ok-read_at-clause-body g c =
    λ file told.
    let buffer = c.read_at.new.into in
    let len : length buffer ≡ length c.deref_mut.result.now = c.read_at.auto.into in
    let held : length buffer ≡ c.in-Ok.body.len = len ∙ c.deref_mut.ensures.len in
    let size : length buffer ≡ c.args.head.size - c.args.head.head = held ∙ c.in-Ok.ensures.len in
    c.from_vec.ensures ∙ take_at buffer (drop (length buffer) c.in-Ok.body.items) c.in-Ok.body.len held
    ∙ body_told (g.S.Source.seen c.args.source.now).content c.args.head (g.S.Source.seen c.args.source.now).size c.in-Ok-read_at.field-0 buffer file (search rules)
    c.in-Ok-read_at.ensures.bytes (rw len c.in-Ok-read_at.ensures.count) size told
