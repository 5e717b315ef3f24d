use Rattle.std.proofs.Common.{◌≡◌, ◌≤◌, ℕ, List, length, map, ap, ◌∙◌, refl, arith}
use Rattle.std.proofs.lemmas.List.{length-map}
use Rattle.sf_world.specs.Views.{ShelfView, SourceView, told_source}
use Rattle.sf_world.specs.declared.sure.SureSource.{SureSource}
use Rattle.sf_make.specs.Generator.{generated_inputs}
use Rattle.sf_selftest.proofs.MadeFile.{KeepsMade, made_by, made_only, outcome_by, sources_long, told_all}
use Rattle.sf_selftest.proofs.made.made_file.Goals as goal

pub record_surely-end-requires-clause-few : goal.record_surely-end-requires-clause-few
record_surely-end-requires-clause-few c =
    let inputs : List (List ℕ) = generated_inputs c.args.count c.args.tracks in
    let seen : List SourceView = map (λ (s : SureSource). told_source s.contents 0) c.in_ok-sources.sources.items in
    let same : seen ≡ map (λ (bytes : List ℕ). told_source bytes 0) inputs = c.in_ok-sources.ensures ∙ ap (λ (l : List (List ℕ)). map (λ (bytes : List ℕ). told_source bytes 0) l) c.in_ok-make_inputs.ensures in
    let long = sources_long c.args.count c.args.tracks seen same in
    let many = length-map c.in_ok-sources.sources.items (λ (s : SureSource). told_source s.contents 0) in
    omega (arith, long, many, c.requires.most)

pub recorded-requires : goal.recorded-requires
recorded-requires c =
    let inputs : List (List ℕ) = generated_inputs c.args.count c.args.tracks in
    let seen : List SourceView = map (λ (s : SureSource). told_source s.contents 0) c.in_ok-sources.sources.items in
    let same : seen ≡ map (λ (bytes : List ℕ). told_source bytes 0) inputs = c.in_ok-sources.ensures ∙ ap (λ (l : List (List ℕ)). map (λ (bytes : List ℕ). told_source bytes 0) l) c.in_ok-make_inputs.ensures in
    outcome_by c.args.count c.args.tracks c.record_surely-end.result.outcome c.in_ok-limits.limits c.in_ok-limits.ensures.limits c.requires.samples c.requires.most
    (c.record_surely-end.ensures.surely inputs (told_all seen inputs same))

pub only_file-requires : goal.only_file-requires
only_file-requires c =
    let inputs : List (List ℕ) = generated_inputs c.args.count c.args.tracks in
    let seen : List SourceView = map (λ (s : SureSource). told_source s.contents 0) c.in_ok-sources.sources.items in
    let same : seen ≡ map (λ (bytes : List ℕ). told_source bytes 0) inputs = c.in_ok-sources.ensures ∙ ap (λ (l : List (List ℕ)). map (λ (bytes : List ℕ). told_source bytes 0) l) c.in_ok-make_inputs.ensures in
    let k : KeepsMade c.args.count c.args.tracks _ =
    made_by c.args.count c.args.tracks c.in_ok-limits.limits seen _ _ _ c.record_surely-end.result.report c.requires.samples c.requires.most c.in_ok-limits.ensures.limits (ap (λ (s : ShelfView). s.files) c.new-shelf.ensures)
    (c.record_surely-end.ensures.said inputs (told_all seen inputs same) c.in_ok-recorded.ensures) in
    (k.file, k.kept)

pub returns : goal.returns
returns c =
    let inputs : List (List ℕ) = generated_inputs c.args.count c.args.tracks in
    let seen : List SourceView = map (λ (s : SureSource). told_source s.contents 0) c.in_ok-sources.sources.items in
    let same : seen ≡ map (λ (bytes : List ℕ). told_source bytes 0) inputs = c.in_ok-sources.ensures ∙ ap (λ (l : List (List ℕ)). map (λ (bytes : List ℕ). told_source bytes 0) l) c.in_ok-make_inputs.ensures in
    let k : KeepsMade c.args.count c.args.tracks _ =
    made_by c.args.count c.args.tracks c.in_ok-limits.limits seen _ _ _ c.record_surely-end.result.report c.requires.samples c.requires.most c.in_ok-limits.ensures.limits (ap (λ (s : ShelfView). s.files) c.new-shelf.ensures)
    (c.record_surely-end.ensures.said inputs (told_all seen inputs same) c.in_ok-recorded.ensures) in
    made_only c.args.count c.args.tracks _ c.only_file.result k c.only_file.ensures
