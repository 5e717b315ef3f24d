use Rattle.std.proofs.Common.{◌≡◌, ℕ, List, [], ◌∷◌, ◌++◌, length, codes, sym, ap, subst, ◌∙◌, refl}
use Rattle.sf_extract.specs.Current.{unmoved}
use Rattle.sf_extract.specs.Readout.{read_out}
use Rattle.sf_extract.specs.declared.plan.Command.{Command}
use Rattle.sf_reader.specs.Dumps.{told_length}
use Rattle.sf_reader.specs.Extracted.{IsLoaded}
use Rattle.sf_selftest.specs.inner.Made.{IsReadWhole}
use Rattle.sf_selftest.proofs.ReadWhole.{ends_done, length_told, never_rose}
use Rattle.sf_selftest.proofs.read_back.dump_length.Goals as goal

pub extracted-requires : goal.extracted-requires
extracted-requires c =
    let bytes : List ℕ = c.args.source.contents in
    let one : c.push_reserved.new.self.items ≡ c.args.plan ∷ [] = c.push_reserved.ensures.items ∙ ap (λ (ps : List (List Command)). ps ++ c.args.plan ∷ []) c.in_ok-plans.ensures.items in
    ends_done bytes (codes "make") c.push_reserved.new.self.items c.args.plan c.extract_direct-end.result.outcome c.extract_direct-end.result.dumps _ _ one
    (c.extract_direct-end.ensures.extracted bytes refl) (c.requires bytes refl) (λ e. never_rose (c.extract_direct-end.ensures.read e)) (λ e. never_rose (c.extract_direct-end.ensures.write e))

pub only_length-requires : goal.only_length-requires
only_length-requires c =
    let bytes : List ℕ = c.args.source.contents in
    let w : IsReadWhole c.args.plan bytes = c.requires bytes refl in
    let one : c.push_reserved.new.self.items ≡ c.args.plan ∷ [] = c.push_reserved.ensures.items ∙ ap (λ (ps : List (List Command)). ps ++ c.args.plan ∷ []) c.in_ok-plans.ensures.items in
    let told = length_told bytes (codes "make") c.push_reserved.new.self.items c.args.plan c.extract_direct-end.result.outcome c.extract_direct-end.result.dumps _ _ w.loaded one c.in_ok-extracted.ensures
    (c.extract_direct-end.ensures.extracted bytes refl) w.is in
    ap (λ (l : List ℕ). length l) (c.as_slice.ensures ∙ told)

pub returns : goal.returns
returns c = λ file is m loaded.
    let bytes : List ℕ = c.args.source.contents in
    let same : bytes ≡ file = cc in
    let own : IsLoaded bytes m = subst (λ (b : List ℕ). IsLoaded b m) (sym same) loaded in
    let one : c.push_reserved.new.self.items ≡ c.args.plan ∷ [] = c.push_reserved.ensures.items ∙ ap (λ (ps : List (List Command)). ps ++ c.args.plan ∷ []) c.in_ok-plans.ensures.items in
    let told = length_told bytes (codes "make") c.push_reserved.new.self.items c.args.plan c.extract_direct-end.result.outcome c.extract_direct-end.result.dumps _ _ m one c.in_ok-extracted.ensures
    (c.extract_direct-end.ensures.extracted bytes refl) own in
    let both : c.only_length.result ∷ [] ≡ told_length (read_out bytes c.args.plan (unmoved m)).dump ∷ [] = sym c.only_length.ensures ∙ c.as_slice.ensures ∙ told in
    let exact : c.only_length.result ≡ told_length (read_out bytes c.args.plan (unmoved m)).dump = cc in
    exact ∙ ap (λ (b : List ℕ). told_length (read_out b c.args.plan (unmoved m)).dump) same
