use Rattle.std.proofs.Common.{◌≡◌, ℕ, ◌+◌, length, List, ◌++◌, ap, sym, subst, ◌∙◌, append-nil, arith}
use Rattle.std.proofs.lemmas.Bool.Decides.{nat_tests}
use Rattle.std.proofs.lemmas.List.{nil_from_length}
use Rattle.std.proofs.lemmas.Result.{on_ok_weaker}
use Rattle.sf_world.specs.Views.{SourceView}
use Rattle.sf_coded.specs.inner.Window.{AreFrom}
use Rattle.sf_coded.proofs.Windows.{front_held, joined_from}
use Rattle.sf_coded.proofs.blocks.Blocks.read.Goals as goal

pub returns-then-is_empty-clause-bytes : goal.returns-then-is_empty-clause-bytes
returns-then-is_empty-clause-bytes g c =
    let b = c.self.inside.block in
    let told = c.args.self.now.content in
    let rest = c.split_at_mut-held.result.1.now in
    let front = front_held (g.S.Source.seen c.self.inside.source).content told b.bytes.items b.from b.held c.args.at c.held_from-count.result c.split_at_mut-held.result.0.now c.copy.new.into
    (ap (λ (v : SourceView). v.content) c.self.view_is) c.self.invariant.1.bytes c.held_from-count.ensures.covers c.split_at_mut-held.ensures.front_len c.copy.auto.into c.copy.ensures in
    let e = c.is_empty.ensures in
    let t = c.if-is_empty.true in
    let none : length rest ≡ 0 = grind (arith, nat_tests) in
    subst (λ (xs : List ℕ). AreFrom told c.args.at (c.copy.new.into ++ xs)) (sym (nil_from_length rest none))
    (subst (λ (xs : List ℕ). AreFrom told c.args.at xs) (sym (append-nil c.copy.new.into)) front)

pub returns-clause-bytes : goal.returns-clause-bytes
returns-clause-bytes g c =
    let b = c.self.inside.block in
    let told = c.args.self.now.content in
    let len = c.split_at_mut-held.ensures.front_len in
    let front = front_held (g.S.Source.seen c.self.inside.source).content told b.bytes.items b.from b.held c.args.at c.held_from-count.result c.split_at_mut-held.result.0.now c.copy.new.into
    (ap (λ (v : SourceView). v.content) c.self.view_is) c.self.invariant.1.bytes c.held_from-count.ensures.covers len c.copy.auto.into c.copy.ensures in
    let place : c.args.at + c.held_from-count.result ≡ c.args.at + length c.copy.new.into = ap (λ (n : ℕ). c.args.at + n) (sym (c.copy.auto.into ∙ len)) in
    on_ok_weaker c.read_anew.result (λ behind. joined_from told c.args.at c.copy.new.into c.read_anew.new.into front
    (subst (λ (n : ℕ). AreFrom told n c.read_anew.new.into) place behind))
    c.read_anew.ensures.bytes
