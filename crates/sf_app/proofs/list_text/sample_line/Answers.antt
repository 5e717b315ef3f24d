use Rattle.std.proofs.Common.{rules, ◌≡◌, ℕ, List, ◌++◌, codes, string_bytes, ap, ◌∙◌}
use Rattle.std.specs.Fmt.{decimal, signed_decimal}
use Rattle.sf_app.specs.ListText.{sample_line, sync_number}
use Rattle.sf_app.proofs.Gathering.{three_first}
use Rattle.sf_app.proofs.list_text.sample_line.Goals as goal

pub returns : goal.returns
unfolding sample_line
returns c =
    let s = c.args.sample.now in
    let times : List ℕ = codes "sample " ++ (decimal c.args.track ++ (codes " " ++ (decimal c.args.number ++ (codes " " ++ (decimal s.decode ++ codes " "))))) in
    let first : string_bytes c.write.new.self ≡ times = c.in_ok-write.ensures.bytes ∙ ap (λ (l : List ℕ). l ++ times) c.clear.ensures.bytes in
    let more : ℕ → List ℕ = λ sync. signed_decimal s.compose ++ (codes " " ++ (decimal sync ++ (codes " " ++ (decimal s.size ++ codes "\n")))) in
    let all : string_bytes c.write-2.new.self ≡ string_bytes c.write.new.self ++ more c.sync_number-sync.result = search (rules, c.in_ok-write-2.ensures.bytes) in
    all ∙ ap (λ (l : List ℕ). l ++ more c.sync_number-sync.result) first ∙ ap (λ (n : ℕ). times ++ more n) c.sync_number-sync.ensures
    ∙ three_first (codes "sample ") (decimal c.args.track) (decimal c.args.number) (decimal s.decode) (more (sync_number s.sync))
