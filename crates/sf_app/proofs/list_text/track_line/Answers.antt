use Rattle.std.proofs.Common.{rules, ◌≡◌, ℕ, ℤ, pos, List, ◌++◌, codes, length, string_bytes, ap, ◌∙◌}
use Rattle.std.specs.Fmt.{decimal, signed_decimal}
use Rattle.sf_app.specs.ListText.{kind_word, lead_us, sync_count, track_line}
use Rattle.sf_app.proofs.Gathering.{three_first}
use Rattle.sf_meaning.specs.declared.movie.PlainTrack.{PlainTrack}
use Rattle.sf_tick.specs.Tick.{us}
use Rattle.sf_app.specs.inner.Listing.{track_at}
use Rattle.sf_app.proofs.Listing.{count_told, lead_told, told}
use Rattle.sf_app.proofs.list_text.track_line.Goals as goal

pub returns : goal.returns
unfolding track_line
returns c =
    let m = c.args.movie.now.movie in
    let n : ℕ = c.args.track in
    let t : PlainTrack = track_at m n in
    let front : List ℕ → ℕ → List ℕ = λ kind scale. codes "track " ++ (decimal n ++ (codes " " ++ (kind ++ (codes " " ++ (decimal scale ++ codes " "))))) in
    let behind : ℕ → ℕ → List ℕ → List ℕ = λ samples syncs lead. decimal samples ++ (codes " " ++ (decimal syncs ++ (codes " " ++ (lead ++ codes "\n")))) in
    let kind : c.kind_word-kind.result.now ≡ kind_word t.kind = c.kind_word-kind.ensures ∙ ap kind_word (told (λ (x : PlainTrack). x.kind) m n c.kind.result c.requires c.kind.ensures) in
    let scale : c.scale-scale.result ≡ t.scale = told (λ (x : PlainTrack). x.scale) m n c.scale-scale.result c.requires c.scale-scale.ensures in
    let samples : c.count-samples.result ≡ length t.samples = count_told m n c.count-samples.result c.requires c.count-samples.ensures in
    let syncs : c.sync_count-syncs.result ≡ sync_count t.samples = c.sync_count-syncs.ensures in
    let z : ℤ = c.lead_us-lead.result in
    let lead : signed_decimal z ≡ decimal (lead_us m.scale t.lead) = lead_told m.scale t.lead z (told (λ (x : PlainTrack). us (pos x.lead) m.scale) m n z c.requires c.lead_us-lead.ensures) in
    let first : string_bytes c.in_ok-line.line ≡ front c.kind_word-kind.result.now c.scale-scale.result = c.in_ok-line.ensures.ok in
    let all : string_bytes c.write.new.self ≡ string_bytes c.in_ok-line.line ++ behind c.count-samples.result c.sync_count-syncs.result (signed_decimal z) = search (rules, c.in_ok-write.ensures.bytes) in
    let same : front c.kind_word-kind.result.now c.scale-scale.result ≡ front (kind_word t.kind) t.scale = cc in
    let said : behind c.count-samples.result c.sync_count-syncs.result (signed_decimal z) ≡ behind (length t.samples) (sync_count t.samples) (decimal (lead_us m.scale t.lead)) = cc in
    all ∙ ap (λ (l : List ℕ). l ++ behind c.count-samples.result c.sync_count-syncs.result (signed_decimal z)) (first ∙ same)
    ∙ ap (λ (l : List ℕ). front (kind_word t.kind) t.scale ++ l) said
    ∙ three_first (codes "track ") (decimal n) (kind_word t.kind) (decimal t.scale) (behind (length t.samples) (sync_count t.samples) (decimal (lead_us m.scale t.lead)))
