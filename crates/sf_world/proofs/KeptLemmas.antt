-- Files that a shelf keeps.
use Rattle.std.proofs.Common.{◌≡◌, ℕ, List, [], ◌∷◌, ◌++◌, Option, Some, None, is_some, refl, ap, sym, ◌∙◌}
use Rattle.sf_world.specs.Contents.{shelved}
use Rattle.sf_world.specs.Views.{KeptFile, KeptSome, ShelfView, SinkView, with_kept}

-- a shelf that tells its files before and after keeps some bytes
some_bytes : (files : Option (List (List ℕ))) (content : Option (List ℕ)) → is_some (shelved files content) ≡ is_some files
    → (file : List ℕ) × (shelved files content ≡ shelved files (Some file))
some_bytes None content e = ([], refl)
some_bytes (Some files) None e = absurd (cc e)
some_bytes (Some files) (Some file) e = (file, refl)

-- a sink that was made of a name, and kept
pub kept_some : (name : List ℕ) (sink : SinkView) (before middle after : ShelfView) → middle.names ≡ before.names ++ name ∷ [] → middle.files ≡ before.files
    → after ≡ with_kept sink middle → is_some after.files ≡ is_some middle.files → KeptSome name before after
kept_some name sink before middle after named same kept tells =
    let files : after.files ≡ shelved middle.files sink.content = ap (λ (v : ShelfView). v.files) kept in
    let some = some_bytes middle.files sink.content (ap is_some (sym files) ∙ tells) in
    record {
      file = some.0;
      kept = record {
        named = ap (λ (v : ShelfView). v.names) kept ∙ named;
        kept = files ∙ some.1 ∙ ap (λ (fs : Option (List (List ℕ))). shelved fs (Some some.0)) same;
      };
    }

-- the same, where the sink holds these bytes as far as it tells
pub kept_file : (name file : List ℕ) (sink : SinkView) (before middle after : ShelfView) → middle.names ≡ before.names ++ name ∷ [] → middle.files ≡ before.files
    → after ≡ with_kept sink middle → shelved middle.files sink.content ≡ shelved middle.files (Some file) → KeptFile name file before after
kept_file name file sink before middle after named same kept holds =
    record {
      named = ap (λ (v : ShelfView). v.names) kept ∙ named;
      kept = ap (λ (v : ShelfView). v.files) kept ∙ holds ∙ ap (λ (fs : Option (List (List ℕ))). shelved fs (Some file)) same;
    }

pub ruleset kept_facts = (kept_some, kept_file)
