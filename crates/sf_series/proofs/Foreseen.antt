-- What is known before a chunk is put is so of the files for which those that are kept stand.
use Rattle.std.proofs.Common.{◌≡◌, ℕ, ◌+◌, ◌<◌, List, [], ◌∷◌, ◌++◌, length, Option, Some, sym, subst, ap, ◌∙◌, arith}
use Rattle.std.specs.Prelude.{nat_lt, slice_get, ◌==◌}
use Rattle.std.proofs.lemmas.List.{length-map}
use Rattle.sf_tick.specs.declared.types.Chunk.{Chunk}
use Rattle.sf_entry.specs.declared.track_setup.TrackSetup.{TrackSetup}
use Rattle.sf_world.specs.Views.{ShelfView}
use Rattle.sf_layout.specs.Layout.{start_of, tracks_of}
use Rattle.sf_file.specs.Open.{ClosesAs, OpenFile, setups_of}
use Rattle.sf_file.specs.Open as one_file
use Rattle.sf_series.specs.declared.rule.Prospect.{Prospect}
use Rattle.sf_series.specs.Files.{open_file}
use Rattle.sf_series.specs.Series.{FilesStand, OpenFiles}
use Rattle.sf_series.specs.Shelved.{closed_in}
use Rattle.sf_series.specs.Switching.{closed_length, is_lead}
use Rattle.sf_series.specs.inner.Rule.{Foresees}
use Rattle.sf_series.proofs.Kept.{on_open}
use Rattle.sf_series.proofs.Shelving.{closed_long}

-- there is one file more than closed ones
pub files_long : {begun shelf : ShelfView} {files : List (List Chunk)} {kept : OpenFiles} → FilesStand begun files kept shelf → length kept.closed + 1 ≡ length files
files_long {begun} {shelf} {files} {kept} s =
    omega (arith, closed_long files s.some, ap (λ (ns : List ℕ). length ns) s.counts.closed, length-map (closed_in files) (closed_length kept.setups))

pub foreseen : {begun shelf : ShelfView} {files : List (List Chunk)} {kept : OpenFiles} (file empty : OpenFile) (c : Chunk) (seen : Prospect) → FilesStand begun files kept shelf → kept.file ≡ Some file
    → setups_of empty ≡ kept.setups → one_file.Stands (Some []) [] empty
    → ((begun : Option (List ℕ)) (chunks : List Chunk) → one_file.Stands begun chunks file → ClosesAs (setups_of file) (chunks ++ c ∷ []) c.track seen.with_it)
    → ((begun : Option (List ℕ)) (chunks : List Chunk) → one_file.Stands begun chunks empty → ClosesAs (setups_of empty) (chunks ++ c ∷ []) c.track seen.alone)
    → ((begun : Option (List ℕ)) (chunks : List Chunk) → one_file.Stands begun chunks file → seen.start_us ≡ start_of (tracks_of (setups_of file) chunks))
    → ((begun : Option (List ℕ)) (chunks : List Chunk) → one_file.Stands begun chunks file → seen.is_empty ≡ (length chunks == 0))
    → seen.more ≡ nat_lt (length kept.closed + 1) kept.limits.max_files → seen.leads ≡ is_lead kept.setups c
    → slice_get kept.counts c.track ≡ Some seen.sample → c.track < length kept.setups → Foresees kept.limits kept.setups files c seen
foreseen {begun} {shelf} {files} {kept} file empty c seen s is empty_setups empty_stands with_it alone start is_empty more leads sample inside =
    let holds = (on_open file is s.where_they_are).0 in
    let both = sym sample ∙ s.counts.counts c.track inside in
    record {
      with_it = subst (λ (ss : List TrackSetup). ClosesAs ss (open_file files ++ c ∷ []) c.track seen.with_it) holds.own (with_it holds.begun (open_file files) holds.stands);
      alone = subst (λ (ss : List TrackSetup). ClosesAs ss (c ∷ []) c.track seen.alone) empty_setups (alone (Some []) [] empty_stands);
      start = start holds.begun (open_file files) holds.stands ∙ ap (λ (ss : List TrackSetup). start_of (tracks_of ss (open_file files))) holds.own;
      empty = is_empty holds.begun (open_file files) holds.stands;
      more = more ∙ ap (λ (n : ℕ). nat_lt n kept.limits.max_files) (files_long s);
      leads = leads;
      sample = cc;
    }
