-- The files of a series on a shelf: one more is made, closed, or kept as far as it was written.
use Rattle.std.proofs.Common.{◌≡◌, ℕ, suc, ◌+◌, ◌≤◌, List, [], ◌∷◌, ◌++◌, length, map, Option, Some, None, refl, sym, subst, ap, ◌∙◌, inr, append_assoc, length-append, arith}
use Rattle.std.proofs.lemmas.List.{map-append}
use Rattle.sf_tick.specs.declared.types.Chunk.{Chunk}
use Rattle.sf_entry.specs.declared.track_setup.TrackSetup.{TrackSetup}
use Rattle.sf_world.specs.Contents.{shelved}
use Rattle.sf_world.specs.Views.{KeptAtMost, ShelfView}
use Rattle.sf_layout.specs.Layout.{layout}
use Rattle.sf_series.specs.Files.{into_open, open_file}
use Rattle.sf_series.specs.Names.{file_name, names_to}
use Rattle.sf_series.specs.Shelved.{AllKept, BrokenOn, IsMade, KeptMore, KeptSomeMore, OpenOn, closed_in, with_files}

-- files are those that are closed, and the open one
pub closed_open : (files : List (List Chunk)) → 1 ≤ length files → closed_in files ++ open_file files ∷ [] ≡ files
closed_open [] some = absurd (omega (arith, some))
closed_open (file ∷ []) some = refl
closed_open (file ∷ next ∷ files) some = ap (λ (fs : List (List Chunk)). file ∷ fs) (closed_open (next ∷ files) (omega arith))

pub closed_long : (files : List (List Chunk)) → 1 ≤ length files → length (closed_in files) + 1 ≡ length files
closed_long [] some = absurd (omega (arith, some))
closed_long (file ∷ []) some = refl
closed_long (file ∷ next ∷ files) some = let more = closed_long (next ∷ files) (omega arith) in omega (arith, more)

pub closed_more : (files : List (List Chunk)) (new : List Chunk) → closed_in (files ++ new ∷ []) ≡ files
closed_more [] new = refl
closed_more (file ∷ []) new = refl
closed_more (file ∷ next ∷ files) new = ap (λ (fs : List (List Chunk)). file ∷ fs) (closed_more (next ∷ files) new)

pub open_more : (files : List (List Chunk)) (new : List Chunk) → open_file (files ++ new ∷ []) ≡ new
open_more [] new = refl
open_more (file ∷ []) new = refl
open_more (file ∷ next ∷ files) new = open_more (next ∷ files) new

pub long_more : (files : List (List Chunk)) (new : List Chunk) → length (files ++ new ∷ []) ≡ suc (length files)
long_more files new = omega (arith, length-append files (new ∷ []))

pub into_more : (files : List (List Chunk)) (new : List Chunk) (c : Chunk) → into_open (files ++ new ∷ []) c ≡ files ++ (new ++ c ∷ []) ∷ []
into_more [] new c = refl
into_more (file ∷ []) new c = refl
into_more (file ∷ next ∷ files) new c = ap (λ (fs : List (List Chunk)). file ∷ fs) (into_more (next ∷ files) new c)

pub closed_into : (files : List (List Chunk)) (c : Chunk) → closed_in (into_open files c) ≡ closed_in files
closed_into [] c = refl
closed_into (file ∷ []) c = refl
closed_into (file ∷ next ∷ []) c = refl
closed_into (file ∷ next ∷ more ∷ files) c = ap (λ (fs : List (List Chunk)). file ∷ fs) (closed_into (next ∷ more ∷ files) c)

pub open_into : (files : List (List Chunk)) (c : Chunk) → open_file (into_open files c) ≡ open_file files ++ c ∷ []
open_into [] c = refl
open_into (file ∷ []) c = refl
open_into (file ∷ next ∷ []) c = refl
open_into (file ∷ next ∷ more ∷ files) c = open_into (next ∷ more ∷ files) c

pub long_into : (files : List (List Chunk)) (c : Chunk) → 1 ≤ length files → length (into_open files c) ≡ length files
long_into [] c some = absurd (omega (arith, some))
long_into (file ∷ []) c some = refl
long_into (file ∷ next ∷ files) c some = let more = long_into (next ∷ files) c (omega arith) in omega (arith, more)

-- one more file on a shelf
pub shelved_with : (before : Option (List (List ℕ))) (files : List (List ℕ)) (file : List ℕ) → shelved (with_files before files) (Some file) ≡ with_files before (files ++ file ∷ [])
shelved_with None files file = refl
shelved_with (Some fs) files file = ap (λ (gs : List (List ℕ)). Some gs) (append_assoc fs files (file ∷ []))

pub kept_one : {begun before middle after : ShelfView} {stem : List ℕ} {setups : List TrackSetup} {files : List (List Chunk)} (file : List Chunk) → AllKept begun stem setups files before
    → IsMade (file_name stem (suc (length files))) before middle → KeptMore (layout setups file) middle after → AllKept begun stem setups (files ++ file ∷ []) after
kept_one {begun} {before} {middle} {after} {stem} {setups} {files} file all made more =
    record {
      named =
          more.named ∙ made.named ∙ ap (λ (ns : List (List ℕ)). ns ++ file_name stem (suc (length files)) ∷ []) all.named
          ∙ append_assoc begun.names (names_to stem (length files)) (file_name stem (suc (length files)) ∷ [])
          ∙ ap (λ (n : ℕ). begun.names ++ names_to stem n) (sym (long_more files file));
      kept =
          more.kept ∙ ap (λ (fs : Option (List (List ℕ))). shelved fs (Some (layout setups file))) (made.kept ∙ all.kept)
          ∙ shelved_with begun.files (map (layout setups) files) (layout setups file)
          ∙ ap (λ (fs : List (List ℕ)). with_files begun.files fs) (sym (map-append (layout setups) files (file ∷ [])));
    }

-- the open file is closed and kept
pub kept_all : {begun before after : ShelfView} {stem : List ℕ} {setups : List TrackSetup} {files : List (List Chunk)} → 1 ≤ length files → OpenOn begun stem setups files before
    → KeptMore (layout setups (open_file files)) before after → AllKept begun stem setups files after
kept_all {begun} {before} {after} {stem} {setups} {files} some on more =
    let long : length files ≡ suc (length (closed_in files)) = omega (arith, closed_long files some) in
    let made = subst (λ (n : ℕ). IsMade (file_name stem n) on.before before) long on.made in
    subst (λ (fs : List (List Chunk)). AllKept begun stem setups fs after) (closed_open files some) (kept_one (open_file files) on.closed made more)

-- a sink that was made is kept with some bytes
pub some_kept : {before middle after : ShelfView} {name : List ℕ} → IsMade name before middle → KeptSomeMore middle after → KeptAtMost name before after
some_kept {before} {middle} {after} {name} made more =
    inr (record {
      file = more.0;
      kept = record {
        named = more.1.named ∙ made.named;
        kept = more.1.kept ∙ ap (λ (fs : Option (List (List ℕ))). shelved fs (Some more.0)) made.kept;
      };
    })

pub broken_on : {begun before after : ShelfView} {stem : List ℕ} {setups : List TrackSetup} {files : List (List Chunk)} → OpenOn begun stem setups files before
    → KeptSomeMore before after → BrokenOn begun stem setups files after
broken_on {begun} {before} {after} {stem} {setups} {files} on more =
    record { before = on.before; closed = on.closed; last = some_kept on.made more }

-- the next file is made, or isn't
pub next_open : {begun before after : ShelfView} {stem : List ℕ} {setups : List TrackSetup} {files : List (List Chunk)} → AllKept begun stem setups files before
    → IsMade (file_name stem (suc (length files))) before after → OpenOn begun stem setups (files ++ [] ∷ []) after
next_open {begun} {before} {after} {stem} {setups} {files} all made =
    record {
      before = before;
      closed = subst (λ (fs : List (List Chunk)). AllKept begun stem setups fs before) (sym (closed_more files [])) all;
      made = subst (λ (n : ℕ). IsMade (file_name stem n) before after) (sym (long_more files [])) made;
    }

pub next_broken : {begun before after : ShelfView} {stem : List ℕ} {setups : List TrackSetup} {files : List (List Chunk)} → AllKept begun stem setups files before
    → KeptAtMost (file_name stem (suc (length files))) before after → BrokenOn begun stem setups (files ++ [] ∷ []) after
next_broken {begun} {before} {after} {stem} {setups} {files} all kept =
    record {
      before = before;
      closed = subst (λ (fs : List (List Chunk)). AllKept begun stem setups fs before) (sym (closed_more files [])) all;
      last = subst (λ (n : ℕ). KeptAtMost (file_name stem n) before after) (sym (long_more files [])) kept;
    }

-- one more chunk goes into the open file, which changes nothing on the shelf
pub into_on : {begun shelf : ShelfView} {stem : List ℕ} {setups : List TrackSetup} {files : List (List Chunk)} (c : Chunk) → 1 ≤ length files → OpenOn begun stem setups files shelf
    → OpenOn begun stem setups (into_open files c) shelf
into_on {begun} {shelf} {stem} {setups} {files} c some on =
    record {
      before = on.before;
      closed = subst (λ (fs : List (List Chunk)). AllKept begun stem setups fs on.before) (sym (closed_into files c)) on.closed;
      made = subst (λ (n : ℕ). IsMade (file_name stem n) on.before shelf) (sym (long_into files c some)) on.made;
    }
