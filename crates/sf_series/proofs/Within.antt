-- Files of a series pass no limit.
use Rattle.std.proofs.Common.{◌≡◌, ℕ, ◌^◌, ◌≤◌, ◌≢◌, Bool, true, false, cond, not, List, [], ◌∷◌, ◌++◌, length, Option, Some, None, refl, sym, subst, ap, ◌∙◌, inl, inr, append-nil, arith}
use Rattle.std.specs.Prelude.{nat_lt, ◌==◌, is_some}
use Rattle.std.specs.List.{AllByRecursion}
use Rattle.std.proofs.lemmas.Bool.{or_parts}
use Rattle.std.proofs.lemmas.Bool.Decides.{eqb_tells, nat_tests}
use Rattle.std.proofs.lemmas.List.Elements.{filter-append}
use Rattle.sf_tick.specs.Samples.{samples_of}
use Rattle.sf_tick.specs.declared.types.Chunk.{Chunk}
use Rattle.sf_entry.specs.declared.track_setup.TrackSetup.{TrackSetup}
use Rattle.sf_layout.specs.Layout.{track_chunks}
use Rattle.sf_series.specs.declared.limits.Limits.{Limits}
use Rattle.sf_series.specs.declared.limits.LimitShown.{LimitShown}
use Rattle.sf_series.specs.Files.{flat, open_file, into_open, into_next}
use Rattle.sf_series.specs.Switching.{Put, Into, Next, Limit, closed_length, movie_length, count_of, passes, over, unless, too_long, is_next, put_at, put, files_after, Switched, go_on, switched_from, switched}
use Rattle.sf_series.specs.Within.{Within}
use Rattle.sf_series.proofs.Lists.{one_other}
use Rattle.sf_series.proofs.Switching.{limitless}

none_tests : (a b c : Bool) (x y z : LimitShown) → cond a (Some x) (cond b (Some y) (cond c (Some z) None)) ≡ None → (a ≡ false) × (b ≡ false) × (c ≡ false)
none_tests true b c x y z e = cc
none_tests false true c x y z e = cc
none_tests false false true x y z e = cc
none_tests false false false x y z e = (refl, refl, refl)

pub not_passed : (max value : ℕ) → passes max value ≡ false → max ≢ 0 → value ≤ max
not_passed max value e some = grind (arith, nat_tests)

-- what it means that no limit is passed
record Fits (limits : Limits) (setups : List TrackSetup) (track : ℕ) (file : List Chunk) : Type 0 where
  pub bytes : limits.max_bytes ≢ 0 → closed_length setups file ≤ limits.max_bytes
  pub movie : movie_length setups file ≤ 2 ^ 28
  pub count : count_of track file ≤ 2 ^ 24

at_most : (n max : ℕ) → nat_lt max n ≡ false → n ≤ max
at_most n max e = grind (arith, nat_tests)

over_none : (limits : Limits) (setups : List TrackSetup) (track sample : ℕ) (file : List Chunk) → over limits setups track sample file ≡ None → Fits limits setups track file
unfolding over
over_none limits setups track sample file e =
    let tests = none_tests (passes limits.max_bytes (closed_length setups file)) (nat_lt 268435456 (movie_length setups file)) (nat_lt 16777216 (count_of track file)) _ _ _ e in
    record {
      bytes = not_passed limits.max_bytes (closed_length setups file) tests.0;
      movie = at_most (movie_length setups file) 268435456 tests.1;
      count = at_most (count_of track file) 16777216 tests.2;
    }

-- which tests an answer tells of
into_none : (o : Option LimitShown) (p : Put) → unless o p ≡ Into → o ≡ None
into_none None p e = refl
into_none (Some shown) p e = cc

next_none : (o : Option LimitShown) (p : Put) → unless o p ≡ Next → o ≡ None
next_none None p e = refl
next_none (Some shown) p e = cc

no_into : (o : Option LimitShown) → unless o Next ≡ Into → ⊥
no_into None e = cc
no_into (Some shown) e = cc

no_next : (o : Option LimitShown) → unless o Into ≡ Next → ⊥
no_next None e = cc
no_next (Some shown) e = cc

no_next_twice : (o q : Option LimitShown) → unless o (unless q Into) ≡ Next → ⊥
no_next_twice None q e = no_next q e
no_next_twice (Some shown) q e = cc

not_some : (o : Option LimitShown) → is_some o ≡ false → o ≡ None
not_some None e = refl
not_some (Some shown) e = cc

behind_into : (next more : Bool) (o here : Option LimitShown) (q : Put) → (next ≡ false → here ≡ None) → cond (not next) Into (cond more (unless o Next) (unless here q)) ≡ Into → here ≡ None
behind_into false more o here q quiet e = quiet refl
behind_into true true o here q quiet e = absurd (no_into o e)
behind_into true false o here q quiet e = into_none here q e

behind_next : (next more : Bool) (o here long : Option LimitShown) → cond (not next) Into (cond more (unless o Next) (unless here (unless long Into))) ≡ Next → o ≡ None
behind_next false more o here long e = cc
behind_next true true o here long e = next_none o Next e
behind_next true false o here long e = absurd (no_next_twice here long e)

at_into : (limits : Limits) (setups : List TrackSetup) (more : Bool) (sample : ℕ) (file : List Chunk) (c : Chunk) → put_at limits setups more sample file c ≡ Into
    → over limits setups c.track sample (file ++ c ∷ []) ≡ None
at_into limits setups more sample [] c e = into_none _ Into e
at_into limits setups more sample (first ∷ file) c e =
    behind_into (is_next limits setups sample (first ∷ file) c) more (over limits setups c.track sample (c ∷ [])) (over limits setups c.track sample ((first ∷ file) ++ c ∷ [])) _
    (λ quiet. not_some _ (or_parts _ _ quiet).0) e

at_next : (limits : Limits) (setups : List TrackSetup) (more : Bool) (sample : ℕ) (file : List Chunk) (c : Chunk) → put_at limits setups more sample file c ≡ Next
    → over limits setups c.track sample (c ∷ []) ≡ None
at_next limits setups more sample [] c e = absurd (no_next _ e)
at_next limits setups more sample (first ∷ file) c e =
    behind_next (is_next limits setups sample (first ∷ file) c) more (over limits setups c.track sample (c ∷ [])) (over limits setups c.track sample ((first ∷ file) ++ c ∷ []))
    (too_long limits setups sample (first ∷ file) c) e

put_into : (limits : Limits) (setups : List TrackSetup) (files : List (List Chunk)) (c : Chunk) → put limits setups files c ≡ Into → Fits limits setups c.track (open_file files ++ c ∷ [])
unfolding put
put_into limits setups files c e =
    over_none limits setups c.track (count_of c.track (flat files)) (open_file files ++ c ∷ []) (at_into limits setups (nat_lt (length files) limits.max_files) (count_of c.track (flat files)) (open_file files) c e)

put_next : (limits : Limits) (setups : List TrackSetup) (files : List (List Chunk)) (c : Chunk) → put limits setups files c ≡ Next → Fits limits setups c.track (c ∷ [])
unfolding put
put_next limits setups files c e =
    over_none limits setups c.track (count_of c.track (flat files)) (c ∷ []) (at_next limits setups (nat_lt (length files) limits.max_files) (count_of c.track (flat files)) (open_file files) c e)

-- a chunk of another track adds no samples to a track
count_other : (t : ℕ) (file : List Chunk) (c : Chunk) → (c.track ≡ t → ⊥) → count_of t (file ++ c ∷ []) ≡ count_of t file
count_other t file c other =
    ap (λ (cs : List Chunk). length (samples_of cs)) (filter-append (λ (d : Chunk). d.track == t) file (c ∷ []) ∙ ap (λ (cs : List Chunk). track_chunks t file ++ cs) (one_other c t other) ∙ append-nil (track_chunks t file))

-- a file that passed no limit passes none with one more chunk that was looked at
within_more : (limits : Limits) (setups : List TrackSetup) (file : List Chunk) (c : Chunk) → ((t : ℕ) → count_of t file ≤ 2 ^ 24) → Fits limits setups c.track (file ++ c ∷ []) → Within limits setups (file ++ c ∷ [])
within_more limits setups file c few fits = record {
  bytes = fits.bytes;
  movie = fits.movie;
  counts = λ t.
      elim (eqb_tells c.track t) [
        | inl p ↦ (let P : ℕ → Type 0 = λ n. count_of n (file ++ c ∷ []) ≤ 2 ^ 24 in subst P p.1 fits.count)
        | inr p ↦ (let P : ℕ → Type 0 = λ n. n ≤ 2 ^ 24 in subst P (sym (count_other t file c p.1)) (few t))
      ];
}

abbrev pub AllWithin : Limits → List TrackSetup → List (List Chunk) → Type 0
AllWithin limits setups files = AllByRecursion (λ file. Within limits setups file) files

open_few : (limits : Limits) (setups : List TrackSetup) (files : List (List Chunk)) → AllWithin limits setups files → (t : ℕ) → count_of t (open_file files) ≤ 2 ^ 24
open_few limits setups [] all t = omega arith
open_few limits setups (file ∷ []) all t = all.0.counts t
open_few limits setups (file ∷ next ∷ files) all t = open_few limits setups (next ∷ files) all.1 t

all_into : (limits : Limits) (setups : List TrackSetup) (files : List (List Chunk)) (c : Chunk) → AllWithin limits setups files → Within limits setups (open_file files ++ c ∷ []) → AllWithin limits setups (into_open files c)
all_into limits setups [] c all new = (new, tt)
all_into limits setups (file ∷ []) c all new = (new, tt)
all_into limits setups (file ∷ next ∷ files) c all new = (all.0, all_into limits setups (next ∷ files) c all.1 new)

all_next : (limits : Limits) (setups : List TrackSetup) (files : List (List Chunk)) (c : Chunk) → AllWithin limits setups files → Within limits setups (c ∷ []) → AllWithin limits setups (into_next files c)
all_next limits setups [] c all new = (new, tt)
all_next limits setups (file ∷ files) c all new = (all.0, all_next limits setups files c all.1 new)

-- files after an answer pass no limit
pub put_within : (limits : Limits) (setups : List TrackSetup) (files : List (List Chunk)) (c : Chunk) (p : Put) → put limits setups files c ≡ p → AllWithin limits setups files → AllWithin limits setups (files_after files c p)
put_within limits setups files c Into e all =
    all_into limits setups files c all (within_more limits setups (open_file files) c (open_few limits setups files all) (put_into limits setups files c e))
put_within limits setups files c Next e all =
    all_next limits setups files c all (within_more limits setups [] c (λ t. omega arith) (put_next limits setups files c e))
put_within limits setups files c (Limit shown) e all = all

within_if : (p : Put) (limits : Limits) (setups : List TrackSetup) (files goal : List (List Chunk)) (rest : Switched) → go_on files p rest ≡ limitless goal → (rest ≡ limitless goal → AllWithin limits setups goal) → AllWithin limits setups goal
within_if Into limits setups files goal rest e more = more e
within_if Next limits setups files goal rest e more = more e
within_if (Limit shown) limits setups files goal rest e more = let wrong : Some shown ≡ None = ap (λ (s : Switched). s.limit) e in cc

switched_within_from : (limits : Limits) (setups : List TrackSetup) (files goal : List (List Chunk)) (order : List Chunk) → AllWithin limits setups files → switched_from limits setups files order ≡ limitless goal → AllWithin limits setups goal
switched_within_from limits setups files goal [] all e = let P : Switched → Type 0 = λ s. AllWithin limits setups s.files in subst P e all
switched_within_from limits setups files goal (c ∷ order) all e =
    within_if (put limits setups files c) limits setups files goal _ e
    (switched_within_from limits setups (files_after files c (put limits setups files c)) goal order (put_within limits setups files c (put limits setups files c) refl all))

-- files of chunks that are put one after the other pass no limit
pub switched_within : (limits : Limits) (setups : List TrackSetup) (order : List Chunk) (files : List (List Chunk)) → Within limits setups [] → switched limits setups order ≡ record { files = files; limit = None }
    → AllWithin limits setups files
switched_within limits setups order files none e = switched_within_from limits setups ([] ∷ []) files order (none, tt) e
