-- Chunks that are put one after the other, and one more.
use Rattle.std.proofs.Common.{◌≡◌, ℕ, ◌<◌, Bool, List, [], ◌∷◌, ◌++◌, length, Option, Some, None, ap, ◌∙◌, arith}
use Rattle.std.specs.Prelude.{nat_lt}
use Rattle.sf_tick.specs.declared.types.Chunk.{Chunk}
use Rattle.sf_entry.specs.declared.track_setup.TrackSetup.{TrackSetup}
use Rattle.sf_series.specs.declared.limits.Limits.{Limits}
use Rattle.sf_series.specs.declared.limits.LimitShown.{LimitShown}
use Rattle.sf_series.specs.Files.{flat, open_file}
use Rattle.sf_series.specs.Switching.{Put, Into, Next, Limit, unless, put_at, put, count_of, files_after, Switched, go_on, switched_from, switched}

-- files without a limit
abbrev pub limitless : List (List Chunk) → Switched
limitless files = record { files = files; limit = None }

go_if : (p : Put) (files goal : List (List Chunk)) (rest more end : Switched) → go_on files p rest ≡ limitless goal → (rest ≡ limitless goal → more ≡ end) → go_on files p more ≡ end
go_if Into files goal rest more end e next = next e
go_if Next files goal rest more end e next = next e
go_if (Limit shown) files goal rest more end e next = let wrong : Some shown ≡ None = ap (λ (s : Switched). s.limit) e in cc

-- what follows chunks that met no limit goes on from their files
pub switched_more : (limits : Limits) (setups : List TrackSetup) (files after : List (List Chunk)) (order rest : List Chunk) → switched_from limits setups files order ≡ limitless after
    → switched_from limits setups files (order ++ rest) ≡ switched_from limits setups after rest
switched_more limits setups files after [] rest e = ap (λ (s : Switched). switched_from limits setups s.files rest) e
switched_more limits setups files after (c ∷ order) rest e =
    go_if (put limits setups files c) files after _ _ _ e (switched_more limits setups (files_after files c (put limits setups files c)) after order rest)

one_into : (p : Put) (files : List (List Chunk)) (c : Chunk) (rest : List (List Chunk) → Switched) (at : Put) → p ≡ at → go_on files p (rest (files_after files c p)) ≡ go_on files at (rest (files_after files c at))
one_into p files c rest at e = ap (λ (q : Put). go_on files q (rest (files_after files c q))) e

-- one more chunk after chunks that met no limit
pub switched_one : (limits : Limits) (setups : List TrackSetup) (files after : List (List Chunk)) (order : List Chunk) (c : Chunk) (p : Put) → switched_from limits setups files order ≡ limitless after
    → put limits setups after c ≡ p → switched_from limits setups files (order ++ c ∷ []) ≡ go_on after p (limitless (files_after after c p))
switched_one limits setups files after order c p e at =
    switched_more limits setups files after order (c ∷ []) e ∙ one_into (put limits setups after c) after c (λ fs. limitless fs) p at

no_next : (o : Option LimitShown) → unless o Into ≡ Next → ⊥
no_next None e = cc
no_next (Some shown) e = cc

next_at : (limits : Limits) (setups : List TrackSetup) (more : Bool) (sample : ℕ) (file : List Chunk) (c : Chunk) → put_at limits setups more sample file c ≡ Next → 0 < length file
next_at limits setups more sample [] c e = absurd (no_next _ e)
next_at limits setups more sample (first ∷ file) c e = omega arith

-- the next file begins only after one that isn't empty
pub next_some : (limits : Limits) (setups : List TrackSetup) (files : List (List Chunk)) (c : Chunk) → put limits setups files c ≡ Next → 0 < length (open_file files)
unfolding put
next_some limits setups files c e = next_at limits setups (nat_lt (length files) limits.max_files) (count_of c.track (flat files)) (open_file files) c e

-- a chunk that meets a limit after chunks that met none ends the files, whatever follows
pub switched_ends : (limits : Limits) (setups : List TrackSetup) (files : List (List Chunk)) (order rest : List Chunk) (c : Chunk) (shown : LimitShown) → switched limits setups order ≡ limitless files
    → put limits setups files c ≡ Limit shown → switched limits setups (order ++ c ∷ rest) ≡ record { files = files; limit = Some shown }
switched_ends limits setups files order rest c shown e at =
    switched_more limits setups ([] ∷ []) files order (c ∷ rest) e ∙ one_into (put limits setups files c) files c (λ fs. switched_from limits setups fs rest) (Limit shown) at
