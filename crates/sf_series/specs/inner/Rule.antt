-- The switching rule, as its code knows the numbers that it compares.
use Rattle.std.specs.Prelude.{◌≡◌, ◌==◌, nat_lt, List, [], ◌∷◌, ◌++◌, length, Result, Ok, Err}
use Rattle.sf_tick.specs.declared.types.Chunk.{Chunk}
use Rattle.sf_entry.specs.declared.track_setup.TrackSetup.{TrackSetup}
use Rattle.sf_layout.specs.Written.{start_in}
use Rattle.sf_file.specs.Open.{ClosesAs}
use Rattle.sf_series.specs.declared.limits.Limits.{Limits}
use Rattle.sf_series.specs.declared.limits.LimitShown.{LimitShown}
use Rattle.sf_series.specs.declared.rule.Place.{Place}
use Rattle.sf_series.specs.declared.rule.Place.TheVariants as places
use Rattle.sf_series.specs.declared.rule.Prospect.{Prospect}
use Rattle.sf_series.specs.Files.{flat, open_file}
use Rattle.sf_series.specs.Switching.{Into, Limit, Next, Put, count_of, is_lead}

-- an answer of the code as one of the rule
abbrev pub put_as : Result Place LimitShown → Put
put_as (Ok places.Open) = Into
put_as (Ok places.Next) = Next
put_as (Err shown) = Limit shown

-- What is known before a chunk is put is so of these files.
pub record Foresees (limits : Limits) (setups : List TrackSetup) (files : List (List Chunk)) (chunk : Chunk) (seen : Prospect) : Type 0 where
  pub with_it : ClosesAs setups (open_file files ++ chunk ∷ []) chunk.track seen.with_it
  pub alone : ClosesAs setups (chunk ∷ []) chunk.track seen.alone
  pub start : seen.start_us ≡ start_in setups (open_file files)
  pub empty : seen.is_empty ≡ (length (open_file files) == 0)
  pub more : seen.more ≡ nat_lt (length files) limits.max_files
  pub leads : seen.leads ≡ is_lead setups chunk
  pub sample : seen.sample ≡ count_of chunk.track (flat files)
