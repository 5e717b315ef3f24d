-- What is handed out of a stored sample.
use Rattle.std.specs.Prelude.{◌≡◌, ℕ, ◌&&◌, ◌++◌, nat_le, List, length, Option, Some, None, option_and_then, option_map, Result, Ok, Err, if◌then◌else◌}
use Rattle.sf_avc.specs.Tiling.{tiling}
use Rattle.sf_avc.specs.Units.{Nal, with_codes}
use Rattle.sf_avc.specs.declared.prefixed.LengthFault.{LengthFault}
use Rattle.sf_avc.specs.declared.prefixed.LengthFault.TheVariants.{BadLength, NoMemory}
use Rattle.sf_meaning.specs.declared.movie.PlainSample.{PlainSample}
use Rattle.sf_movie.specs.Loaded.{Loaded, sample_of, unit_width}
use Rattle.sf_extract.specs.Current.{Extracting, current}

-- a length of a unit has 1 to 4 bytes (14496-15, 5.3.3.1)
abbrev pub a_width : ℕ → Option ℕ
a_width w = if nat_le 1 w && nat_le w 4 then Some w else None

-- how many bytes the length of a unit has by entry d of track t; none where units aren't cut
abbrev pub cut_width : Loaded → ℕ → ℕ → Option ℕ
cut_width m t d = option_and_then a_width (unit_width m t d)

-- units, each after a start code, or the first length that doesn't tile
abbrev pub coded_units : Result (List Nal) LengthFault → Result (List ℕ) LengthFault
coded_units (Ok units) = Ok (with_codes units)
coded_units (Err fault) = Err fault

-- the units of a stored sample with lengths of so many bytes (14496-15, 5.3.4.2), each after a start code (14496-10, Annex B), or the
-- sample as it is stored
abbrev pub handed_by : Option ℕ → List ℕ → Result (List ℕ) LengthFault
handed_by None stored = Ok stored
handed_by (Some width) stored = coded_units (tiling width 0 stored)

-- What is handed out of these stored bytes of a sample of track t, or the first length at which no unit stands: AVC is cut by the entry
-- that describes the sample.
unfoldable pub handed_out : Loaded → ℕ → PlainSample → List ℕ → Result (List ℕ) LengthFault
handed_out m t s stored = handed_by (cut_width m t s.description) stored

-- the same of these bytes as those of the current sample, where there is one
abbrev pub handed_now : Extracting → List ℕ → Option (Result (List ℕ) LengthFault)
handed_now e stored = option_and_then (λ c. option_map (λ s. handed_out e.loaded c.track s stored) (sample_of e.loaded.movie c.track c.sample)) (current e)

-- Bytes grew by what is handed out, of so many bytes.
pub record Appends (old new : List ℕ) (out : Option (Result (List ℕ) LengthFault)) (n : ℕ) : Type 0 where
  pub bytes : List ℕ
  pub said : out ≡ Some (Ok bytes)
  pub grew : new ≡ old ++ bytes
  pub count : n ≡ length bytes

-- Bytes grew by what is handed out; or they are as before where a length is refused, or for want of memory.
abbrev pub HandsOut : List ℕ → List ℕ → Option (Result (List ℕ) LengthFault) → Result ℕ LengthFault → Type 0
HandsOut old new said (Ok count) = Appends old new said count
HandsOut old new said (Err (BadLength at)) = (said ≡ Some (Err (BadLength at))) × (new ≡ old)
HandsOut old new said (Err NoMemory) = new ≡ old
