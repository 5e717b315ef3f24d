-- The sizes of samples: stsz, or stz2 with fields of few bits (8.7.3).
use Rattle.std.specs.Prelude.{ℕ, zero, suc, ◌+◌, ◌*◌, ◌/◌, ◌%◌, ◌==◌, nat_le, Bool, true, ◌||◌, if◌then◌else◌, List, [], ◌∷◌, length, take, drop, get_or, codes, Ok}
use Rattle.std.specs.List.{flat_map}
use Rattle.std.specs.Str.{bytes_eq}
use Rattle.sf_box.specs.Boxes.{Piece, word16, word32}
use Rattle.sf_meaning.specs.Steps.{◌>>◌, check}
use Rattle.sf_meaning.specs.Tables.{sample_count, sizes_in}
use Rattle.sf_meaning.specs.SampleTables.{Table, short_table}
use Rattle.sf_meaning.specs.declared.faults.TableFault.TheVariants.{FieldSize, TooMany}

-- whether a box is stz2
abbrev pub is_compact : Piece → Bool
is_compact p = bytes_eq p.head.kind.0 (codes "stz2")

-- how many bits each field of stz2 has (8.7.3.3)
abbrev pub field_bits : List ℕ → ℕ
field_bits body = get_or body 7 0

-- both halves of each byte, the high one first
abbrev pub both_halves : List ℕ → List ℕ
both_halves bytes = flat_map (λ b. (b / 16) ∷ (b % 16) ∷ []) bytes

-- so many sizes of four bits: the earlier sample's in the high half of its byte
abbrev pub halves : ℕ → List ℕ → List ℕ
halves n bytes = take n (both_halves (take ((n + 1) / 2) bytes))

-- so many numbers of two bytes
abbrev pub half_words : ℕ → List ℕ → List ℕ
half_words zero bytes = []
half_words (suc n) bytes = word16 bytes ∷ half_words n (drop 2 bytes)

-- so many sizes of 4, 8 or 16 bits
abbrev pub fields : ℕ → ℕ → List ℕ → List ℕ
fields bits n bytes = if bits == 4 then halves n bytes else if bits == 8 then take n bytes else half_words n bytes

-- the sizes in a box of either type
abbrev pub sizes_of : Piece → List ℕ
sizes_of p = if is_compact p then fields (field_bits p.body) (sample_count p.body) (drop 12 p.body) else sizes_in p.body

-- a number of bits that a field may have
abbrev pub known_field : ℕ → Bool
known_field bits = bits == 4 || bits == 8 || bits == 16

-- how many bytes the fields of stz2 take, or of stsz, which has none where one size stands for all
abbrev pub fields_length : Bool → List ℕ → ℕ
fields_length compact body =
    if compact then (sample_count body * field_bits body + 7) / 8 else if word32 (drop 4 body) == 0 then 4 * sample_count body else 0

-- the sizes are whole, and for no more samples than a track may have
unfoldable pub sizes_whole : Piece → Table (Unit {0})
sizes_whole p = do
  check (nat_le 12 (length p.body)) (short_table p)
  check (nat_le (sample_count p.body) 16777216) (TooMany p.head.at (sample_count p.body))
  check (if is_compact p then known_field (field_bits p.body) else true) (FieldSize p.head.at (field_bits p.body))
  check (nat_le (12 + fields_length (is_compact p) p.body) (length p.body)) (short_table p)

-- the sizes that a box says
unfoldable pub sizes_told : Piece → Table (List ℕ)
sizes_told p = do
  sizes_whole p
  Ok (sizes_of p)
