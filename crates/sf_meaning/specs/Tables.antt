use Rattle.std.specs.Prelude.{ℕ, zero, suc, ◌+◌, ◌-◌, ◌==◌, nat_lt, ℤ, pos, Bool, true, ◌&&◌, List, [], ◌∷◌, ◌++◌, take, drop, map, replicate, Option, Some, None, if◌then◌else◌, get_or}
use Rattle.std.specs.Int.{w32, cast_signed}
use Rattle.std.specs.List.{flat_map, list_any}
use Rattle.sf_box.specs.Boxes.{word32, word64}

-- so many numbers of four bytes
abbrev pub words : ℕ → List ℕ → List ℕ
words zero bytes = []
words (suc n) bytes = word32 bytes ∷ words n (drop 4 bytes)

-- so many numbers of eight bytes
abbrev pub wide_words : ℕ → List ℕ → List ℕ
wide_words zero bytes = []
wide_words (suc n) bytes = word64 bytes ∷ wide_words n (drop 8 bytes)

-- so many runs: a count and a value
abbrev pub run_pairs : ℕ → List ℕ → List (ℕ × ℕ)
run_pairs zero bytes = []
run_pairs (suc n) bytes = (word32 bytes, word32 (drop 4 bytes)) ∷ run_pairs n (drop 8 bytes)

-- An entry of the sample-to-chunk box: the number of its first chunk, from 1, samples in each chunk, and their description (8.7.4).
pub record Spread : Type 0 where
  pub first : ℕ
  pub per : ℕ
  pub description : ℕ

abbrev pub spreads : ℕ → List ℕ → List Spread
spreads zero bytes = []
spreads (suc n) bytes = record { first = word32 bytes; per = word32 (drop 4 bytes); description = word32 (drop 8 bytes) } ∷ spreads n (drop 12 bytes)

-- each value as often as its run says (8.6.1.2)
abbrev pub expand : {A : Type 0} → List (ℕ × A) → List A
expand [] = []
expand (run ∷ runs) = replicate run.0 run.1 ++ expand runs

-- the sums before each item, from t on
abbrev pub running : ℕ → List ℕ → List ℕ
running t [] = []
running t (x ∷ xs) = t ∷ running (t + x) xs

-- What holds in a chunk: how many samples it has, and their description.
pub record InChunk : Type 0 where
  pub per : ℕ
  pub description : ℕ

abbrev pub in_chunk : Spread → InChunk
in_chunk e = record { per = e.per; description = e.description }

-- what holds in each chunk: an entry holds up to the chunk before the next entry's first
abbrev pub spread_over : List Spread → ℕ → List InChunk
spread_over [] chunks = []
spread_over (e ∷ []) chunks = replicate (chunks + 1 - e.first) (in_chunk e)
spread_over (e ∷ f ∷ es) chunks = replicate (f.first - e.first) (in_chunk e) ++ spread_over (f ∷ es) chunks

-- what holds in each chunk that is there
abbrev pub chunk_entries : List Spread → ℕ → List InChunk
chunk_entries es chunks = take chunks (spread_over es chunks)

-- the place of each sample, from the chunks' places and counts and the samples' sizes
abbrev pub placed : List ℕ → List ℕ → List ℕ → List ℕ
placed [] counts sizes = []
placed (place ∷ places) [] sizes = []
placed (place ∷ places) (count ∷ counts) sizes = running place (take count sizes) ++ placed places counts (drop count sizes)

-- the description of each sample
abbrev pub described : List InChunk → List ℕ
described es = flat_map (λ e. replicate e.per e.description) es

-- whether each number is above the one before, the first above t
abbrev pub rising : ℕ → List ℕ → Bool
rising t [] = true
rising t (x ∷ xs) = nat_lt t x && rising x xs

-- Behind version and flags a table begins with its count.
abbrev pub count_in : List ℕ → ℕ
count_in body = word32 (drop 4 body)

-- the deltas of decode times (8.6.1.2)
abbrev pub deltas_in : List ℕ → List ℕ
deltas_in stts = expand (run_pairs (count_in stts) (drop 8 stts))

-- a composition offset: unsigned in version 0, in two's complement in each other version (8.6.1.3)
abbrev pub offset_in : ℕ → ℕ → ℤ
offset_in version word = if version == 0 then pos word else cast_signed w32 word

-- the composition offsets, from decode times to composition times (8.6.1.3)
abbrev pub offsets_in : List ℕ → List ℤ
offsets_in ctts = map (offset_in (get_or ctts 0 0)) (expand (run_pairs (count_in ctts) (drop 8 ctts)))

-- the numbers of the sync samples, from 1 (8.6.2)
abbrev pub sync_numbers_in : List ℕ → List ℕ
sync_numbers_in stss = words (count_in stss) (drop 8 stss)

-- whether the sample of a number is sync: each is where no numbers are told
abbrev pub is_sync : Option (List ℕ) → ℕ → Bool
is_sync None number = true
is_sync (Some numbers) number = list_any (λ n. n == number) numbers

-- the sample-to-chunk entries (8.7.4)
abbrev pub spreads_in : List ℕ → List Spread
spreads_in stsc = spreads (count_in stsc) (drop 8 stsc)

-- the places of the chunks, of four bytes or of eight (8.7.5)
abbrev pub places_in : Bool → List ℕ → List ℕ
places_in wide table = if wide then wide_words (count_in table) (drop 8 table) else words (count_in table) (drop 8 table)

-- how many samples there are (8.7.3.2)
abbrev pub sample_count : List ℕ → ℕ
sample_count stsz = word32 (drop 8 stsz)

-- their sizes: one for all, or one for each (8.7.3.2)
abbrev pub sizes_in : List ℕ → List ℕ
sizes_in stsz =
    if word32 (drop 4 stsz) == 0 then words (sample_count stsz) (drop 12 stsz)
    else replicate (sample_count stsz) (word32 (drop 4 stsz))
