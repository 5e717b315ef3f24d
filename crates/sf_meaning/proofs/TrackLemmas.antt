-- The samples of tracks, from their tables.
use Rattle.std.proofs.Common.{◌≡◌, ◌⊎◌, ℕ, ℤ, Option, List, length, take, map, Ok, Err, refl, sym, ap, ◌∙◌, inl, inr}
use Rattle.std.proofs.lemmas.List.{length-map}
use Rattle.sf_meaning.specs.Steps.{as_fault}
use Rattle.sf_meaning.specs.inner.Entries.{held_as_listed, places_as}
use Rattle.sf_meaning.specs.Tables.{InChunk, running, placed, described}
use Rattle.sf_meaning.specs.TrackSamples.{Tables, chunks_of, rows, samples_said, samples_in}
use Rattle.sf_meaning.specs.Tracks.{held_samples, samples_held}
use Rattle.sf_meaning.specs.declared.entries.ChunkAt.{ChunkAt}
use Rattle.sf_meaning.specs.declared.faults.TableFault.{TableFault}
use Rattle.sf_meaning.specs.declared.faults.TableFault.TheVariants as tables
use Rattle.sf_meaning.specs.declared.faults.MovieFault.TheVariants as movies
use Rattle.sf_meaning.specs.inner.Faults.{of_table}
use Rattle.sf_meaning.proofs.FaultLemmas.{table_stops, stops_all}
use Rattle.sf_meaning.proofs.SampleLemmas.{placed-take}

-- the samples that tables say, where they say so many, by what the code holds of them
pub samples_listed : (bytes number scale entries : ℕ) (t : Tables) (chunks : List ChunkAt) (count : ℕ) (times : List ℕ) (offsets : List ℤ) (sync : Option (List ℕ)) (placed_by described_by : List ℕ)
    → held_as_listed chunks ≡ chunks_of t → places_as chunks ≡ take (length chunks) t.places → length t.sizes ≡ count → samples_said scale entries count t ≡ Ok tt
    → times ≡ running 0 t.deltas → offsets ≡ t.offsets → sync ≡ t.sync → placed_by ≡ placed (places_as chunks) (map (λ c. c.per) (held_as_listed chunks)) t.sizes → described_by ≡ described (held_as_listed chunks)
    → samples_held bytes number scale entries t ≡ held_samples bytes number (rows 1 t.sizes times offsets sync placed_by described_by)
unfolding samples_held samples_in
samples_listed bytes number scale entries t chunks count times offsets sync placed_by described_by held places n said is_times is_offsets is_sync_told is_placed is_described =
    let counts : List ℕ = map (λ (x : InChunk). x.per) (held_as_listed chunks) in
    let m : length counts ≡ length chunks = length-map (held_as_listed chunks) (λ (x : InChunk). x.per) ∙ length-map chunks (λ (x : ChunkAt). record { per = x.per; description = x.description }) in
    let same : placed (places_as chunks) counts t.sizes ≡ placed t.places counts t.sizes =
    ap (λ (ps : List ℕ). placed ps counts t.sizes) (places ∙ ap (λ (k : ℕ). take k t.places) (sym m)) ∙ placed-take t.places counts t.sizes in
    rw (n, said, is_times, is_offsets, is_sync_told, is_placed, is_described, same, held) refl

-- what is wrong with the samples that tables say
pub samples_wrong : (bytes number scale entries : ℕ) (t : Tables) (count : ℕ) (f : TableFault) → length t.sizes ≡ count
    → (f ≡ tables.NoMemory) ⊎ (samples_said scale entries count t ≡ Err f) → (of_table f ≡ movies.NoMemory) ⊎ (samples_held bytes number scale entries t ≡ Err (of_table f))
unfolding samples_held samples_in
samples_wrong bytes number scale entries t count f n (inl e) = rw e (inl refl)
samples_wrong bytes number scale entries t count f n (inr e) =
    let said : samples_said scale entries (length t.sizes) t ≡ Err f = rw n e in
    let all : samples_in scale entries t ≡ Err f = rw said refl in
    stops_all movies.NoMemory (of_table f) (as_fault movies.Table (samples_in scale entries t)) (held_samples bytes number) (table_stops f (samples_in scale entries t) (inr all))
