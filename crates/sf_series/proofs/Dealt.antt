-- Chunks are dealt back by the write order of their files.
use Rattle.std.proofs.Common.{◌≡◌, ℕ, List, [], ◌∷◌, ◌++◌, drop, map, refl, sym, ap, ◌∙◌, append_assoc}
use Rattle.std.specs.Prelude.{slice_get, option_to_list, ◌==◌}
use Rattle.std.proofs.lemmas.List.{append_cancel_left}
use Rattle.std.proofs.lemmas.List.Elements.{filter-append}
use Rattle.sf_tick.specs.declared.types.Chunk.{Chunk}
use Rattle.sf_interleave.specs.Waiting.{list_of, without_front}
use Rattle.sf_layout.specs.Layout.{track_chunks}
use Rattle.sf_series.specs.Files.{flat, chunks_of_track}
use Rattle.sf_series.specs.Dealt.{order_of, dealt_file, left_of, dealt}
use Rattle.sf_series.proofs.Lists.{one, one_same, list_without}

-- the lists begin with these chunks, each track's with those of the track, and then go on
abbrev pub BeginWith : List (List Chunk) → List Chunk → (ℕ → List Chunk) → Type 0
BeginWith lists chunks rest = (t : ℕ) → list_of lists t ≡ track_chunks t chunks ++ rest t

-- the first of the chunks is the first one of its track's list
first_there : (lists : List (List Chunk)) (c : Chunk) (chunks : List Chunk) (rest : ℕ → List Chunk) → BeginWith lists (c ∷ chunks) rest → list_of lists c.track ≡ c ∷ (track_chunks c.track chunks ++ rest c.track)
first_there lists c chunks rest begins =
    begins c.track ∙ ap (λ (cs : List Chunk). cs ++ rest c.track) (filter-append (λ (d : Chunk). d.track == c.track) (c ∷ []) chunks ∙ ap (λ (cs : List Chunk). cs ++ track_chunks c.track chunks) (one_same c c.track refl))

-- without it the lists begin with the others
others_there : (lists : List (List Chunk)) (c : Chunk) (chunks : List Chunk) (rest : ℕ → List Chunk) → BeginWith lists (c ∷ chunks) rest → BeginWith (without_front lists c.track) chunks rest
others_there lists c chunks rest begins t =
    let first = first_there lists c chunks rest begins in
    let split : list_of lists c.track ≡ c ∷ drop 1 (list_of lists c.track) = first ∙ ap (λ (cs : List Chunk). c ∷ drop 1 cs) (sym first) in
    append_cancel_left (one c t) _ _
    (list_without lists c t split ∙ begins t ∙ ap (λ (cs : List Chunk). cs ++ rest t) (filter-append (λ (d : Chunk). d.track == t) (c ∷ []) chunks) ∙ append_assoc (one c t) (track_chunks t chunks) (rest t))

-- a file's chunks are dealt
file_dealt : (file : List Chunk) (lists : List (List Chunk)) (rest : ℕ → List Chunk) → BeginWith lists file rest → dealt_file (order_of file) lists ≡ file
file_dealt [] lists rest begins = refl
file_dealt (c ∷ file) lists rest begins =
    ap (λ (cs : List Chunk). option_to_list (slice_get cs 0) ++ dealt_file (order_of file) (without_front lists c.track)) (first_there lists c file rest begins)
    ∙ ap (λ (cs : List Chunk). c ∷ cs) (file_dealt file (without_front lists c.track) rest (others_there lists c file rest begins))

-- and the others are left
file_left : (file more : List Chunk) (lists : List (List Chunk)) (rest : ℕ → List Chunk) → BeginWith lists (file ++ more) rest → BeginWith (left_of (order_of file) lists) more rest
file_left [] more lists rest begins = begins
file_left (c ∷ file) more lists rest begins = file_left file more (without_front lists c.track) rest (others_there lists c (file ++ more) rest begins)

-- a front of the chunks is what the lists begin with, too
front_there : (file more : List Chunk) (lists : List (List Chunk)) (rest : ℕ → List Chunk) → BeginWith lists (file ++ more) rest → BeginWith lists file (λ (t : ℕ). track_chunks t more ++ rest t)
front_there file more lists rest begins t =
    begins t ∙ ap (λ (cs : List Chunk). cs ++ rest t) (filter-append (λ (d : Chunk). d.track == t) file more) ∙ append_assoc (track_chunks t file) (track_chunks t more) (rest t)

pub files_dealt : (files lists : List (List Chunk)) (rest : ℕ → List Chunk) → ((t : ℕ) → list_of lists t ≡ chunks_of_track t files ++ rest t) → dealt (map order_of files) lists ≡ files
files_dealt [] lists rest begins = refl
files_dealt (file ∷ files) lists rest begins =
    let here : dealt_file (order_of file) lists ≡ file = file_dealt file lists (λ (t : ℕ). track_chunks t (flat files) ++ rest t) (front_there file (flat files) lists rest begins) in
    ap (λ (f : List Chunk). f ∷ dealt (map order_of files) (left_of (order_of file) lists)) here
    ∙ ap (λ (fs : List (List Chunk)). file ∷ fs) (files_dealt files (left_of (order_of file) lists) rest (file_left file (flat files) lists rest begins))
