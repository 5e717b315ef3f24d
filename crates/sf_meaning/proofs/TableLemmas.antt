-- Each table that was written is read back as the list that it was made from.
use Rattle.std.proofs.Common.{◌≡◌, ℕ, suc, ◌+◌, ◌-◌, ◌*◌, ◌^◌, ◌<◌, ◌≤◌, ◌==◌, true, false, cond, List, [], ◌∷◌, ◌++◌, length, drop, map, replicate, refl, sym, ap, ◌∙◌, append_assoc, arith, inl, inr, lit<}
use Rattle.std.specs.List.{flat_map, AllByRecursion, list_all}
use Rattle.std.proofs.lemmas.List.{append-nil, length-append, drop-drop}
use Rattle.std.proofs.lemmas.Bool.{ne_eqb}
use Rattle.std.proofs.lemmas.Bool.Decides.{eqb_tells}
use Rattle.sf_box.specs.Boxes.{be32, be64, word32}
use Rattle.sf_box.proofs.BoxLaws.{word32_of, word64_of, drop_word, drop_wide, length-be32, length-be64}
use Rattle.sf_meaning.specs.Tables.{words, wide_words, run_pairs, expand, running, offset_in, offsets_in, sync_numbers_in, count_in, deltas_in, places_in, sample_count, sizes_in}
use Rattle.sf_meaning.specs.Stbl.{zeros, in_front, runs_of, differences, uniform, run_bytes, stts_body, ctts_body, stss_body, stsz_body, stco_body, co64_body}
use Rattle.sf_meaning.specs.Writable.{Paced}
use Rattle.sf_meaning.proofs.ListLemmas.{bool_tells}

-- what has four bytes
abbrev pub Word : ℕ → Type 0
Word n = n < 2 ^ 32

-- what has eight bytes
abbrev pub Wide : ℕ → Type 0
Wide n = n < 2 ^ 64

abbrev pub WordPair : ℕ × ℕ → Type 0
WordPair run = Word run.0 × Word run.1

-- numbers after two others
pub after_two : (a b : ℕ) (rest : List ℕ) → drop 8 (be32 a ++ (be32 b ++ rest)) ≡ rest
after_two a b rest = sym (drop-drop 4 4 (be32 a ++ (be32 b ++ rest))) ∙ ap (drop 4) (drop_word a (be32 b ++ rest)) ∙ drop_word b rest

-- numbers that were written one after the other
pub words_of : (xs rest : List ℕ) → AllByRecursion Word xs → words (length xs) (flat_map be32 xs ++ rest) ≡ xs
words_of [] rest all = refl
words_of (x ∷ xs) rest all =
    let front : (be32 x ++ flat_map be32 xs) ++ rest ≡ be32 x ++ (flat_map be32 xs ++ rest) = append_assoc (be32 x) (flat_map be32 xs) rest in
    rw (front, word32_of x (flat_map be32 xs ++ rest) all.0, drop_word x (flat_map be32 xs ++ rest), words_of xs rest all.1) refl

pub wide_words_of : (xs rest : List ℕ) → AllByRecursion Wide xs → wide_words (length xs) (flat_map be64 xs ++ rest) ≡ xs
wide_words_of [] rest all = refl
wide_words_of (x ∷ xs) rest all =
    let front : (be64 x ++ flat_map be64 xs) ++ rest ≡ be64 x ++ (flat_map be64 xs ++ rest) = append_assoc (be64 x) (flat_map be64 xs) rest in
    rw (front, word64_of x (flat_map be64 xs ++ rest) all.0, drop_wide x (flat_map be64 xs ++ rest), wide_words_of xs rest all.1) refl

pub run_pairs_of : (runs : List (ℕ × ℕ)) (rest : List ℕ) → AllByRecursion WordPair runs → run_pairs (length runs) (flat_map run_bytes runs ++ rest) ≡ runs
run_pairs_of [] rest all = refl
run_pairs_of (run ∷ runs) rest all =
    let tail : List ℕ = flat_map run_bytes runs ++ rest in
    let front : ((be32 run.0 ++ be32 run.1) ++ flat_map run_bytes runs) ++ rest ≡ be32 run.0 ++ (be32 run.1 ++ tail) = simp append_assoc in
    rw (front, word32_of run.0 (be32 run.1 ++ tail) all.0.0, drop_word run.0 (be32 run.1 ++ tail), word32_of run.1 tail all.0.1, after_two run.0 run.1 tail, run_pairs_of runs rest all.1) refl

-- a value in front of runs is in front of the list that they expand to
expand_front : (x : ℕ) (runs : List (ℕ × ℕ)) → expand (in_front x runs) ≡ x ∷ expand runs
expand_front x [] = refl
expand_front x (run ∷ runs) = elim (eqb_tells x run.1) [ inl p ↦ rw (p.0, p.1) (let k : run.0 + 1 ≡ suc run.0 = omega arith in rw k refl) | inr p ↦ rw p.0 refl ]

-- runs expand to the list that they were made from
pub expand_runs : (xs : List ℕ) → expand (runs_of xs) ≡ xs
expand_runs [] = refl
expand_runs (x ∷ xs) = expand_front x (runs_of xs) ∙ ap (λ (ys : List ℕ). x ∷ ys) (expand_runs xs)

-- a run counts so many values at the most
abbrev pub RunIn : ℕ → ℕ × ℕ → Type 0
RunIn n run = (run.0 ≤ n) × Word run.1

runs_wider : (m n : ℕ) (runs : List (ℕ × ℕ)) → m ≤ n → AllByRecursion (RunIn m) runs → AllByRecursion (RunIn n) runs
runs_wider m n [] le all = tt
runs_wider m n (run ∷ runs) le all = ((omega (arith, all.0.0), all.0.1), runs_wider m n runs le all.1)

front_within : (m n x : ℕ) (runs : List (ℕ × ℕ)) → m + 1 ≤ n → Word x → AllByRecursion (RunIn m) runs → AllByRecursion (RunIn n) (in_front x runs)
front_within m n x [] le w all = ((omega arith, w), tt)
front_within m n x (run ∷ runs) le w all =
    elim (eqb_tells x run.1) [
      | inl p ↦ rw p.0 ((omega (arith, all.0.0), w), runs_wider m n runs (omega arith) all.1)
      | inr p ↦ rw p.0 ((omega arith, w), runs_wider m n (run ∷ runs) (omega arith) all)
    ]

-- the runs of words are words
pub runs_within : (n : ℕ) (xs : List ℕ) → length xs ≤ n → AllByRecursion Word xs → AllByRecursion (RunIn n) (runs_of xs)
runs_within n [] le all = tt
runs_within n (x ∷ xs) le all = front_within (length xs) n x (runs_of xs) (omega arith) all.0 (runs_within (length xs) xs (omega arith) all.1)

run_pairs_are : (n : ℕ) (runs : List (ℕ × ℕ)) → n < 2 ^ 32 → AllByRecursion (RunIn n) runs → AllByRecursion WordPair runs
run_pairs_are n [] lt all = tt
run_pairs_are n (run ∷ runs) lt all = ((omega (arith, all.0.0), all.0.1), run_pairs_are n runs lt all.1)

front_longer : (x : ℕ) (runs : List (ℕ × ℕ)) → length (in_front x runs) ≤ suc (length runs)
front_longer x [] = omega arith
front_longer x (run ∷ runs) = elim (eqb_tells x run.1) [ inl p ↦ rw p.0 (omega arith) | inr p ↦ rw p.0 (omega arith) ]

-- there are no more runs than values
pub length-runs_of : (xs : List ℕ) → length (runs_of xs) ≤ length xs
length-runs_of [] = omega arith
length-runs_of (x ∷ xs) = omega (arith, front_longer x (runs_of xs), length-runs_of xs)

pub length-run_bytes : (runs : List (ℕ × ℕ)) → length (flat_map run_bytes runs) ≡ 8 * length runs
length-run_bytes [] = refl
length-run_bytes (run ∷ runs) =
    omega (arith, length-append (be32 run.0 ++ be32 run.1) (flat_map run_bytes runs), length-append (be32 run.0) (be32 run.1), length-be32 run.0, length-be32 run.1, length-run_bytes runs)

pub length-words : (xs : List ℕ) → length (flat_map be32 xs) ≡ 4 * length xs
length-words [] = refl
length-words (x ∷ xs) = omega (arith, length-append (be32 x) (flat_map be32 xs), length-be32 x, length-words xs)

pub length-wide_words : (xs : List ℕ) → length (flat_map be64 xs) ≡ 8 * length xs
length-wide_words [] = refl
length-wide_words (x ∷ xs) = omega (arith, length-append (be64 x) (flat_map be64 xs), length-be64 x, length-wide_words xs)

-- a counted table's body, of a version
abbrev pub table : ℕ → ℕ → List ℕ → List ℕ
table version n entries = (version ∷ zeros 3) ++ (be32 n ++ entries)

pub count_of_table : (version n : ℕ) (entries : List ℕ) → n < 2 ^ 32 → count_in (table version n entries) ≡ n
count_of_table version n entries lt = word32_of n entries lt

pub entries_of_table : (version n : ℕ) (entries : List ℕ) → drop 8 (table version n entries) ≡ entries
entries_of_table version n entries = drop_word n entries

pub length-table : (version n : ℕ) (entries : List ℕ) → length (table version n entries) ≡ 8 + length entries
length-table version n entries = omega (arith, length-append (be32 n) entries, length-be32 n)

-- the runs of a list are read back
runs_back : (version : ℕ) (xs : List ℕ) → length xs < 2 ^ 32 → AllByRecursion Word xs
    → run_pairs (count_in (table version (length (runs_of xs)) (flat_map run_bytes (runs_of xs)))) (drop 8 (table version (length (runs_of xs)) (flat_map run_bytes (runs_of xs)))) ≡ runs_of xs
runs_back version xs lt all =
    let runs : List (ℕ × ℕ) = runs_of xs in
    let entries : List ℕ = flat_map run_bytes runs in
    let count : count_in (table version (length runs) entries) ≡ length runs = count_of_table version (length runs) entries (omega (arith, length-runs_of xs)) in
    let pairs : run_pairs (length runs) (entries ++ []) ≡ runs = run_pairs_of runs [] (run_pairs_are (length xs) runs lt (runs_within (length xs) xs (omega arith) all)) in
    rw (count, entries_of_table version (length runs) entries) (ap (λ (t : List ℕ). run_pairs (length runs) t) (sym (append-nil entries)) ∙ pairs)

-- the deltas are read back
pub deltas_back : (deltas : List ℕ) → length deltas < 2 ^ 32 → AllByRecursion Word deltas → deltas_in (stts_body deltas) ≡ deltas
unfolding stts_body
deltas_back deltas lt all = ap expand (runs_back 0 deltas lt all) ∙ expand_runs deltas

pub count_in-stts : (deltas : List ℕ) → length deltas < 2 ^ 32 → count_in (stts_body deltas) ≡ length (runs_of deltas)
unfolding stts_body
count_in-stts deltas lt = count_of_table 0 (length (runs_of deltas)) (flat_map run_bytes (runs_of deltas)) (omega (arith, length-runs_of deltas))

pub length-stts : (deltas : List ℕ) → length (stts_body deltas) ≡ 8 + 8 * length (runs_of deltas)
unfolding stts_body
length-stts deltas = length-table 0 (length (runs_of deltas)) (flat_map run_bytes (runs_of deltas)) ∙ ap (λ (n : ℕ). 8 + n) (length-run_bytes (runs_of deltas))

-- the composition offsets are read back
pub offsets_back : (version : ℕ) (ws : List ℕ) → length ws < 2 ^ 32 → AllByRecursion Word ws → offsets_in (ctts_body version ws) ≡ map (offset_in version) ws
unfolding ctts_body
offsets_back version ws lt all = ap (λ (runs : List (ℕ × ℕ)). map (offset_in version) (expand runs)) (runs_back version ws lt all) ∙ ap (map (offset_in version)) (expand_runs ws)

pub count_in-ctts : (version : ℕ) (ws : List ℕ) → length ws < 2 ^ 32 → count_in (ctts_body version ws) ≡ length (runs_of ws)
unfolding ctts_body
count_in-ctts version ws lt = count_of_table version (length (runs_of ws)) (flat_map run_bytes (runs_of ws)) (omega (arith, length-runs_of ws))

pub length-ctts : (version : ℕ) (ws : List ℕ) → length (ctts_body version ws) ≡ 8 + 8 * length (runs_of ws)
unfolding ctts_body
length-ctts version ws = length-table version (length (runs_of ws)) (flat_map run_bytes (runs_of ws)) ∙ ap (λ (n : ℕ). 8 + n) (length-run_bytes (runs_of ws))

-- numbers of four bytes are read back
numbers_back : (xs : List ℕ) → length xs < 2 ^ 32 → AllByRecursion Word xs → words (count_in (table 0 (length xs) (flat_map be32 xs))) (drop 8 (table 0 (length xs) (flat_map be32 xs))) ≡ xs
numbers_back xs lt all =
    let entries : List ℕ = flat_map be32 xs in
    rw (count_of_table 0 (length xs) entries lt, entries_of_table 0 (length xs) entries) (ap (words (length xs)) (sym (append-nil entries)) ∙ words_of xs [] all)

-- the numbers of the sync samples are read back
pub sync_numbers_back : (numbers : List ℕ) → length numbers < 2 ^ 32 → AllByRecursion Word numbers → sync_numbers_in (stss_body numbers) ≡ numbers
unfolding stss_body
sync_numbers_back numbers lt all = numbers_back numbers lt all

pub count_in-stss : (numbers : List ℕ) → length numbers < 2 ^ 32 → count_in (stss_body numbers) ≡ length numbers
unfolding stss_body
count_in-stss numbers lt = count_of_table 0 (length numbers) (flat_map be32 numbers) lt

pub length-stss : (numbers : List ℕ) → length (stss_body numbers) ≡ 8 + 4 * length numbers
unfolding stss_body
length-stss numbers = length-table 0 (length numbers) (flat_map be32 numbers) ∙ ap (λ (n : ℕ). 8 + n) (length-words numbers)

-- the places are read back
pub places_back : (places : List ℕ) → length places < 2 ^ 32 → AllByRecursion Word places → places_in false (stco_body places) ≡ places
unfolding stco_body
places_back places lt all = numbers_back places lt all

pub count_in-stco : (places : List ℕ) → length places < 2 ^ 32 → count_in (stco_body places) ≡ length places
unfolding stco_body
count_in-stco places lt = count_of_table 0 (length places) (flat_map be32 places) lt

pub length-stco : (places : List ℕ) → length (stco_body places) ≡ 8 + 4 * length places
unfolding stco_body
length-stco places = length-table 0 (length places) (flat_map be32 places) ∙ ap (λ (n : ℕ). 8 + n) (length-words places)

pub wide_places_back : (places : List ℕ) → length places < 2 ^ 32 → AllByRecursion Wide places → places_in true (co64_body places) ≡ places
unfolding co64_body
wide_places_back places lt all =
    let entries : List ℕ = flat_map be64 places in
    rw (count_of_table 0 (length places) entries lt, entries_of_table 0 (length places) entries) (ap (wide_words (length places)) (sym (append-nil entries)) ∙ wide_words_of places [] all)

pub count_in-co64 : (places : List ℕ) → length places < 2 ^ 32 → count_in (co64_body places) ≡ length places
unfolding co64_body
count_in-co64 places lt = count_of_table 0 (length places) (flat_map be64 places) lt

pub length-co64 : (places : List ℕ) → length (co64_body places) ≡ 8 + 8 * length places
unfolding co64_body
length-co64 places = length-table 0 (length places) (flat_map be64 places) ∙ ap (λ (n : ℕ). 8 + n) (length-wide_words places)

-- the size that all have, where it isn't 0
same_all : (x : ℕ) (xs : List ℕ) → list_all (λ y. y == x) xs ≡ true → xs ≡ replicate (length xs) x
same_all x [] e = refl
same_all x (y ∷ ys) e =
    elim (eqb_tells y x) [
      | inl p ↦ let rest : list_all (λ z. z == x) ys ≡ true = rw p.0 at e in rw p.1 (ap (λ (zs : List ℕ). x ∷ zs) (same_all x ys rest))
      | inr p ↦ let no : false ≡ true = rw p.0 at e in absurd (cc no)
    ]

pub words_are : (sizes : List ℕ) → AllByRecursion (λ x. (0 < x) × Word x) sizes → AllByRecursion Word sizes
words_are [] all = tt
words_are (x ∷ xs) all = (all.0.1, words_are xs all.1)

-- the sizes are read back
sizes_each : (sizes : List ℕ) → uniform sizes ≡ 0 → length sizes < 2 ^ 32 → AllByRecursion Word sizes → sizes_in (stsz_body sizes) ≡ sizes
unfolding stsz_body
sizes_each sizes none lt all =
    let entries : List ℕ = flat_map be32 sizes in
    let rest : List ℕ = be32 (length sizes) ++ entries in
    rw (none, word32_of 0 rest (lit< tt), drop_word 0 rest, word32_of (length sizes) entries lt, after_two 0 (length sizes) entries)
    (ap (words (length sizes)) (sym (append-nil entries)) ∙ words_of sizes [] all)

sizes_same : (sizes : List ℕ) (x : ℕ) → uniform sizes ≡ x → 0 < x → x < 2 ^ 32 → sizes ≡ replicate (length sizes) x → length sizes < 2 ^ 32 → sizes_in (stsz_body sizes) ≡ sizes
unfolding stsz_body
sizes_same sizes x u some fits same lt =
    let other : (x == 0) ≡ false = ne_eqb x 0 (λ e. omega (arith, e, some)) in
    let rest : List ℕ = be32 (length sizes) ++ [] in
    rw (u, other, word32_of x rest fits, other, drop_word x rest, word32_of (length sizes) [] lt) (sym same)

pub sizes_back : (sizes : List ℕ) → AllByRecursion (λ x. (0 < x) × Word x) sizes → length sizes < 2 ^ 32 → sizes_in (stsz_body sizes) ≡ sizes
sizes_back [] all lt = sizes_each [] refl lt tt
sizes_back (x ∷ xs) all lt =
    elim (bool_tells (list_all (λ y. y == x) xs)) [
      | inl t ↦ sizes_same (x ∷ xs) x (rw t refl) all.0.0 all.0.1 (ap (λ (zs : List ℕ). x ∷ zs) (same_all x xs t)) lt
      | inr f ↦ sizes_each (x ∷ xs) (rw f refl) lt (words_are (x ∷ xs) all)
    ]

pub sample_count_back : (sizes : List ℕ) → length sizes < 2 ^ 32 → sample_count (stsz_body sizes) ≡ length sizes
unfolding stsz_body
sample_count_back sizes lt =
    let entries : List ℕ = cond (uniform sizes == 0) (flat_map be32 sizes) [] in
    let rest : List ℕ = be32 (length sizes) ++ entries in
    ap word32 (drop_word (uniform sizes) rest) ∙ word32_of (length sizes) entries lt

-- the times before each sample are the decode times, counted from the first
pub running_differences : (s b t last : ℕ) (ts : List ℕ) → s + b ≡ t → Paced t ts → running s (differences last t ts) ≡ map (λ y. y - b) (t ∷ ts)
running_differences s b t last [] e paced = let f : s ≡ t - b = omega (arith, e) in ap (λ (x : ℕ). x ∷ []) f
running_differences s b t last (u ∷ ts) e paced =
    let f : s + (u - t) + b ≡ u = omega (arith, e, paced.0) in
    let g : s ≡ t - b = omega (arith, e) in
    ap (λ (xs : List ℕ). s ∷ xs) (running_differences (s + (u - t)) b u (u - t) ts f paced.2) ∙ ap (λ (x : ℕ). x ∷ map (λ y. y - b) (u ∷ ts)) g

pub differences_words : (last t : ℕ) (ts : List ℕ) → last < 2 ^ 32 → Paced t ts → AllByRecursion Word (differences last t ts)
differences_words last t [] lt paced = (lt, tt)
differences_words last t (u ∷ ts) lt paced = (paced.1, differences_words (u - t) u ts paced.1 paced.2)

pub length-differences : (last t : ℕ) (ts : List ℕ) → length (differences last t ts) ≡ suc (length ts)
length-differences last t [] = refl
length-differences last t (u ∷ ts) = ap (λ (n : ℕ). suc n) (length-differences (u - t) u ts)

uniform_word : (sizes : List ℕ) → AllByRecursion Word sizes → Word (uniform sizes)
uniform_word [] all = lit< tt
uniform_word (x ∷ xs) all = elim (bool_tells (list_all (λ y. y == x) xs)) [ inl t ↦ rw t all.0 | inr f ↦ rw f (lit< tt) ]

-- the size of all that is read back
pub uniform_back : (sizes : List ℕ) → AllByRecursion Word sizes → word32 (drop 4 (stsz_body sizes)) ≡ uniform sizes
unfolding stsz_body
uniform_back sizes all = word32_of (uniform sizes) (be32 (length sizes) ++ cond (uniform sizes == 0) (flat_map be32 sizes) []) (uniform_word sizes all)

pub length-stsz : (sizes : List ℕ) → length (stsz_body sizes) ≡ 12 + length (cond (uniform sizes == 0) (flat_map be32 sizes) [])
unfolding stsz_body
length-stsz sizes =
    let entries : List ℕ = cond (uniform sizes == 0) (flat_map be32 sizes) [] in
    omega (arith, length-append (be32 (uniform sizes)) (be32 (length sizes) ++ entries), length-append (be32 (length sizes)) entries, length-be32 (uniform sizes), length-be32 (length sizes))

-- where the sizes differ they stand each by itself
pub length-stsz_each : (sizes : List ℕ) → (uniform sizes == 0) ≡ true → length (stsz_body sizes) ≡ 12 + 4 * length sizes
length-stsz_each sizes none = length-stsz sizes ∙ rw none (ap (λ (n : ℕ). 12 + n) (length-words sizes))
