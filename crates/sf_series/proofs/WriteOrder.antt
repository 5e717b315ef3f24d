-- The bytes of a file say in which order its chunks were written.
use Rattle.std.proofs.Common.{◌≡◌, ℕ, zero, suc, ◌+◌, ◌<◌, Bool, true, false, cond, List, [], ◌∷◌, ◌++◌, length, map, Option, Some, refl, sym, subst, ap, ◌∙◌, arith}
use Rattle.std.specs.Prelude.{◌==◌, nat_le, filter}
use Rattle.std.specs.List.{AllByRecursion}
use Rattle.std.proofs.lemmas.Bool.Decides.{nat_tests}
use Rattle.sf_tick.specs.declared.types.Chunk.{Chunk}
use Rattle.sf_entry.specs.declared.track_setup.TrackSetup.{TrackSetup}
use Rattle.sf_meaning.specs.Groups.{Group, groups}
use Rattle.sf_meaning.specs.Joined.{Held}
use Rattle.sf_meaning.specs.Written.{held_since}
use Rattle.sf_layout.specs.Layout.{layout, stored_bytes}
use Rattle.sf_layout.specs.Written.{base_of, track_groups}
use Rattle.sf_layout.specs.Writable.{Writable}
use Rattle.sf_layout.proofs.LayoutLaws.{layout_groups}
use Rattle.sf_series.specs.Dealt.{Placed, placed_as, placed_from, put_by_place, by_place, write_order, order_of, HasBytes}

-- where the chunks of a file stand, from a place on
abbrev pub places : ℕ → List Chunk → List Placed
places at [] = []
places at (c ∷ cs) = record { place = at; track = c.track } ∷ places (at + length (stored_bytes c.samples)) cs

-- each place is after this one, and they rise
abbrev pub After : ℕ → List Placed → Type 0
After at ps = AllByRecursion (λ p. at < p.place) ps

abbrev pub Rising : List Placed → Type 0
Rising [] = Unit {0}
Rising (p ∷ ps) = After p.place ps × Rising ps

-- those of a track, and those of this track and later ones
abbrev pub of_track : ℕ → List Placed → List Placed
of_track t ps = filter (λ p. p.track == t) ps

abbrev pub since : ℕ → List Placed → List Placed
since t ps = filter (λ p. nat_le t p.track) ps

after_if : (b : Bool) (at : ℕ) (p : Placed) (ps : List Placed) → at < p.place → After at ps → After at (cond b (p ∷ ps) ps)
after_if true at p ps less all = (less, all)
after_if false at p ps less all = all

after_since : (t at : ℕ) (ps : List Placed) → After at ps → After at (since t ps)
after_since t at [] all = tt
after_since t at (p ∷ ps) all = after_if (nat_le t p.track) at p (since t ps) all.0 (after_since t at ps all.1)

after_track : (t at : ℕ) (ps : List Placed) → After at ps → After at (of_track t ps)
after_track t at [] all = tt
after_track t at (p ∷ ps) all = after_if (p.track == t) at p (of_track t ps) all.0 (after_track t at ps all.1)

front_if : (b : Bool) (p q : Placed) (qs more : List Placed) → b ≡ true → cond b (p ∷ q ∷ qs) (q ∷ more) ≡ p ∷ q ∷ qs
front_if true p q qs more e = refl
front_if false p q qs more e = cc

behind_if : (b : Bool) (p q : Placed) (qs more : List Placed) → b ≡ false → cond b (p ∷ q ∷ qs) (q ∷ more) ≡ q ∷ more
behind_if true p q qs more e = cc
behind_if false p q qs more e = refl

drop_if : (b : Bool) (p : Placed) (ps : List Placed) → b ≡ false → ps ≡ [] → cond b (p ∷ ps) ps ≡ []
drop_if true p ps e none = cc
drop_if false p ps e none = none

keep_if : (b : Bool) (p : Placed) (ps qs : List Placed) → b ≡ true → ps ≡ qs → cond b (p ∷ ps) ps ≡ p ∷ qs
keep_if true p ps qs e same = ap (λ (rs : List Placed). p ∷ rs) same
keep_if false p ps qs e same = cc

-- the least place goes to the front, and a later one goes after it
put_least : (p : Placed) (ps : List Placed) → After p.place ps → put_by_place p ps ≡ p ∷ ps
put_least p [] all = refl
put_least p (q ∷ ps) all = front_if (nat_le p.place q.place) p q ps (put_by_place p ps) (let less : p.place < q.place = all.0 in grind (arith, nat_tests))

put_later : (p q : Placed) (ps : List Placed) → q.place < p.place → put_by_place p (q ∷ ps) ≡ q ∷ put_by_place p ps
put_later p q ps less = behind_if (nat_le p.place q.place) p q ps (put_by_place p ps) (grind (arith, nat_tests))

abbrev pub put_all : List Placed → List Placed → List Placed
put_all [] ys = ys
put_all (x ∷ xs) ys = put_by_place x (put_all xs ys)

by_place_append : (xs ys : List Placed) → by_place (xs ++ ys) ≡ put_all xs (by_place ys)
by_place_append [] ys = refl
by_place_append (x ∷ xs) ys = ap (λ (zs : List Placed). put_by_place x zs) (by_place_append xs ys)

put_all_later : (xs ys : List Placed) (q : Placed) → After q.place xs → put_all xs (q ∷ ys) ≡ q ∷ put_all xs ys
put_all_later [] ys q all = refl
put_all_later (x ∷ xs) ys q all = ap (λ (zs : List Placed). put_by_place x zs) (put_all_later xs ys q all.1) ∙ put_later x q (put_all xs ys) all.0

-- one more track is put among the later ones
put_if : (a b d : Bool) (p : Placed) (xs ys zs : List Placed) → (a ≡ true → (b ≡ false) × (d ≡ true)) → (b ≡ true → d ≡ true) → (a ≡ false → b ≡ false → d ≡ false) → After p.place xs → After p.place zs → put_all xs ys ≡ zs
    → put_all (cond a (p ∷ xs) xs) (cond b (p ∷ ys) ys) ≡ cond d (p ∷ zs) zs
put_if true true d p xs ys zs u v w behind after e = let wrong : true ≡ false = (u refl).0 in cc
put_if true false true p xs ys zs u v w behind after e = ap (λ (ps : List Placed). put_by_place p ps) e ∙ put_least p zs after
put_if true false false p xs ys zs u v w behind after e = let wrong : false ≡ true = (u refl).1 in cc
put_if false true true p xs ys zs u v w behind after e = put_all_later xs ys p behind ∙ ap (λ (ps : List Placed). p ∷ ps) e
put_if false true false p xs ys zs u v w behind after e = let wrong : false ≡ true = v refl in cc
put_if false false true p xs ys zs u v w behind after e = let wrong : true ≡ false = w refl refl in cc
put_if false false false p xs ys zs u v w behind after e = e

put_track : (t : ℕ) (ps : List Placed) → Rising ps → put_all (of_track t ps) (since (t + 1) ps) ≡ since t ps
put_track t [] rising = refl
put_track t (p ∷ ps) rising =
    put_if (p.track == t) (nat_le (t + 1) p.track) (nat_le t p.track) p (of_track t ps) (since (t + 1) ps) (since t ps)
    (λ e. (grind (arith, nat_tests), grind (arith, nat_tests))) (λ e. grind (arith, nat_tests)) (λ e f. grind (arith, nat_tests))
    (after_track t p.place ps rising.0) (after_since t p.place ps rising.0) (put_track t ps rising.1)

-- the tracks one after the other
abbrev pub tracks_from : ℕ → ℕ → List Placed → List Placed
tracks_from t zero ps = []
tracks_from t (suc more) ps = of_track t ps ++ tracks_from (t + 1) more ps

none_since : (t : ℕ) (ps : List Placed) → AllByRecursion (λ p. p.track < t) ps → since t ps ≡ []
none_since t [] all = refl
none_since t (p ∷ ps) all = drop_if (nat_le t p.track) p (since t ps) (let less : p.track < t = all.0 in grind (arith, nat_tests)) (none_since t ps all.1)

sorted_from : (t more : ℕ) (ps : List Placed) → Rising ps → AllByRecursion (λ p. p.track < t + more) ps → by_place (tracks_from t more ps) ≡ since t ps
sorted_from t zero ps rising all = sym (none_since t ps (let P : ℕ → Type 0 = λ n. AllByRecursion (λ p. p.track < n) ps in let same : t + 0 ≡ t = omega arith in subst P same all))
sorted_from t (suc more) ps rising all =
    let P : ℕ → Type 0 = λ n. AllByRecursion (λ p. p.track < n) ps in
    let same : t + suc more ≡ (t + 1) + more = omega arith in
    by_place_append (of_track t ps) (tracks_from (t + 1) more ps)
    ∙ ap (λ (zs : List Placed). put_all (of_track t ps) zs) (sorted_from (t + 1) more ps rising (subst P same all))
    ∙ put_track t ps rising

all_since : (ps : List Placed) → since 0 ps ≡ ps
all_since [] = refl
all_since (p ∷ ps) = keep_if (nat_le 0 p.track) p (since 0 ps) ps (grind (arith, nat_tests)) (all_since ps)

group_if : (b : Bool) (t at : ℕ) (c : Chunk) (gs : List Group) (ps : List Placed) (samples : List Held) → (b ≡ true → c.track ≡ t) → placed_as t (Some gs) ≡ ps
    → placed_as t (Some (cond b (record { place = at; samples = samples } ∷ gs) gs)) ≡ cond b (record { place = at; track = c.track } ∷ ps) ps
group_if true t at c gs ps samples on e =
    ap (λ (qs : List Placed). record { place = at; track = t } ∷ qs) e ∙ ap (λ (n : ℕ). record { place = at; track = n } ∷ ps) (sym (on refl))
group_if false t at c gs ps samples on e = e

-- the groups of a track stand where its chunks do
groups_placed : (base t at : ℕ) (file : List Chunk) → placed_as t (Some (track_groups base t at file)) ≡ of_track t (places at file)
groups_placed base t at [] = refl
groups_placed base t at (c ∷ file) =
    group_if (c.track == t) t at c (track_groups base t (at + length (stored_bytes c.samples)) file) (of_track t (places (at + length (stored_bytes c.samples)) file)) (map (held_since base) c.samples)
    (λ e. grind (arith, nat_tests)) (groups_placed base t (at + length (stored_bytes c.samples)) file)

-- chunks with bytes stand one after the other
places_after : (bound at : ℕ) (file : List Chunk) → bound < at → After bound (places at file)
places_after bound at [] less = tt
places_after bound at (c ∷ file) less = (less, places_after bound (at + length (stored_bytes c.samples)) file (omega arith))

places_rise : (at : ℕ) (file : List Chunk) → AllByRecursion HasBytes file → Rising (places at file)
places_rise at [] all = tt
places_rise at (c ∷ file) all =
    (places_after at (at + length (stored_bytes c.samples)) file (omega (arith, all.0)), places_rise (at + length (stored_bytes c.samples)) file all.1)

places_below : (n at : ℕ) (file : List Chunk) → AllByRecursion (λ c. c.track < n) file → AllByRecursion (λ p. p.track < n) (places at file)
places_below n at [] all = tt
places_below n at (c ∷ file) all = (all.0, places_below n (at + length (stored_bytes c.samples)) file all.1)

places_order : (at : ℕ) (file : List Chunk) → map (λ (p : Placed). p.track) (places at file) ≡ order_of file
places_order at [] = refl
places_order at (c ∷ file) = ap (λ (ts : List ℕ). c.track ∷ ts) (places_order (at + length (stored_bytes c.samples)) file)

placed_layout : (setups : List TrackSetup) (file : List Chunk) (t more : ℕ) → Writable setups file → t + more ≡ length setups → placed_from (layout setups file) t more ≡ tracks_from t more (places 40 file)
placed_layout setups file t zero w same = refl
placed_layout setups file t (suc more) w same =
    let here : groups (layout setups file) t ≡ Some (track_groups (base_of t file) t 40 file) = layout_groups setups file t w (omega arith) in
    ap (λ (gs : Option (List Group)). placed_as t gs ++ placed_from (layout setups file) (t + 1) more) here
    ∙ ap (λ (ps : List Placed). ps ++ placed_from (layout setups file) (t + 1) more) (groups_placed (base_of t file) t 40 file)
    ∙ ap (λ (ps : List Placed). of_track t (places 40 file) ++ ps) (placed_layout setups file (t + 1) more w (omega arith))

-- a file's bytes say the order of its chunks
pub order_said : (setups : List TrackSetup) (file : List Chunk) → Writable setups file → AllByRecursion HasBytes file → AllByRecursion (λ c. c.track < length setups) file
    → write_order (length setups) (layout setups file) ≡ order_of file
order_said setups file w bytes below =
    let sorted : by_place (tracks_from 0 (length setups) (places 40 file)) ≡ since 0 (places 40 file) =
    (let P : ℕ → Type 0 = λ n. AllByRecursion (λ p. p.track < n) (places 40 file) in
    let same : length setups ≡ 0 + length setups = omega arith in
    sorted_from 0 (length setups) (places 40 file) (places_rise 40 file bytes) (subst P same (places_below (length setups) 40 file below))) in
    ap (λ (ps : List Placed). map (λ (p : Placed). p.track) (by_place ps)) (placed_layout setups file 0 (length setups) w (omega arith))
    ∙ ap (λ (ps : List Placed). map (λ (p : Placed). p.track) ps) (sorted ∙ all_since (places 40 file))
    ∙ places_order 40 file
