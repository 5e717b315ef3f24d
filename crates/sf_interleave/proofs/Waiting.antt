-- The chunk that is picked, and lists that keep to their tracks.
use Rattle.std.proofs.lemmas.List.{get_or_default}
use Rattle.std.specs.Result.{OnOk, OnErr}
use Rattle.std.proofs.Common.{Result, Ok, Err, ◌≡◌, ℕ, zero, suc, ◌+◌, ◌<◌, ◌≤◌, ◌⊎◌, Bool, true, false, cond, List, [], ◌∷◌, ◌++◌, length, get_or, set, drop, replicate, Option, Some, None, refl, sym, ap, subst, ◌∙◌, inl, inr, arith}
use Rattle.std.specs.Prelude.{nat_le, slice_get}
use Rattle.std.specs.List.{AllByRecursion}
use Rattle.std.proofs.lemmas.Bool.Decides.{nat_tests}
use Rattle.sf_tick.specs.declared.types.Chunk.{Chunk}
use Rattle.sf_interleave.specs.Waiting.{how_many, list_of, with_chunk, without_front, earlier_chunk, earliest_front, OfTheirTracks}

abbrev pub OnTrack : ℕ → List Chunk → Type 0
OnTrack track list = AllByRecursion (λ c. c.track ≡ track) list

pub on_same : (a b : ℕ) (list : List Chunk) → a ≡ b → OnTrack a list → OnTrack b list
on_same a b list e all = let P : ℕ → Type 0 = λ n. OnTrack n list in subst P e all

pub on_push : (track : ℕ) (list : List Chunk) (c : Chunk) → OnTrack track list → c.track ≡ track → OnTrack track (list ++ c ∷ [])
on_push track [] c all e = (e, tt)
on_push track (x ∷ list) c all e = (all.0, on_push track list c all.1 e)

pub on_rest : (track : ℕ) (list : List Chunk) → OnTrack track list → OnTrack track (drop 1 list)
on_rest track [] all = tt
on_rest track (x ∷ list) all = all.1

pub their_none : (n track : ℕ) → OfTheirTracks track (replicate n [])
their_none zero track = tt
their_none (suc n) track = (tt, their_none n (track + 1))

pub their_at : (lists : List (List Chunk)) (track at : ℕ) → OfTheirTracks track lists → OnTrack (track + at) (get_or lists at [])
their_at [] track at all = tt
their_at (list ∷ lists) track zero all = on_same track (track + 0) list (omega arith) all.0
their_at (list ∷ lists) track (suc at) all = on_same ((track + 1) + at) (track + suc at) (get_or lists at []) (omega arith) (their_at lists (track + 1) at all.1)

pub their_set : (lists : List (List Chunk)) (track at : ℕ) (list : List Chunk) → OfTheirTracks track lists → OnTrack (track + at) list → OfTheirTracks track (set lists at list)
their_set [] track at new all on = tt
their_set (list ∷ lists) track zero new all on = (on_same (track + 0) track new (omega arith) on, all.1)
their_set (list ∷ lists) track (suc at) new all on =
    (all.0, their_set lists (track + 1) at new all.1 (on_same (track + suc at) ((track + 1) + at) new (omega arith) on))

pub their_waiting : (lists : List (List Chunk)) (track : ℕ) → OfTheirTracks 0 lists → OnTrack track (list_of lists track)
their_waiting lists track all = on_same (0 + track) track (list_of lists track) (omega arith) (their_at lists 0 track all)

pub their_with : (lists : List (List Chunk)) (c : Chunk) → OfTheirTracks 0 lists → OfTheirTracks 0 (with_chunk lists c)
their_with lists c all =
    their_set lists 0 c.track _ all (on_same c.track (0 + c.track) (list_of lists c.track ++ c ∷ []) (omega arith) (on_push c.track (list_of lists c.track) c (their_waiting lists c.track all) refl))

pub their_without : (lists : List (List Chunk)) (track : ℕ) → OfTheirTracks 0 lists → OfTheirTracks 0 (without_front lists track)
their_without lists track all =
    their_set lists 0 track _ all (on_same track (0 + track) (drop 1 (list_of lists track)) (omega arith) (on_rest track (list_of lists track) (their_waiting lists track all)))

front_on : (track : ℕ) (list : List Chunk) (c : Chunk) → OnTrack track list → slice_get list 0 ≡ Some c → c.track ≡ track
front_on track [] c all e = cc
front_on track (x ∷ list) c all e = let same : x ≡ c = cc in ap (λ (d : Chunk). d.track) (sym same) ∙ all.0

front_split : (list : List Chunk) (c : Chunk) → slice_get list 0 ≡ Some c → list ≡ c ∷ drop 1 list
front_split [] c e = cc
front_split (x ∷ list) c e = let same : x ≡ c = cc in ap (λ (d : Chunk). d ∷ list) same

front_first : (list rest : List Chunk) (c : Chunk) → list ≡ c ∷ rest → slice_get list 0 ≡ Some c
front_first list rest c e = ap (λ (cs : List Chunk). slice_get cs 0) e

front_none : (list : List Chunk) → slice_get list 0 ≡ None → list ≡ []
front_none [] e = refl
front_none (x ∷ list) e = cc

either_if : (b : Bool) (x y c : Chunk) → cond b (Some x) (Some y) ≡ Some c → (Some x ≡ Some c) ⊎ (Some y ≡ Some c)
either_if true x y c e = inl e
either_if false x y c e = inr e

-- the earlier one is one of the two
earlier_either : (a b : Option Chunk) (c : Chunk) → earlier_chunk a b ≡ Some c → (a ≡ Some c) ⊎ (b ≡ Some c)
earlier_either None b c e = inr e
earlier_either (Some x) None c e = inl e
earlier_either (Some x) (Some y) c e = either_if (nat_le x.first_us y.first_us) x y c e

least_if : (b : Bool) (x y c : Chunk) → (b ≡ true → x.first_us ≤ y.first_us) → (b ≡ false → y.first_us < x.first_us) → cond b (Some x) (Some y) ≡ Some c
    → (c.first_us ≤ x.first_us) × (c.first_us ≤ y.first_us)
least_if true x y c p q e = let same : x ≡ c = cc in let us : x.first_us ≡ c.first_us = ap (λ (d : Chunk). d.first_us) same in let le = p refl in (omega arith, omega arith)
least_if false x y c p q e = let same : y ≡ c = cc in let us : y.first_us ≡ c.first_us = ap (λ (d : Chunk). d.first_us) same in let le = q refl in (omega arith, omega arith)

-- the earlier one isn't after either
earlier_first : (a b : Option Chunk) (c x : Chunk) → earlier_chunk a b ≡ Some c → a ≡ Some x → c.first_us ≤ x.first_us
earlier_first None b c x e p = cc
earlier_first (Some y) None c x e p = let same : y ≡ x = cc in let too : y ≡ c = cc in let us : c.first_us ≡ x.first_us = ap (λ (d : Chunk). d.first_us) (sym too ∙ same) in omega arith
earlier_first (Some y) (Some z) c x e p =
    let same : y ≡ x = cc in
    let us : y.first_us ≡ x.first_us = ap (λ (d : Chunk). d.first_us) same in
    let both = least_if (nat_le y.first_us z.first_us) y z c (λ t. grind (arith, nat_tests)) (λ t. grind (arith, nat_tests)) e in
    omega (arith, both.0)

earlier_second : (a b : Option Chunk) (c x : Chunk) → earlier_chunk a b ≡ Some c → b ≡ Some x → c.first_us ≤ x.first_us
earlier_second None b c x e p = let same : Some c ≡ Some x = sym e ∙ p in let too : c ≡ x = cc in let us : c.first_us ≡ x.first_us = ap (λ (d : Chunk). d.first_us) too in omega arith
earlier_second (Some y) None c x e p = cc
earlier_second (Some y) (Some z) c x e p =
    let same : z ≡ x = cc in
    let us : z.first_us ≡ x.first_us = ap (λ (d : Chunk). d.first_us) same in
    let both = least_if (nat_le y.first_us z.first_us) y z c (λ t. grind (arith, nat_tests)) (λ t. grind (arith, nat_tests)) e in
    omega (arith, both.1)

none_if : (b : Bool) (x y : Chunk) → cond b (Some x) (Some y) ≡ None → (Some x ≡ None) × (Some y ≡ None)
none_if true x y e = cc
none_if false x y e = cc

-- there is an earlier one where one of the two is there
earlier_none : (a b : Option Chunk) → earlier_chunk a b ≡ None → (a ≡ None) × (b ≡ None)
earlier_none None b e = (refl, e)
earlier_none (Some x) None e = cc
earlier_none (Some x) (Some y) e = none_if (nat_le x.first_us y.first_us) x y e

-- where the second of two is the earlier one, and not the first, it begins before it
strict_if : (b : Bool) (x y c : Chunk) → (b ≡ false → y.first_us < x.first_us) → cond b (Some x) (Some y) ≡ Some c → x.track < c.track → c.first_us < x.first_us
strict_if true x y c q e less = let same : x ≡ c = cc in let on : x.track ≡ c.track = ap (λ (d : Chunk). d.track) same in absurd (omega arith)
strict_if false x y c q e less = let same : y ≡ c = cc in let us : y.first_us ≡ c.first_us = ap (λ (d : Chunk). d.first_us) same in let lt = q refl in omega arith

earlier_strict : (a b : Option Chunk) (c x : Chunk) → earlier_chunk a b ≡ Some c → a ≡ Some x → x.track < c.track → c.first_us < x.first_us
earlier_strict None b c x e p less = cc
earlier_strict (Some y) None c x e p less =
    let same : y ≡ x = cc in let too : y ≡ c = cc in let on : c.track ≡ x.track = ap (λ (d : Chunk). d.track) (sym too ∙ same) in absurd (omega arith)
earlier_strict (Some y) (Some z) c x e p less =
    let same : y ≡ x = cc in
    let us : y.first_us ≡ x.first_us = ap (λ (d : Chunk). d.first_us) same in
    let on : y.track ≡ x.track = ap (λ (d : Chunk). d.track) same in
    let lt : c.first_us < y.first_us = strict_if (nat_le y.first_us z.first_us) y z c (λ t. grind (arith, nat_tests)) e (omega arith) in
    omega arith

-- the picked one is the first of some list
pub earliest_at : (lists : List (List Chunk)) (c : Chunk) → earliest_front lists ≡ Some c → (at : ℕ) × (slice_get (get_or lists at []) 0 ≡ Some c)
earliest_at [] c e = cc
earliest_at (list ∷ lists) c e =
    elim (earlier_either (slice_get list 0) (earliest_front lists) c e) [
      | inl here ↦ (0, here)
      | inr later ↦ (let more = earliest_at lists c later in (suc more.0, more.1))
    ]

pub picked_front : (lists : List (List Chunk)) (c : Chunk) → OfTheirTracks 0 lists → earliest_front lists ≡ Some c → slice_get (list_of lists c.track) 0 ≡ Some c
picked_front lists c all e =
    let found = earliest_at lists c e in
    let on : c.track ≡ found.0 = front_on found.0 (list_of lists found.0) c (their_waiting lists found.0 all) found.1 in
    ap (λ (n : ℕ). slice_get (list_of lists n) 0) on ∙ found.1

pub picked_first : (lists : List (List Chunk)) (c : Chunk) → OfTheirTracks 0 lists → earliest_front lists ≡ Some c → list_of lists c.track ≡ c ∷ drop 1 (list_of lists c.track)
picked_first lists c all e = front_split (list_of lists c.track) c (picked_front lists c all e)

inside : (lists : List (List Chunk)) (at : ℕ) (c : Chunk) → slice_get (get_or lists at []) 0 ≡ Some c → at < length lists
inside [] at c e = cc
inside (list ∷ lists) zero c e = omega arith
inside (list ∷ lists) (suc at) c e = let more = inside lists at c e in omega arith

pub picked_inside : (lists : List (List Chunk)) (c : Chunk) → OfTheirTracks 0 lists → earliest_front lists ≡ Some c → c.track < length lists
picked_inside lists c all e = inside lists c.track c (picked_front lists c all e)

least_of : (later : Option Chunk) (list : List Chunk) (at : ℕ) (c x : Chunk) → earlier_chunk (slice_get list 0) later ≡ Some c → ((d : Chunk) → later ≡ Some d → d.first_us ≤ x.first_us) → (later ≡ None → ⊥) → c.first_us ≤ x.first_us
least_of None list at c x e more none = absurd (none refl)
least_of (Some d) list at c x e more none =
    let le : c.first_us ≤ d.first_us = earlier_second (slice_get list 0) (Some d) c d e refl in
    let too : d.first_us ≤ x.first_us = more d refl in
    omega arith

some_at : (lists : List (List Chunk)) (at : ℕ) (x : Chunk) → earliest_front lists ≡ None → slice_get (get_or lists at []) 0 ≡ Some x → ⊥
some_at [] at x e f = cc
some_at (list ∷ lists) zero x e f = let both = earlier_none (slice_get list 0) (earliest_front lists) e in let wrong : Some x ≡ None = sym f ∙ both.0 in cc
some_at (list ∷ lists) (suc at) x e f = some_at lists at x (earlier_none (slice_get list 0) (earliest_front lists) e).1 f

least_at : (lists : List (List Chunk)) (at : ℕ) (c x : Chunk) → earliest_front lists ≡ Some c → slice_get (get_or lists at []) 0 ≡ Some x → c.first_us ≤ x.first_us
least_at [] at c x e f = cc
least_at (list ∷ lists) zero c x e f = earlier_first (slice_get list 0) (earliest_front lists) c x e f
least_at (list ∷ lists) (suc at) c x e f = least_of (earliest_front lists) list at c x e (λ d p. least_at lists at d x p f) (λ p. some_at lists at x p f)

pub picked_least : (lists : List (List Chunk)) (c x : Chunk) (rest : List Chunk) (track : ℕ) → earliest_front lists ≡ Some c → list_of lists track ≡ x ∷ rest → c.first_us ≤ x.first_us
picked_least lists c x rest track e f = least_at lists track c x e (front_first (list_of lists track) rest x f)

lowest_at : (lists : List (List Chunk)) (track at : ℕ) (c x : Chunk) → OfTheirTracks track lists → earliest_front lists ≡ Some c → slice_get (get_or lists at []) 0 ≡ Some x → track + at < c.track → c.first_us < x.first_us
lowest_at [] track at c x all e f less = cc
lowest_at (list ∷ lists) track zero c x all e f less =
    let on : x.track ≡ track = front_on track list x all.0 f in
    earlier_strict (slice_get list 0) (earliest_front lists) c x e f (omega arith)
lowest_at (list ∷ lists) track (suc at) c x all e f less =
    elim (earlier_either (slice_get list 0) (earliest_front lists) c e) [
      | inl here ↦ (let on : c.track ≡ track = front_on track list c all.0 here in absurd (omega arith))
      | inr later ↦ lowest_at lists (track + 1) at c x all.1 later f (omega arith)
    ]

pub picked_lowest : (lists : List (List Chunk)) (c x : Chunk) (rest : List Chunk) (track : ℕ) → OfTheirTracks 0 lists → earliest_front lists ≡ Some c → list_of lists track ≡ x ∷ rest → track < c.track
    → c.first_us < x.first_us
picked_lowest lists c x rest track all e f less = lowest_at lists 0 track c x all e (front_first (list_of lists track) rest x f) (omega arith)

none_of : (front : Option Chunk) (list : List Chunk) → slice_get list 0 ≡ front → ((x : Chunk) → front ≡ Some x → ⊥) → list ≡ []
none_of None list e never = front_none list e
none_of (Some x) list e never = absurd (never x refl)

pub picked_none : (lists : List (List Chunk)) (track : ℕ) → earliest_front lists ≡ None → list_of lists track ≡ []
picked_none lists track e = none_of (slice_get (list_of lists track) 0) (list_of lists track) refl (λ x f. some_at lists track x e f)

assoc_if : (xy yz xz : Bool) (x y z : Chunk) → nat_le x.first_us y.first_us ≡ xy → nat_le y.first_us z.first_us ≡ yz → nat_le x.first_us z.first_us ≡ xz
    → earlier_chunk (cond xy (Some x) (Some y)) (Some z) ≡ earlier_chunk (Some x) (cond yz (Some y) (Some z))
assoc_if true true true x y z p q r = rw (p, r) refl
assoc_if true true false x y z p q r = absurd (grind (arith, nat_tests))
assoc_if true false true x y z p q r = refl
assoc_if true false false x y z p q r = refl
assoc_if false true true x y z p q r = rw (p, q) refl
assoc_if false true false x y z p q r = rw (p, q) refl
assoc_if false false true x y z p q r = absurd (grind (arith, nat_tests))
assoc_if false false false x y z p q r = rw (q, r) refl

none_right : (b : Bool) (x y : Chunk) → earlier_chunk (cond b (Some x) (Some y)) None ≡ cond b (Some x) (Some y)
none_right true x y = refl
none_right false x y = refl

-- of three the earliest one, from the left or from the right
pub earlier_assoc : (a b c : Option Chunk) → earlier_chunk (earlier_chunk a b) c ≡ earlier_chunk a (earlier_chunk b c)
earlier_assoc None b c = refl
earlier_assoc (Some x) None c = refl
earlier_assoc (Some x) (Some y) None = none_right (nat_le x.first_us y.first_us) x y
earlier_assoc (Some x) (Some y) (Some z) = assoc_if (nat_le x.first_us y.first_us) (nat_le y.first_us z.first_us) (nat_le x.first_us z.first_us) x y z refl refl refl

-- what `v[i]` gives is the list of the track
pub waiting_read : (lists : List (List Chunk)) (track : ℕ) (list : List Chunk) → track < length lists → list ≡ get_or lists track list → list ≡ list_of lists track
waiting_read lists track list less e = e ∙ get_or_default lists track list [] less

pushed_on : (r : Result (Unit {0}) Chunk) (track : ℕ) (old new : List Chunk) (c : Chunk) → OnOk r (new ≡ old ++ c ∷ []) → OnErr r (new ≡ old) → OnTrack track old → c.track ≡ track → OnTrack track new
pushed_on (Ok u) track old new c ok err all e = let P : List Chunk → Type 0 = λ cs. OnTrack track cs in subst P (sym ok) (on_push track old c all e)
pushed_on (Err u) track old new c ok err all e = let P : List Chunk → Type 0 = λ cs. OnTrack track cs in subst P (sym err) all

-- lists in which a chunk was put at the end of its track's, or nothing was changed
pub their_pushed : (lists : List (List Chunk)) (r : Result (Unit {0}) Chunk) (old new : List Chunk) (c : Chunk) → OfTheirTracks 0 lists → c.track < length lists
    → old ≡ get_or lists c.track old → OnOk r (new ≡ old ++ c ∷ []) → OnErr r (new ≡ old) → OfTheirTracks 0 (set lists c.track new)
their_pushed lists r old new c all less read ok err =
    let P : List Chunk → Type 0 = λ cs. OnTrack c.track cs in
    let on : OnTrack c.track old = subst P (sym (waiting_read lists c.track old less read)) (their_waiting lists c.track all) in
    their_set lists 0 c.track new all (on_same c.track (0 + c.track) new (omega arith) (pushed_on r c.track old new c ok err on refl))

-- lists without the first chunk of one
pub popped_is : (lists : List (List Chunk)) (track : ℕ) (old new : List Chunk) → track < length lists → old ≡ get_or lists track old → new ≡ drop 1 old → set lists track new ≡ without_front lists track
popped_is lists track old new less read e =
    ap (λ (cs : List Chunk). set lists track cs) (e ∙ ap (λ (cs : List Chunk). drop 1 cs) (waiting_read lists track old less read))

-- one fewer waits without the first chunk of a list
fewer_at : (lists : List (List Chunk)) (at : ℕ) (c : Chunk) → slice_get (get_or lists at []) 0 ≡ Some c → how_many (set lists at (drop 1 (get_or lists at []))) + 1 ≡ how_many lists
fewer_at [] at c e = cc
fewer_at ([] ∷ lists) zero c e = cc
fewer_at ((x ∷ list) ∷ lists) zero c e = omega arith
fewer_at (list ∷ lists) (suc at) c e = omega (arith, fewer_at lists at c e)

pub picked_fewer : (lists : List (List Chunk)) (c : Chunk) → OfTheirTracks 0 lists → earliest_front lists ≡ Some c → how_many (without_front lists c.track) + 1 ≡ how_many lists
picked_fewer lists c all e = fewer_at lists c.track c (picked_front lists c all e)

-- where none is picked none waits
pub none_waits : (lists : List (List Chunk)) → earliest_front lists ≡ None → how_many lists ≡ 0
none_waits [] e = refl
none_waits (list ∷ lists) e =
    let both = earlier_none (slice_get list 0) (earliest_front lists) e in
    let here : list ≡ [] = front_none list both.0 in
    omega (arith, ap length here, none_waits lists both.1)
