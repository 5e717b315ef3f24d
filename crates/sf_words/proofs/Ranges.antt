-- What words ask is within its ranges.
use Rattle.std.proofs.Common.{◌≡◌, ℕ, ◌≤◌, ◌^◌, Bool, true, false, List, [], ◌∷◌, length, codes, Option, Some, None, Result, Ok, Err, IfOk, refl, subst, arith}
use Rattle.std.specs.Prelude.{◌&&◌, nat_le, if◌then◌else◌}
use Rattle.std.specs.Str.{bytes_eq}
use Rattle.std.proofs.lemmas.Bool.Decides.{nat_tests}
use Rattle.std.proofs.lemmas.Option.{option_and_then_some, same_Some}
use Rattle.sf_words.specs.Commands.{IsRead, Values, asked, command, extract_asked, extract_numbers, only_word, two_words, list_asked, make_asked, movie_and_plans, or_usage, record_asked, record_numbers}
use Rattle.sf_words.specs.Reading.{Given, Word}
use Rattle.sf_words.specs.Values.{number, said, text, threads, words_from}
use Rattle.sf_words.specs.declared.command.Threads.TheVariants.{Threaded}
use Rattle.sf_words.specs.declared.command.Command.{Command}
use Rattle.sf_words.specs.declared.command.Command.TheVariants.{Record, Extract, List as Listing, Make}
use Rattle.sf_words.specs.declared.command.RecordNumbers.{RecordNumbers}
use Rattle.sf_words.specs.declared.faults.UsageFault.{UsageFault}
use Rattle.sf_words.specs.declared.faults.WordsFault.{WordsFault}
use Rattle.sf_words.specs.Ranges.{AreInRange, IsInRange}

-- ---- numbers and words

taken_if : {A : Type 0} (a b c : Bool) (x y : A) → (if a && (b && c) then Some x else None) ≡ Some y → (b ≡ true) × (c ≡ true) × (x ≡ y)
taken_if true true true x y e = (refl, refl, cc)
taken_if true true false x y e = cc
taken_if true false c x y e = cc
taken_if false b c x y e = cc

le_of : (a b : ℕ) → nat_le a b ≡ true → a ≤ b
le_of a b e = grind (arith, nat_tests)

number_within : (least most : ℕ) (word : Word) (n : ℕ) → number least most word ≡ Some n → (least ≤ n) × (n ≤ most)
unfolding number
number_within least most word n e =
    let t = taken_if _ _ _ _ n e in
    subst (λ (x : ℕ). (least ≤ x) × (x ≤ most)) t.2 (le_of _ _ t.0, le_of _ _ t.1)

said_within : (least most default : ℕ) (values : List Word) (n : ℕ) → least ≤ default → default ≤ most → said default (number least most) values ≡ Some n → (least ≤ n) × (n ≤ most)
said_within least most default [] n a b e = let is : default ≡ n = cc in subst (λ (x : ℕ). (least ≤ x) × (x ≤ most)) is (a, b)
said_within least most default (value ∷ []) n a b e = number_within least most value n e
said_within least most default (value ∷ other ∷ values) n a b e = cc

counted_if : {A : Type 0} (a b c : Bool) (x y : A) → (if (a && b) && c then Some x else None) ≡ Some y → (a ≡ true) × (b ≡ true) × (x ≡ y)
counted_if true true true x y e = (refl, refl, cc)
counted_if true true false x y e = cc
counted_if true false c x y e = cc
counted_if false b c x y e = cc

words_within : (least most : ℕ) (words filled : List Word) → words_from least most words ≡ Some filled → (least ≤ length filled) × (length filled ≤ most)
unfolding words_from
words_within least most words filled e =
    let t = counted_if _ _ _ _ filled e in
    subst (λ (ws : List Word). (least ≤ length ws) × (length ws ≤ most)) t.2 (le_of _ _ t.0, le_of _ _ t.1)

-- ---- each command

numbers_within : (values : Values) (n : RecordNumbers) → record_numbers values ≡ Some n → AreInRange n
unfolding record_numbers
numbers_within values n e =
    option_and_then_some _ _ n e (λ start is_start e1.
    option_and_then_some _ _ n e1 (λ interleave is_interleave e2.
    option_and_then_some _ _ n e2 (λ bytes is_bytes e3.
    option_and_then_some _ _ n e3 (λ duration is_duration e4.
    option_and_then_some _ _ n e4 (λ files is_files e5.
    let few = said_within 1 99999 1 (values (codes "max-files")) files (omega arith) (omega arith) is_files in
    let is : record { start_us = start; interleave_us = interleave; max_bytes = bytes; max_duration_us = duration; max_files = files } ≡ n = cc in
    subst AreInRange is (record {
      start = (said_within 0 (2 ^ 48) 0 (values (codes "start-us")) start (omega arith) (omega arith) is_start).1;
      interleave = (said_within 0 (2 ^ 48) 1000000 (values (codes "interleave-us")) interleave (omega arith) (omega arith) is_interleave).1;
      bytes = (said_within 0 (2 ^ 62) 0 (values (codes "max-bytes")) bytes (omega arith) (omega arith) is_bytes).1;
      duration = (said_within 0 (2 ^ 48) 0 (values (codes "max-duration-us")) duration (omega arith) (omega arith) is_duration).1;
      some = few.0;
      few = few.1;
    }))))))

record_within : (words : List Word) (values : Values) (c : Command) → record_asked words values ≡ Some c → IsInRange c
unfolding record_asked
record_within words values c e =
    option_and_then_some _ (record_numbers values) c e (λ numbers are e1.
    option_and_then_some _ (said Threaded threads (values (codes "threads"))) c e1 (λ way is_way e2.
    option_and_then_some _ (said (codes "out") text (values (codes "out"))) c e2 (λ out is_out e3.
    option_and_then_some _ (words_from 1 16 words) c e3 (λ inputs is_inputs e4.
    let n = numbers_within values numbers are in
    let count = words_within 1 16 words inputs is_inputs in
    let is : Record (record { inputs = inputs; numbers = numbers; threads = way; out = out }) ≡ c = same_Some _ _ e4 in
    subst IsInRange is (record {
      some = count.0;
      few = count.1;
      numbers = n;
    })))))

plans_within : (filled : List Word) (named : Word × List Word) → movie_and_plans filled ≡ Some named → 2 ≤ length filled → length filled ≤ 17 → (1 ≤ length named.1) × (length named.1 ≤ 16)
plans_within [] named e some few = cc
plans_within (movie ∷ plans) named e some few =
    let is : (movie, plans) ≡ named = cc in
    subst (λ (x : Word × List Word). (1 ≤ length x.1) × (length x.1 ≤ 16)) is (omega (arith, some), omega (arith, few))

extract_within : (words : List Word) (values : Values) (c : Command) → extract_asked words values ≡ Some c → IsInRange c
unfolding extract_asked
extract_within words values c e =
    option_and_then_some _ (extract_numbers values) c e (λ numbers are e1.
    option_and_then_some _ (said Threaded threads (values (codes "threads"))) c e1 (λ way is_way e2.
    option_and_then_some _ (said (codes "out") text (values (codes "out"))) c e2 (λ out is_out e3.
    option_and_then_some _ (words_from 2 17 words) c e3 (λ filled is_filled e4.
    option_and_then_some _ (movie_and_plans filled) c e4 (λ named is_named e5.
    let count = words_within 2 17 words filled is_filled in
    let is : Extract (record { movie = named.0; plans = named.1; numbers = numbers; threads = way; out = out }) ≡ c = same_Some _ _ e5 in
    subst IsInRange is (plans_within filled named is_named count.0 count.1))))))

list_within : (words : List Word) (values : Values) (c : Command) → list_asked words ≡ Some c → IsInRange c
unfolding list_asked
list_within words values c e =
    option_and_then_some _ (words_from 1 1 words) c e (λ filled is_filled e1.
    option_and_then_some _ (only_word filled) c e1 (λ movie is_movie e2.
    let is : Listing movie ≡ c = same_Some _ _ e2 in
    subst IsInRange is tt))

make_within : (words : List Word) (values : Values) (c : Command) → make_asked words values ≡ Some c → IsInRange c
unfolding make_asked
make_within words values c e =
    option_and_then_some _ (words_from 2 2 words) c e (λ filled is_filled e1.
    option_and_then_some _ (two_words filled) c e1 (λ both is_both e2.
    option_and_then_some _ (number 0 200000 both.0) c e2 (λ count is_count e3.
    option_and_then_some _ (number 1 8 both.1) c e3 (λ tracks is_tracks e4.
    option_and_then_some _ (said Threaded threads (values (codes "threads"))) c e4 (λ way is_way e5.
    let few = number_within 0 200000 both.0 count is_count in
    let some = number_within 1 8 both.1 tracks is_tracks in
    let is : Make (record { count = count; tracks = tracks; threads = way }) ≡ c = same_Some _ _ e5 in
    subst IsInRange is (record { samples = few.1; least = some.0; most = some.1 }))))))

-- ---- all commands

or_in_range : (o : Option Command) (c : Command) → ((d : Command) → o ≡ Some d → IsInRange d) → or_usage o ≡ Ok c → IsInRange c
or_in_range None c law e = cc
or_in_range (Some d) c law e = let is : d ≡ c = cc in subst IsInRange is (law d refl)

asked_in_range : (asks : List Word → Values → Option Command) (given : Option Given) (c : Command) → ((words : List Word) (values : Values) (d : Command) → asks words values ≡ Some d → IsInRange d)
    → asked asks given ≡ Ok c → IsInRange c
asked_in_range asks None c law e = cc
asked_in_range asks (Some given) c law e = or_in_range _ c (λ d is. law _ _ d is) e

if_in_range : (b : Bool) (x y : Result Command UsageFault) (c : Command) → (x ≡ Ok c → IsInRange c) → (y ≡ Ok c → IsInRange c) → (if b then x else y) ≡ Ok c → IsInRange c
if_in_range true x y c f g e = f e
if_in_range false x y c f g e = g e

is_in_range : (words : List Word) (c : Command) → command words ≡ Ok c → IsInRange c
unfolding command
is_in_range [] c e = cc
is_in_range (first ∷ words) c e =
    if_in_range (bytes_eq first (codes "record")) _ _ c (λ is. asked_in_range record_asked _ c record_within is)
    (λ is. if_in_range (bytes_eq first (codes "extract")) _ _ c (λ is. asked_in_range extract_asked _ c extract_within is)
    (λ is. if_in_range (bytes_eq first (codes "list")) _ _ c (λ is. asked_in_range (λ given values. list_asked given) _ c list_within is)
    (λ is. if_in_range (bytes_eq first (codes "make")) _ _ c (λ is. asked_in_range make_asked _ c make_within is) (λ is. cc) is) is) is) e

-- what was read of words is within its ranges
pub read_in_range : (words : List Word) (result : Result Command WordsFault) → IsRead (command words) result → IfOk result IsInRange
read_in_range words (Ok c) is = is_in_range words c is
read_in_range words (Err fault) is = tt
