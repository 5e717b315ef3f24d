-- The built grammar: which argument a name, an id or a place finds, and what a use does to the rows.
use Rattle.std.proofs.Common.{◌≡◌, ◌∙◌, ℕ, Bool, cond, true, false, ◌||◌, refl, sym, ap, List, [], ◌∷◌, ◌++◌, map, Some, None, true≢false}
use Rattle.std.specs.Str.{bytes_eq}
use Rattle.std.proofs.lemmas.Slice.Eq.{bytes_eq-Decides}
use Rattle.clap.specs.Walk.{Row, Text, arg_by_id, arg_by_index, arg_by_long, arg_by_short, with_values}
use Rattle.clap.specs.Simple.{built, filled_from}
use Rattle.clap.specs.declared.builder.value_parser.Reading.{Reading}
use Rattle.clap.specs.declared.parser.matches.ValueSource.TheVariants.{CommandLine as Given}
use Rattle.sf_words.specs.Reading.{is_one_of}
use Rattle.sf_words.specs.inner.Grammar.{built_shape, grammar_app, option_rule, rules, told_option, told_words, vals, words_id, words_rule}

pub same : (xs ys : Text) → bytes_eq xs ys ≡ true → xs ≡ ys
same xs ys e = (bytes_eq-Decides xs ys).0 e

pub is_same : (xs : Text) → bytes_eq xs xs ≡ true
is_same xs = (bytes_eq-Decides xs xs).1 refl

-- the two answers of a test
pub tells : (b : Bool) → (P : Bool → Type 0) → (b ≡ true → P true) → (b ≡ false → P false) → P b
tells true P f g = f refl
tells false P f g = g refl

filled_is : (names : List Text) → filled_from 1 (map told_option names ++ told_words ∷ []) ≡ rules names
filled_is [] = refl
filled_is (name ∷ names) = ap (λ rs. option_rule name ∷ rs) (filled_is names)

-- what building makes of the grammar
pub built_is : (name : Text) (names : List Text) → built (grammar_app name names) ≡ record { top = built_shape name names; subs = [] }
built_is name names = ap (λ rs. record { top = record (built_shape name names) { rules = rs }; subs = [] }) (filled_is names)

pub by_long : (names : List Text) (n : Text) → arg_by_long (rules names) n ≡ cond (is_one_of names n) (Some (option_rule n)) None
by_long [] n = refl
by_long (x ∷ xs) n = go (bytes_eq x n) refl (by_long xs n)
  where
    go : (b : Bool) → bytes_eq x n ≡ b → arg_by_long (rules xs) n ≡ cond (is_one_of xs n) (Some (option_rule n)) None → arg_by_long (rules (x ∷ xs)) n ≡ cond (is_one_of (x ∷ xs) n) (Some (option_rule n)) None
    go true e ih = rw e (ap (λ y. Some (option_rule y)) (same x n e))
    go false e ih = rw e ih

pub by_id : (names : List Text) (n : Text) → is_one_of names n ≡ true → arg_by_id (rules names) n ≡ Some (option_rule n)
by_id [] n h = absurd (true≢false (sym h))
by_id (x ∷ xs) n h = go (bytes_eq x n) refl (by_id xs n)
  where
    go : (b : Bool) → bytes_eq x n ≡ b → (is_one_of xs n ≡ true → arg_by_id (rules xs) n ≡ Some (option_rule n)) → arg_by_id (rules (x ∷ xs)) n ≡ Some (option_rule n)
    go true e ih = rw e (ap (λ y. Some (option_rule y)) (same x n e))
    go false e ih = rw e (ih (sym (ap (λ b. b || is_one_of xs n) e) ∙ h))

pub by_words : (names : List Text) → is_one_of names words_id ≡ false → arg_by_id (rules names) words_id ≡ Some words_rule
by_words [] h = refl
by_words (x ∷ xs) h = go (bytes_eq x words_id) refl (by_words xs)
  where
    go : (b : Bool) → bytes_eq x words_id ≡ b → (is_one_of xs words_id ≡ false → arg_by_id (rules xs) words_id ≡ Some words_rule) → arg_by_id (rules (x ∷ xs)) words_id ≡ Some words_rule
    go true e ih = absurd (true≢false (sym (ap (λ b. b || is_one_of xs words_id) e) ∙ h))
    go false e ih = rw e (ih (sym (ap (λ b. b || is_one_of xs words_id) e) ∙ h))

pub by_index : (names : List Text) → arg_by_index (rules names) 1 ≡ Some words_rule
by_index [] = refl
by_index (x ∷ xs) = by_index xs

pub by_short : (names : List Text) (x : ℕ) → arg_by_short (rules names) x ≡ None
by_short [] x = refl
by_short (n ∷ ns) x = by_short ns x

-- a name that is one of some isn't one that isn't
pub apart : (names : List Text) (n other : Text) → is_one_of names n ≡ true → is_one_of names other ≡ false → bytes_eq n other ≡ false
apart names n other h none = tells (bytes_eq n other) (λ b. b ≡ false)
    (λ e. absurd (true≢false (sym h ∙ ap (is_one_of names) (same n other e) ∙ none))) (λ e. refl)

-- what a use adds
abbrev pub added : Text → Text → List Text → List Row → List Text
added id own values rows = cond (bytes_eq own id) (vals id rows ++ values) (vals id rows)

pub vals_added : (id own : Text) (how : Reading) (values : List Text) (rows : List Row) → vals id (with_values own how Given values rows) ≡ added id own values rows
vals_added id own how values [] = go (bytes_eq own id) refl
  where
    go : (b : Bool) → bytes_eq own id ≡ b → vals id (with_values own how Given values []) ≡ added id own values []
    go true e = rw e refl
    go false e = rw e refl
vals_added id own how values (r ∷ rs) = go (bytes_eq r.id own) (bytes_eq r.id id) refl refl (vals_added id own how values rs)
  where
    go : (a b : Bool) → bytes_eq r.id own ≡ a → bytes_eq r.id id ≡ b → vals id (with_values own how Given values rs) ≡ added id own values rs → vals id (with_values own how Given values (r ∷ rs)) ≡ added id own values (r ∷ rs)
    go true true e f ih =
        let own_too : bytes_eq own id ≡ true = sym (ap (λ (t : Text). bytes_eq t id) (same r.id own e)) ∙ f in
        rw (e, f, own_too) refl
    go true false e f ih =
        let own_too : bytes_eq own id ≡ false = sym (ap (λ (t : Text). bytes_eq t id) (same r.id own e)) ∙ f in
        rw (e, f, own_too) refl
    go false true e f ih =
        let own_too : bytes_eq own id ≡ false = tells (bytes_eq own id) (λ b. b ≡ false)
        (λ g. absurd (true≢false (sym (ap (λ (t : Text). bytes_eq t own) (same r.id id f ∙ sym (same own id g)) ∙ is_same own) ∙ e))) (λ g. refl) in
        rw (e, f, own_too) refl
    go false false e f ih = rw (e, f) ih

pub turned : (x y : Text) → bytes_eq x y ≡ false → bytes_eq y x ≡ false
turned x y e = tells (bytes_eq y x) (λ b. b ≡ false) (λ f. absurd (true≢false (sym (ap (λ (t : Text). bytes_eq t y) (sym (same y x f)) ∙ is_same y) ∙ e))) (λ f. refl)
