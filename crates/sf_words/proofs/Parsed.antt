-- A parse by the grammar fails exactly where the words can't be read, and its matches hold what they give.
use Rattle.std.proofs.Common.{◌≡◌, ◌∙◌, ℕ, Bool, cond, true, false, not, ◌&&◌, ◌||◌, ◌⊎◌, inl, inr, refl, sym, ap, subst, List, [], ◌∷◌, ◌++◌, map, Option, Some, None, is_some, true≢false, append-nil, append_assoc, take, length, zero, suc, get_or, ◌<◌, ◌≤◌, ◌+◌, arith}
use Rattle.std.specs.Prelude.{count_by, unwrap_or}
use Rattle.std.specs.List.{fold, list_all, list_any}
use Rattle.std.specs.Borrow.{Bor}
use Rattle.clap.specs.Kinds.{HasKind, IsAmong, Kinds, or_else}
use Rattle.clap.specs.Faults.{built_fault, check_fault, defaults_fault, entered_fault, fault_of, is_free_app, is_simple_and_free, settle_fault, walk_fault}
use Rattle.clap.specs.Matches.{found_of}
use Rattle.clap.specs.Values.{kind_of}
use Rattle.clap.specs.Takes.{is_given}
use Rattle.clap.specs.Walk.{Held, Row, Rule, Text, finished, has_row, idle, is_early_multiple, nothing_held, rows_of, settled, texts, walk, with_default}
use Rattle.clap.specs.Simple.{App, HasMatchesOf, Shape, built, entered, is_simple, matches_of, with_rule}
use Rattle.clap.specs.declared.parser.matches.ArgMatches.{ArgMatches}
use Rattle.clap.specs.declared.error.Error.{Error}
use Rattle.clap.specs.declared.error.kind.ErrorKind.{ErrorKind}
use Rattle.clap.specs.declared.error.kind.ErrorKind.TheVariants as kind
use Rattle.std.specs.Prelude.{String, string_bytes}
use Rattle.std.proofs.lemmas.Str.{IsUtf8-string_bytes}
use Rattle.clap.proofs.WalkLemmas.{raw_values-rows}
use Rattle.sf_words.specs.Reading.{Given, is_one_of, read}
use Rattle.sf_words.specs.inner.Grammar.{Denies, Gave, Holds, bare_app, denied, options_told, with_option_told, built_shape, grammar_app, matched, option_rule, rules, told_option, told_words, vals, words_id}
use Rattle.sf_words.proofs.Rules.{built_is}
use Rattle.sf_words.proofs.Turns.{at, c, end_kinds, end_rows, fails, held, s}
use Rattle.sf_words.proofs.Agreeing.{Agrees, Texts}
use Rattle.sf_words.proofs.Walking.{walks}

-- a fault of the words or of memory, where they can't be read
none_read : (k : ErrorKind) → Denies {A = Given} None (denied k)
none_read kind.OutOfMemory = tt
none_read _ = tt

-- the words of strings are texts
pub are_texts : {Z : Type 0} (words : List (String Z)) → Texts (map string_bytes words)
are_texts [] = tt
are_texts (word ∷ words) = (IsUtf8-string_bytes word, are_texts words)

-- the options that were told
pub told_all : (name : Text) (told : List Rule) (names : List Text)
    → fold with_option_told (record { top = record (bare_app name).top { rules = told }; subs = [] }) names
    ≡ record { top = record (bare_app name).top { rules = told ++ map told_option names }; subs = [] }
told_all name told [] = ap (λ rs. record { top = record (bare_app name).top { rules = rs }; subs = [] }) (sym (append-nil told))
told_all name told (n ∷ ns) = told_all name (told ++ told_option n ∷ []) ns
    ∙ ap (λ rs. record { top = record (bare_app name).top { rules = rs }; subs = [] }) (append_assoc told (told_option n ∷ []) (map told_option ns))

pub told_whole : (name : Text) (names : List Text) → with_rule (options_told name names) told_words ≡ grammar_app name names
told_whole name names = ap (λ a. with_rule a told_words) (told_all name [] names)

-- one more option was told
pub told_more : (name : Text) (xs : List (Bor Text)) (i : ℕ) (d : Bor Text) → i < length xs
    → options_told name (take (i + 1) (texts xs)) ≡ with_option_told (options_told name (take i (texts xs))) (get_or xs i d).now
told_more name xs i d lt = go xs i lt (bare_app name)
  where
    go : (xs : List (Bor Text)) (i : ℕ) → i < length xs → (a : App)
        → fold with_option_told a (take (i + 1) (texts xs)) ≡ with_option_told (fold with_option_told a (take i (texts xs))) (get_or xs i d).now
    go [] i lt a = absurd (omega arith)
    go (y ∷ ys) zero lt a = refl
    go (y ∷ ys) (suc i) lt a =
        let more : suc i + 1 ≡ suc (i + 1) = omega arith in
        ap (λ k. fold with_option_told a (take k (texts (y ∷ ys)))) more ∙ go ys i (omega arith) (with_option_told a y.now)

pub told_by : (name : Text) (xs : List (Bor Text)) (i : ℕ) → length xs ≤ i → options_told name (take i (texts xs)) ≡ options_told name (texts xs)
told_by name xs i le = go xs i le (bare_app name)
  where
    go : (xs : List (Bor Text)) (i : ℕ) → length xs ≤ i → (a : App) → fold with_option_told a (take i (texts xs)) ≡ fold with_option_told a (texts xs)
    go [] zero le a = refl
    go [] (suc i) le a = refl
    go (y ∷ ys) zero le a = absurd (omega arith)
    go (y ∷ ys) (suc i) le a = go ys i (omega arith) (with_option_told a y.now)

-- ---- nothing is said by default, and nothing is required

or_true : (b : Bool) → (b || true) ≡ true
or_true true = refl
or_true false = refl

keeps_rows : (b : Bool) (rows : List Row) → cond b rows rows ≡ rows
keeps_rows true rows = refl
keeps_rows false rows = refl

no_defaults : (names : List Text) (rows : List Row) → defaults_fault rows (rules names) ≡ []
unfolding defaults_fault
no_defaults [] rows = rw (or_true (has_row words_id rows)) refl
no_defaults (n ∷ ns) rows = rw (or_true (has_row n rows)) (no_defaults ns (with_default rows (option_rule n)))

no_more_rows : (names : List Text) (rows : List Row) → fold with_default rows (rules names) ≡ rows
no_more_rows [] rows = keeps_rows (has_row words_id rows) rows
no_more_rows (n ∷ ns) rows = ap (λ rs. fold with_default rs (rules ns)) (keeps_rows (has_row n rows) rows) ∙ no_more_rows ns rows

none_required : (names : List Text) (rows : List Row) → list_any (λ a. a.required && not (is_given a.id rows)) (rules names) ≡ false
none_required [] rows = refl
none_required (n ∷ ns) rows = none_required ns rows

-- ---- the grammar is simple

simple_told : (names : List Text) → list_all (λ a. a.is_simple) (map told_option names ++ told_words ∷ []) ≡ true
simple_told [] = refl
simple_told (n ∷ ns) = simple_told ns

simple_rules : (names : List Text) → list_all (λ a. a.is_simple) (rules names) ≡ true
simple_rules [] = refl
simple_rules (n ∷ ns) = simple_rules ns

free_rules : (names : List Text) → list_all (λ a. a.is_free) (rules names) ≡ true
free_rules [] = refl
free_rules (n ∷ ns) = free_rules ns

one_place : (names : List Text) → count_by (λ a. is_some a.index) (rules names) ≡ 1
one_place [] = refl
one_place (n ∷ ns) = one_place ns

in_order : (names : List Text) → list_any (is_early_multiple 1) (rules names) ≡ false
in_order [] = refl
in_order (n ∷ ns) = in_order ns

module _ (name : Text) (names : List Text) where
  abbrev app : App
  app = grammar_app name names

  abbrev whole : App
  whole = record { top = built_shape name names; subs = [] }

  pub simple : is_simple app ≡ true
  simple = ap (λ (b : App). Rattle.clap.specs.Simple.is_buildable app && (Rattle.clap.specs.Simple.is_ready b.top && list_all Rattle.clap.specs.Simple.is_ready_leaf b.subs)) (built_is name names)
      ∙ rw (simple_told names, simple_rules names, one_place names, in_order names) refl

  pub simple_and_free : is_simple_and_free app ≡ true
  simple_and_free = rw simple (ap is_free_app (built_is name names) ∙ rw (free_rules names) refl)

  nothing_entered : (stop : Option (Text × List Text)) → is_some (entered whole stop) ≡ false
  nothing_entered None = refl
  nothing_entered (Some p) = refl

  nothing_below : (stop : Option (Text × List Text)) → entered_fault whole stop ≡ []
  nothing_below None = refl
  nothing_below (Some p) = refl

  or_nothing : (a b : Kinds) → b ≡ [] → or_else a b ≡ a
  or_nothing [] b e = e
  or_nothing (k ∷ ks) b e = refl

  no_check : (rows : List Row) → check_fault (s name names) rows false ≡ []
  no_check rows = rw (none_required names rows) refl

  -- the kinds of error of the parse are those of the walk and its end
  pub faults : (words : List Text) → fault_of app words ≡ end_kinds name names (at (held [] None) idle) words
  faults words =
      let stop = (walk (c name names) [] nothing_held words).stopped in
      let end = (walk (c name names) [] nothing_held words).held in
      let last : (has : Bool) → has ≡ false → or_else (defaults_fault (settled (c name names) end).rows (c name names)) (check_fault (s name names) (finished (c name names) end) has) ≡ [] =
      λ has e. rw (no_defaults names (settled (c name names) end).rows, e) (no_check (finished (c name names) end)) in
      ap (λ (b : App). built_fault b nothing_held words) (built_is name names)
      ∙ ap (λ ks. or_else (walk_fault (s name names) [] (at (held [] None) idle) words) (or_else ks (or_else (settle_fault (c name names) false end)
      (or_else (defaults_fault (settled (c name names) end).rows (c name names)) (check_fault (s name names) (finished (c name names) end) (is_some (entered whole stop))))))) (nothing_below stop)
      ∙ ap (λ ks. or_else (walk_fault (s name names) [] (at (held [] None) idle) words) ks) (or_nothing (settle_fault (c name names) false end) _ (last _ (nothing_entered stop)))

  pub rows : (words : List Text) → matches_of app words ≡ end_rows name names (at (held [] None) idle) words
  rows words = ap (λ (b : App). Rattle.clap.specs.Walk.rows_after b.top.rules (Rattle.clap.specs.Simple.names_of b) words) (built_is name names) ∙ no_more_rows names _

  -- ---- a parse

  pub refused : (words : List Text) (e : Error) → is_one_of names words_id ≡ false → Texts words → HasKind (fault_of app words) e → (kind_of e ≡ kind.OutOfMemory) ⊎ (read names None words ≡ None)
  refused words e none t (inl h) = inl h
  refused words e none t (inr h) = inr (go (read names None words) (walks name names none words t) (subst (IsAmong (kind_of e)) (faults words) h))
    where
      go : (r : Option Given) → Agrees r (end_kinds name names (at (held [] None) idle) words) [] (end_rows name names (at (held [] None) idle) words)
          → IsAmong (kind_of e) (end_kinds name names (at (held [] None) idle) words) → r ≡ None
      go None a among = refl
      go (Some given) a among = absurd (subst (IsAmong (kind_of e)) a.0 among)

  pub taken : (words : List Text) (m : ArgMatches) → is_one_of names words_id ≡ false → Texts words → fault_of app words ≡ [] → HasMatchesOf app words m
      → (given : Given) × (read names None words ≡ Some given) × Holds given m
  taken words m none t faultless has = go (read names None words) (walks name names none words t)
    where
      value_of : (id : Text) → matched id m ≡ vals id (end_rows name names (at (held [] None) idle) words)
      value_of id = ap (λ o. unwrap_or o []) (raw_values-rows (found_of m) id) ∙ ap (vals id) ((has simple).0 ∙ rows words)

      go : (r : Option Given) → Agrees r (end_kinds name names (at (held [] None) idle) words) [] (end_rows name names (at (held [] None) idle) words)
          → (given : Given) × (r ≡ Some given) × Holds given m
      go None a = absurd (true≢false (sym a ∙ ap fails (sym (faults words) ∙ faultless)))
      go (Some given) a = (
        given,
        refl,
        record {
          options = λ id other. value_of id ∙ a.1.0 id other;
          positional = value_of words_id ∙ a.1.1;
        },
      )

  -- ---- as the code reads it

  pub denies : (words : List Text) (e : Error) → is_one_of names words_id ≡ false → Texts words → HasKind (fault_of app words) e → Denies (read names None words) (denied (kind_of e))
  denies words e none t h = go (refused words e none t h)
    where
      unread : (k : ErrorKind) (o : Option Given) → o ≡ None → Denies o (denied k)
      unread k o is = subst (λ (x : Option Given). Denies x (denied k)) (sym is) (none_read k)

      go : (kind_of e ≡ kind.OutOfMemory) ⊎ (read names None words ≡ None) → Denies (read names None words) (denied (kind_of e))
      go (inl h) = subst (λ (k : ErrorKind). Denies (read names None words) (denied k)) (sym h) tt
      go (inr h) = unread (kind_of e) (read names None words) h

  pub gives : (words : List Text) (m : ArgMatches) → is_one_of names words_id ≡ false → Texts words → fault_of app words ≡ [] → HasMatchesOf app words m → Gave (read names None words) m
  gives words m none t faultless has =
      let w = taken words m none t faultless has in
      subst (λ o. Gave o m) (sym w.1) w.2
