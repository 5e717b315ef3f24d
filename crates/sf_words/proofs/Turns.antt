-- What one word does to a walk over the words of a grammar.
use Rattle.std.proofs.Common.{◌≡◌, ◌∙◌, Bool, true, false, ◌&&◌, refl, sym, ap, List, [], ◌∷◌, Option, Some, None, true≢false}
use Rattle.std.specs.List.{fold}
use Rattle.std.specs.Str.{bytes_eq}
use Rattle.clap.specs.Kinds.{Kinds, or_else}
use Rattle.clap.specs.Faults.{settle_fault, turn_fault, walk_fault, step_fault, word_fault}
use Rattle.clap.specs.Lexer.{long_of, short_of}
use Rattle.clap.specs.Walk.{Held, Row, Rule, Text, Waiting, Walk, after_step, idle, option, plain_word, positional, positional_held, to_positional, is_pending, next, settled, settled_rows, value, walked, with_values, word_met, reading_by}
use Rattle.clap.specs.Simple.{Shape}
use Rattle.clap.specs.declared.error.kind.ErrorKind.TheVariants as kind
use Rattle.clap.specs.declared.parser.matches.ValueSource.TheVariants.{CommandLine}
use Rattle.sf_words.specs.Reading.{is_one_of}
use Rattle.sf_words.specs.inner.Grammar.{built_shape, option_rule, rules, words_id, words_rule}
use Rattle.sf_words.proofs.Rules.{by_id, by_index, by_words, is_same}

-- whether there is a kind of error
abbrev pub fails : Kinds → Bool
fails [] = false
fails (k ∷ ks) = true

pub fails_first : (a b : Kinds) → fails a ≡ true → fails (or_else a b) ≡ true
fails_first [] b e = absurd (true≢false (sym e))
fails_first (k ∷ ks) b e = refl

pub fails_next : (a b : Kinds) → fails b ≡ true → fails (or_else a b) ≡ true
fails_next [] b e = e
fails_next (k ∷ ks) b e = refl

pub and_false : (b : Bool) → (b && false) ≡ false
and_false true = refl
and_false false = refl

-- an argument whose values are read, and the values that it has
abbrev pub Pending : Type 0
Pending = Option (Text × List Text)

abbrev pub held : List Row → Pending → Held
held rows pending = record { rows = rows; pending = pending; skip = 0 }

abbrev pub at : Held → Waiting → Walk
at h waiting = record { held = h; waiting = waiting; position = 1; is_trailing = false; stopped = None }

abbrev pub trailing_at : Held → Waiting → Walk
trailing_at h waiting = record { held = h; waiting = waiting; position = 1; is_trailing = true; stopped = None }

-- no option waits for a value
abbrev pub Rests : Waiting → Type 0
Rests idle = Unit {0}
Rests positional = Unit {0}
Rests (option id) = ⊥

pub rests_plain : (c : List Rule) (waiting : Waiting) (word : Text) (h : Held) → Rests waiting → plain_word c waiting word h ≡ (h, value)
rests_plain c idle word h r = refl
rests_plain c positional word h r = refl
rests_plain c (option id) word h r = absurd r

module _ (name : Text) (names : List Text) where
  abbrev pub c : List Rule
  c = rules names

  abbrev pub s : Shape
  s = built_shape name names

  abbrev pub end_of : Walk → List Text → Held
  end_of w words = (fold (walked c []) w words).held

  -- the kinds of error of a walk over words and of its end, and the rows that it leaves
  abbrev pub end_kinds : Walk → List Text → Kinds
  end_kinds w words = or_else (walk_fault s [] w words) (settle_fault c false (end_of w words))

  abbrev pub end_rows : Walk → List Text → List Row
  end_rows w words = (settled c (end_of w words)).rows

  -- what is pending may be used
  abbrev pub Ready : Pending → Type 0
  Ready pending = (rows : List Row) → settle_fault c false (held rows pending) ≡ []

  pub goes_on : (w after : Walk) (word : Text) (words : List Text) → turn_fault s [] w word ≡ [] → walked c [] w word ≡ after
      → (end_kinds w (word ∷ words) ≡ end_kinds after words) × (end_rows w (word ∷ words) ≡ end_rows after words)
  unfolding walk_fault
  goes_on w after word words none is = (
    ap (λ (ks : Kinds). or_else (or_else ks (walk_fault s [] (walked c [] w word) words)) (settle_fault c false (end_of (walked c [] w word) words))) none
        ∙ ap (λ (v : Walk). end_kinds v words) is,
    ap (λ (v : Walk). end_rows v words) is,
  )

  pub stops : (w : Walk) (word : Text) (words : List Text) → fails (turn_fault s [] w word) ≡ true → fails (end_kinds w (word ∷ words)) ≡ true
  unfolding walk_fault
  stops w word words e = fails_first _ _ (fails_first _ _ e)

  -- ---- what is pending

  pub ready_option : (n v : Text) → is_one_of names n ≡ true → Ready (Some (n, v ∷ []))
  ready_option n v one rows = rw (by_id names n one) refl

  pub ready_words : (v : Text) → is_one_of names words_id ≡ false → Ready (Some (words_id, v ∷ []))
  ready_words v none rows = rw (by_words names none) refl

  pub unready : (n : Text) → is_one_of names n ≡ true → (rows : List Row) → settle_fault c false (held rows (Some (n, []))) ≡ kind.InvalidValue ∷ []
  unready n one rows = rw (by_id names n one) refl

  abbrev pub use_of : Text → List Text → List Row → List Row
  use_of id values rows = with_values id (reading_by (option_rule id)) CommandLine values rows

  pub settles_option : (n v : Text) (rows : List Row) → is_one_of names n ≡ true → settled_rows c (Some (n, v ∷ [])) rows ≡ use_of n (v ∷ []) rows
  settles_option n v rows one = rw (by_id names n one) refl

  pub settles_words : (v : Text) (rows : List Row) → is_one_of names words_id ≡ false → settled_rows c (Some (words_id, v ∷ [])) rows ≡ use_of words_id (v ∷ []) rows
  settles_words v rows none = rw (by_words names none) refl

  -- ---- a word that is no flag

  pub plain_met : (waiting : Waiting) (word : Text) (h : Held) → bytes_eq word (45 ∷ 45 ∷ []) ≡ false → long_of word ≡ None → short_of word ≡ None
      → word_met c [] false waiting 1 word h ≡ plain_word c waiting word h
  plain_met idle word h e l f = rw (e, l, f) refl
  plain_met positional word h e l f = rw (e, l, f) refl
  plain_met (option id) word h e l f = rw (e, l, f) refl

  pub plain_faultless : (waiting : Waiting) (word : Text) (h : Held) → bytes_eq word (45 ∷ 45 ∷ []) ≡ false → long_of word ≡ None → short_of word ≡ None
      → word_fault s [] false waiting word h ≡ []
  plain_faultless idle word h e l f = rw (e, l, f) refl
  plain_faultless positional word h e l f = rw (e, l, f) refl
  plain_faultless (option id) word h e l f = rw (e, l, f) refl

  pub plain_waits : (n word : Text) (rows : List Row) → is_one_of names n ≡ true
      → plain_word c (option n) word (held rows (Some (n, []))) ≡ (held rows (Some (n, word ∷ [])), next idle)
  plain_waits n word rows one = rw (by_id names n one, is_same n) refl

  -- ---- a positional word

  pub positional_faultless : (rows : List Row) (p : Pending) → Ready p → step_fault s 1 (held rows p) value ≡ []
  positional_faultless rows p ready = rw (by_index names, and_false (is_pending words_rule p)) (ready rows)

  pub positional_fails : (rows : List Row) (n : Text) → is_one_of names n ≡ true → fails (step_fault s 1 (held rows (Some (n, []))) value) ≡ true
  positional_fails rows n one = rw (by_index names, and_false (bytes_eq n words_id), unready n one rows) refl

  pub goes_to_words : (w : Walk) (rows : List Row) (p : Pending) (word : Text) → positional_held c words_rule word (held rows p) ≡ held (settled_rows c p rows) (Some (words_id, word ∷ []))
  goes_to_words w rows p word = rw (and_false (is_pending words_rule p)) refl

  pub positional_step : (rows : List Row) (p : Pending) (waiting : Waiting) (word : Text)
      → after_step c word (at (held rows p) waiting) (held rows p) value ≡ at (held (settled_rows c p rows) (Some (words_id, word ∷ []))) positional
  positional_step rows p waiting word =
      ap (λ o. to_positional c o word (at (held rows p) waiting) (held rows p)) (by_index names)
      ∙ ap (λ (h : Held). at h positional) (goes_to_words (at (held rows p) waiting) rows p word)

  pub trailing_step : (rows : List Row) (p : Pending) (waiting : Waiting) (word : Text)
      → walked c [] (trailing_at (held rows p) waiting) word ≡ trailing_at (held (settled_rows c p rows) (Some (words_id, word ∷ []))) positional
  unfolding walked
  trailing_step rows p waiting word =
      ap (λ o. to_positional c o word (trailing_at (held rows p) waiting) (held rows p)) (by_index names)
      ∙ ap (λ (h : Held). trailing_at h positional) (goes_to_words (at (held rows p) waiting) rows p word)
