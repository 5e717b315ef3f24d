-- The walk over the words of a grammar agrees with what the words give.
use Rattle.std.proofs.Common.{◌≡◌, ◌∙◌, ℕ, Bool, cond, true, false, ◌==◌, refl, sym, ap, subst, List, [], ◌∷◌, ◌++◌, Option, Some, None, append_assoc, inl, inr}
use Rattle.std.specs.Str.{bytes_eq, IsUtf8}
use Rattle.std.proofs.lemmas.Bool.Decides.{eqb_tells}
use Rattle.clap.specs.Kinds.{Kinds}
use Rattle.clap.specs.Lexer.{long_of, short_of}
use Rattle.clap.specs.Walk.{Held, Row, Rule, Step, Text, Waiting, Walk, after_step, idle, next, option, plain_word, positional, reading_by, settled_rows, value, walked, word_met}
use Rattle.sf_words.specs.Reading.{Given, Word, ends_options, is_dashed, with_option, with_positional}
use Rattle.sf_words.specs.Values.{values_of}
use Rattle.sf_words.specs.inner.Grammar.{vals, words_id}
use Rattle.sf_words.proofs.Rules.{added, apart, is_same, vals_added}
use Rattle.sf_words.proofs.Turns.{fails}

-- each word is a text
abbrev pub Texts : List Word → Type 0
Texts [] = Unit {0}
Texts (word ∷ words) = IsUtf8 word × Texts words

-- the rows gained what the words gave
abbrev pub Gains : Given → List Row → List Row → Type 0
Gains given start end = ((id : Text) → bytes_eq id words_id ≡ false → vals id end ≡ vals id start ++ values_of id given.options)
    × (vals words_id end ≡ vals words_id start ++ given.positional)

-- a walk fails where the words can't be read, and else gains what they give
abbrev pub Agrees : Option Given → Kinds → List Row → List Row → Type 0
Agrees None kinds start end = fails kinds ≡ true
Agrees (Some given) kinds start end = (kinds ≡ []) × Gains given start end

pub refuses : (r : Option Given) (kinds : Kinds) (start end : List Row) → r ≡ None → fails kinds ≡ true → Agrees r kinds start end
refuses r kinds start end e f = subst (λ (o : Option Given). Agrees o kinds start end) (sym e) f

-- one more positional word
pub more_words : (word : Text) (r : Option Given) (kinds : Kinds) (start after end : List Row) → (how : _) → after ≡ Rattle.clap.specs.Walk.with_values words_id how Rattle.clap.specs.declared.parser.matches.ValueSource.TheVariants.CommandLine (word ∷ []) start
    → Agrees r kinds after end → Agrees (with_positional word r) kinds start end
more_words word None kinds start after end how is a = a
more_words word (Some given) kinds start after end how is a = (
  a.0,
  (
    λ id other. a.1.0 id other ∙ ap (λ (vs : List Text). vs ++ values_of id given.options) (ap (vals id) is ∙ vals_added id words_id how (word ∷ []) start ∙ not_words id other),
    a.1.1 ∙ ap (λ (vs : List Text). vs ++ given.positional) (ap (vals words_id) is ∙ vals_added words_id words_id how (word ∷ []) start) ∙ append_assoc (vals words_id start) (word ∷ []) given.positional,
  ),
)
  where
    not_words : (id : Text) → bytes_eq id words_id ≡ false → added id words_id (word ∷ []) start ≡ vals id start
    not_words id other = ap (λ b. cond b (vals id start ++ word ∷ []) (vals id start)) (Rattle.sf_words.proofs.Rules.turned id words_id other)

-- one more option with its value
pub more_options : (n v : Text) (r : Option Given) (kinds : Kinds) (start after end : List Row) → (how : _) → bytes_eq n words_id ≡ false
    → after ≡ Rattle.clap.specs.Walk.with_values n how Rattle.clap.specs.declared.parser.matches.ValueSource.TheVariants.CommandLine (v ∷ []) start
    → Agrees r kinds after end → Agrees (with_option n v r) kinds start end
more_options n v None kinds start after end how differs is a = a
more_options n v (Some given) kinds start after end how differs is a = (
  a.0,
  (
    λ id other. a.1.0 id other ∙ ap (λ (vs : List Text). vs ++ values_of id given.options) (ap (vals id) is ∙ vals_added id n how (v ∷ []) start) ∙ joins (bytes_eq n id) (vals id start) (values_of id given.options),
    a.1.1 ∙ ap (λ (vs : List Text). vs ++ given.positional) (ap (vals words_id) is ∙ vals_added words_id n how (v ∷ []) start ∙ ap (λ b. cond b (vals words_id start ++ v ∷ []) (vals words_id start)) differs),
  ),
)
  where
    joins : (b : Bool) (xs ys : List Text) → cond b (xs ++ v ∷ []) xs ++ ys ≡ xs ++ cond b (v ∷ ys) ys
    joins true xs ys = append_assoc xs (v ∷ []) ys
    joins false xs ys = refl

-- ---- the kinds of a word

pub data Looks (word : Text) : Type 0 where
  is_plain : bytes_eq word (45 ∷ 45 ∷ []) ≡ false → long_of word ≡ None → short_of word ≡ None → ends_options word ≡ false → is_dashed word ≡ false → Looks word
  is_ends : word ≡ 45 ∷ 45 ∷ [] → Looks word
  is_long : (d : ℕ) (rest : Text) → word ≡ 45 ∷ 45 ∷ d ∷ rest → Looks word
  is_short : (x : ℕ) (xs : Text) → word ≡ 45 ∷ x ∷ xs → (x == 45) ≡ false → Looks word

pub looks : (word : Text) → Looks word
looks [] = is_plain refl refl refl refl refl
looks (b ∷ []) = elim (eqb_tells b 45) [
  | inl e ↦ is_plain (rw e.0 refl) (rw e.0 refl) (rw e.0 refl) refl refl
  | inr e ↦ is_plain (rw e.0 refl) (rw e.0 refl) (rw e.0 refl) refl refl
]
looks (b ∷ x ∷ xs) = elim (eqb_tells b 45) [
  | inr e ↦ is_plain (rw e.0 refl) (rw e.0 refl) (rw e.0 refl) (not_ends xs e.0) (rw e.0 refl)
  | inl e ↦ elim (eqb_tells x 45) [
    | inr f ↦ is_short x xs (ap (λ (y : ℕ). y ∷ x ∷ xs) e.1) f.0
    | inl f ↦ elim xs as (λ (ys : Text). Looks (b ∷ x ∷ ys)) [
      | [] ↦ is_ends ((λ i. e.1 i ∷ f.1 i ∷ []))
      | d ∷ rest ↦ is_long d rest (λ i. e.1 i ∷ f.1 i ∷ d ∷ rest)
    ]
  ]
]
  where
    not_ends : (ys : Text) → (b == 45) ≡ false → ends_options (b ∷ x ∷ ys) ≡ false
    not_ends [] e = rw e refl
    not_ends (y ∷ ys) e = refl
