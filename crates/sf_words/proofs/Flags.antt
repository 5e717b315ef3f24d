-- What a word that begins with '-' does to a walk over the words of a grammar.
use Rattle.std.proofs.Common.{◌≡◌, ◌∙◌, ℕ, cond, true, false, ◌==◌, suc, refl, sym, ap, arith, List, [], ◌∷◌, ◌++◌, length, Option, Some, None, drop}
use Rattle.std.specs.Prelude.{encode_utf8, slice_get}
use Rattle.std.specs.Str.{chars, IsUtf8, encode_utf8_all}
use Rattle.std.proofs.lemmas.Str.{encode_ascii, encodes-chars}
use Rattle.clap.specs.Kinds.{Kinds, or_else}
use Rattle.clap.specs.Faults.{bundle_fault, bundle_step_fault, flags_fault, long_fault, option_fault, settle_fault, step_fault, turn_fault, use_fault, word_fault}
use Rattle.clap.specs.Walk.{Held, Row, Rule, Step, Text, Waiting, after_flag, after_step, arg_by_long, idle, long_met, next, option, positional, settled_rows, walked, word_met}
use Rattle.sf_words.specs.Reading.{is_one_of, name_in, value_in}
use Rattle.sf_words.specs.inner.Grammar.{option_rule}
use Rattle.sf_words.proofs.Rules.{by_long, by_short}
use Rattle.sf_words.proofs.Turns.{Pending, Ready, at, c, fails, fails_first, held, s, trailing_at, unready, use_of}

-- a text in which something stands after a hyphen has a character there
pub first_char : (x : ℕ) (xs : Text) → IsUtf8 (45 ∷ x ∷ xs) → (y : ℕ) × (slice_get (chars (x ∷ xs)) 0 ≡ Some y)
unfolding chars
first_char x xs u = go (chars (x ∷ xs)) refl
  where
    go : (cs : List ℕ) → chars (x ∷ xs) ≡ cs → (y : ℕ) × (slice_get (chars (x ∷ xs)) 0 ≡ Some y)
    go (y ∷ ys) e = (y, ap (λ l. slice_get l 0) e)
    go [] e =
        let whole : chars (45 ∷ x ∷ xs) ≡ 45 ∷ [] = ap (λ l. 45 ∷ l) e in
        let bytes : 45 ∷ [] ≡ 45 ∷ x ∷ xs = sym (ap encode_utf8_all whole ∙ ap (λ (l : List ℕ). l ++ []) (encode_ascii 45 (omega arith))) ∙ encodes-chars (45 ∷ x ∷ xs) u in
        let lens : 1 ≡ suc (suc (length xs)) = ap length bytes in
        absurd (omega (arith, lens))

module _ (name : Text) (names : List Text) where
  -- ---- `--`

  pub ends_step : (h : Held) (waiting : Waiting) → walked (c name names) [] (at h waiting) (45 ∷ 45 ∷ []) ≡ trailing_at h waiting
  unfolding walked
  ends_step h idle = refl
  ends_step h positional = refl
  ends_step h (option id) = refl

  pub ends_faultless : (h : Held) (waiting : Waiting) → turn_fault (s name names) [] (at h waiting) (45 ∷ 45 ∷ []) ≡ []
  ends_faultless h idle = refl
  ends_faultless h positional = refl
  ends_faultless h (option id) = refl

  -- ---- `--name` and `--name=value`

  module _ (d : ℕ) (rest : Text) where
    abbrev pub word : Text
    word = 45 ∷ 45 ∷ d ∷ rest

    abbrev pub n : Text
    n = name_in (d ∷ rest)

    pub long_met_by : (h : Held) (waiting : Waiting) (o : Option Rule) → arg_by_long (c name names) n ≡ o
        → word_met (c name names) [] false waiting 1 word h
        ≡ after_flag (c name names) waiting word (long_met (c name names) o (value_in (d ∷ rest)) h).0 (long_met (c name names) o (value_in (d ∷ rest)) h).1
    long_met_by h idle o e = ap (λ o. after_flag (c name names) idle word (long_met (c name names) o (value_in (d ∷ rest)) h).0 (long_met (c name names) o (value_in (d ∷ rest)) h).1) e
    long_met_by h positional o e = ap (λ o. after_flag (c name names) positional word (long_met (c name names) o (value_in (d ∷ rest)) h).0 (long_met (c name names) o (value_in (d ∷ rest)) h).1) e
    long_met_by h (option id) o e = ap (λ o. after_flag (c name names) (option id) word (long_met (c name names) o (value_in (d ∷ rest)) h).0 (long_met (c name names) o (value_in (d ∷ rest)) h).1) e

    pub long_fault_by : (h : Held) (waiting : Waiting) (o : Option Rule) → arg_by_long (c name names) n ≡ o
        → word_fault (s name names) [] false waiting word h ≡ long_fault (c name names) false o (value_in (d ∷ rest)) h
    long_fault_by h idle o e = ap (λ o. long_fault (c name names) false o (value_in (d ∷ rest)) h) e
    long_fault_by h positional o e = ap (λ o. long_fault (c name names) false o (value_in (d ∷ rest)) h) e
    long_fault_by h (option id) o e = ap (λ o. long_fault (c name names) false o (value_in (d ∷ rest)) h) e

    found : is_one_of names n ≡ true → arg_by_long (c name names) n ≡ Some (option_rule n)
    found one = by_long names n ∙ ap (λ b. cond b (Some (option_rule n)) None) one

    pub unknown_fails : (h : Held) (waiting : Waiting) → is_one_of names n ≡ false → fails (turn_fault (s name names) [] (at h waiting) word) ≡ true
    unknown_fails h waiting none =
        let missing : arg_by_long (c name names) n ≡ None = by_long names n ∙ ap (λ b. cond b (Some (option_rule n)) None) none in
        fails_first _ _ (ap fails (long_fault_by h waiting None missing))

    -- an option is met while another waits for its value
    pub known_fails : (rows : List Row) (m : Text) → is_one_of names m ≡ true → is_one_of names n ≡ true
        → fails (turn_fault (s name names) [] (at (held rows (Some (m, []))) (option m)) word) ≡ true
    known_fails rows m waiting one =
        let h = held rows (Some (m, [])) in
        fails_first _ _ (ap fails (long_fault_by h (option m) (Some (option_rule n)) (found one)) ∙ go (value_in (d ∷ rest)))
      where
        go : (v : Option Text) → fails (long_fault (c name names) false (Some (option_rule n)) v (held rows (Some (m, [])))) ≡ true
        go None = ap fails (unready name names m waiting rows)
        go (Some v) = fails_first _ _ (ap fails (unready name names m waiting rows))

    -- the option's value stands in its word
    pub attached_step : (rows : List Row) (p : Pending) (waiting : Waiting) (v : Text) → value_in (d ∷ rest) ≡ Some v → is_one_of names n ≡ true
        → walked (c name names) [] (at (held rows p) waiting) word ≡ at (held (use_of name names n (v ∷ []) (settled_rows (c name names) p rows)) None) idle
    unfolding walked
    attached_step rows p waiting v is one =
        let h = held rows p in
        ap (λ (m : Held × Step). after_step (c name names) word (at h waiting) m.0 m.1)
        (long_met_by h waiting (Some (option_rule n)) (found one)
        ∙ ap (λ o. after_flag (c name names) waiting word (long_met (c name names) (Some (option_rule n)) o h).0 (long_met (c name names) (Some (option_rule n)) o h).1) is)

    pub attached_faultless : (rows : List Row) (p : Pending) (waiting : Waiting) (v : Text) → value_in (d ∷ rest) ≡ Some v → is_one_of names n ≡ true → Ready name names p
        → turn_fault (s name names) [] (at (held rows p) waiting) word ≡ []
    attached_faultless rows p waiting v is one ready =
        let h = held rows p in
        let met : word_met (c name names) [] false waiting 1 word h ≡ (held (use_of name names n (v ∷ []) (settled_rows (c name names) p rows)) None, next idle) =
        long_met_by h waiting (Some (option_rule n)) (found one)
        ∙ ap (λ o. after_flag (c name names) waiting word (long_met (c name names) (Some (option_rule n)) o h).0 (long_met (c name names) (Some (option_rule n)) o h).1) is in
        let none : word_fault (s name names) [] false waiting word h ≡ [] =
        long_fault_by h waiting (Some (option_rule n)) (found one) ∙ ap (λ o. long_fault (c name names) false (Some (option_rule n)) o h) is
        ∙ ap (λ ks. or_else ks []) (ready rows) in
        (λ i. or_else (none i) (step_fault (s name names) 1 (met i).0 (met i).1))

    -- the option's value is the next word
    pub option_step : (rows : List Row) (p : Pending) (waiting : Waiting) → value_in (d ∷ rest) ≡ None → is_one_of names n ≡ true
        → walked (c name names) [] (at (held rows p) waiting) word ≡ at (held (settled_rows (c name names) p rows) (Some (n, []))) (option n)
    unfolding walked
    option_step rows p waiting is one =
        let h = held rows p in
        ap (λ (m : Held × Step). after_step (c name names) word (at h waiting) m.0 m.1)
        (long_met_by h waiting (Some (option_rule n)) (found one)
        ∙ ap (λ o. after_flag (c name names) waiting word (long_met (c name names) (Some (option_rule n)) o h).0 (long_met (c name names) (Some (option_rule n)) o h).1) is)

    pub option_faultless : (rows : List Row) (p : Pending) (waiting : Waiting) → value_in (d ∷ rest) ≡ None → is_one_of names n ≡ true → Ready name names p
        → turn_fault (s name names) [] (at (held rows p) waiting) word ≡ []
    option_faultless rows p waiting is one ready =
        let h = held rows p in
        let met : word_met (c name names) [] false waiting 1 word h ≡ (held (settled_rows (c name names) p rows) (Some (n, [])), next (option n)) =
        long_met_by h waiting (Some (option_rule n)) (found one)
        ∙ ap (λ o. after_flag (c name names) waiting word (long_met (c name names) (Some (option_rule n)) o h).0 (long_met (c name names) (Some (option_rule n)) o h).1) is in
        let none : word_fault (s name names) [] false waiting word h ≡ [] =
        long_fault_by h waiting (Some (option_rule n)) (found one) ∙ ap (λ o. long_fault (c name names) false (Some (option_rule n)) o h) is ∙ ready rows in
        (λ i. or_else (none i) (step_fault (s name names) 1 (met i).0 (met i).1))

  -- ---- `-abc`

  pub bundle_fails : (x : ℕ) (xs : Text) (rows : List Row) (p : Pending) → IsUtf8 (45 ∷ x ∷ xs) → fails (bundle_fault (c name names) false (x ∷ xs) (held rows p)) ≡ true
  unfolding flags_fault
  bundle_fails x xs rows p u =
      let y = first_char x xs u in
      let next_of : Text → ℕ → Held → Kinds = flags_fault (c name names) false (length xs) in
      ap fails (ap (λ o. bundle_step_fault (c name names) false o (x ∷ xs) 0 (held rows p) next_of) y.1
      ∙ ap (λ o. Rattle.clap.specs.Faults.short_fault (c name names) false o (drop (length (encode_utf8 y.0)) (x ∷ xs)) (held rows p) (next_of (drop (length (encode_utf8 y.0)) (x ∷ xs)) 0)) (by_short names y.0))

  short_is : (x : ℕ) (xs : Text) (h : Held) (waiting : Waiting) → (x == 45) ≡ false → word_fault (s name names) [] false waiting (45 ∷ x ∷ xs) h ≡ bundle_fault (c name names) false (x ∷ xs) h
  short_is x xs h idle e = rw e (rw e refl)
  short_is x xs h positional e = rw e (rw e refl)
  short_is x xs h (option id) e = rw e (rw e refl)

  pub short_fails : (x : ℕ) (xs : Text) (rows : List Row) (p : Pending) (waiting : Waiting) → IsUtf8 (45 ∷ x ∷ xs) → (x == 45) ≡ false
      → fails (turn_fault (s name names) [] (at (held rows p) waiting) (45 ∷ x ∷ xs)) ≡ true
  short_fails x xs rows p waiting u e = fails_first _ _ (ap fails (short_is x xs (held rows p) waiting e) ∙ bundle_fails x xs rows p u)
