-- The walk over the words of a grammar fails exactly where they can't be read, and else gains what they give.
use Rattle.std.proofs.Common.{◌≡◌, ◌∙◌, ℕ, Bool, cond, true, false, ◌==◌, refl, sym, ap, subst, List, [], ◌∷◌, Option, Some, None, append-nil}
use Rattle.std.specs.Str.{IsUtf8}
use Rattle.clap.specs.Kinds.{Kinds, or_else}
use Rattle.clap.specs.Faults.{step_fault, turn_fault, walk_fault}
use Rattle.clap.specs.Walk.{Held, Row, Step, Text, Waiting, Walk, after_step, idle, next, option, positional, reading_by, settled_rows, value, walked, word_met}
use Rattle.sf_words.specs.Reading.{Given, is_one_of, name_in, option_read, read, value_in, with_option, with_positional}
use Rattle.sf_words.specs.inner.Grammar.{option_rule, words_id}
use Rattle.sf_words.proofs.Rules.{apart}
use Rattle.sf_words.proofs.Turns.{Pending, Ready, Rests, at, c, end_kinds, end_rows, fails, goes_on, held, plain_faultless, plain_met, plain_waits, positional_fails, positional_faultless, positional_step, ready_option, ready_words, rests_plain, s, settles_option, settles_words, stops, trailing_at, trailing_step, unready, use_of}
use Rattle.sf_words.proofs.Flags.{attached_faultless, attached_step, ends_faultless, ends_step, known_fails, option_faultless, option_step, short_fails, unknown_fails}
use Rattle.sf_words.proofs.Agreeing.{Agrees, Looks, Texts, is_ends, is_long, is_plain, is_short, looks, more_options, more_words, refuses}

onward : (r : Option Given) (k k' : Kinds) (start e e' : List Row) → (k ≡ k') × (e ≡ e') → Agrees r k' start e' → Agrees r k start e
onward r k k' start e e' same a = subst (λ (q : Kinds × List Row). Agrees r q.0 start q.1) (λ i. (sym same.0 i, sym same.1 i)) a

short_read : (names : List Text) (x : ℕ) (xs : Text) (words : List Text) → (x == 45) ≡ false → read names None ((45 ∷ x ∷ xs) ∷ words) ≡ None
unfolding read
short_read names x [] words e = rw e refl
short_read names x (d ∷ rest) words e = rw e refl

module _ (name : Text) (names : List Text) (none : is_one_of names words_id ≡ false) where
  -- from a place in the walk, words come to this
  abbrev Comes : Option Given → List Row → Walk → List Text → Type 0
  Comes r start w words = Agrees r (end_kinds name names w words) start (end_rows name names w words)

  abbrev rows_of : Pending → List Row → List Row
  rows_of p rows = settled_rows (c name names) p rows

  step : (r : Option Given) (start : List Row) (w after : Walk) (word : Text) (words : List Text) → turn_fault (s name names) [] w word ≡ [] → walked (c name names) [] w word ≡ after
      → Comes r start after words → Comes r start w (word ∷ words)
  step r start w after word words faultless is a = onward r _ _ start _ _ (goes_on name names w after word words faultless is) a

  one_more : (r : Option Given) (rows : List Row) (p : Pending) (word : Text) (w : Walk) (words : List Text)
      → Comes r (rows_of (Some (words_id, word ∷ [])) (rows_of p rows)) w words → Comes (with_positional word r) (rows_of p rows) w words
  one_more r rows p word w words a =
      more_words word r _ (rows_of p rows) _ _ (reading_by (option_rule words_id)) (settles_words name names word (rows_of p rows) none) a

  -- ---- after `--`

  trail : (words : List Text) (rows : List Row) (p : Pending) (waiting : Waiting) → Ready name names p
      → Comes (Some (record { positional = words; options = [] })) (rows_of p rows) (trailing_at (held rows p) waiting) words
  unfolding walk_fault
  trail [] rows p waiting ready = (ready rows, (λ id other. sym (append-nil _), sym (append-nil _)))
  trail (word ∷ words) rows p waiting ready =
      let after = trailing_at (held (rows_of p rows) (Some (words_id, word ∷ []))) positional in
      let rest : Option Given = Some (record { positional = words; options = [] }) in
      let ih : Comes rest (rows_of (Some (words_id, word ∷ [])) (rows_of p rows)) after words =
      trail words (rows_of p rows) (Some (words_id, word ∷ [])) positional (ready_words name names word none) in
      step (with_positional word rest) (rows_of p rows) (trailing_at (held rows p) waiting) after word words (positional_faultless name names rows p ready) (trailing_step name names rows p waiting word)
      (one_more rest rows p word after words ih)

  trail_fails : (words : List Text) (rows : List Row) (n : Text) (waiting : Waiting) → is_one_of names n ≡ true
      → fails (end_kinds name names (trailing_at (held rows (Some (n, []))) waiting) words) ≡ true
  unfolding walk_fault
  trail_fails [] rows n waiting one = ap fails (unready name names n one rows)
  trail_fails (word ∷ words) rows n waiting one = stops name names (trailing_at (held rows (Some (n, []))) waiting) word words (positional_fails name names rows n one)

  -- ---- a word at a time

  -- no option waits, or one does
  abbrev Free : List Text → Type 0
  Free words = (rows : List Row) (p : Pending) (waiting : Waiting) → Rests waiting → Ready name names p
      → Comes (read names None words) (rows_of p rows) (at (held rows p) waiting) words

  abbrev Waits : List Text → Type 0
  Waits words = (rows : List Row) (n : Text) → is_one_of names n ≡ true
      → Comes (read names (Some n) words) rows (at (held rows (Some (n, []))) (option n)) words

  free_long : (d : ℕ) (rest : Text) (words : List Text) → Free words → Waits words → (b : Bool) → is_one_of names (name_in (d ∷ rest)) ≡ b
      → (v : Option Text) → value_in (d ∷ rest) ≡ v → Free ((45 ∷ 45 ∷ d ∷ rest) ∷ words)
  unfolding read
  free_long d rest words free waits false known v is rows p waiting rests ready =
      refuses _ _ (rows_of p rows) _ (ap (λ b. cond b (option_read (name_in (d ∷ rest)) (value_in (d ∷ rest)) (λ w. read names w words)) None) known)
      (stops name names (at (held rows p) waiting) _ words (unknown_fails name names d rest (held rows p) waiting known))
  free_long d rest words free waits true known None is rows p waiting rests ready =
      let n = name_in (d ∷ rest) in
      let reads : read names None ((45 ∷ 45 ∷ d ∷ rest) ∷ words) ≡ read names (Some n) words =
      ap (λ b. cond b (option_read n (value_in (d ∷ rest)) (λ w. read names w words)) None) known ∙ ap (λ o. option_read n o (λ w. read names w words)) is in
      subst (λ (r : Option Given). Comes r (rows_of p rows) (at (held rows p) waiting) ((45 ∷ 45 ∷ d ∷ rest) ∷ words)) (sym reads)
      (step (read names (Some n) words) (rows_of p rows) (at (held rows p) waiting) (at (held (rows_of p rows) (Some (n, []))) (option n)) (45 ∷ 45 ∷ d ∷ rest) words
      (option_faultless name names d rest rows p waiting is known ready) (option_step name names d rest rows p waiting is known)
      (waits (rows_of p rows) n known))
  free_long d rest words free waits true known (Some v) is rows p waiting rests ready =
      let n = name_in (d ∷ rest) in
      let reads : read names None ((45 ∷ 45 ∷ d ∷ rest) ∷ words) ≡ with_option n v (read names None words) =
      ap (λ b. cond b (option_read n (value_in (d ∷ rest)) (λ w. read names w words)) None) known ∙ ap (λ o. option_read n o (λ w. read names w words)) is in
      let gained = use_of name names n (v ∷ []) (rows_of p rows) in
      subst (λ (r : Option Given). Comes r (rows_of p rows) (at (held rows p) waiting) ((45 ∷ 45 ∷ d ∷ rest) ∷ words)) (sym reads)
      (step (with_option n v (read names None words)) (rows_of p rows) (at (held rows p) waiting) (at (held gained None) idle) (45 ∷ 45 ∷ d ∷ rest) words
      (attached_faultless name names d rest rows p waiting v is known ready) (attached_step name names d rest rows p waiting v is known)
      (more_options n v (read names None words) _ (rows_of p rows) gained _ (reading_by (option_rule n)) (apart names n words_id known none) refl
      (free gained None idle tt (λ rows. refl))))

  free_next : (word : Text) (words : List Text) → IsUtf8 word → Looks word → Free words → Waits words → Free (word ∷ words)
  unfolding walked read
  free_next word words u (is_plain e l f ends dashed) free waits rows p waiting rests ready =
      let h = held rows p in
      let reads : read names None (word ∷ words) ≡ with_positional word (read names None words) = rw (ends, dashed) refl in
      let met : word_met (c name names) [] false waiting 1 word h ≡ (h, value) = plain_met name names waiting word h e l f ∙ rests_plain (c name names) waiting word h rests in
      let after = at (held (rows_of p rows) (Some (words_id, word ∷ []))) positional in
      let faultless : turn_fault (s name names) [] (at h waiting) word ≡ [] =
      (λ i. or_else (plain_faultless name names waiting word h e l f i) (step_fault (s name names) 1 (met i).0 (met i).1)) ∙ positional_faultless name names rows p ready in
      let stepped : walked (c name names) [] (at h waiting) word ≡ after =
      ap (λ (m : Held × Step). after_step (c name names) word (at h waiting) m.0 m.1) met ∙ positional_step name names rows p waiting word in
      subst (λ (r : Option Given). Comes r (rows_of p rows) (at h waiting) (word ∷ words)) (sym reads)
      (step (with_positional word (read names None words)) (rows_of p rows) (at h waiting) after word words faultless stepped
      (one_more (read names None words) rows p word after words (free (rows_of p rows) (Some (words_id, word ∷ [])) positional tt (ready_words name names word none))))
  free_next word words u (is_ends e) free waits rows p waiting rests ready =
      subst (λ (w : Text). Comes (read names None (w ∷ words)) (rows_of p rows) (at (held rows p) waiting) (w ∷ words)) (sym e)
      (step (Some (record { positional = words; options = [] })) (rows_of p rows) (at (held rows p) waiting) (trailing_at (held rows p) waiting) (45 ∷ 45 ∷ []) words
      (ends_faultless name names (held rows p) waiting) (ends_step name names (held rows p) waiting) (trail words rows p waiting ready))
  free_next word words u (is_long d rest e) free waits rows p waiting rests ready =
      subst (λ (w : Text). Comes (read names None (w ∷ words)) (rows_of p rows) (at (held rows p) waiting) (w ∷ words)) (sym e)
      (free_long d rest words free waits (is_one_of names (name_in (d ∷ rest))) refl (value_in (d ∷ rest)) refl rows p waiting rests ready)
  free_next word words u (is_short x xs e differs) free waits rows p waiting rests ready =
      subst (λ (w : Text). Comes (read names None (w ∷ words)) (rows_of p rows) (at (held rows p) waiting) (w ∷ words)) (sym e)
      (refuses _ _ (rows_of p rows) _ (short_read names x xs words differs)
      (stops name names (at (held rows p) waiting) _ words (short_fails name names x xs rows p waiting (subst IsUtf8 e u) differs)))

  waits_long : (d : ℕ) (rest : Text) (words : List Text) (rows : List Row) (n : Text) → is_one_of names n ≡ true → (b : Bool) → is_one_of names (name_in (d ∷ rest)) ≡ b
      → fails (turn_fault (s name names) [] (at (held rows (Some (n, []))) (option n)) (45 ∷ 45 ∷ d ∷ rest)) ≡ true
  waits_long d rest words rows n one false known = unknown_fails name names d rest (held rows (Some (n, []))) (option n) known
  waits_long d rest words rows n one true known = known_fails name names d rest rows n one known

  waits_next : (word : Text) (words : List Text) → IsUtf8 word → Looks word → Free words → Waits (word ∷ words)
  unfolding walked read
  waits_next word words u (is_plain e l f ends dashed) free rows n one =
      let h = held rows (Some (n, [])) in
      let after = at (held rows (Some (n, word ∷ []))) idle in
      let reads : read names (Some n) (word ∷ words) ≡ with_option n word (read names None words) = rw dashed refl in
      let met : word_met (c name names) [] false (option n) 1 word h ≡ (held rows (Some (n, word ∷ [])), next idle) =
      plain_met name names (option n) word h e l f ∙ plain_waits name names n word rows one in
      let faultless : turn_fault (s name names) [] (at h (option n)) word ≡ [] =
      (λ i. or_else (plain_faultless name names (option n) word h e l f i) (step_fault (s name names) 1 (met i).0 (met i).1)) in
      let stepped : walked (c name names) [] (at h (option n)) word ≡ after = ap (λ (m : Held × Step). after_step (c name names) word (at h (option n)) m.0 m.1) met in
      subst (λ (r : Option Given). Comes r rows (at h (option n)) (word ∷ words)) (sym reads)
      (step (with_option n word (read names None words)) rows (at h (option n)) after word words faultless stepped
      (more_options n word (read names None words) _ rows _ _ (reading_by (option_rule n)) (apart names n words_id one none) (settles_option name names n word rows one)
      (free rows (Some (n, word ∷ [])) idle tt (ready_option name names n word one))))
  waits_next word words u (is_ends e) free rows n one =
      let h = held rows (Some (n, [])) in
      subst (λ (w : Text). Comes (read names (Some n) (w ∷ words)) rows (at h (option n)) (w ∷ words)) (sym e)
      (ap fails (goes_on name names (at h (option n)) (trailing_at h (option n)) (45 ∷ 45 ∷ []) words (ends_faultless name names h (option n)) (ends_step name names h (option n))).0
      ∙ trail_fails words rows n (option n) one)
  waits_next word words u (is_long d rest e) free rows n one =
      subst (λ (w : Text). Comes (read names (Some n) (w ∷ words)) rows (at (held rows (Some (n, []))) (option n)) (w ∷ words)) (sym e)
      (stops name names (at (held rows (Some (n, []))) (option n)) _ words (waits_long d rest words rows n one (is_one_of names (name_in (d ∷ rest))) refl))
  waits_next word words u (is_short x xs e differs) free rows n one =
      subst (λ (w : Text). Comes (read names (Some n) (w ∷ words)) rows (at (held rows (Some (n, []))) (option n)) (w ∷ words)) (sym e)
      (stops name names (at (held rows (Some (n, []))) (option n)) _ words (short_fails name names x xs rows (Some (n, [])) (option n) (subst IsUtf8 e u) differs))

  both : (words : List Text) → Texts words → Free words × Waits words
  unfolding walk_fault read
  both [] t = (λ rows p waiting rests ready. (ready rows, (λ id other. sym (append-nil _), sym (append-nil _))), λ rows n one. ap fails (unready name names n one rows))
  both (word ∷ words) t =
      let ih = both words t.1 in
      (free_next word words t.0 (looks word) ih.0 ih.1, waits_next word words t.0 (looks word) ih.0)

  -- the whole walk
  pub walks : (words : List Text) → Texts words → Comes (read names None words) [] (at (held [] None) idle) words
  walks words t = (both words t).0 [] None idle tt (λ rows. refl)
