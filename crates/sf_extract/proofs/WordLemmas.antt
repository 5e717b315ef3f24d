-- Numbers and pieces of words.
use Rattle.std.proofs.Common.{◌≡◌, ℕ, suc, ◌+◌, ◌*◌, ◌-◌, ◌≤◌, ◌<◌, Bool, true, false, cond, ◌==◌, List, [], ◌∷◌, ◌++◌, length, take, drop, get_or, Some, None, Ok, Err, refl, sym, ap, ◌∙◌, arith}
use Rattle.std.proofs.lemmas.List.{drop_more, drop_all, append_assoc, append-nil, length-take, length-drop, drop-drop}
use Rattle.std.proofs.lemmas.Bool.Decides.{nat_tests}
use Rattle.sf_meaning.specs.Steps.{◌>>=◌}
use Rattle.sf_extract.specs.declared.plan.Command.{Command}
use Rattle.sf_extract.specs.declared.plan.PlanFault.{PlanFault}
use Rattle.sf_extract.specs.Plan.{Reading, commands_in, command_in, digits, is_digit, is_there, missing_from, number_after, pieces, plan_of}
use Rattle.sf_extract.specs.inner.Words.{after_comma, piece_len, with_front}

digits_by : (b : ℕ) (bytes : List ℕ) (t : Bool) → is_digit b ≡ t → digits (b ∷ bytes) ≡ cond t (digits bytes + 1) 0
digits_by b bytes true e = rw e refl
digits_by b bytes false e = rw e refl

-- a digit, and those after it
pub digit_more : (bytes : List ℕ) (i : ℕ) → i < length bytes → is_digit (get_or bytes i 0) ≡ true → digits (drop i bytes) ≡ digits (drop (i + 1) bytes) + 1
digit_more bytes i lt e = ap digits (drop_more bytes i 0 lt) ∙ digits_by (get_or bytes i 0) (drop (i + 1) bytes) true e

-- a byte that is no digit
pub no_digit : (bytes : List ℕ) (i : ℕ) → i < length bytes → is_digit (get_or bytes i 0) ≡ false → digits (drop i bytes) ≡ 0
no_digit bytes i lt e = ap digits (drop_more bytes i 0 lt) ∙ digits_by (get_or bytes i 0) (drop (i + 1) bytes) false e

pub digits_end : (bytes : List ℕ) (i : ℕ) → length bytes ≤ i → digits (drop i bytes) ≡ 0
digits_end bytes i le = ap digits (drop_all i bytes le)

len_by : (b : ℕ) (bytes : List ℕ) (t : Bool) → (b == 0x2C) ≡ t → piece_len (b ∷ bytes) ≡ cond t 0 (suc (piece_len bytes))
len_by b bytes true e = rw e refl
len_by b bytes false e = rw e refl

-- a byte that is no comma, and what comes after it
pub len_more : (bytes : List ℕ) (i : ℕ) → i < length bytes → (get_or bytes i 0 == 0x2C) ≡ false → piece_len (drop i bytes) ≡ piece_len (drop (i + 1) bytes) + 1
len_more bytes i lt e = ap piece_len (drop_more bytes i 0 lt) ∙ len_by (get_or bytes i 0) (drop (i + 1) bytes) false e ∙ omega arith

-- a comma
pub len_comma : (bytes : List ℕ) (i : ℕ) → i < length bytes → (get_or bytes i 0 == 0x2C) ≡ true → piece_len (drop i bytes) ≡ 0
len_comma bytes i lt e = ap piece_len (drop_more bytes i 0 lt) ∙ len_by (get_or bytes i 0) (drop (i + 1) bytes) true e

pub len_end : (bytes : List ℕ) (i : ℕ) → length bytes ≤ i → piece_len (drop i bytes) ≡ 0
len_end bytes i le = ap piece_len (drop_all i bytes le)

-- a number never falls by more digits
pub number_grows : (n : ℕ) (bytes : List ℕ) → n ≤ number_after n bytes
number_grows n [] = omega arith
number_grows n (b ∷ bytes) = omega (arith, number_grows (n * 10 + (b - 48)) bytes)

-- one digit more of a number
pub number_step : (n : ℕ) (bytes : List ℕ) (i : ℕ) → i < length bytes → number_after n (drop i bytes) ≡ number_after (n * 10 + (get_or bytes i 0 - 48)) (drop (i + 1) bytes)
number_step n bytes i lt = ap (number_after n) (drop_more bytes i 0 lt)

pub number_end : (n : ℕ) (bytes : List ℕ) (i : ℕ) → length bytes ≤ i → number_after n (drop i bytes) ≡ n
number_end n bytes i le = ap (number_after n) (drop_all i bytes le)

front_by : (b : ℕ) (bytes : List ℕ) (t : Bool) → (b == 0x2C) ≡ t → pieces bytes ≡ take (piece_len bytes) bytes ∷ after_comma (drop (piece_len bytes) bytes)
    → pieces (b ∷ bytes) ≡ take (piece_len (b ∷ bytes)) (b ∷ bytes) ∷ after_comma (drop (piece_len (b ∷ bytes)) (b ∷ bytes))
unfolding pieces
front_by b bytes true e is = rw (e) refl
front_by b bytes false e is = rw (e, is) refl

-- the first piece of a word, and those after its comma
pub front_piece : (bytes : List ℕ) → pieces bytes ≡ take (piece_len bytes) bytes ∷ after_comma (drop (piece_len bytes) bytes)
unfolding pieces
front_piece [] = refl
front_piece (b ∷ bytes) = front_by b bytes (b == 0x2C) refl (front_piece bytes)

with_more : (front : List Command) (c : Command) (others : Reading (List Command))
    → with_front front (others >>= (λ commands. Ok (c ∷ commands))) ≡ with_front (front ++ c ∷ []) others
with_more front c (Ok commands) = ap (λ (cs : List Command). Ok cs) (sym (append_assoc front (c ∷ []) commands))
with_more front c (Err fault) = refl

-- one command more was read
pub command_step : (front : List Command) (at : ℕ) (p : List ℕ) (ps : List (List ℕ)) (c : Command) (whole : Reading (List Command)) → with_front front (commands_in at (p ∷ ps)) ≡ whole → command_in at p ≡ Ok c
    → with_front (front ++ c ∷ []) (commands_in (at + length p + 1) ps) ≡ whole
unfolding commands_in
command_step front at p ps c whole is e =
    sym (with_more front c (commands_in (at + length p + 1) ps)) ∙ sym (ap (λ (r : Reading Command). with_front front (r >>= (λ command. commands_in (at + length p + 1) ps >>= (λ commands. Ok (command ∷ commands))))) e) ∙ is

-- a piece is no command
pub command_wrong : (front : List Command) (at : ℕ) (p : List ℕ) (ps : List (List ℕ)) (fault : PlanFault) (whole : Reading (List Command)) → with_front front (commands_in at (p ∷ ps)) ≡ whole → command_in at p ≡ Err fault
    → whole ≡ Err fault
unfolding commands_in
command_wrong front at p ps fault whole is e =
    sym is ∙ ap (λ (r : Reading Command). with_front front (r >>= (λ command. commands_in (at + length p + 1) ps >>= (λ commands. Ok (command ∷ commands))))) e

-- no piece is left
pub commands_end : (front : List Command) (at : ℕ) (whole : Reading (List Command)) → with_front front (commands_in at []) ≡ whole → whole ≡ Ok front
unfolding commands_in
commands_end front at whole is = sym is ∙ ap (λ (cs : List Command). Ok cs) (append-nil front)

missing_by : (tracks k : ℕ) (c : Command) (cs : List Command) (t : Bool) → is_there tracks c ≡ t → missing_from tracks k (c ∷ cs) ≡ cond t (missing_from tracks (k + 1) cs) (Some k)
unfolding missing_from
missing_by tracks k c cs true e = rw e refl
missing_by tracks k c cs false e = rw e refl

-- a command whose track is there, and those after it
pub there_step : (tracks k : ℕ) (cs : List Command) (d : Command) → k < length cs → is_there tracks (get_or cs k d) ≡ true
    → missing_from tracks k (drop k cs) ≡ missing_from tracks (k + 1) (drop (k + 1) cs)
there_step tracks k cs d lt there = ap (missing_from tracks k) (drop_more cs k d lt) ∙ missing_by tracks k (get_or cs k d) (drop (k + 1) cs) true there

-- a command whose track is missing
pub missing_here : (tracks k : ℕ) (cs : List Command) (d : Command) → k < length cs → is_there tracks (get_or cs k d) ≡ false → missing_from tracks k (drop k cs) ≡ Some k
missing_here tracks k cs d lt there = ap (missing_from tracks k) (drop_more cs k d lt) ∙ missing_by tracks k (get_or cs k d) (drop (k + 1) cs) false there

pub none_missing : (tracks k : ℕ) (cs : List Command) → length cs ≤ k → missing_from tracks k (drop k cs) ≡ None
unfolding missing_from
none_missing tracks k cs le = ap (missing_from tracks k) (drop_all k cs le)

front_none : (r : Reading (List Command)) → with_front [] r ≡ r
front_none (Ok commands) = refl
front_none (Err fault) = refl

-- no command was read yet
pub plan_begin : (bytes : List ℕ) → with_front [] (commands_in 0 (pieces bytes)) ≡ plan_of bytes
unfolding plan_of
plan_begin bytes = front_none (commands_in 0 (pieces bytes))

after_some : (after : List ℕ) → 1 ≤ length after → after_comma after ≡ pieces (drop 1 after)
after_some [] le = absurd (omega (arith, le))
after_some (b ∷ more) le = refl

-- A rest of a word from a place on was cut at its first comma.
pub record IsCut (bytes left piece behind : List ℕ) (at : ℕ) : Type 0 where
  pub rest : left ≡ drop at bytes
  pub front : piece ≡ take (piece_len left) left
  pub after : behind ≡ drop (piece_len left) left
  pub fits : piece_len left ≤ length left

cut_pieces : (bytes rest piece after : List ℕ) (at : ℕ) → IsCut bytes rest piece after at → pieces (drop at bytes) ≡ piece ∷ after_comma after
cut_pieces bytes rest piece after at h = sym (ap pieces h.rest) ∙ front_piece rest ∙ sym (ap (λ (p : List ℕ). p ∷ after_comma after) h.front ∙ ap (λ (a : List ℕ). take (piece_len rest) rest ∷ after_comma a) h.after)

-- one piece more was read
pub plan_step : (bytes rest piece after : List ℕ) (at : ℕ) (front : List Command) (c : Command) (whole : Reading (List Command)) → IsCut bytes rest piece after at
    → with_front front (commands_in at (pieces (drop at bytes))) ≡ whole → command_in at piece ≡ Ok c → 1 ≤ length after
    → with_front (front ++ c ∷ []) (commands_in (at + (length piece + 1)) (pieces (drop (at + (length piece + 1)) bytes))) ≡ whole
plan_step bytes rest piece after at front c whole h is e some =
    let n : length piece ≡ piece_len rest = ap length h.front ∙ length-take (piece_len rest) rest ∙ omega (arith, h.fits) in
    let place : at + length piece + 1 ≡ at + (length piece + 1) = omega arith in
    let k : at + piece_len rest + 1 ≡ at + (length piece + 1) = omega (arith, n) in
    let more : drop 1 after ≡ drop (at + (length piece + 1)) bytes =
    ap (drop 1) (h.after ∙ ap (drop (piece_len rest)) h.rest) ∙ ap (drop 1) (drop-drop (piece_len rest) at bytes) ∙ drop-drop 1 (at + piece_len rest) bytes ∙ ap (λ (x : ℕ). drop x bytes) k in
    let first = command_step front at piece (after_comma after) c whole (sym (ap (λ (ps : List (List ℕ)). with_front front (commands_in at ps)) (cut_pieces bytes rest piece after at h)) ∙ is) e in
    sym (ap (λ (k : ℕ). with_front (front ++ c ∷ []) (commands_in k (after_comma after))) place ∙ ap (λ (ps : List (List ℕ)). with_front (front ++ c ∷ []) (commands_in (at + (length piece + 1)) ps)) (after_some after some ∙ ap pieces more)) ∙ first

-- the last piece was read
pub plan_end : (bytes rest piece after : List ℕ) (at : ℕ) (front : List Command) (c : Command) (whole : Reading (List Command)) → IsCut bytes rest piece after at
    → with_front front (commands_in at (pieces (drop at bytes))) ≡ whole → command_in at piece ≡ Ok c → after ≡ [] → whole ≡ Ok (front ++ c ∷ [])
plan_end bytes rest piece after at front c whole h is e none =
    let first = command_step front at piece (after_comma after) c whole (sym (ap (λ (ps : List (List ℕ)). with_front front (commands_in at ps)) (cut_pieces bytes rest piece after at h)) ∙ is) e in
    commands_end (front ++ c ∷ []) (at + length piece + 1) whole (sym (ap (λ (a : List ℕ). with_front (front ++ c ∷ []) (commands_in (at + length piece + 1) (after_comma a))) none) ∙ first)

-- a piece is refused
pub plan_wrong : (bytes rest piece after : List ℕ) (at : ℕ) (front : List Command) (fault : PlanFault) (whole : Reading (List Command)) → IsCut bytes rest piece after at
    → with_front front (commands_in at (pieces (drop at bytes))) ≡ whole → command_in at piece ≡ Err fault → whole ≡ Err fault
plan_wrong bytes rest piece after at front fault whole h is e =
    command_wrong front at piece (after_comma after) fault whole (sym (ap (λ (ps : List (List ℕ)). with_front front (commands_in at ps)) (cut_pieces bytes rest piece after at h)) ∙ is) e

-- nothing follows
pub none_after : (xs : List ℕ) → (length xs == 0) ≡ true → xs ≡ []
none_after [] e = refl
none_after (x ∷ xs) e = absurd (grind (arith, nat_tests, e))

-- something follows
pub some_after : (xs : List ℕ) → (length xs == 0) ≡ false → 1 ≤ length xs
some_after [] e = absurd (grind (arith, e))
some_after (x ∷ xs) e = omega arith

-- the next piece begins within the word
pub plan_place : (bytes rest piece after : List ℕ) (at : ℕ) → IsCut bytes rest piece after at → at ≤ length bytes → 1 ≤ length after → at + (length piece + 1) ≤ length bytes
plan_place bytes rest piece after at h within some =
    omega (arith, within, some, h.fits, ap length h.rest, length-drop at bytes, ap length h.front, length-take (piece_len rest) rest, ap length h.after, length-drop (piece_len rest) rest)
