-- What is handed of each track over steps.
use Rattle.std.proofs.Common.{◌≡◌, ℕ, ◌<◌, Bool, true, false, cond, List, [], ◌∷◌, ◌++◌, length, replicate, Option, Some, None, refl, sym, ap, ◌∙◌, inl, inr, append_assoc, append-nil, arith}
use Rattle.std.specs.Prelude.{◌==◌, ◌&&◌}
use Rattle.std.proofs.lemmas.List.{length-set, length-replicate, get_or_past, get_or-replicate}
use Rattle.std.proofs.lemmas.Bool.{cases_lt}
use Rattle.sf_tick.specs.declared.types.Chunk.{Chunk}
use Rattle.sf_entry.specs.declared.track_setup.TrackSetup.{TrackSetup}
use Rattle.sf_interleave.specs.Waiting.{earliest_front, list_of, with_chunk}
use Rattle.sf_series.specs.declared.limits.Limits.{Limits}
use Rattle.sf_series.specs.Switching.{Put, Into, Next, Limit, put}
use Rattle.sf_series.specs.Core.{State, fresh, is_filled, with_filled, with_mark, put_in, write_picked, Step, Hand, Write, step, after, handed_in}
use Rattle.sf_series.proofs.Lists.{list_with}

-- what a chunk adds to what was handed of a track
abbrev pub added : Chunk → ℕ → List Chunk
added c t = cond (is_filled c && (c.track == t)) (c ∷ []) []

added_cons : (b : Bool) (c : Chunk) (more : List Chunk) → cond b (c ∷ more) more ≡ cond b (c ∷ []) [] ++ more
added_cons true c more = refl
added_cons false c more = refl

handed_cons : (t : ℕ) (c : Chunk) (steps : List Step) → handed_in t (Hand c ∷ steps) ≡ added c t ++ handed_in t steps
handed_cons t c steps = added_cons (is_filled c && (c.track == t)) c (handed_in t steps)

filled_if : (filled : Bool) (lists : List (List Chunk)) (c : Chunk) (t : ℕ) → t < length lists → list_of (cond filled (with_chunk lists c) lists) t ≡ list_of lists t ++ cond (filled && (c.track == t)) (c ∷ []) []
filled_if true lists c t less = list_with lists c t less
filled_if false lists c t less = sym (append-nil (list_of lists t))

long_if : (filled : Bool) (lists : List (List Chunk)) (c : Chunk) → length (cond filled (with_chunk lists c) lists) ≡ length lists
long_if true lists c = length-set lists c.track _
long_if false lists c = refl

-- What a step does to what was handed: it adds what it hands, unless nothing more is written; and what ended stays ended.
record Adds (t : ℕ) (before after : State) (more : List Chunk) : Type 0 where
  pub long : length after.handed ≡ length before.handed
  pub stays : before.ended ≡ true → (after.handed ≡ before.handed) × (after.ended ≡ true)
  pub adds : before.ended ≡ false → t < length before.handed → list_of after.handed t ≡ list_of before.handed t ++ more

hand_if : (b : Bool) (t : ℕ) (state : State) (c : Chunk) → state.ended ≡ b
    → Adds t state (cond b state (record state { handed = with_filled state.handed c; pending = with_filled state.pending c; marks = with_mark state.marks c })) (added c t)
hand_if true t state c e = record { long = refl; stays = λ w. (refl, e); adds = λ w less. let wrong : true ≡ false = sym e ∙ w in cc }
hand_if false t state c e = record {
  long = long_if (is_filled c) state.handed c;
  stays = λ w. let wrong : true ≡ false = sym w ∙ e in cc;
  adds = λ w less. filled_if (is_filled c) state.handed c t less;
}

put_adds : (t : ℕ) (state : State) (c : Chunk) (p : Put) → Adds t state (put_in state c p) []
put_adds t state c Into = record { long = refl; stays = λ w. (refl, w); adds = λ w less. sym (append-nil (list_of state.handed t)) }
put_adds t state c Next = record { long = refl; stays = λ w. (refl, w); adds = λ w less. sym (append-nil (list_of state.handed t)) }
put_adds t state c (Limit shown) = record { long = refl; stays = λ w. (refl, refl); adds = λ w less. sym (append-nil (list_of state.handed t)) }

picked_adds : (t : ℕ) (limits : Limits) (setups : List TrackSetup) (state : State) (o : Option Chunk) → Adds t state (write_picked limits setups state o) []
picked_adds t limits setups state None = record { long = refl; stays = λ w. (refl, w); adds = λ w less. sym (append-nil (list_of state.handed t)) }
picked_adds t limits setups state (Some c) = put_adds t state c (put limits setups state.files c)

-- what a step hands of a track
abbrev pub of_step : ℕ → Step → List Chunk
of_step t (Hand c) = added c t
of_step t Write = []

step_adds : (t : ℕ) (limits : Limits) (setups : List TrackSetup) (state : State) (s : Step) → Adds t state (step limits setups state s) (of_step t s)
step_adds t limits setups state (Hand c) = hand_if state.ended t state c refl
step_adds t limits setups state Write = picked_adds t limits setups state (earliest_front state.pending)

steps_cons : (t : ℕ) (s : Step) (steps : List Step) → handed_in t (s ∷ steps) ≡ of_step t s ++ handed_in t steps
steps_cons t (Hand c) steps = handed_cons t c steps
steps_cons t Write steps = refl

-- What steps hand of a track after a state: a front of it is handed, and all of it where nothing ended.
record Front (limits : Limits) (setups : List TrackSetup) (t : ℕ) (state : State) (steps : List Step) : Type 0 where
  pub rest : List Chunk
  pub whole : list_of state.handed t ++ handed_in t steps ≡ list_of (after limits setups state steps).handed t ++ rest
  pub all : (after limits setups state steps).ended ≡ false → rest ≡ []

stay : (limits : Limits) (setups : List TrackSetup) (state : State) (steps : List Step) → state.ended ≡ true → ((after limits setups state steps).handed ≡ state.handed) × ((after limits setups state steps).ended ≡ true)
stay limits setups state [] e = (refl, e)
stay limits setups state (s ∷ steps) e =
    let now = (step_adds 0 limits setups state s).stays e in
    let later = stay limits setups (step limits setups state s) steps now.1 in
    (later.0 ∙ now.0, later.1)

front_if : (b : Bool) (limits : Limits) (setups : List TrackSetup) (t : ℕ) (state : State) (s : Step) (steps : List Step) → state.ended ≡ b → t < length state.handed
    → Front limits setups t (step limits setups state s) steps → Front limits setups t state (s ∷ steps)
front_if true limits setups t state s steps e less later =
    let ended = stay limits setups state (s ∷ steps) e in
    record {
      rest = handed_in t (s ∷ steps);
      whole = ap (λ (lists : List (List Chunk)). list_of lists t ++ handed_in t (s ∷ steps)) (sym ended.0);
      all = λ w. let wrong : true ≡ false = sym ended.1 ∙ w in cc;
    }
front_if false limits setups t state s steps e less later =
    record {
      rest = later.rest;
      whole =
          ap (λ (cs : List Chunk). list_of state.handed t ++ cs) (steps_cons t s steps)
          ∙ sym (append_assoc (list_of state.handed t) (of_step t s) (handed_in t steps))
          ∙ ap (λ (cs : List Chunk). cs ++ handed_in t steps) (sym ((step_adds t limits setups state s).adds e less))
          ∙ later.whole;
      all = later.all;
    }

front_of : (limits : Limits) (setups : List TrackSetup) (t : ℕ) (state : State) (steps : List Step) → t < length state.handed → Front limits setups t state steps
front_of limits setups t state [] less = record { rest = []; whole = refl; all = λ w. refl }
front_of limits setups t state (s ∷ steps) less =
    let long = (step_adds t limits setups state s).long in
    front_if state.ended limits setups t state s steps refl less (front_of limits setups t (step limits setups state s) steps (omega arith))

none_at : (n t : ℕ) → list_of (replicate n []) t ≡ []
none_at n t =
    elim (cases_lt t n) [
      | inl less ↦ get_or-replicate n t [] [] less
      | inr past ↦ get_or_past (replicate n []) t [] (omega (arith, length-replicate {A = List Chunk} n []))
    ]

-- of the chunks that steps hand of a track a front is handed
pub handed_front : (limits : Limits) (setups : List TrackSetup) (tracks t : ℕ) (steps : List Step) → t < tracks
    → (rest : List Chunk) × (handed_in t steps ≡ list_of (after limits setups (fresh tracks) steps).handed t ++ rest)
handed_front limits setups tracks t steps less =
    let front = front_of limits setups t (fresh tracks) steps (omega (arith, length-replicate {A = List Chunk} tracks [])) in
    (front.rest, ap (λ (cs : List Chunk). cs ++ handed_in t steps) (sym (none_at tracks t)) ∙ front.whole)

-- and all of them where no limit came
pub handed_all : (limits : Limits) (setups : List TrackSetup) (tracks t : ℕ) (steps : List Step) → t < tracks → (after limits setups (fresh tracks) steps).ended ≡ false
    → list_of (after limits setups (fresh tracks) steps).handed t ≡ handed_in t steps
handed_all limits setups tracks t steps less e =
    let front = front_of limits setups t (fresh tracks) steps (omega (arith, length-replicate {A = List Chunk} tracks [])) in
    sym (append-nil _)
    ∙ ap (λ (cs : List Chunk). list_of (after limits setups (fresh tracks) steps).handed t ++ cs) (sym (front.all e))
    ∙ sym front.whole
    ∙ ap (λ (cs : List Chunk). cs ++ handed_in t steps) (none_at tracks t)

long_after : (limits : Limits) (setups : List TrackSetup) (state : State) (steps : List Step) → length (after limits setups state steps).handed ≡ length state.handed
long_after limits setups state [] = refl
long_after limits setups state (s ∷ steps) = long_after limits setups (step limits setups state s) steps ∙ (step_adds 0 limits setups state s).long

-- there are as many lists as tracks
pub handed_tracks : (limits : Limits) (setups : List TrackSetup) (tracks : ℕ) (steps : List Step) → length (after limits setups (fresh tracks) steps).handed ≡ tracks
handed_tracks limits setups tracks steps = long_after limits setups (fresh tracks) steps ∙ length-replicate {A = List Chunk} tracks []
