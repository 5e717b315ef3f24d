-- What a read that meets no current sample does.
use Rattle.std.proofs.Common.{◌≡◌, ℕ, Bool, true, false, List, [], ◌∷◌, ◌++◌, None, is_some, Result, Ok, Err, IfOk, OnErr, refl}
use Rattle.sf_extract.specs.Current.{Extracting, current}
use Rattle.sf_extract.specs.Runs.{is_read}
use Rattle.sf_extract.specs.inner.Acts.{IsDone, IsHeld, Starts}
use Rattle.sf_extract.specs.declared.plan.Command.{Command}
use Rattle.sf_extract.specs.declared.plan.Command.TheVariants.{Read, ToEnd}
use Rattle.sf_extract.proofs.RunLemmas.{did_read, did_to_end, starts_same}

pub read_done : {E : Type 0} (r : Result Bool E) (old new : List ℕ) (e : Extracting) → IfOk r (λ d. d ≡ true → (current e ≡ None) × (new ≡ old ++ 0 ∷ [])) → IfOk r (λ d. d ≡ true → IsDone Read old new e e)
read_done (Ok d) old new e h = λ k. rw ((h k).1) (did_read old e (h k).0)
read_done (Err x) old new e h = tt

pub to_end_done : {E : Type 0} (r : Result Bool E) (old new : List ℕ) (e : Extracting) → IfOk r (λ d. d ≡ true → (current e ≡ None) × (new ≡ old ++ 0 ∷ [])) → IfOk r (λ d. d ≡ true → IsDone ToEnd old new e e)
to_end_done (Ok d) old new e h = λ k. rw ((h k).1) (did_to_end old e (h k).0)
to_end_done (Err x) old new e h = tt

pub held : {E : Type 0} (r : Result Bool E) (c : Command) (old new : List ℕ) (e : Extracting) → is_read c ≡ true → IfOk r (λ d. d ≡ false → (is_some (current e) ≡ true) × (new ≡ old)) → IfOk r (λ d. d ≡ false → IsHeld c old new e e)
held (Ok d) c old new e is h = λ k. record { reads = is; some = (h k).0; stays = refl; out = (h k).1 }
held (Err x) c old new e is h = tt

pub err_starts : {T E : Type 0} (r : Result T E) (old new : List ℕ) → OnErr r (new ≡ old) → OnErr r (Starts old new)
err_starts (Ok x) old new h = tt
err_starts (Err x) old new h = starts_same old new h

pub on_err : {T E : Type 0} (r : Result T E) (P : Type 0) → P → OnErr r P
on_err (Ok x) P h = tt
on_err (Err x) P h = h
