-- The samples in front of the first refusal.
use Rattle.std.proofs.Common.{◌≡◌, ℕ, List, [], ◌∷◌, ◌++◌, length, Option, Some, None, IsSome, suc, append-nil, refl, sym, ap, ◌∙◌, arith}
use Rattle.std.specs.List.{AllByRecursion}
use Rattle.sf_tick.specs.declared.types.Sample.{Sample}
use Rattle.sf_tick.specs.declared.types.Stored.{Stored}
use Rattle.sf_gather.specs.declared.given.Given.{Given}
use Rattle.sf_gather.specs.declared.given.LastSample.{LastSample}
use Rattle.sf_gather.specs.declared.accepting.SampleFault.{SampleFault}
use Rattle.sf_gather.specs.Accepting.{refusal, stored_of, kept_of, last_from, up_to, plain_from, IsSized}
use Rattle.sf_gather.specs.Proper.{AllFollow}
use Rattle.sf_gather.proofs.Accepted.{accepted_follows}

follows_if : (o : Option SampleFault) (scale : ℕ) (last : Option LastSample) (xs : List Stored) → (o ≡ None → AllFollow scale last xs) → AllFollow scale last (up_to o xs)
follows_if None scale last xs all = all refl
follows_if (Some fault) scale last xs all = tt

pub plain_follows : (given : Given) (last : Option LastSample) (samples : List Sample) → AllByRecursion IsSized samples → AllFollow given.scale last (plain_from given last samples)
plain_follows given last [] sized = tt
plain_follows given last (s ∷ samples) sized =
    follows_if (refusal given last s) given.scale last _
    (λ e. (accepted_follows given last s e sized.0.some sized.0.size, plain_follows given (Some (kept_of (stored_of given s))) samples sized.1))

more_if : (o : Option SampleFault) (last : Option LastSample) (n : ℕ) (s : Stored) (xs ys zs : List Stored) (P : Option LastSample → Type 0)
    → length (up_to o (s ∷ xs)) ≡ suc n → (length xs ≡ n → P (last_from (Some (kept_of s)) xs) → ys ≡ xs ++ zs) → P (last_from last (up_to o (s ∷ xs)))
    → up_to o (s ∷ ys) ≡ up_to o (s ∷ xs) ++ zs
more_if None last n s xs ys zs P e more p = ap (λ (ss : List Stored). s ∷ ss) (more (omega (arith, e)) p)
more_if (Some fault) last n s xs ys zs P e more p = absurd (omega (arith, e))

one_if : (o : Option SampleFault) (s : Stored) → o ≡ None → up_to o (s ∷ []) ≡ s ∷ []
one_if None s e = refl
one_if (Some fault) s e = cc

none_if : (o : Option SampleFault) (xs : List Stored) → IsSome o → up_to o xs ≡ []
none_if None xs some = cc
none_if (Some fault) xs some = refl

pub plain_more : (given : Given) (last : Option LastSample) (samples : List Sample) (next : Sample) → length (plain_from given last samples) ≡ length samples
    → refusal given (last_from last (plain_from given last samples)) next ≡ None
    → plain_from given last (samples ++ next ∷ []) ≡ plain_from given last samples ++ stored_of given next ∷ []
plain_more given last [] next whole accepted = one_if (refusal given last next) (stored_of given next) accepted
plain_more given last (s ∷ samples) next whole accepted =
    more_if (refusal given last s) last (length samples) (stored_of given s) _ _ (stored_of given next ∷ []) (λ l. refusal given l next ≡ None) whole
    (plain_more given (Some (kept_of (stored_of given s))) samples next) accepted

pub plain_stops : (given : Given) (last : Option LastSample) (samples rest : List Sample) (next : Sample) → length (plain_from given last samples) ≡ length samples
    → IsSome (refusal given (last_from last (plain_from given last samples)) next)
    → plain_from given last (samples ++ next ∷ rest) ≡ plain_from given last samples
plain_stops given last [] rest next whole refused = none_if (refusal given last next) _ refused
plain_stops given last (s ∷ samples) rest next whole refused =
    more_if (refusal given last s) last (length samples) (stored_of given s) _ _ [] (λ l. IsSome (refusal given l next)) whole
    (λ e r. plain_stops given (Some (kept_of (stored_of given s))) samples rest next e r ∙ sym (append-nil _)) refused
    ∙ append-nil _
