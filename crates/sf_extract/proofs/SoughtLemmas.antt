-- What a seek of each mode finds.
use Rattle.std.proofs.Common.{◌≡◌, ℤ, int_le, true, List, Option, Some, None, sym, ap, ◌∙◌}
use Rattle.sf_extract.specs.SyncAt.{earliest, is_earlier, is_nearer, latest_until, or_else, sought}
use Rattle.sf_extract.specs.inner.Orders.{AreNumbered, Finds, nearer_of}
use Rattle.sf_extract.specs.declared.types.Mode.{Mode}
use Rattle.sf_extract.specs.declared.types.Mode.TheVariants.{Previous, Next, Closest}
use Rattle.sf_extract.specs.declared.types.Sync.{Sync}
use Rattle.sf_extract.proofs.BestLemmas.{found_any, found_is}
use Rattle.sf_extract.proofs.OrderLemmas.{nearest_of_two}

pub sought_next : (us : ℤ) (mode : Mode) (ss : List Sync) (r : Option Sync) → AreNumbered 0 ss → mode ≡ Next → Finds is_earlier (λ s. int_le us s.shown_us) ss r → r ≡ sought us mode ss
unfolding sought
sought_next us mode ss r a e h = found_is is_earlier (λ s. int_le us s.shown_us) 0 ss r a h ∙ ap (λ (x : Mode). sought us x ss) (sym e)

found_until : (us : ℤ) (ss : List Sync) (r : Option Sync) → AreNumbered 0 ss → Finds (λ s other. is_earlier other s) (λ s. int_le s.shown_us us) ss r → r ≡ latest_until us ss
found_until us ss r a h = found_is (λ s other. is_earlier other s) (λ s. int_le s.shown_us us) 0 ss r a h

pub sought_some : (us : ℤ) (mode : Mode) (ss : List Sync) (found : Option Sync) (s : Sync) → AreNumbered 0 ss → mode ≡ Previous → Finds (λ x other. is_earlier other x) (λ x. int_le x.shown_us us) ss found
    → found ≡ Some s → Some s ≡ sought us mode ss
unfolding sought
sought_some us mode ss found s a e h is =
    ap (λ (o : Option Sync). or_else o (earliest ss)) (sym is ∙ found_until us ss found a h) ∙ ap (λ (x : Mode). sought us x ss) (sym e)

pub sought_none : (us : ℤ) (mode : Mode) (ss : List Sync) (found r : Option Sync) → AreNumbered 0 ss → mode ≡ Previous → Finds (λ x other. is_earlier other x) (λ x. int_le x.shown_us us) ss found
    → found ≡ None → Finds is_earlier (λ _. true) ss r → r ≡ sought us mode ss
unfolding sought
sought_none us mode ss found r a e h is g =
    found_any is_earlier 0 ss r a g ∙ ap (λ (o : Option Sync). or_else o (earliest ss)) (sym is ∙ found_until us ss found a h) ∙ ap (λ (x : Mode). sought us x ss) (sym e)

pub sought_closest : (us : ℤ) (mode : Mode) (ss : List Sync) (until from r : Option Sync) → AreNumbered 0 ss → mode ≡ Closest → Finds (λ x other. is_earlier other x) (λ x. int_le x.shown_us us) ss until
    → Finds is_earlier (λ x. int_le us x.shown_us) ss from → r ≡ nearer_of us until from → r ≡ sought us mode ss
unfolding sought
sought_closest us mode ss until from r a e h g is =
    is ∙ found_any (is_nearer us) 0 ss (nearer_of us until from) a (nearest_of_two us ss until from h g) ∙ ap (λ (x : Mode). sought us x ss) (sym e)
