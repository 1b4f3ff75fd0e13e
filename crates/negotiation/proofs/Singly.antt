-- One stream meets an action, and one trouble decides it.
use Rattle.std.proofs.Common.{◌≡◌, ℕ, ◌⊎◌, sym, refl, ap, ◌∙◌, inl, inr}
use Rattle.table.specs.Task.{ActionObject}
use Rattle.scanner.specs.Meaning.{Catalogue}
use Rattle.negotiation.specs.declared.trouble.Trouble.{Trouble}
use Rattle.negotiation.specs.declared.trouble.Rejection.{Rejection}
use Rattle.negotiation.specs.declared.trouble.Refusal.TheVariants.{Fails, NoStreamLeft}
use Rattle.negotiation.specs.Exceptions.{Forced, forced_streams}
use Rattle.negotiation.specs.Endings.{Ending, by_default, met, unmet, failing, ran_out, Ends, StoppedBy, RanOutBy}
use Rattle.negotiation.specs.Met.{Stream, default_stream, given, troubles_in, Meets, DecidedBy, OutcomesSayWhatIs}
use Rattle.negotiation.proofs.Ending.{ends_ending}
use Rattle.negotiation.proofs.Meeting.{none_forced}
use Rattle.negotiation.proofs.Fitting.{met_exactly}
use Rattle.negotiation.proofs.Saying.{outcome_says}

default_met : {P : Type 0} (x : Forced) → ◌≡◌ {A = Ending Forced} by_default (met x) → P
default_met x h = absurd (cc)

same_met : (x y : Forced) → ◌≡◌ {A = Ending Forced} (met x) (met y) → x ≡ y
same_met x y h = cc

same_unmet : (q r : Rejection) → ◌≡◌ {A = Ending Forced} (unmet q) (unmet r) → q ≡ r
same_unmet q r h = cc

module _ (k : Catalogue) (a : ActionObject) where
  one_end : (v w : Ending Forced) → Ends (troubles_in k a) (forced_streams a) v → Ends (troubles_in k a) (forced_streams a) w → v ≡ w
  one_end v w h g = sym (ends_ending (troubles_in k a) (forced_streams a) v h) ∙ ends_ending (troubles_in k a) (forced_streams a) w g

  one_meets : (s u : Stream) → Meets k a s → Meets k a u → s ≡ u
  one_meets default_stream default_stream m n = refl
  one_meets default_stream (given u) m n = default_met n.0 (one_end by_default (met n.0) (none_forced a m) n.1)
  one_meets (given s) default_stream m n = default_met m.0 (one_end by_default (met m.0) (none_forced a n) m.1)
  one_meets (given s) (given u) m n = ap given (sym m.2 ∙ (ap (λ x. x.stream) (same_met m.0 n.0 (one_end (met m.0) (met n.0) m.1 n.1)) ∙ n.2))

  -- the trouble that decides it
  abbrev ByStreams : ℕ → Trouble → Type 0
  ByStreams n t = (StoppedBy (troubles_in k a) (forced_streams a) t × (n ≡ 31)) ⊎ (RanOutBy (troubles_in k a) (forced_streams a) t × (n ≡ 32))

  apart : {P : Type 0} (t u : Trouble) → failing t ≡ ran_out u → P
  apart t u h = let e : Fails ≡ NoStreamLeft = ap (λ x. x.refusal) h in absurd (cc)

  by_streams : (n m : ℕ) (t u : Trouble) → ByStreams n t → ByStreams m u → (n ≡ m) × (t ≡ u)
  by_streams n m t u (inl x) (inl y) = (x.1 ∙ sym y.1, ap (λ z. z.trouble) (same_unmet (failing t) (failing u) (one_end (unmet (failing t)) (unmet (failing u)) (inl (t, x.0, refl)) (inl (u, y.0, refl)))))
  by_streams n m t u (inl x) (inr y) = apart t u (same_unmet (failing t) (ran_out u) (one_end (unmet (failing t)) (unmet (ran_out u)) (inl (t, x.0, refl)) (inr (u, y.0, refl))))
  by_streams n m t u (inr x) (inl y) = apart u t (same_unmet (failing u) (ran_out t) (one_end (unmet (failing u)) (unmet (ran_out t)) (inl (u, y.0, refl)) (inr (t, x.0, refl))))
  by_streams n m t u (inr x) (inr y) = (x.1 ∙ sym y.1, ap (λ z. z.trouble) (same_unmet (ran_out t) (ran_out u) (one_end (unmet (ran_out t)) (unmet (ran_out u)) (inr (t, x.0, refl)) (inr (u, y.0, refl)))))

  one_decides : (n m : ℕ) (t u : Trouble) → DecidedBy k a n t → DecidedBy k a m u → (n ≡ m) × (t ≡ u)
  one_decides n m t u (inl x) (inl y) = (x.draws ∙ sym y.draws, x.trouble ∙ sym y.trouble)
  one_decides n m t u (inl x) (inr y) = absurd (y.quiet x.fails)
  one_decides n m t u (inr x) (inl y) = absurd (x.quiet y.fails)
  one_decides n m t u (inr x) (inr y) = by_streams n m t u x.decides y.decides

pub says_what_is : OutcomesSayWhatIs
says_what_is k = record { outcome = outcome_says k; met = met_exactly k; one_stream = one_meets k; one_trouble = one_decides k }
