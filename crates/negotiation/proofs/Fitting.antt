-- A configure action with streams is met exactly when some stream fits and none before it stops.
use Rattle.std.proofs.Common.{◌≡◌, List, [], ◌∷◌, ◌++◌, Some, None, Option, sym, refl, ap, ◌∙◌, subst}
use Rattle.std.specs.List.{AllByRecursion}
use Rattle.table.specs.declared.exception.Exception.{Exception}
use Rattle.table.specs.declared.exception.Exception.TheVariants.{Fail, Ignore, NextStream}
use Rattle.table.specs.Task.{ActionObject}
use Rattle.scanner.specs.Meaning.{Catalogue}
use Rattle.negotiation.specs.declared.trouble.Trouble.{Trouble}
use Rattle.negotiation.specs.Exceptions.{Forced, forced_streams}
use Rattle.negotiation.specs.Endings.{Fits, Decides, StopsBy, PassedBy, EachPassed, MetBy, decide}
use Rattle.negotiation.specs.Met.{Stream, default_stream, given, FailsByItself, troubles_in, Meets, CanBeMet, Stops, SomeFits, MetExactly}
use Rattle.negotiation.proofs.Deciding.{decides_some, none_fits, some_decides}

apart : {P : Type 0} (e : Exception) → e ≡ NextStream → e ≡ Fail → P
apart e a b = absurd (cc)

same_some : (u t : Trouble) → ◌≡◌ {A = Option Trouble} (Some u) (Some t) → u ≡ t
same_some u t h = cc

one_decides : (ts : List Trouble) (u t : Trouble) → Decides ts u → Decides ts t → u ≡ t
one_decides ts u t d e = same_some u t (sym (decides_some ts u d) ∙ decides_some ts t e)

pass_is_no_stop : (ts : List Trouble) (u : Trouble) → PassedBy ts u → (t : Trouble) × StopsBy ts t → ⊥
pass_is_no_stop ts u p s = apart u.exception p.1 (ap (λ x. x.exception) (one_decides ts u s.0 p.0 s.1.0) ∙ s.1.1)

none_stops : (k : Catalogue) (a : ActionObject) (xs : List Forced) → EachPassed (troubles_in k a) xs → AllByRecursion (λ x. Stops k a x → ⊥) xs
none_stops k a [] h = tt
none_stops k a (x ∷ xs) h = (pass_is_no_stop (troubles_in k a x) h.0.0 h.0.1, none_stops k a xs h.1)

some_fits : (k : Catalogue) (a : ActionObject) → (a.parts ≡ [] → ⊥) → (s : Stream) → Meets k a s → SomeFits k a
some_fits k a n default_stream m = absurd (n m)
some_fits k a n (given s) m = record { before = m.1.before; stream = m.0; after = m.1.after; split = m.1.split; fits = m.1.fits; none_stops = none_stops k a m.1.before m.1.passed }

module _ (k : Catalogue) (a : ActionObject) where
  abbrev First : List Forced → Type 0
  First xs = (y : Forced) × MetBy (troubles_in k a) xs y

  passing : (b : Forced) (xs : List Forced) (t : Trouble) → Decides (troubles_in k a b) t → (Stops k a b → ⊥) → First xs → (e : Exception) → t.exception ≡ e → First (b ∷ xs)
  passing b xs t d n r Fail e = absurd (n (t, (d, e)))
  passing b xs t d n r Ignore e = absurd (d.counts e)
  passing b xs t d n r NextStream e = (r.0, record { before = b ∷ r.1.before; after = r.1.after; split = ap (λ l. b ∷ l) r.1.split; passed = ((t, (d, e)), r.1.passed); fits = r.1.fits })

  going : (b : Forced) (xs : List Forced) → (Stops k a b → ⊥) → First xs → (o : Option Trouble) → decide (troubles_in k a b) ≡ o → First (b ∷ xs)
  going b xs n r None e = (b, record { before = []; after = xs; split = refl; passed = tt; fits = none_fits (troubles_in k a b) e })
  going b xs n r (Some t) e = passing b xs t (some_decides (troubles_in k a b) t e) n r t.exception refl

  first_fit : (before : List Forced) (x : Forced) (after : List Forced) → AllByRecursion (λ y. Stops k a y → ⊥) before → Fits (troubles_in k a x) → First (before ++ (x ∷ after))
  first_fit [] x after n f = (x, record { before = []; after = after; split = refl; passed = tt; fits = f })
  first_fit (b ∷ bs) x after n f = going b (bs ++ (x ∷ after)) n.0 (first_fit bs x after n.1 f) (decide (troubles_in k a b)) refl

  from_fits : (FailsByItself a → ⊥) → SomeFits k a → CanBeMet k a
  from_fits q s =
      let r : First (forced_streams a) = subst First (sym s.split) (first_fit s.before s.stream s.after s.none_stops s.fits) in
      record { quiet = q; met = λ c. (given r.0.stream, (r.0, r.1, refl)) }

-- a configure action with streams is met exactly when some stream fits and none before it stops
pub met_exactly : (k : Catalogue) → MetExactly k
met_exactly k a conf some quiet = (λ m. let w = m.met conf in some_fits k a some w.0 w.1, from_fits k a quiet)
