-- What an outcome says of the actions of a task is what they come to.
use Rattle.std.proofs.Common.{◌≡◌, ℕ, Bool, true, false, ◌⊎◌, ◌↔◌, List, [], ◌∷◌, ◌++◌, sym, refl, ap, ◌∙◌, subst, inl, inr, arith}
use Rattle.std.specs.List.{AllByRecursion}
use Rattle.table.specs.declared.exception.Exception.{Exception}
use Rattle.table.specs.declared.place.Place.{Place}
use Rattle.table.specs.Places.{outside}
use Rattle.table.specs.Task.{ActionObject}
use Rattle.scanner.specs.declared.plan.Item.{Item}
use Rattle.scanner.specs.Meaning.{Catalogue}
use Rattle.negotiation.specs.declared.settle.ByStream.{ByStream}
use Rattle.negotiation.specs.declared.settle.ByStream.TheVariants.{At}
use Rattle.negotiation.specs.declared.trouble.Trouble.{Trouble}
use Rattle.negotiation.specs.declared.trouble.Rejection.{Rejection}
use Rattle.negotiation.specs.declared.trouble.Refusal.{Refusal}
use Rattle.negotiation.specs.declared.trouble.Refusal.TheVariants.{Fails, NoStreamLeft}
use Rattle.negotiation.specs.Troubles.{rejection_number}
use Rattle.negotiation.specs.Plans.{stream_items}
use Rattle.negotiation.specs.Exceptions.{forced_streams}
use Rattle.negotiation.specs.Endings.{by_default, met, unmet, StoppedBy, RanOutBy}
use Rattle.negotiation.specs.Verdicts.{Outcome, unchanged, planned, rejected, other_word, fails_itself, ActionComes, EachIdle, EachMet, PlannedBy, RejectedBy, Comes, OneVerdict}
use Rattle.negotiation.specs.Met.{Stream, default_stream, given, plan_of, told_of, IsConfigure, IsOther, FailsByItself, own_trouble, troubles_in, Meets, CanBeMet, DecidedBy, NoConfigure, Sets, RejectedAs, Says}
use Rattle.negotiation.proofs.Meeting.{fails_is, fails_only, none_forced, idle_is, planned_is, rejected_is}
use Rattle.negotiation.proofs.Verdicting.{one_verdict}

-- what holds of each element
all_join : {X : Type 0} (P : X → Type 0) (xs ys : List X) → AllByRecursion P xs → AllByRecursion P ys → AllByRecursion P (xs ++ ys)
all_join P [] ys h g = g
all_join P (x ∷ xs) ys h g = (h.0, all_join P xs ys h.1 g)

all_parts : {X : Type 0} (P : X → Type 0) (xs ys : List X) → AllByRecursion P (xs ++ ys) → AllByRecursion P xs × AllByRecursion P ys
all_parts P [] ys h = (tt, h)
all_parts P (x ∷ xs) ys h = let r = all_parts P xs ys h.1 in ((h.0, r.0), r.1)

-- one refusal has a number, and its parts make up a rejection
differ : {P : Type 0} → ◌≡◌ {A = ℕ} 31 32 → P
differ h = absurd (omega arith)

fails_by : (f : Refusal) → rejection_number f ≡ 31 → f ≡ Fails
fails_by Fails h = refl
fails_by NoStreamLeft h = differ (sym h)

ran_out_by : (f : Refusal) → rejection_number f ≡ 32 → f ≡ NoStreamLeft
ran_out_by Fails h = differ h
ran_out_by NoStreamLeft h = refl

same_trouble : (s t : Trouble) → s.path ≡ t.path → s.offset ≡ t.offset → s.exception ≡ t.exception → s ≡ t
same_trouble s t b c d =
    let by_path : Place → Trouble = λ z. record { path = z; offset = s.offset; exception = s.exception } in
    let by_offset : ℕ → Trouble = λ z. record { path = t.path; offset = z; exception = s.exception } in
    let by_exception : Exception → Trouble = λ z. record { path = t.path; offset = t.offset; exception = z } in
    ap by_path b ∙ (ap by_offset c ∙ ap by_exception d)

made_of : (r : Rejection) (f : Refusal) (t : Trouble) → r.refusal ≡ f → r.trouble ≡ t → r ≡ record { refusal = f; trouble = t }
made_of r f t a b =
    let by_refusal : Refusal → Rejection = λ z. record { refusal = z; trouble = r.trouble } in
    let by_trouble : Trouble → Rejection = λ z. record { refusal = f; trouble = z } in
    ap by_refusal a ∙ ap by_trouble b

-- an action that does not fail by itself
not_failing : (a : ActionObject) → (FailsByItself a → ⊥) → (b : Bool) → fails_itself a ≡ b → fails_itself a ≡ false
not_failing a n true e = absurd (n (fails_is a e))
not_failing a n false e = e

quiet_is : (a : ActionObject) → (FailsByItself a → ⊥) → fails_itself a ≡ false
quiet_is a n = not_failing a n (fails_itself a) refl

module _ (k : Catalogue) where
  -- One action: what is met comes to no change or to a plan, and what is decided to its rejection.
  abbrev Fine : ActionObject → Type 0
  Fine a = ActionComes k outside a unchanged ⊎ ((b : ByStream) × (xs : List Item) × ActionComes k outside a (planned b xs))

  idle_comes : (a : ActionObject) → CanBeMet k a → IsOther a → ActionComes k outside a unchanged
  idle_comes a m o = inr (inl (record { quiet = quiet_is a m.quiet; other = o; is = refl }))

  meets_comes : (a : ActionObject) (s : Stream) → fails_itself a ≡ false → IsConfigure a → Meets k a s → ActionComes k outside a (planned (told_of s) (plan_of k s))
  meets_comes a default_stream q c m = inr (inr (record { quiet = q; other = c; ends = by_default; streams = none_forced a m; is = refl }))
  meets_comes a (given s) q c m = inr (inr (record { quiet = q; other = c; ends = met m.0; streams = m.1; is = ap (λ z. planned (At z.head) (stream_items k z)) (sym m.2) }))

  by_word : (a : ActionObject) → CanBeMet k a → (b : Bool) → other_word a ≡ b → Fine a
  by_word a m true e = inl (idle_comes a m e)
  by_word a m false e = let w = m.met e in inr (told_of w.0, plan_of k w.0, meets_comes a w.0 (quiet_is a m.quiet) e w.1)

  met_comes : (a : ActionObject) → CanBeMet k a → Fine a
  met_comes a m = by_word a m (other_word a) refl

  -- the trouble of a stream decides it, with this number
  abbrev ByStreams : ActionObject → ℕ → Trouble → Type 0
  ByStreams a n t = (StoppedBy (troubles_in k a) (forced_streams a) t × (n ≡ 31)) ⊎ (RanOutBy (troubles_in k a) (forced_streams a) t × (n ≡ 32))

  streams_come : (a : ActionObject) (r : Rejection) (n : ℕ) (t : Trouble) → rejection_number r.refusal ≡ n → r.trouble ≡ t → fails_itself a ≡ false → IsConfigure a → ByStreams a n t → ActionComes k outside a (rejected r)
  streams_come a r n t z e q c (inl h) = inr (inr (record { quiet = q; other = c; ends = unmet r; streams = inl (t, h.0, made_of r Fails t (fails_by r.refusal (z ∙ h.1)) e); is = refl }))
  streams_come a r n t z e q c (inr h) = inr (inr (record { quiet = q; other = c; ends = unmet r; streams = inr (t, h.0, made_of r NoStreamLeft t (ran_out_by r.refusal (z ∙ h.1)) e); is = refl }))

  decided_comes : (a : ActionObject) (r : Rejection) (n : ℕ) (t : Trouble) → rejection_number r.refusal ≡ n → r.trouble ≡ t → DecidedBy k a n t → ActionComes k outside a (rejected r)
  decided_comes a r n t z e (inl d) = inl (record { fails = fails_only a d.fails; is = ap rejected (made_of r Fails (own_trouble a) (fails_by r.refusal (z ∙ d.draws)) (e ∙ d.trouble)) })
  decided_comes a r n t z e (inr d) = streams_come a r n t z e (quiet_is a d.quiet) d.configure d.decides

  -- All actions of a list, from what they come to and back.
  one_met : (a : ActionObject) → Fine a → CanBeMet k a
  one_met a (inl h) = (idle_is k a h).1
  one_met a (inr h) = (planned_is k a h.0 h.1 h.2).1

  each_met : (acts : List ActionObject) → EachMet k outside acts → AllByRecursion (CanBeMet k) acts
  each_met [] h = tt
  each_met (a ∷ acts) h = (one_met a h.0, each_met acts h.1)

  met_each : (acts : List ActionObject) → AllByRecursion (CanBeMet k) acts → EachMet k outside acts
  met_each [] h = tt
  met_each (a ∷ acts) h = (met_comes a h.0, met_each acts h.1)

  each_idle : (acts : List ActionObject) → EachIdle k outside acts → NoConfigure acts × AllByRecursion (CanBeMet k) acts
  each_idle [] h = (tt, tt)
  each_idle (a ∷ acts) h = let w = idle_is k a h.0 in let r = each_idle acts h.1 in ((w.0, r.0), (w.1, r.1))

  idle_each : (acts : List ActionObject) → NoConfigure acts → AllByRecursion (CanBeMet k) acts → EachIdle k outside acts
  idle_each [] n h = tt
  idle_each (a ∷ acts) n h = (idle_comes a h.0 n.0, idle_each acts n.1 h.1)

  -- what the actions come to, it says
  sets : (acts : List ActionObject) (b : ByStream) (xs : List Item) → PlannedBy k outside acts b xs → Sets k acts b xs
  sets acts b xs h =
      let w = planned_is k h.last b xs h.comes in
      let r = each_idle h.after h.idle in
      record {
        action = h.last;
        last = record { before = h.before; after = h.after; split = h.split; configure = w.0; none_after = r.0 };
        met = w.2;
        all = subst (AllByRecursion (CanBeMet k)) (sym h.split) (all_join (CanBeMet k) h.before (h.last ∷ h.after) (each_met h.before h.met) (w.1, r.1));
      }

  names : (acts : List ActionObject) (r : Rejection) → RejectedBy k outside acts r → RejectedAs k acts r
  names acts r h =
      let t = rejected_is k h.deciding r h.comes in
      record {
        before = h.before;
        action = h.deciding;
        after = h.after;
        split = h.split;
        met = each_met h.before h.met;
        unmet = t.unmet;
        number = t.number;
        trouble = t.trouble;
        decides = t.decides;
        told_number = t.told_number;
        told_path = ap (λ x. x.path) t.told_trouble;
        told_offset = ap (λ x. x.offset) t.told_trouble;
        told_exception = ap (λ x. x.exception) t.told_trouble;
      }

  said : (acts : List ActionObject) (o : Outcome) → Comes k outside acts o → Says k acts o
  said acts unchanged h = each_idle acts h
  said acts (planned b xs) h = sets acts b xs h
  said acts (rejected r) h = names acts r h

  -- what it says, they come to
  planned_by : (acts : List ActionObject) (b : ByStream) (xs : List Item) → Sets k acts b xs → PlannedBy k outside acts b xs
  planned_by acts b xs s =
      let l = s.last in
      let h = all_parts (CanBeMet k) l.before (s.action ∷ l.after) (subst (AllByRecursion (CanBeMet k)) l.split s.all) in
      record {
        before = l.before;
        last = s.action;
        after = l.after;
        split = l.split;
        met = met_each l.before h.0;
        comes = subst (ActionComes k outside s.action) (λ j. planned (sym s.met.3 j) (sym s.met.2 j)) (meets_comes s.action s.met.0 (quiet_is s.action h.1.0.quiet) l.configure s.met.1);
        idle = idle_each l.after l.none_after h.1.1;
      }

  rejected_by : (acts : List ActionObject) (r : Rejection) → RejectedAs k acts r → RejectedBy k outside acts r
  rejected_by acts r n =
      record {
        before = n.before;
        deciding = n.action;
        after = n.after;
        split = n.split;
        met = met_each n.before n.met;
        comes = decided_comes n.action r n.number n.trouble n.told_number (same_trouble r.trouble n.trouble n.told_path n.told_offset n.told_exception) n.decides;
      }

  come : (acts : List ActionObject) (o : Outcome) → Says k acts o → Comes k outside acts o
  come acts unchanged h = idle_each acts h.0 h.1
  come acts (planned b xs) h = planned_by acts b xs h
  come acts (rejected r) h = rejected_by acts r h

  verdict : (acts : List ActionObject) (o : Outcome) → Comes k outside acts o → OneVerdict k outside acts o
  verdict acts o h = let v = one_verdict k outside acts in record { comes = h; only = λ z c. v.only z c ∙ sym (v.only o h) }

  pub outcome_says : (acts : List ActionObject) (o : Outcome) → OneVerdict k outside acts o ↔ Says k acts o
  outcome_says acts o = (λ v. said acts o v.comes, λ s. verdict acts o (come acts o s))
