-- What one turn more does to the chosen stream.
use Rattle.std.proofs.Common.{◌≡◌, ℕ, true, false, List, [], ◌∷◌, ◌++◌, Result, sym, refl, ap, ◌∙◌, subst, inl, inr}
use Rattle.std.proofs.lemmas.List.{append_assoc, append-nil}
use Rattle.std.proofs.lemmas.List.Concat.{flat_map-append}
use Rattle.table.specs.Task.{ActionObject}
use Rattle.scanner.specs.Meaning.{Catalogue}
use Rattle.session.specs.declared.fault.SubmitFault.{SubmitFault}
use Rattle.session.specs.declared.runs.Answer.{Answer}
use Rattle.session.specs.declared.runs.Answer.TheVariants.{Submitted}
use Rattle.session.specs.declared.runs.Turn.{Turn}
use Rattle.negotiation.specs.Met.{Stream, default_stream, IsOther, Meets, LastConfigure, NoConfigure}
use Rattle.session.specs.History.{Asked, asked, submit, is_restart, SinceRestart}
use Rattle.session.specs.Submissions.{Submission, submitted_by, submitted_in, submissions, Adds, AllAccepted}
use Rattle.session.specs.Promise.{LastMet, Chosen}
use Rattle.session.proofs.Tasks.{all_join}

-- what was submitted in a turn, by what was asked and answered
pub submitted_as : (t : Turn) (a : Asked) (x : Answer) → asked t ≡ a → t.answer ≡ x → submitted_in t ≡ submitted_by a x
submitted_as t a x q y = ap (λ z. submitted_by z t.answer) q ∙ ap (submitted_by a) y

-- accepted actions, one list after the other
accepted_join : (l m : List Submission) (xs bs : List ActionObject) → AllAccepted l xs → AllAccepted m bs → AllAccepted (l ++ m) (xs ++ bs)
accepted_join [] m xs bs e g = subst (AllAccepted m) (sym (ap (λ z. z ++ bs) e)) g
accepted_join (x ∷ l) m xs bs h g = (h.0, h.1 ++ bs, h.2, accepted_join l m h.1 bs h.3 g, ap (λ z. z ++ bs) h.4 ∙ append_assoc h.0 h.1 bs)

accepted_more : (since : List Turn) (t : Turn) (xs acts : List ActionObject) → AllAccepted (submissions since) xs → AllAccepted (submitted_in t) acts → AllAccepted (submissions (since ++ t ∷ [])) (xs ++ acts)
accepted_more since t xs acts h g =
    subst (λ l. AllAccepted l (xs ++ acts))
    (sym (flat_map-append submitted_in since (t ∷ []) ∙ ap (λ m. submissions since ++ m) (append-nil (submitted_in t))))
    (accepted_join (submissions since) (submitted_in t) xs acts h g)

-- the actions that a text adds
pub accepted_in : (t : Turn) (text : List ℕ) (room : ℕ) (r : Result (Unit {0}) SubmitFault) (acts : List ActionObject) → asked t ≡ submit text room → t.answer ≡ Submitted r → Adds (record { text = text; room = room; answer = r }) acts → AllAccepted (submitted_in t) acts
accepted_in t text room r acts q y a = subst (λ l. AllAccepted l acts) (sym (submitted_as t (submit text room) (Submitted r) q y)) (acts, [], a, refl, sym (append-nil acts))

since_more : (h since : List Turn) (t : Turn) → is_restart (asked t) ≡ false → SinceRestart h since → SinceRestart (h ++ t ∷ []) (since ++ t ∷ [])
since_more h since t n s =
    record {
      before = s.before;
      split = ap (λ l. l ++ t ∷ []) s.split ∙ append_assoc s.before since (t ∷ []);
      begins = s.begins;
      none_since = all_join (λ x. is_restart (asked x) ≡ false) since (t ∷ []) s.none_since (n, tt);
    }

since_restart : (h : List Turn) (t : Turn) → is_restart (asked t) ≡ true → SinceRestart (h ++ t ∷ []) []
since_restart h t r =
    record {
      before = h ++ t ∷ [];
      split = sym (append-nil (h ++ t ∷ []));
      begins = inr (record { before = h; last = t; split = refl; restart = r });
      none_since = tt;
    }

-- actions of which none is a configure action leave the last one the last
last_kept : (old acts : List ActionObject) (a : ActionObject) → NoConfigure acts → LastConfigure old a → LastConfigure (old ++ acts) a
last_kept old acts a n l =
    record {
      before = l.before;
      after = l.after ++ acts;
      split = ap (λ x. x ++ acts) l.split ∙ append_assoc l.before (a ∷ l.after) acts;
      configure = l.configure;
      none_after = all_join IsOther l.after acts l.none_after n;
    }

last_new : (old acts : List ActionObject) (a : ActionObject) → LastConfigure acts a → LastConfigure (old ++ acts) a
last_new old acts a l =
    record {
      before = old ++ l.before;
      after = l.after;
      split = ap (λ x. old ++ x) l.split ∙ sym (append_assoc old l.before (a ∷ l.after));
      configure = l.configure;
      none_after = l.none_after;
    }

module _ (k : Catalogue) where
  pub chosen_opening : Chosen k [] default_stream
  chosen_opening = record { since = []; restart = record { before = []; split = refl; begins = inl refl; none_since = tt }; met = ([], refl, inr (tt, refl)) }

  pub chosen_restart : (h : List Turn) (t : Turn) → is_restart (asked t) ≡ true → Chosen k (h ++ t ∷ []) default_stream
  chosen_restart h t r = record { since = []; restart = since_restart h t r; met = ([], refl, inr (tt, refl)) }

  kept_by : (old acts : List ActionObject) (s : Stream) → NoConfigure acts → LastMet k old s → LastMet k (old ++ acts) s
  kept_by old acts s n (inl h) = inl (h.0, last_kept old acts h.0 n h.1, h.2)
  kept_by old acts s n (inr h) = inr (all_join IsOther old acts h.0 n, h.1)

  module _ (h : List Turn) (t : Turn) (quiet : is_restart (asked t) ≡ false) (acts : List ActionObject) (brings : AllAccepted (submitted_in t) acts) (s : Stream) (old : Chosen k h s) where
    -- a turn that brings no configure action
    pub chosen_kept : NoConfigure acts → Chosen k (h ++ t ∷ []) s
    chosen_kept n =
        record {
          since = old.since ++ t ∷ [];
          restart = since_more h old.since t quiet old.restart;
          met = (old.met.0 ++ acts, accepted_more old.since t old.met.0 acts old.met.1 brings, kept_by old.met.0 acts s n old.met.2);
        }

    -- a turn that brings one
    pub chosen_new : (a : ActionObject) (u : Stream) → LastConfigure acts a → Meets k a u → Chosen k (h ++ t ∷ []) u
    chosen_new a u l m =
        record {
          since = old.since ++ t ∷ [];
          restart = since_more h old.since t quiet old.restart;
          met = (old.met.0 ++ acts, accepted_more old.since t old.met.0 acts old.met.1 brings, inl (a, last_new old.met.0 acts a l, m));
        }
