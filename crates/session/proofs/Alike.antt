-- Two runs of the same calls: which stream is chosen depends on what was asked and answered alone, so they tell the same and leave
-- the same.
use Rattle.std.proofs.Common.{◌≡◌, length, false, List, [], ◌∷◌, ◌++◌, map, sym, refl, ap, ◌∙◌, subst, inl, inr}
use Rattle.std.specs.List.{AllByRecursion}
use Rattle.std.proofs.lemmas.List.{map-append}
use Rattle.scanner.specs.declared.plan.Item.{Item}
use Rattle.scanner.specs.declared.plan.Item.TheVariants as items
use Rattle.scanner.specs.Plan.{InPlan}
use Rattle.negotiation.specs.Met.{plan_of}
use Rattle.session.specs.Output.{WrittenInto}
use Rattle.session.specs.Reply.{reply_text}
use Rattle.std.specs.Prelude.{Decides}
use Rattle.scanner.specs.Meaning.{Catalogue, State, Agree}
use Rattle.table.specs.Laws.{ComeToOne}
use Rattle.negotiation.specs.Met.{Stream, SaysWhatIs}
use Rattle.session.specs.declared.runs.Answer.{Answer}
use Rattle.session.specs.declared.runs.Call.{Call}
use Rattle.session.specs.declared.runs.Turn.{Turn}
use Rattle.session.specs.Answered.{Answered, TurnOf, EachAnswered, ValueAt, buffer_of, posed, told}
use Rattle.session.specs.History.{Asked, asked, asked_by, is_restart, SinceRestart, EndsInRestart}
use Rattle.session.specs.Submissions.{submitted_by, submissions}
use Rattle.session.specs.Promise.{ChosenBy, Chosen, HoldsChosen, KeepsChosen, TextAnswered}
use Rattle.session.proofs.OneTurn.{one}
use Rattle.session.proofs.Single.{heads, tails, one_kept, one_state}

-- a list that is mapped to two parts is made of two
record Parts {X Y : Type 0} (f : X → Y) (h : List X) (front back : List Y) : Type 0 where
  pub first : List X
  pub second : List X
  pub whole : h ≡ first ++ second
  pub fronts : map f first ≡ front
  pub backs : map f second ≡ back

parts : {X Y : Type 0} (f : X → Y) (h : List X) (front back : List Y) → map f h ≡ front ++ back → Parts f h front back
parts f h [] back e = record { first = []; second = h; whole = refl; fronts = refl; backs = e }
parts f [] (y ∷ ys) back e = absurd (cc)
parts f (x ∷ h) (y ∷ ys) back e =
    let r = parts f h ys back (tails (f x) y (map f h) (ys ++ back) e) in
    record {
      first = x ∷ r.first;
      second = r.second;
      whole = ap (λ l. x ∷ l) r.whole;
      fronts = ap (λ z. z ∷ map f r.first) (heads (f x) y (map f h) (ys ++ back) e) ∙ ap (λ l. y ∷ l) r.fronts;
      backs = r.backs;
    }

-- what was asked and answered
record Event : Type 0 where
  pub question : Asked
  pub answer : Answer

abbrev event : Turn → Event
event t = record { question = asked t; answer = t.answer }

abbrev Alike : List Turn → List Turn → Type 0
Alike h g = map event h ≡ map event g

none_left : (h : List Turn) → map event h ≡ [] → h ≡ []
none_left [] e = refl
none_left (t ∷ h) e = absurd (cc)

one_left : (h : List Turn) (x : Event) → map event h ≡ x ∷ [] → (t : Turn) × (h ≡ t ∷ []) × (event t ≡ x)
one_left [] x e = absurd (cc)
one_left (t ∷ h) x e = (t, ap (λ l. t ∷ l) (none_left h (tails (event t) x (map event h) [] e)), heads (event t) x (map event h) [] e)

asked_alike : (t u : Turn) → event t ≡ event u → asked t ≡ asked u
asked_alike t u e = ap (λ z. z.question) e

quiet_alike : (h g : List Turn) → Alike h g → AllByRecursion (λ t. is_restart (asked t) ≡ false) h → AllByRecursion (λ t. is_restart (asked t) ≡ false) g
quiet_alike h [] e q = tt
quiet_alike [] (u ∷ g) e q = absurd (cc)
quiet_alike (t ∷ h) (u ∷ g) e q =
    (ap is_restart (sym (asked_alike t u (heads (event t) (event u) (map event h) (map event g) e))) ∙ q.0, quiet_alike h g (tails (event t) (event u) (map event h) (map event g) e) q.1)

submissions_alike : (h g : List Turn) → Alike h g → submissions h ≡ submissions g
submissions_alike [] [] e = refl
submissions_alike [] (u ∷ g) e = absurd (cc)
submissions_alike (t ∷ h) [] e = absurd (cc)
submissions_alike (t ∷ h) (u ∷ g) e =
    let same = heads (event t) (event u) (map event h) (map event g) e in
    ap (λ z. submitted_by z.question z.answer ++ submissions h) same ∙ ap (λ l. submitted_by (asked u) u.answer ++ l) (submissions_alike h g (tails (event t) (event u) (map event h) (map event g) e))

ends_alike : (h g : List Turn) → Alike h g → EndsInRestart h → EndsInRestart g
ends_alike h g e r =
    let p = parts event g (map event r.before) (event r.last ∷ []) (sym e ∙ ap (map event) r.split ∙ map-append event r.before (r.last ∷ [])) in
    let o = one_left p.second (event r.last) p.backs in
    record { before = p.first; last = o.0; split = p.whole ∙ ap (λ l. p.first ++ l) o.1; restart = ap is_restart (asked_alike o.0 r.last o.2) ∙ r.restart }

record SinceAlike (g since : List Turn) : Type 0 where
  pub turns : List Turn
  pub restart : SinceRestart g turns
  pub alike : Alike since turns

since_alike : (h g since : List Turn) → Alike h g → SinceRestart h since → SinceAlike g since
since_alike h g since e s =
    let p = parts event g (map event s.before) (map event since) (sym e ∙ ap (map event) s.split ∙ map-append event s.before since) in
    record {
      turns = p.second;
      restart = record {
        before = p.first;
        split = p.whole;
        begins = elim s.begins [ inl n ↦ inl (none_left p.first (p.fronts ∙ ap (map event) n)) | inr r ↦ inr (ends_alike s.before p.first (sym p.fronts) r) ];
        none_since = quiet_alike since p.second (sym p.backs) s.none_since;
      };
      alike = sym p.backs;
    }

module _ (k : Catalogue) where
  chosen_alike : (h g : List Turn) (s : Stream) → Alike h g → Chosen k h s → Chosen k g s
  chosen_alike h g s e c =
      let a = since_alike h g c.since e c.restart in
      record { since = a.turns; restart = a.restart; met = subst (λ l. ChosenBy k l s) (submissions_alike c.since a.turns a.alike) c.met }

  answered_alike : (h g : List Turn) (c : Call) (t : Turn) → Alike h g → Answered k h c t → Answered k g c t
  answered_alike h g (Call.Submit text table) t e a = a
  answered_alike h g Call.Restart t e a = a
  answered_alike h g (Call.Reply buffer) t e a = (a.0, chosen_alike h g a.0 e a.1, a.2, a.3, a.4)
  answered_alike h g (Call.Setting p) t e a = (a.0, chosen_alike h g a.0 e a.1, a.2, a.3, a.4)
  answered_alike h g (Call.Enabled s f) t e a = (a.0, chosen_alike h g a.0 e a.1, a.2, a.3, a.4)

  -- a call that asks the same of the same buffer is answered so too
  answered_as : (h : List Turn) (c d : Call) (t : Turn) → asked_by c ≡ asked_by d → buffer_of c ≡ buffer_of d → Answered k h c t → Answered k h d t
  answered_as h (Call.Submit x m) (Call.Submit y n) t e f a =
      let p : x.now ≡ y.now = cc in
      let q : length m.now ≡ length n.now = cc in
      (a.0, a.1, subst (λ i. TextAnswered k (record { text = y.now; room = i; answer = a.0 })) q (subst (λ z. TextAnswered k (record { text = z; room = length m.now; answer = a.0 })) p a.2))
  answered_as h (Call.Submit x m) Call.Restart t e f a = absurd (cc)
  answered_as h (Call.Submit x m) (Call.Reply b) t e f a = absurd (cc)
  answered_as h (Call.Submit x m) (Call.Setting p) t e f a = absurd (cc)
  answered_as h (Call.Submit x m) (Call.Enabled s g) t e f a = absurd (cc)
  answered_as h Call.Restart (Call.Submit y n) t e f a = absurd (cc)
  answered_as h Call.Restart Call.Restart t e f a = a
  answered_as h Call.Restart (Call.Reply b) t e f a = absurd (cc)
  answered_as h Call.Restart (Call.Setting p) t e f a = absurd (cc)
  answered_as h Call.Restart (Call.Enabled s g) t e f a = absurd (cc)
  answered_as h (Call.Reply b) (Call.Submit y n) t e f a = absurd (cc)
  answered_as h (Call.Reply b) Call.Restart t e f a = absurd (cc)
  answered_as h (Call.Reply b) (Call.Reply d) t e f a = (a.0, a.1, a.2, a.3, subst (λ z. WrittenInto (reply_text (plan_of k a.0)) z (buffer_of t.call) a.2) f a.4)
  answered_as h (Call.Reply b) (Call.Setting p) t e f a = absurd (cc)
  answered_as h (Call.Reply b) (Call.Enabled s g) t e f a = absurd (cc)
  answered_as h (Call.Setting p) (Call.Submit y n) t e f a = absurd (cc)
  answered_as h (Call.Setting p) Call.Restart t e f a = absurd (cc)
  answered_as h (Call.Setting p) (Call.Reply d) t e f a = absurd (cc)
  answered_as h (Call.Setting p) (Call.Setting q) t e f a =
      let same : p ≡ q = cc in
      (a.0, a.1, a.2, a.3, subst (λ z. ValueAt k (plan_of k a.0) z a.2) same a.4)
  answered_as h (Call.Setting p) (Call.Enabled s g) t e f a = absurd (cc)
  answered_as h (Call.Enabled s g) (Call.Submit y n) t e f a = absurd (cc)
  answered_as h (Call.Enabled s g) Call.Restart t e f a = absurd (cc)
  answered_as h (Call.Enabled s g) (Call.Reply d) t e f a = absurd (cc)
  answered_as h (Call.Enabled s g) (Call.Setting q) t e f a = absurd (cc)
  answered_as h (Call.Enabled s g) (Call.Enabled u i) t e f a =
      let source : s ≡ u = cc in
      let format : g ≡ i = cc in
      (a.0, a.1, a.2, a.3, subst (λ z. Decides a.2 (InPlan (plan_of k a.0) (items.Pair u z))) format (subst (λ z. Decides a.2 (InPlan (plan_of k a.0) (items.Pair z g))) source a.4))

  holds_alike : (h g : List Turn) (st : State) → Alike h g → HoldsChosen k h st → HoldsChosen k g st
  holds_alike h g st e p = record { stream = p.stream; chosen = chosen_alike h g p.stream e p.chosen; in_force = p.in_force }

  keeps_alike : (h g : List Turn) (xs : List Item) → Alike h g → KeepsChosen k h xs → KeepsChosen k g xs
  keeps_alike h g xs e p = record { stream = p.stream; chosen = chosen_alike h g p.stream e p.chosen; is = p.is }

  module _ (come : ComeToOne) (says : SaysWhatIs k) where
    same_turn : (h g : List Turn) (c d : Call) (t u : Turn) → Alike h g → posed c ≡ posed d → TurnOf k h c t → TurnOf k g d u → (event t ≡ event u) × (told t ≡ told u)
    same_turn h g c d t u e p x y =
        let asks : asked_by c ≡ asked_by d = ap (λ z. z.0) p in
        let there = answered_as g c d t asks (ap (λ z. z.1) p) (answered_alike h g c t e x.answered) in
        let o = one come k says g d t u (x.asked_so ∙ asks) y.asked_so there y.answered in
        let q = x.asked_so ∙ (asks ∙ sym y.asked_so) in (
          ap (λ z. record { question = z; answer = t.answer }) q ∙ ap (λ z. record { question = asked u; answer = z }) o.0,
          ap (λ z. (z, buffer_of t.call)) o.0 ∙ ap (λ z. (u.answer, z)) o.1,
        )

    same_runs : (h g : List Turn) (cs ds : List Call) (ts us : List Turn) → Alike h g → map posed cs ≡ map posed ds → EachAnswered k h cs ts → EachAnswered k g ds us → Alike ts us × (map told ts ≡ map told us)
    same_runs h g [] [] [] [] e p x y = (refl, refl)
    same_runs h g [] ds (t ∷ ts) us e p x y = absurd x
    same_runs h g [] [] [] (u ∷ us) e p x y = absurd y
    same_runs h g [] (d ∷ ds) [] us e p x y = absurd (cc)
    same_runs h g (c ∷ cs) ds [] us e p x y = absurd x
    same_runs h g (c ∷ cs) [] (t ∷ ts) us e p x y = absurd (cc)
    same_runs h g (c ∷ cs) (d ∷ ds) (t ∷ ts) [] e p x y = absurd y
    same_runs h g (c ∷ cs) (d ∷ ds) (t ∷ ts) (u ∷ us) e p x y =
        let o = same_turn h g c d t u e (heads (posed c) (posed d) (map posed cs) (map posed ds) p) x.0 y.0 in
        let more : Alike (h ++ t ∷ []) (g ++ u ∷ []) =
        map-append event h (t ∷ []) ∙ ap (λ l. l ++ event t ∷ []) e ∙ ap (λ z. map event g ++ z ∷ []) o.0 ∙ sym (map-append event g (u ∷ [])) in
        let r = same_runs (h ++ t ∷ []) (g ++ u ∷ []) cs ds ts us more (tails (posed c) (posed d) (map posed cs) (map posed ds) p) x.1 y.1 in
        (ap (λ z. z ∷ map event ts) o.0 ∙ ap (λ l. event u ∷ l) r.0, ap (λ z. z ∷ map told ts) o.1 ∙ ap (λ l. told u ∷ l) r.1)

    pub runs_tell_the_same : (cs ds : List Call) (ts us : List Turn) → map posed cs ≡ map posed ds → EachAnswered k [] cs ts → EachAnswered k [] ds us → map told ts ≡ map told us
    runs_tell_the_same cs ds ts us p x y = (same_runs [] [] cs ds ts us refl p x y).1

    pub runs_leave_the_same : (cs ds : List Call) (ts us : List Turn) (st su : State) → map posed cs ≡ map posed ds → EachAnswered k [] cs ts → EachAnswered k [] ds us → HoldsChosen k ts st → HoldsChosen k us su → Agree st su
    runs_leave_the_same cs ds ts us st su p x y m n = one_state come k says us st su (holds_alike ts us st (same_runs [] [] cs ds ts us refl p x y).0 m) n

    pub runs_keep_the_same : (cs ds : List Call) (ts us : List Turn) (xs ys : List Item) → map posed cs ≡ map posed ds → EachAnswered k [] cs ts → EachAnswered k [] ds us → KeepsChosen k ts xs → KeepsChosen k us ys → xs ≡ ys
    runs_keep_the_same cs ds ts us xs ys p x y m n = one_kept come k says us xs ys (keeps_alike ts us xs (same_runs [] [] cs ds ts us refl p x y).0 m) n
