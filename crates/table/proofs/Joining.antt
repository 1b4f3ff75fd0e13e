-- How readings follow one another, and how they stop.
use Rattle.std.proofs.Common.{◌≡◌, ℕ, List, IsErrAnd, Ok, Err, Result, refl, ap, ◌∙◌, arith}
use Rattle.text.specs.declared.reader.Reader.{Reader}
use Rattle.text.specs.declared.fault.TextFault.{TextFault}
use Rattle.text.specs.Machine.{Frame, Kind, Tape, ending, good, fault, event}
use Rattle.text.specs.Ahead.{ahead, Stack, Passed, Halted}
use Rattle.table.specs.declared.fault.TableFault.{TableFault}
use Rattle.table.specs.declared.fault.TableFault.TheVariants.{Text, Form}
use Rattle.table.specs.declared.fault.FormRule.{FormRule}
use Rattle.table.specs.Form.{Place, failed, on_at, on, after}
use Rattle.table.specs.Works.{States, Works, Stops}

-- a fault of the form stays
pub after_failed : (t : List ℕ) (rule : FormRule) (i : ℕ) (u : Tape) → after t (failed rule i) u ≡ failed rule i
unfolding after on_at
after_failed t rule i good = refl
after_failed t rule i (fault e) = refl
after_failed t rule i (event x j u) = after_failed t rule i u

pub stay : {t : List ℕ} {f : Stack} {p : States} {r : Reader} → Works t f f p p r r
stay = record { same = refl; forth = omega arith; ends = λ k. refl; runs = λ k ps. refl }

module _ {t : List ℕ} {f g h : Stack} {p q z : States} where
  pub then : {r s u : Reader} → Works t f g p q r s → Works t g h q z s u → Works t f h p z r u
  then {r} {s} {u} a b = record {
    same = b.same ∙ a.same;
    forth = omega arith;
    ends = λ k. a.ends k ∙ b.ends k;
    runs = λ k ps. a.runs k ps ∙ b.runs k ps;
  }

module _ {t : List ℕ} {f g : Stack} {p q : States} where
  pub then_stops : {r s : Reader} {e : TableFault} → Works t f g p q r s → Stops t g q s e → Stops t f p r e
  then_stops a b = record {
    in_text = λ x z k. a.ends k ∙ b.in_text x z k;
    in_form = λ rule i z k ps. a.runs k ps ∙ b.in_form rule i z k ps;
    light = b.light;
  }

in_the_text : {t : List ℕ} {f : Stack} {p : States} {r : Reader} {e : TextFault} → ((k : List Frame) → ending (ahead r (f k)) ≡ Err e) → Stops t f p r (Text e)
in_the_text {e = e} h = record {
  in_text = λ x z k. h k ∙ ap (λ y. Err y) (let w : e ≡ x = cc in w);
  in_form = λ rule i z. absurd (let y : ◌≡◌ {A = ℕ} 0 1 = cc in omega arith);
  light = λ z. let y : ◌≡◌ {A = ℕ} 0 1 = cc in omega arith;
}

in_the_form : {t : List ℕ} {f : Stack} {p : States} {r : Reader} {rule : FormRule} {i : ℕ} → ((k : List Frame) (ps : List Place) → after t (p ps) (ahead r (f k)) ≡ failed rule i) → Stops t f p r (Form rule i)
in_the_form {rule = rule} {i = i} h = record {
  in_text = λ x z. absurd (let y : ◌≡◌ {A = ℕ} 0 1 = cc in omega arith);
  in_form = λ rule' j z k ps. h k ps ∙ (let a : rule ≡ rule' = cc in let b : i ≡ j = cc in cc);
  light = λ z. let y : ◌≡◌ {A = ℕ} 0 1 = cc in omega arith;
}

-- a result that left by `?` has the fault that it left by
pub broken : {X : Type 0} (P : Result X TableFault → Type 0) {e : TableFault} (x : Result X TableFault) → IsErrAnd x (λ y. y ≡ e) → P (Err e) → P x
broken P (Ok y) b p = absurd b
broken P (Err d) b p = rw b p

pub same_fault : {X : Type 0} {d e : TableFault} → ◌≡◌ {A = Result X TableFault} (Err d) (Err e) → d ≡ e
same_fault h = cc

pub stops_is : {t : List ℕ} {f : Stack} {p : States} {r : Reader} {d e : TableFault} → d ≡ e → Stops t f p r e → Stops t f p r d
stops_is q a = rw q a

pub text_stops : {t : List ℕ} {f : Stack} {p : States} {r s : Reader} {e : TextFault} → Halted f r s e → Stops t f p r (Text e)
text_stops a = in_the_text (λ k. a.found k)

-- no token
pub plain : {t : List ℕ} {f g : Stack} {r s : Reader} (p : States) → Passed f g (λ u. u) r s → Works t f g p p r s
plain {t} p a = record { same = a.same; forth = a.forth; ends = λ k. ap ending (a.runs k); runs = λ k ps. ap (after t (p ps)) (a.runs k) }

-- one token
pub token : {t : List ℕ} {f g : Stack} {r s : Reader} (p q : States) (x : Kind) (i : ℕ) → Passed f g (event x i) r s → ((ps : List Place) → on t (p ps) x i ≡ q ps) → Works t f g p q r s
unfolding after
token {t} {f} {g} {r} {s} p q x i a h = record {
  same = a.same;
  forth = a.forth;
  ends = λ k. ap ending (a.runs k);
  runs = λ k ps. ap (after t (p ps)) (a.runs k) ∙ ap (λ y. after t y (ahead s (g k))) (h ps);
}

-- a token at which the form fails
pub token_fails : (t : List ℕ) {f g : Stack} {r s : Reader} (p : States) (x : Kind) (j : ℕ) (rule : FormRule) (i : ℕ) → Passed f g (event x j) r s → ((ps : List Place) → on t (p ps) x j ≡ failed rule i) → Stops t f p r (Form rule i)
unfolding after
token_fails t {f} {g} {r} {s} p x j rule i a h = in_the_form (λ k ps. ap (after t (p ps)) (a.runs k) ∙ ap (λ y. after t y (ahead s (g k))) (h ps) ∙ after_failed t rule i (ahead s (g k)))

-- the form has failed already
pub fails_now : (t : List ℕ) (f : Stack) (p : States) (r : Reader) (rule : FormRule) (i : ℕ) → ((ps : List Place) → p ps ≡ failed rule i) → Stops t f p r (Form rule i)
fails_now t f p r rule i h = in_the_form (λ k ps. ap (λ y. after t y (ahead r (f k))) (h ps) ∙ after_failed t rule i _)

module _ {t : List ℕ} {f g : Stack} {p q : States} {r s : Reader} where
  -- under a fixed rest of the stack, and of the places
  pub on_works : (h : Stack) (z : List Place → List Place) → Works t f g p q r s → Works t (λ k. f (h k)) (λ k. g (h k)) (λ ps. p (z ps)) (λ ps. q (z ps)) r s
  on_works h z a = record { same = a.same; forth = a.forth; ends = λ k. a.ends (h k); runs = λ k ps. a.runs (h k) (z ps) }

  pub becomes : {z : States} → ((ps : List Place) → q ps ≡ z ps) → Works t f g p q r s → Works t f g p z r s
  becomes e a = record { same = a.same; forth = a.forth; ends = a.ends; runs = λ k ps. a.runs k ps ∙ ap (λ y. after t y (ahead s (g k))) (e ps) }

  pub starts_as : {z : States} → ((ps : List Place) → z ps ≡ p ps) → Works t f g p q r s → Works t f g z q r s
  starts_as e a = record { same = a.same; forth = a.forth; ends = a.ends; runs = λ k ps. ap (λ y. after t y (ahead r (f k))) (e ps) ∙ a.runs k ps }

module _ {t : List ℕ} {f : Stack} {p : States} {r : Reader} {e : TableFault} where
  pub on_stops : (h : Stack) (z : List Place → List Place) → Stops t f p r e → Stops t (λ k. f (h k)) (λ ps. p (z ps)) r e
  on_stops h z a = record { in_text = λ x y k. a.in_text x y (h k); in_form = λ rule i y k ps. a.in_form rule i y (h k) (z ps); light = a.light }

  pub stops_as : {z : States} → ((ps : List Place) → z ps ≡ p ps) → Stops t f p r e → Stops t f z r e
  stops_as n a = record { in_text = a.in_text; in_form = λ rule i y k ps. ap (λ w. after t w (ahead r (f k))) (n ps) ∙ a.in_form rule i y k ps; light = a.light }
