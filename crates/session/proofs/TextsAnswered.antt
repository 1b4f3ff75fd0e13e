-- A submitted text is answered as promised, by what it comes to.
use Rattle.std.proofs.Common.{◌≡◌, ℕ, List, Ok, Err, Result, sym, ap, subst}
use Rattle.table.specs.declared.fault.TableFault.{TableFault}
use Rattle.table.specs.ComesTo.{ComesTo}
use Rattle.table.specs.Laws.{ComeToOne}
use Rattle.table.specs.Places.{outside}
use Rattle.table.specs.Task.{ActionObject}
use Rattle.scanner.specs.declared.plan.Item.{Item}
use Rattle.scanner.specs.Meaning.{Catalogue}
use Rattle.negotiation.specs.declared.trouble.Rejection.{Rejection}
use Rattle.negotiation.specs.Met.{RejectedAs, SaysWhatIs}
use Rattle.negotiation.specs.Verdicts.{Outcome, unchanged, planned, rejected, OneVerdict}
use Rattle.session.specs.declared.fault.SubmitFault.{SubmitFault}
use Rattle.session.specs.declared.fault.SubmitFault.TheVariants.{Table, Rejected}
use Rattle.session.specs.Submitted.{Tells, Draws, Submitted}
use Rattle.session.specs.Promise.{RejectedExactly, TextAnswered}
use Rattle.session.proofs.Tasks.{one_task, one_fault, not_both, judged_met, judged_unmet}

abbrev Told : Type 0
Told = Result (Unit {0}) SubmitFault

not_rejected : {P : Type 0} (e : TableFault) (r : Rejection) → ◌≡◌ {A = Told} (Err (Table e)) (Err (Rejected r)) → P
not_rejected e r h = absurd (cc)

not_accepted : {P : Type 0} (r : Rejection) → ◌≡◌ {A = Told} (Ok tt) (Err (Rejected r)) → P
not_accepted r h = absurd (cc)

told_so : (q r : Rejection) → ◌≡◌ {A = Told} (Err (Rejected q)) (Err (Rejected r)) → q ≡ r
told_so q r h = cc

module _ (come : ComeToOne) (k : Catalogue) (says : SaysWhatIs k) (text : List ℕ) (room : ℕ) where
  -- the text with this answer
  abbrev At : Told → Type 0
  At r = TextAnswered k (record { text = text; room = room; answer = r })

  refused : (e : TableFault) → ComesTo text room (Err e) → At (Err (Table e))
  refused e v =
      record {
        no_task = λ f h. ap (λ x. Err (Table x)) (one_fault come text room e f v h);
        judged = λ acts h. absurd (not_both come text room acts e h v);
        named = λ r h. not_rejected e r h;
      }

  -- a task
  module _ (acts : List ActionObject) (v : ComesTo text room (Ok acts)) where
    as_read : (r : Told) → RejectedExactly k acts r → (bs : List ActionObject) → ComesTo text room (Ok bs) → RejectedExactly k bs r
    as_read r j bs h = subst (λ l. RejectedExactly k l r) (one_task come text room acts bs v h) j

    accepted : RejectedExactly k acts (Ok tt) → At (Ok tt)
    accepted j = record { no_task = λ f h. absurd (not_both come text room acts f v h); judged = as_read (Ok tt) j; named = λ r h. not_accepted r h }

    turned_down : (q : Rejection) → RejectedExactly k acts (Err (Rejected q)) → RejectedAs k acts q → At (Err (Rejected q))
    turned_down q j n =
        record {
          no_task = λ f h. absurd (not_both come text room acts f v h);
          judged = as_read (Err (Rejected q)) j;
          named = λ r h. (acts, v, subst (RejectedAs k acts) (told_so q r h) n);
        }

    by_outcome : (xs ys : List Item) (r : Told) (o : Outcome) → OneVerdict k outside acts o → Tells o xs ys r → At r
    by_outcome xs ys r unchanged d z = subst At (sym z.0) (accepted (judged_met k acts ((says.outcome acts unchanged).0 d).1))
    by_outcome xs ys r (planned b zs) d z = subst At (sym z.0) (accepted (judged_met k acts (((says.outcome acts (planned b zs)).0 d).all)))
    by_outcome xs ys r (rejected q) d z = subst At (sym z) (let n = (says.outcome acts (rejected q)).0 d in turned_down q (judged_unmet k acts q n) n)

  by_result : (xs ys : List Item) (r : Told) (x : Result (List ActionObject) TableFault) → ComesTo text room x → Draws k x xs ys r → At r
  by_result xs ys r (Ok acts) v s = by_outcome acts v xs ys r s.0 s.1 s.2
  by_result xs ys r (Err e) v s = subst At (sym s) (refused e v)

  pub text_answered : (xs ys : List Item) (r : Told) → Submitted k text room xs ys r → At r
  text_answered xs ys r s = by_result xs ys r s.0 s.1 s.2
