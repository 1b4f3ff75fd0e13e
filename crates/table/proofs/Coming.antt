-- Each text comes to one thing with a table, and that is what the executable definition says.
use Rattle.std.proofs.Common.{◌≡◌, ◌⊎◌, ℕ, min, true, false, leb, List, length, Ok, Err, Result, inl, inr, refl, sym, ap, subst, ◌∙◌, arith}
use Rattle.std.proofs.lemmas.Bool.Decides.{nat_tests}
use Rattle.text.specs.declared.fault.TextFault.{TextFault}
use Rattle.text.specs.Machine.{outcome}
use Rattle.text.specs.Tree.{Json}
use Rattle.text.specs.Value.{ValueOf, WritesOne}
use Rattle.text.specs.Derived.{Derives}
use Rattle.text.specs.Judged.{Judged}
use Rattle.text.specs.Outcomes.{GrammarDecides}
use Rattle.table.specs.declared.record.Record.{Record}
use Rattle.table.specs.declared.fault.TableFault.{TableFault}
use Rattle.table.specs.declared.fault.TableFault.TheVariants.{Text, Form, TooHeavy}
use Rattle.table.specs.declared.fault.FormRule.{FormRule}
use Rattle.table.specs.Limits.{max_weight}
use Rattle.table.specs.Task.{ActionObject}
use Rattle.table.specs.Rules.{FirstBroken, Formed}
use Rattle.table.specs.TaskOf.{weight_of}
use Rattle.table.specs.Verdict.{ReadsTask, objects, task}
use Rattle.table.specs.ComesTo.{Writes, ComesTo, CallComesTo}
use Rattle.table.specs.Laws.{ByValue, TextsJudged, ComeToOne}
use Rattle.table.proofs.Deciding.{value_decides}
use Rattle.table.proofs.Judgement.{text_first}

module _ (one : WritesOne) (derived : Derives) (grammar : GrammarDecides) where
  module _ (t : List ℕ) (room : ℕ) where
    -- a text that writes a value has no fault, and its tokens write that value
    decided : {v : Json} → Writes t v → ByValue t room v
    decided {v} w =
        let fine : outcome t ≡ Ok tt = sym ((grammar t).only (Ok tt) (w.short, w.derived)) in
        value_decides one t room v fine (subst (ValueOf t) (sym w.gives) (derived t w.derived))

    by_value : (v : Json) → Writes t v → (x : Result (List ActionObject) TableFault) → task t room ≡ x → ComesTo t room x
    by_value v w x z = go (decided w).decided (leb (weight_of t v) (min max_weight room)) refl
      where
        b : ByValue t room v
        b = decided w

        go : Formed t v ⊎ ((rule : FormRule) × (i : ℕ) × FirstBroken t v rule i) → (l : _) → leb (weight_of t v) (min max_weight room) ≡ l → ComesTo t room x
        go (inl n) true e = let y = sym z ∙ b.written n (grind (arith, nat_tests)) in rw y (record { value = v; writes = w; formed = n; light = grind (arith, nat_tests); task = refl })
        go (inl n) false e = let y = sym z ∙ ap objects (b.heavy n (grind (arith, nat_tests))) in rw y (record { value = v; writes = w; formed = n; heavy = grind (arith, nat_tests) })
        go (inr n) l e = let y = sym z ∙ ap objects (b.first_decides n.0 n.1 n.2) in rw y (record { value = v; writes = w; first = n.2 })

    by_outcome : (r : Result (Unit {0}) TextFault) → outcome t ≡ r → Judged t r → (x : Result (List ActionObject) TableFault) → task t room ≡ x → ComesTo t room x
    by_outcome (Ok u) f j x z = by_value _ (record { short = j.0; derived = j.1; gives = refl }) x z
    by_outcome (Err e) f j x z = let q = sym z ∙ ap objects (text_first t room e (sym f)) in rw q j

    pub comes : (x : Result (List ActionObject) TableFault) → task t room ≡ x → ComesTo t room x
    comes x z = by_outcome (outcome t) refl (grammar t).said x z

    only : (x : Result (List ActionObject) TableFault) → ComesTo t room x → x ≡ task t room
    only (Ok acts) a = ap (λ y. Ok y) a.task ∙ sym ((decided a.writes).written a.formed a.light)
    only (Err (Text e)) j = sym (ap objects (text_first t room e ((grammar t).only (Err e) j)))
    only (Err (Form rule i)) m = sym (ap objects ((decided m.writes).first_decides rule i m.first))
    only (Err TooHeavy) h = sym (ap objects ((decided h.writes).heavy h.formed h.heavy))

  pub texts_judged : TextsJudged
  texts_judged = comes

  pub come_to_one : ComeToOne
  come_to_one t room = record { comes = comes t room (task t room) refl; only = only t room }

pub call_comes : TextsJudged → (t : List ℕ) (table : List Record) (x : Result ℕ TableFault) → ReadsTask t table x → CallComesTo t table x
call_comes judged t table (Ok n) p = judged t (length table) _ (ap objects p.1)
call_comes judged t table (Err e) p = judged t (length table) _ (ap objects p)
