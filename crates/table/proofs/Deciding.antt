-- The value of a text without faults decides what becomes of it.
use Rattle.std.proofs.Common.{◌≡◌, ℕ, ◌<◌, ◌≤◌, min, true, false, leb, List, length, Ok, Err, inl, inr, refl, sym, ap, ◌∙◌, arith}
use Rattle.std.proofs.lemmas.Bool.Decides.{nat_tests}
use Rattle.text.specs.Machine.{outcome}
use Rattle.text.specs.Tree.{Json}
use Rattle.text.specs.Value.{ValueOf, WritesOne}
use Rattle.table.specs.declared.fault.TableFault.TheVariants.{Form, TooHeavy}
use Rattle.table.specs.declared.fault.FormRule.{FormRule}
use Rattle.table.specs.Limits.{max_weight}
use Rattle.table.specs.Form.{Lot, begins, failed, done, after}
use Rattle.table.specs.Rules.{Broken, FirstBroken, Formed, Before}
use Rattle.table.specs.TaskOf.{task_of, weight_of}
use Rattle.table.specs.Verdict.{form, verdict, task}
use Rattle.table.specs.Laws.{ByValue, ValueDecides}
use Rattle.table.proofs.Values.{Read, same_broke, fine, broke, resume, task_read, task_told}
use Rattle.table.proofs.Breaking.{task_found}
use Rattle.table.proofs.Finding.{task_hit}
use Rattle.table.proofs.Tasks.{task_reads}

-- of two rules each of which comes before the other there is one
one_first : (rule other : FormRule) (i k : ℕ) → Before rule i other k → Before other k rule i → (rule ≡ other) × (i ≡ k)
one_first rule other i k (inl l) (inl m) = absurd (omega arith)
one_first rule other i k (inl l) (inr e) = absurd (let p = e.0 in omega arith)
one_first rule other i k (inr e) (inl l) = absurd (let p = e.0 in omega arith)
one_first rule other i k (inr (p, inl e)) (inr f) = (e, p)
one_first rule other i k (inr (p, inr e)) (inr (q, inl f)) = (sym f, p)
one_first rule other i k (inr (p, inr e)) (inr (q, inr f)) = (e ∙ sym f, p)

module _ (writes : WritesOne) (t : List ℕ) (room : ℕ) (v : Json) (f : outcome t ≡ Ok tt) (w : ValueOf t v) where
  said : form t ≡ resume (task_read t v) (λ o. done o)
  unfolding form
  said = ap (after t begins) w.tokens ∙ task_told v w.proper t

  -- the value breaks no rule
  module _ (o : Lot) (z : task_read t v ≡ fine o) where
    no_rule : Formed t v
    no_rule rule i b = let h = task_hit t v (length t) ((writes t).ordered v w) rule i b in let e = z in let g = h.2 in absurd (cc)

    done_so : form t ≡ done o
    done_so = said ∙ rw z refl

    told_heavy : min max_weight room < weight_of t v → verdict t room ≡ Err TooHeavy
    unfolding verdict
    told_heavy h =
        let a = (task_reads t v o z).1 in
        let b : leb o.weight (min max_weight room) ≡ false = grind (arith, nat_tests) in
        rw (f, done_so, b) refl

    told_written : weight_of t v ≤ min max_weight room → task t room ≡ Ok (task_of t v)
    unfolding verdict
    told_written h =
        let a = task_reads t v o z in
        let c = a.1 in
        let b : leb o.weight (min max_weight room) ≡ true = grind (arith, nat_tests) in
        rw (f, done_so, b) (ap (λ x. Ok x) a.0)

    by_fine : ByValue t room v
    by_fine = record {
      decided = inl no_rule;
      first_decides = λ rule i b. absurd (no_rule rule i b.breaks);
      heavy = λ n h. told_heavy h;
      written = λ n h. told_written h;
      ends = inl (o, done_so);
    }

  -- it breaks some rule first
  module _ (rule : FormRule) (i : ℕ) (z : task_read t v ≡ broke rule i) where
    breaks_it : Broken t v rule i
    breaks_it = task_found v w.proper t rule i z

    first_one : FirstBroken t v rule i
    first_one = record {
      breaks = breaks_it;
      earliest = λ other k b.
          let h = task_hit t v (length t) ((writes t).ordered v w) other k b in
          let s = same_broke (sym z ∙ h.2) in
          rw (s.0, s.1) h.3;
    }

    failed_so : form t ≡ failed rule i
    failed_so = said ∙ rw z refl

    told_first : (other : FormRule) (k : ℕ) → FirstBroken t v other k → verdict t room ≡ Err (Form other k)
    unfolding verdict
    told_first other k b =
        let s = one_first rule other i k (first_one.earliest other k b.breaks) (b.earliest rule i breaks_it) in
        rw (f, failed_so, s.0, s.1) refl

    by_broke : ByValue t room v
    by_broke = record {
      decided = inr (rule, i, first_one);
      first_decides = told_first;
      heavy = λ n h. absurd (n rule i breaks_it);
      written = λ n h. absurd (n rule i breaks_it);
      ends = inr (rule, i, failed_so);
    }

  by_read : (r : Read Lot) → task_read t v ≡ r → ByValue t room v
  by_read (fine o) z = by_fine o z
  by_read (broke rule i) z = by_broke rule i z

pub value_decides : WritesOne → ValueDecides
value_decides writes t room v f w = by_read writes t room v f w (task_read t v) refl
