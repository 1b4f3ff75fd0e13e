use Rattle.std.proofs.Common.{◌≡◌, ℕ, ◌<◌, ◌≤◌, min, true, false, leb, List, Ok, Err, sym, refl, arith}
use Rattle.std.proofs.lemmas.Bool.Decides.{nat_tests}
use Rattle.text.specs.Machine.{outcome}
use Rattle.table.specs.declared.fault.TableFault.TheVariants.{TooHeavy}
use Rattle.table.specs.Limits.{max_weight}
use Rattle.table.specs.Form.{Lot, done}
use Rattle.table.specs.Verdict.{form, verdict}
use Rattle.table.proofs.Judgement.{text_first, form_then}
use Rattle.table.proofs.laws.faults_come_in_order.Goals as goal

heavy : (t : List ℕ) (room : ℕ) (o : Lot) → outcome t ≡ Ok tt → form t ≡ done o → min max_weight room < o.weight → verdict t room ≡ Err TooHeavy
unfolding verdict
heavy t room o p q h = let e : leb o.weight (min max_weight room) ≡ false = grind (arith, nat_tests) in rw (p, q, e) refl

light : (t : List ℕ) (room : ℕ) (o : Lot) → outcome t ≡ Ok tt → form t ≡ done o → o.weight ≤ min max_weight room → verdict t room ≡ Ok o.records
unfolding verdict
light t room o p q h = let e : leb o.weight (min max_weight room) ≡ true = grind (arith, nat_tests) in rw (p, q, e) refl

pub returns : goal.returns
returns c t room = record {
  long_first = λ h. text_first t room _ (sym ((c.length_comes_first.ensures t).long h));
  text_first = λ e p. text_first t room e (sym p);
  form_next = λ rule i p q. form_then t room rule i (sym p) q;
  weight_last = heavy t room;
  read_then = light t room;
}
