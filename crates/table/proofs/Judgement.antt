-- From one pass over a text to the verdict.
use Rattle.std.proofs.Common.{◌≡◌, ℕ, ◌+◌, ◌<◌, ◌≤◌, min, true, false, leb, List, [], ◌∷◌, length, get_or, take, MatchResult, Ok, Err, Result, sym, refl, ap, ◌∙◌, arith}
use Rattle.std.proofs.lemmas.Bool.Decides.{nat_tests}
use Rattle.std.proofs.lemmas.List.{same_lists, get_or-take, length-take}
use Rattle.text.specs.declared.reader.Reader.{Reader}
use Rattle.text.specs.declared.fault.TextFault.{TextFault}
use Rattle.text.specs.Limits.{most_levels}
use Rattle.text.specs.Machine.{value, ending, good, tape, outcome}
use Rattle.text.specs.Ahead.{ahead}
use Rattle.table.specs.declared.record.Record.{Record}
use Rattle.table.specs.declared.tally.Tally.{Tally}
use Rattle.table.specs.declared.fault.TableFault.{TableFault}
use Rattle.table.specs.declared.fault.TableFault.TheVariants.{Text, Form, TooHeavy}
use Rattle.table.specs.declared.fault.FormRule.{FormRule}
use Rattle.table.specs.Limits.{max_weight}
use Rattle.table.specs.Form.{Lot, begins, failed, done, given, after}
use Rattle.table.specs.Verdict.{form, verdict, ReadsTask, objects, HoldsTask}
use Rattle.table.specs.Works.{Works, Stops, most, Filled, Passes}

from_start : (t : List ℕ) (r : Reader) → r.at ≡ 0 → r.text.now ≡ t → tape t ≡ ahead r (value most_levels ∷ [])
unfolding tape ahead
from_start t r a e = rw (a, e) refl

-- the pass stopped at a fault
pub refused : (t : List ℕ) (new : List Record) (r : Reader) (e : TableFault) → outcome t ≡ ending (tape t) → r.at ≡ 0 → r.text.now ≡ t → Stops t (λ k. value most_levels ∷ []) (λ ps. begins) r e → Passes t new (Err e)
unfolding form
refused t new r (Text x) h a q s = h ∙ ap ending (from_start t r a q) ∙ s.in_text x refl []
refused t new r (Form rule i) h a q s = ap (after t begins) (from_start t r a q) ∙ s.in_form rule i refl [] []
refused t new r TooHeavy h a q s = absurd (s.light refl)

-- the pass came to the end of the text
pub record Whole (t : List ℕ) (o : Lot) : Type 0 where
  pub fine : outcome t ≡ Ok tt
  pub says : form t ≡ done o

pub finished : (t : List ℕ) (r s : Reader) (o : Lot) → outcome t ≡ ending (tape t) → r.at ≡ 0 → r.text.now ≡ t → Works t (λ k. value most_levels ∷ []) (λ k. []) (λ ps. begins) (λ ps. given o []) r s → ahead s [] ≡ good → Whole t o
unfolding form after given
finished t r s o h a q w g = record {
  fine = h ∙ ap ending (from_start t r a q) ∙ w.ends [] ∙ ap ending g;
  says = ap (after t begins) (from_start t r a q) ∙ w.runs [] [] ∙ ap (after t (done o)) g;
}

-- the records of a task that is light enough are those at the front of the table
same_records : (old new : List Record) (from to : Tally) (o : Lot) → from.used ≡ 0 → Filled old new from to o → to.used ≤ max_weight → to.used ≤ length new → o.records ≡ take to.used new
same_records old new from to o z f m h =
    let e : to.used ≡ length o.records = omega (arith, f.uses) in
    same_lists _ _ (let l = length-take to.used new in omega arith)
    (λ k d l. sym (get_or-take to.used new k d (omega arith) ∙ (let e : from.used + k ≡ k = omega arith in ap (λ j. get_or new j d) (sym e) ∙ f.stands k l (omega arith) d)))

pub accepted : (t : List ℕ) (old new : List Record) (from to : Tally) (o : Lot) → Whole t o → from.used ≡ 0 → from.weight ≡ 0 → Filled old new from to o → to.weight ≤ max_weight → to.weight ≤ length new → ReadsTask t new (Ok to.used)
unfolding verdict
accepted t old new from to o w a b f h k =
    let c : to.used ≤ to.weight = to.covered in
    let e : leb o.weight (min max_weight (length new)) ≡ true = let z = f.weighs in grind (arith, nat_tests) in
    (omega arith, rw (w.fine, w.says, e) (ap (λ x. Ok x) (same_records old new from to o a f (omega arith) (omega arith))))

pub at_table : (t : List ℕ) (x new : List Record) → x ≡ new → (r : Result ℕ TableFault) → ReadsTask t new r → ReadsTask t x r
at_table t x new e r p = rw e p

pub heavy : (t : List ℕ) (room w : ℕ) (o : Lot) → Whole t o → w ≡ min (0 + o.weight) most → min max_weight room < w → verdict t room ≡ Err TooHeavy
unfolding verdict
heavy t room w o v e h =
    let z : leb o.weight (min max_weight room) ≡ false = grind (arith, nat_tests) in
    rw (v.fine, v.says, z) refl

-- what is no fault of the form stands, whatever else the text has
pub stands_so : (t : List ℕ) (new : List Record) (e : TableFault) → ((rule : FormRule) (i : ℕ) → e ≡ Form rule i → ⊥) → Passes t new (Err e) → ReadsTask t new (Err e)
unfolding verdict
stands_so t new (Text e) z p = rw p refl
stands_so t new (Form rule i) z p = absurd (z rule i refl)
stands_so t new TooHeavy z p = p

pub text_first : (t : List ℕ) (room : ℕ) (e : TextFault) → Err e ≡ outcome t → verdict t room ≡ Err (Text e)
unfolding verdict
text_first t room e p = rw (sym p) refl

pub form_then : (t : List ℕ) (room : ℕ) (rule : FormRule) (i : ℕ) → Ok tt ≡ outcome t → form t ≡ failed rule i → verdict t room ≡ Err (Form rule i)
unfolding verdict
form_then t room rule i p q = rw (sym p, q) refl

-- a fault of the form stands where the text has none, and else gives way to the text's
pub form_or_text : (t : List ℕ) (new : List Record) (e x : TableFault) (rule : FormRule) (i : ℕ) (r : Result (Unit {0}) TextFault) → e ≡ Form rule i → r ≡ outcome t → MatchResult r (λ _. x ≡ e) (λ y. x ≡ Text y) → Passes t new (Err e) → ReadsTask t new (Err x)
form_or_text t new e x rule i (Err y) z p m q = rw m (text_first t (length new) y p)
form_or_text t new e x rule i (Ok u) z p m q = let f : form t ≡ failed rule i = rw z at q in rw (m, z) (form_then t (length new) rule i p f)

-- the records that were read stand for the task
pub holds_task : (t : List ℕ) (table : List Record) (x : Result ℕ TableFault) → ReadsTask t table x → HoldsTask t table x
holds_task t table (Ok n) p = ap objects p.1
holds_task t table (Err e) p = ap objects p
