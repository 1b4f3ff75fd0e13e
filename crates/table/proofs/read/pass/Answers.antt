use Rattle.std.proofs.Common.{◌≡◌, ℕ, ◌<◌, min, true, List, [], ◌∷◌, length, Ok, Err, sym, refl, ap, ◌∙◌, arith, rules}
use Rattle.text.specs.declared.reader.Reader.{Reader}
use Rattle.text.specs.declared.token.Token.{Token}
use Rattle.text.specs.Machine.{value, members, good, ending, tape, outcome, begin_object}
use Rattle.text.specs.declared.fault.TextFault.{TextFault}
use Rattle.text.specs.Ahead.{ahead, TokenRead, Halted, kind_of}
use Rattle.table.specs.declared.level.Level.{Level}
use Rattle.table.specs.declared.fault.FormRule.TheVariants.{OutermostNoObject}
use Rattle.table.specs.declared.fault.TableFault.TheVariants.{Text}
use Rattle.table.specs.Limits.{max_weight}
use Rattle.table.specs.Drafts.{fresh}
use Rattle.table.specs.Form.{Lot, nothing, given}
use Rattle.table.specs.Works.{Works, Stops, Passes, at_start, at_members}
use Rattle.table.proofs.Joining.{broken, then, then_stops, token, token_fails, text_stops, on_works, on_stops}
use Rattle.table.proofs.Rules.{not_task, task_opens}
use Rattle.table.proofs.Reading.{same_text}
use Rattle.table.proofs.Judgement.{Whole, at_table, refused, finished, accepted, heavy}
use Rattle.table.proofs.read.pass.Goals as goal
use Rattle.table.proofs.read.pass.Goals.{then-weight-gt-MAX_WEIGHT-via-then-weight-gt-MAX_WEIGHT, then-weight-gt-MAX_WEIGHT-via-else-weight-gt-MAX_WEIGHT+then-weight-reading}

-- the brace of the task
opened : (t : List ℕ) (i : ℕ) (r s : Reader) → TokenRead 24 r s Token.Object i → Works t (λ k. value 24 ∷ []) (λ k. members true 23 ∷ []) at_start (λ ps. at_members (fresh Level.Task 0 i) nothing []) r s
opened t i r s w = on_works (λ k. []) (λ ps. ps) (token at_start (λ ps. at_members (fresh Level.Task 0 i) nothing []) begin_object i w.passed (λ ps. task_opens t i))

-- the whole task
whole : (t : List ℕ) (i : ℕ) (r s u : Reader) (o : Lot) → TokenRead 24 r s Token.Object i → Works t (λ k. members true 23 ∷ k) (λ k. k) (at_members (fresh Level.Task 0 i) nothing) (λ ps. given o ps) s u → Works t (λ k. value 24 ∷ []) (λ k. []) at_start (λ ps. given o []) r u
whole t i r s u o w x = then (opened t i r s w) (on_works (λ k. []) (λ ps. []) x)

-- the task was read, and the text goes on or ends there
module _ (t : List ℕ) (i : ℕ) (r s u v : Reader) (o : Lot) (w : TokenRead 24 r s Token.Object i) (x : Works t (λ k. members true 23 ∷ k) (λ k. k) (at_members (fresh Level.Task 0 i) nothing) (λ ps. given o ps) s u) where
  unfinished : (e : TextFault) → Halted (λ k. []) u v e → Stops t (λ k. value 24 ∷ []) at_start r (Text e)
  unfinished e h = then_stops (whole t i r s u o w x) (text_stops h)

  ended : outcome t ≡ ending (tape t) → r.at ≡ 0 → r.text.now ≡ t → ahead u [] ≡ good → Whole t o
  ended h a q g = finished t r u o h a q (whole t i r s u o w x) g

pub returns-in_err-check_length-clause-reads : goal.returns-in_err-check_length-clause-reads
returns-in_err-check_length-clause-reads c =
    let p = c.in_err-check_length.ensures in
    broken (Passes _ _) _ c.from_residual.ensures.1 ((c.length_comes_first.ensures _).long p.0 ∙ ap (λ e. Err e) (sym p.1))

pub returns-in_err-token-clause-reads : goal.returns-in_err-token-clause-reads
returns-in_err-token-clause-reads c =
    broken (Passes _ _) _ c.from_residual-in_err-token.ensures.1
    (refused c.args.text.now c.args.table.now c.new.result _ ((c.length_comes_first.ensures _).short c.in_ok-check_length.ensures) c.new.ensures.start c.new.ensures.text (on_stops {p = at_start} (λ k. []) (λ ps. ps) (text_stops c.in_err-token.ensures.halted)))

pub returns-in_default : goal.returns-in_default
returns-in_default c =
    let t = c.args.text.now in
    let y = c.in_ok-token.token in
    record {
      place = refl;
      reads = refused t c.args.table.now c.new.result _ ((c.length_comes_first.ensures _).short c.in_ok-check_length.ensures) c.new.ensures.start c.new.ensures.text
          (on_stops {p = at_start} (λ k. []) (λ ps. ps) (token_fails t at_start (kind_of y.value) y.offset OutermostNoObject y.offset c.in_ok-token.ensures.passed (λ ps. not_task t y.offset y.value c.in_default.not-Object)));
    }

pub returns-in_err-object-clause-reads : goal.returns-in_err-object-clause-reads
returns-in_err-object-clause-reads c =
    let t = c.args.text.now in
    let w = rw c.in-Object.is at c.in_ok-token.ensures in
    let o = rw c.new-task.ensures at (c.in_err-object.ensures.reads t (same_text w.passed.same c.new.ensures.text)) in
    broken (Passes _ _) _ c.from_residual-in_err-object.ensures.1
    (refused t _ c.new.result _ ((c.length_comes_first.ensures _).short c.in_ok-check_length.ensures) c.new.ensures.start c.new.ensures.text
    (then_stops (opened t c.in_ok-token.token.offset _ _ w) (on_stops (λ k. []) (λ ps. []) o)))

pub returns-in_err-finish-clause-reads : goal.returns-in_err-finish-clause-reads
returns-in_err-finish-clause-reads c =
    let t = c.args.text.now in
    let w = rw c.in-Object.is at c.in_ok-token.ensures in
    let o = rw c.new-task.ensures at (c.in_ok-object.ensures.reads t (same_text w.passed.same c.new.ensures.text)) in
    broken (Passes _ _) _ c.from_residual-in_err-finish.ensures.1
    (refused t c.args.table.now c.new.result _ ((c.length_comes_first.ensures _).short c.in_ok-check_length.ensures) c.new.ensures.start c.new.ensures.text
    (unfinished t c.in_ok-token.token.offset _ _ _ _ o.what w o.works _ c.in_err-finish.ensures))

pub returns-then-weight-gt-MAX_WEIGHT-clause-reads : goal.returns-then-weight-gt-MAX_WEIGHT-clause-reads
returns-then-weight-gt-MAX_WEIGHT-clause-reads c =
    let t = c.args.text.now in
    let w = rw c.in-Object.is at c.in_ok-token.ensures in
    let o = rw c.new-task.ensures at (c.in_ok-object.ensures.reads t (same_text w.passed.same c.new.ensures.text)) in
    let v = ended t c.in_ok-token.token.offset _ _ _ c.finish.new.self o.what w o.works ((c.length_comes_first.ensures _).short c.in_ok-check_length.ensures) c.new.ensures.start c.new.ensures.text c.in_ok-finish.ensures.1 in
    let f = o.fills.filled in
    let h : min max_weight (length c.then-weight-gt-MAX_WEIGHT.table) < c.object.new.self.tally.weight = elim c.then-weight-gt-MAX_WEIGHT.branch [
      | then-weight-gt-MAX_WEIGHT-via-then-weight-gt-MAX_WEIGHT b ↦ omega (arith, b.if-weight-gt-MAX_WEIGHT.true)
      | then-weight-gt-MAX_WEIGHT-via-else-weight-gt-MAX_WEIGHT+then-weight-reading b ↦ omega (arith, b.if-weight-reading.true, f.long)
    ] in
    heavy t _ c.object.new.self.tally.weight o.what v f.weighs h

pub returns-clause-reads : goal.returns-clause-reads
returns-clause-reads c =
    let t = c.args.text.now in
    let w = rw c.in-Object.is at c.in_ok-token.ensures in
    let o = rw c.new-task.ensures at (c.in_ok-object.ensures.reads t (same_text w.passed.same c.new.ensures.text)) in
    let s = sym o.fills.same in
    let v = ended t c.in_ok-token.token.offset _ _ _ c.finish.new.self o.what w o.works ((c.length_comes_first.ensures _).short c.in_ok-check_length.ensures) c.new.ensures.start c.new.ensures.text c.in_ok-finish.ensures.1 in
    at_table t _ c.object.new.self.table.now (search rules) (Ok c.object.new.self.tally.used) (accepted t c.args.table.now c.object.new.self.table.now _ c.object.new.self.tally o.what v refl refl o.fills.filled (omega (arith, c.if-weight-gt-MAX_WEIGHT.false)) (omega (arith, c.if-weight-reading.false)))
