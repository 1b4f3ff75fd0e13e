use Rattle.std.proofs.Common.{◌≡◌, ℕ, ◌≤◌, List, [], ◌∷◌, length, Ok, Err, Result, sym, refl, ap, ◌∙◌}
use Rattle.text.specs.declared.reader.Reader.{Reader}
use Rattle.text.specs.declared.fault.TextFault.{TextFault}
use Rattle.text.specs.Machine.{value, ending, tape, outcome}
use Rattle.text.specs.Tree.{Json, events}
use Rattle.text.specs.Ahead.{ahead, Passed, Finishes}
use Rattle.text.proofs.Steps.{broken}
use Rattle.text.proofs.Frames.{same_ending}
use Rattle.text.proofs.Judging.{short, long, text_read, by_outcome}
use Rattle.text.proofs.value.check.Goals as goal
use Rattle.text.specs.Limits.{most_bytes, most_levels}

from_start : (t : List ℕ) (r : Reader) → r.at ≡ 0 → r.text.now ≡ t → tape t ≡ ahead r (value most_levels ∷ [])
unfolding tape ahead
from_start t r a e = rw (a, e) refl

pub returns-in_err-check_length : goal.returns-in_err-check_length
returns-in_err-check_length c =
    let p = c.in_err-check_length.ensures in
    let e = broken (λ x. x ≡ outcome c.args.text.now) _ c.from_residual.ensures.1 (ap Err p.1 ∙ sym (long _ p.0)) in
    record { exact = e; judged = by_outcome _ _ e; read = λ h x. e ∙ text_read _ h x }

pub returns-in_err-value : goal.returns-in_err-value
returns-in_err-value c =
    let e =
    broken (λ x. x ≡ outcome c.args.text.now) _ c.from_residual-in_err-value.ensures.1
    (sym (short _ c.in_ok-check_length.ensures ∙ ap ending (from_start _ _ c.new-reader.ensures.start c.new-reader.ensures.text) ∙ c.in_err-value.ensures.found []))
    in
    record { exact = e; judged = by_outcome _ _ e; read = λ h x. e ∙ text_read _ h x }

finished : (t : List ℕ) (r v s : Reader) (x : Result (Unit {0}) TextFault) (what : Json) → length t ≤ most_bytes → r.at ≡ 0 → r.text.now ≡ t → Passed (λ k. value most_levels ∷ k) (λ k. k) (events what) r v → Finishes v s x → x ≡ outcome t
finished t r v s (Ok y) what h a e p q = sym (short t h ∙ ap ending (from_start t r a e ∙ p.runs []) ∙ same_ending what _ ∙ ap ending q.1)
finished t r v s (Err y) what h a e p q = sym (short t h ∙ ap ending (from_start t r a e ∙ p.runs []) ∙ same_ending what _ ∙ q.found [])

pub returns : goal.returns
returns c =
    let v = c.in_ok-value.ensures in
    let e = finished _ _ _ _ _ v.what c.in_ok-check_length.ensures c.new-reader.ensures.start c.new-reader.ensures.text v.passed c.finish.ensures in
    record { exact = e; judged = by_outcome _ _ e; read = λ h x. e ∙ text_read _ h x }
