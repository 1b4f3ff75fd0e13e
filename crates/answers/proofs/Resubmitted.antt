-- A reply that is submitted is accepted and keeps its plan, and the next reply stands where it stood.
use Rattle.std.proofs.Common.{◌≡◌, ℕ, ◌+◌, ◌≤◌, List, ◌++◌, length, take, drop, Ok, Err, Result, sym, ap, ◌∙◌, subst, length-append, arith}
use Rattle.std.proofs.Math.Seq.{take-append_seam}
use Rattle.std.proofs.lemmas.Slice.{drop-append-drop}
use Rattle.table.specs.Limits.{max_weight}
use Rattle.scanner.specs.declared.plan.Item.{Item}
use Rattle.scanner.specs.Meaning.{Catalogue}
use Rattle.session.specs.declared.fault.OutputFault.{OutputFault}
use Rattle.session.specs.declared.fault.SubmitFault.{SubmitFault}
use Rattle.session.specs.Output.{WrittenInto}
use Rattle.session.specs.Restored.{IsTaskOf}
use Rattle.session.specs.Submitted.{Submitted}

pub accepted_again : (k : Catalogue) (plan : List Item) (text : List ℕ) → IsTaskOf k plan text → (given : List ℕ) (room : ℕ) (new : List Item) (r : Result (Unit {0}) SubmitFault) → given ≡ text → max_weight ≤ room → Submitted k given room plan new r → (r ≡ Ok tt) × (new ≡ plan)
accepted_again k plan text a given room new r same full s = a.submitted room full plan new r (subst (λ t. Submitted k t room plan new r) same s)

-- the text stands at the front
pub front : (text old mid : List ℕ) (n : ℕ) → WrittenInto text old mid (Ok n) → take n mid ≡ text
front text old mid n a = ap (take n) a.2 ∙ ap (λ m. take m (text ++ drop n old)) a.0 ∙ take-append_seam text (drop n old)

-- the same text, written over itself
pub written_again : (text old mid new : List ℕ) (n : ℕ) (r : Result ℕ OutputFault) → WrittenInto text old mid (Ok n) → WrittenInto text mid new r → WrittenInto text old new r
written_again text old mid new n (Ok m) a b =
    let e = a.0 in
    let l = a.1 in
    let f = b.0 in
    let same : n ≡ m = e ∙ sym f in
    let beyond : drop m mid ≡ drop m old =
    ap (drop m) a.2 ∙ (drop-append-drop n old text m (omega arith) (sym e)) in
    (f, omega arith, b.2 ∙ ap (λ z. text ++ z) beyond)
written_again text old mid new n (Err e) a b =
    let long : length mid ≡ length text + length (drop n old) = ap length a.2 ∙ length-append text (drop n old) in
    let short = b.0 in
    absurd (omega arith)
