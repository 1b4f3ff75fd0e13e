use Rattle.std.proofs.Common.{◌≡◌, ℕ, ◌≤◌, List, length, Some, None, Option, MatchOption, refl, ap, ◌∙◌, ⊎_elim, arith}
use Rattle.std.proofs.lemmas.Bool.{cases_lt}
use Rattle.text.specs.declared.reader.Reader.{Reader}
use Rattle.text.specs.declared.scalar.Lead.{Lead}
use Rattle.text.specs.Machine.{Frame, lead}
use Rattle.text.specs.Ahead.{here, Inside, led}
use Rattle.text.proofs.Steps.{one, bad_here, bad_end, stay, then, then_reads, broke, past}
use Rattle.text.proofs.reader.Reader.wide.Goals as goal

-- what the byte here leads to, where one stands here
leads : (r : Reader) (m : Option Lead) (o : Option ℕ) → MatchOption o (length r.text.now ≤ r.at) (λ b. Inside r × (here r ≡ b)) → MatchOption o (m ≡ None) (λ b. (k : List Frame) → lead b k ≡ led m k) → Inside r → (k : List Frame) → lead (here r) k ≡ led m k
leads r m (Some b) p q i k = rw p.1 (q k)
leads r m None p q i k = absurd (omega arith)

leads_inside : (r : Reader) (m : Option Lead) (o : Option ℕ) (l : Lead) → MatchOption o (length r.text.now ≤ r.at) (λ b. Inside r × (here r ≡ b)) → MatchOption o (m ≡ None) (λ b. (k : List Frame) → lead b k ≡ led m k) → m ≡ Some l → Inside r
leads_inside r m (Some b) l p q e = p.0
leads_inside r m None l p q e = cc

pub returns-in_err-lead-clause-reads : goal.returns-in_err-lead-clause-reads
returns-in_err-lead-clause-reads c f h =
    let n = c.in_err-lead.ensures.ok_part in
    let v = rw n at c.in_err-lead.ensures.value in
    broke _ _ c.from_residual.ensures.1 stay (⊎_elim (λ i. bad_here i (cc (v, c.forbidden.ensures)) (λ k. h.byte i k ∙ leads c.args.self.now _ _ c.peek.ensures c.and_then.ensures i k ∙ ap (λ m. led m k) n)) (λ i. bad_end i (cc (v, c.forbidden.ensures)) h.end) (cases_lt c.args.self.now.at (length c.args.self.now.text.now)))

pub returns-in_err-continuation-clause-reads : goal.returns-in_err-continuation-clause-reads
returns-in_err-continuation-clause-reads c f h =
    let n = c.in_ok-lead.ensures.ok_part in
    let i = leads_inside c.args.self.now _ _ _ c.peek.ensures c.and_then.ensures n in
    broke _ _ c.from_residual-in_err-continuation.ensures.1 (one i refl refl (λ k. h.byte i k ∙ leads c.args.self.now _ _ c.peek.ensures c.and_then.ensures i k ∙ ap (λ m. led m k) n)) (c.in_err-continuation.ensures c.in_ok-lead.lead.more)

pub returns-clause-reads : goal.returns-clause-reads
returns-clause-reads c f h =
    let n = c.in_ok-lead.ensures.ok_part in
    let i = leads_inside c.args.self.now _ _ _ c.peek.ensures c.and_then.ensures n in
    then_reads _ _ _ (then (one i refl refl (λ k. h.byte i k ∙ leads c.args.self.now _ _ c.peek.ensures c.and_then.ensures i k ∙ ap (λ m. led m k) n)) (c.in_ok-continuation.ensures c.in_ok-lead.lead.more)) c.continuations.ensures

pub returns-clause-further : goal.returns-clause-further
returns-clause-further c = past _ _ _ _ _ _ (let t = c.in_ok-continuation.ensures c.in_ok-lead.lead.more in omega (arith, t.forth)) c.continuations.ensures
