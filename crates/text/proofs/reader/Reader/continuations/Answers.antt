use Rattle.std.proofs.Common.{ap, arith}
use Rattle.text.specs.Machine.{tails}
use Rattle.text.proofs.Steps.{then, broke, same_stack, tails_some}
use Rattle.text.proofs.reader.Reader.continuations.Goals as goal

pub loop-init : goal.loop-init
loop-init c = same_stack (λ k. ap (λ n. tails n k) (omega arith))

pub returns-in_err-continuation : goal.returns-in_err-continuation
returns-in_err-continuation c = broke _ _ c.from_residual.ensures.1 (then c.loop.invariant (same_stack (λ k. tails_some _ k (omega arith)))) (c.in_err-continuation.ensures _)

pub loop-preserved : goal.loop-preserved
loop-preserved c = then (then c.loop.invariant (same_stack (λ k. tails_some _ k (omega arith)))) (then (c.in_ok-continuation.ensures _) (same_stack (λ k. ap (λ n. tails n k) (omega arith))))

pub returns : goal.returns
returns c = then c.loop.invariant (same_stack (λ k. ap (λ n. tails n k) {y = 0} (omega arith)))
