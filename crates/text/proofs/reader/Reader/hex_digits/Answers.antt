use Rattle.std.proofs.Common.{ap, arith}
use Rattle.text.specs.Machine.{hexes}
use Rattle.text.proofs.Steps.{stay, then, broke, same_stack, hexes_some}
use Rattle.text.proofs.reader.Reader.hex_digits.Goals as goal

pub loop-init : goal.loop-init
loop-init c = stay

pub returns-in_err-hex_digit : goal.returns-in_err-hex_digit
returns-in_err-hex_digit c = broke _ _ c.from_residual.ensures.1 (then c.loop.invariant (same_stack (λ k. hexes_some _ k (omega arith)))) (c.in_err-hex_digit.ensures _)

pub loop-preserved : goal.loop-preserved
loop-preserved c = then (then c.loop.invariant (same_stack (λ k. hexes_some _ k (omega arith)))) (then (c.in_ok-hex_digit.ensures _) (same_stack (λ k. ap (λ n. hexes n k) (omega arith))))

pub returns : goal.returns
returns c = then c.loop.invariant (same_stack (λ k. ap (λ n. hexes n k) {y = 0} (omega arith)))
