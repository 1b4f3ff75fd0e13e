use Rattle.text.proofs.Steps.{stay, then, then_reads, broke}
use Rattle.text.proofs.reader.Reader.magnitude.Goals as goal

pub returns-in_err-whole_part : goal.returns-in_err-whole_part
returns-in_err-whole_part c = broke _ _ c.from_residual.ensures.1 stay c.in_err-whole_part.ensures

pub returns-in_err-fraction : goal.returns-in_err-fraction
returns-in_err-fraction c = broke _ _ c.from_residual-in_err-fraction.ensures.1 c.in_ok-whole_part.ensures c.in_err-fraction.ensures

pub returns : goal.returns
returns c = then_reads _ _ _ (then c.in_ok-whole_part.ensures c.in_ok-fraction.ensures) c.exponent.ensures
