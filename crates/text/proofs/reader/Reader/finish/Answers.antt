use Rattle.std.proofs.Common.{[], ◌∙◌, length, ap, arith}
use Rattle.text.specs.Machine.{over}
use Rattle.text.proofs.Steps.{ahead_end, bad_here, then_halted}
use Rattle.text.proofs.Frames.{skip_end, end_forbidden}
use Rattle.text.proofs.reader.Reader.finish.Goals as goal

pub returns-in-Some : goal.returns-in-Some
returns-in-Some c = then_halted (c.blanks.ensures.runs (λ k. []) skip_end) (bad_here (omega arith) c.forbidden.ensures (λ k. end_forbidden _ (c.blanks.ensures.stops (omega arith))))

pub returns-in-None : goal.returns-in-None
unfolding over
returns-in-None c = let p = c.blanks.ensures.runs (λ k. []) skip_end in (p.same, p.runs [] ∙ ahead_end _ [] (omega arith), let e = ap (λ x. length x.now) p.same in let b = c.blanks.new.self.within in omega arith)
