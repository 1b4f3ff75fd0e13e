use Rattle.text.proofs.Steps.{then, byte_on}
use Rattle.text.proofs.reader.Reader.skip.Goals as goal

pub loop-preserved : goal.loop-preserved
loop-preserved g c f h = let p = c.accept.ensures.passed c.loop-test.true in then (c.loop.invariant f h) (byte_on p (λ k. h k _ p.meets))
