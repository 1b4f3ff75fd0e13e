use Rattle.std.proofs.Common.{true, refl, rules}
use Rattle.text.specs.Ahead.{Separated}
use Rattle.text.proofs.Steps.{alike, comma_read}
use Rattle.text.proofs.reader.Reader.comma.Goals as goal

pub returns-then-first : goal.returns-then-first
returns-then-first c = (λ e. refl, λ f g h. let p : Separated true f g c.args.self.now = rw c.if-first.true at h in alike p.0 p.1)

pub returns : goal.returns
returns c = comma_read _ _ c.if-first.false c.expect.ensures (λ b x m. search rules)
