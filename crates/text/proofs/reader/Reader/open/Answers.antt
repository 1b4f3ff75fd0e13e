use Rattle.std.proofs.Common.{refl, arith, rules}
use Rattle.text.specs.Machine.{begin_object, begin_array}
use Rattle.text.proofs.Steps.{token, deep_here}
use Rattle.text.proofs.Frames.{begins_object, begins_array, deep_object, deep_array}
use Rattle.text.proofs.reader.Reader.open.Goals as goal

pub returns-then-levels-eq0 : goal.returns-then-levels-eq0
returns-then-levels-eq0 c = record {
  object = λ e. (search rules, deep_here c.requires refl (λ k. deep_object _ _ k e (search rules)));
  array = λ e. (search rules, deep_here c.requires refl (λ k. deep_array _ _ k e (search rules)));
}

pub returns : goal.returns
returns c = record {
  object = λ e. (omega arith, refl, token begin_object _ refl c.requires refl refl (λ k. begins_object _ _ k e (omega arith)));
  array = λ e. (omega arith, refl, token begin_array _ refl c.requires refl refl (λ k. begins_array _ _ k e (omega arith)));
}
