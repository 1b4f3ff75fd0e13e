use Rattle.text.proofs.Values.{writes_one}
use Rattle.text.proofs.Derived.{derives}
use Rattle.text.proofs.TokenParts.{parts_hold}
use Rattle.text.proofs.laws.one_value_stands.Goals as goal

pub returns : goal.returns
returns c = record { one = writes_one; derived = derives; parts = parts_hold }
