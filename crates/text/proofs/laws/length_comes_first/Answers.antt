use Rattle.text.proofs.Judging.{short, long}
use Rattle.text.proofs.laws.length_comes_first.Goals as goal

pub returns : goal.returns
returns c t = record { long = long t; short = short t }
