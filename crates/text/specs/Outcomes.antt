-- The outcome of a text is the one thing that the grammar says of it.
use Rattle.std.specs.Prelude.{◌≡◌, ℕ, List, Result}
use Rattle.text.specs.declared.fault.TextFault.{TextFault}
use Rattle.text.specs.Machine.{outcome}
use Rattle.text.specs.Judged.{Judged}

pub record OneOutcome (t : List ℕ) : Type 0 where
  pub said : Judged t (outcome t)
  pub only : (x : Result (Unit {0}) TextFault) → Judged t x → x ≡ outcome t

abbrev pub GrammarDecides : Type 0
GrammarDecides = (t : List ℕ) → OneOutcome t
