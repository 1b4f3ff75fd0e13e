-- The length of a text is looked at first.
use Rattle.std.specs.Prelude.{◌≡◌, ℕ, ◌<◌, ◌≤◌, List, length, Err}
use Rattle.text.specs.declared.fault.TextFault.TheVariants.{TooLong}
use Rattle.text.specs.Machine.{ending, tape, outcome}
use Rattle.text.specs.Limits.{most_bytes}

-- a text that is too long is refused as that, whatever it holds; what comes of any other is how its tape ends
pub record ByLength (t : List ℕ) : Type 0 where
  pub long : most_bytes < length t → outcome t ≡ Err TooLong
  pub short : length t ≤ most_bytes → outcome t ≡ ending (tape t)

-- this holds of every text
abbrev pub LengthFirst : Type 0
LengthFirst = (t : List ℕ) → ByLength t
