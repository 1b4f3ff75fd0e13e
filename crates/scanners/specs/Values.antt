-- Values that an entry offers: one word, or the numbers of a range.
use Rattle.std.specs.Prelude.{Bool, false}
use Rattle.names.specs.declared.kinds.Value.{Value}
use Rattle.names.specs.declared.kinds.Value.TheVariants as values
use Rattle.names.specs.Same.{same_word}
use Rattle.scanners.specs.declared.values.Values.{Values}
use Rattle.scanners.specs.declared.values.Values.TheVariants as kinds
use Rattle.scanners.specs.Ranges.{in_range}

-- the value is one of them
abbrev pub is_one_of : Values → Value → Bool
is_one_of (kinds.Word w) (values.Word v) = same_word w v
is_one_of (kinds.Word w) (values.Number n) = false
is_one_of (kinds.Range r) (values.Word v) = false
is_one_of (kinds.Range r) (values.Number n) = in_range r.low r.high r.step n
