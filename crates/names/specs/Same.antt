-- When two names, or two values, are the same.
use Rattle.std.specs.Prelude.{Bool, false, ℤ, pos, negsuc, ◌==◌}
use Rattle.names.specs.declared.kinds.Source.{Source}
use Rattle.names.specs.declared.kinds.PixelFormat.{PixelFormat}
use Rattle.names.specs.declared.kinds.Attribute.{Attribute}
use Rattle.names.specs.declared.kinds.Word.{Word}
use Rattle.names.specs.declared.kinds.Value.{Value}
use Rattle.names.specs.declared.kinds.Value.TheVariants as values
use Rattle.names.specs.Codes.{source_code, format_code, attribute_code, word_code}

abbrev pub same_source : Source → Source → Bool
same_source a b = source_code a == source_code b

abbrev pub same_format : PixelFormat → PixelFormat → Bool
same_format a b = format_code a == format_code b

abbrev pub same_attribute : Attribute → Attribute → Bool
same_attribute a b = attribute_code a == attribute_code b

abbrev pub same_word : Word → Word → Bool
same_word a b = word_code a == word_code b

abbrev pub same_number : ℤ → ℤ → Bool
same_number (pos m) (pos n) = m == n
same_number (pos m) (negsuc n) = false
same_number (negsuc m) (pos n) = false
same_number (negsuc m) (negsuc n) = m == n

abbrev pub same_value : Value → Value → Bool
same_value (values.Word a) (values.Word b) = same_word a b
same_value (values.Word a) (values.Number b) = false
same_value (values.Number a) (values.Word b) = false
same_value (values.Number a) (values.Number b) = same_number a b
