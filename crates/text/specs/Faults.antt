-- The number and the offset of each fault of a text.
use Rattle.std.specs.Prelude.{ℕ}
use Rattle.text.specs.declared.fault.TextFault.{TextFault}
use Rattle.text.specs.declared.fault.TextFault.TheVariants.{Forbidden, TooDeep, TooLong}

abbrev pub text_number : TextFault → ℕ
text_number (Forbidden i) = 11
text_number (TooDeep i) = 12
text_number TooLong = 13

-- a text that is too long is refused at its start
abbrev pub text_offset : TextFault → ℕ
text_offset (Forbidden i) = i
text_offset (TooDeep i) = i
text_offset TooLong = 0
