-- The limits of a text.
use Rattle.std.specs.Prelude.{ℕ}

-- the longest text that is read, in bytes
abbrev pub most_bytes : ℕ
most_bytes = 65536

-- how deep objects and arrays may nest; the outermost is level 1
abbrev pub most_levels : ℕ
most_levels = 24
