-- The bound of a table.
use Rattle.std.specs.Prelude.{ℕ}

-- as many entries as a table has room for, beyond the start
abbrev pub most_entries : ℕ
most_entries = 256
