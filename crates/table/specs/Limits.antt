-- How many entries each array may have, and how heavy a task may be.
use Rattle.std.specs.Prelude.{ℕ}

abbrev pub max_actions : ℕ
max_actions = 8

abbrev pub max_streams : ℕ
max_streams = 32

abbrev pub max_sources : ℕ
max_sources = 8

abbrev pub max_pixel_formats : ℕ
max_pixel_formats = 8

abbrev pub max_attributes : ℕ
max_attributes = 37

abbrev pub max_values : ℕ
max_values = 32

abbrev pub max_weight : ℕ
max_weight = 512
