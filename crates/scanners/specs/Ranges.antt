-- The numbers of a range: low, low + step, and so on up to high.
use Rattle.std.specs.Prelude.{◌≡◌, ℕ, ◌*◌, ◌%◌, Bool, ◌&&◌, ℤ, pos, ◌+ℤ◌, ◌-ℤ◌, ◌≤ℤ◌, ◌==◌, int_le, unsigned_abs}

-- n is low and some steps more, and not beyond high
abbrev pub Reached : ℤ → ℤ → ℕ → ℤ → Type 0
Reached low high step n = ((k : ℕ) × (n ≡ (low +ℤ pos (k * step)))) × (n ≤ℤ high)

-- the same as a test: n lies between the ends, and its distance from low is a number of whole steps
abbrev pub in_range : ℤ → ℤ → ℕ → ℤ → Bool
in_range low high step n = int_le low n && (int_le n high && unsigned_abs (n -ℤ low) % step == 0)

-- numbers that make a range: low is not above high, and the step is at least 1
abbrev pub is_range : ℤ → ℤ → ℤ → Bool
is_range low high step = int_le low high && int_le (pos 1) step
