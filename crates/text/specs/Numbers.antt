-- What a number stands for.
use Rattle.std.specs.Prelude.{ℕ, ◌+◌, ◌-◌, ◌*◌, true, false, cond, List, [], ◌∷◌, ℤ, pos, neg_ℤ, Some, None, Option, ◌==◌, nat_le}
use Rattle.text.specs.Bytes.{digit}

-- digits in base ten, read on from n; nothing else is a digit
unfoldable pub decimal : ℕ → List ℕ → Option ℕ
decimal n [] = Some n
decimal n (b ∷ bs) = elim (digit b) [ true ↦ decimal (n * 10 + (b - 48)) bs | false ↦ None ]

-- at least one digit, and no zero before others
abbrev pub magnitude : List ℕ → Option ℕ
magnitude [] = None
magnitude (b ∷ []) = decimal 0 (b ∷ [])
magnitude (b ∷ c ∷ cs) = cond (b == 48) None (decimal 0 (b ∷ c ∷ cs))

-- the number, if it is at most m
abbrev pub up_to : ℕ → Option ℕ → Option ℕ
up_to m None = None
up_to m (Some n) = cond (nat_le n m) (Some n) None

-- minus the number, if there is one
abbrev pub negated : Option ℕ → Option ℤ
negated None = None
negated (Some n) = Some (neg_ℤ (pos n))

-- the number itself, if there is one
abbrev pub positive : Option ℕ → Option ℤ
positive None = None
positive (Some n) = Some (pos n)

-- an integer from -2147483648 to 2147483647; any other number stands for none
abbrev pub integer_of : List ℕ → Option ℤ
integer_of [] = None
integer_of (b ∷ bs) = cond (b == 45) (negated (up_to 2147483648 (magnitude bs))) (positive (up_to 2147483647 (magnitude (b ∷ bs))))
