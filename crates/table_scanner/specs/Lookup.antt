-- What the first entry that meets a test says.
use Rattle.std.specs.Prelude.{Bool, cond, List, [], ◌∷◌, Some, None, Option}

abbrev pub found : {X Y : Type 0} → (X → Bool) → (X → Y) → List X → Option Y
found test part [] = None
found test part (x ∷ xs) = cond (test x) (Some (part x)) (found test part xs)
