-- Going into an object and out again leaves the place record as it was.
use Rattle.std.proofs.Common.{◌≡◌, ℕ, zero, suc, List, [], ◌∷◌, get_or, set, Some, None, Option, refl, ap, ◌∙◌}
use Rattle.std.proofs.lemmas.List.{set-get_or}
use Rattle.table.specs.declared.level.Level.{Level}
use Rattle.table.specs.declared.place.Place.{Place}
use Rattle.table.specs.Levels.{level_code}
use Rattle.table.specs.Places.{entered, restored}

-- of two values put at one index the second stays
set_again : {A : Type 0} (xs : List A) (i : ℕ) (a b : A) → set (set xs i a) i b ≡ set xs i b
set_again [] i a b = refl
set_again (x ∷ xs) zero a b = refl
set_again {A} (x ∷ xs) (suc i) a b = ap (λ (r : List A). x ∷ r) (set_again xs i a b)

pub left_again : (p : Place) (l : Level) (i : ℕ) → restored (entered p l i) l (get_or p.steps (level_code l) None) ≡ p
left_again p l i =
    ap (λ (s : List (Option ℕ)). record { steps = s })
    (set_again p.steps (level_code l) (Some i) (get_or p.steps (level_code l) None) ∙ set-get_or p.steps (level_code l) None)
