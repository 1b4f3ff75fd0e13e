-- The law of homes: a source that is offered offers its home format.
use Rattle.std.specs.Prelude.{◌≡◌, Bool, true, cond, List, [], ◌∷◌, Some}
use Rattle.std.specs.List.{list_any}
use Rattle.std.specs.Option.{unwrap_or}
use Rattle.std.proofs.Common.{sym, subst, inl, inr, refl}
use Rattle.std.proofs.lemmas.Bool.{and_from, or_cases, or_left, or_right, both_ways, eq-eqb, cases_Bool}
use Rattle.names.specs.declared.kinds.Source.{Source}
use Rattle.names.specs.declared.kinds.PixelFormat.{PixelFormat}
use Rattle.names.specs.Codes.{format_code}
use Rattle.table_scanner.specs.declared.entry.Pair.{Pair}
use Rattle.table_scanner.specs.Lookup.{found}
use Rattle.table_scanner.specs.Entries.{of_source, is_pair}

-- the first pair of an offered source has its home format
pub home_offered : (s : Source) (xs : List Pair) → list_any (of_source s) xs ≡ true → list_any (is_pair s (unwrap_or (found (of_source s) (λ x. x.format) xs) PixelFormat.Gray8)) xs ≡ true
home_offered s [] h = h
home_offered s (x ∷ xs) h =
    let rest = found (of_source s) (λ x. x.format) xs in
    let Goal : Bool → Type 0 = λ b. list_any (is_pair s (unwrap_or (cond b (Some x.format) rest) PixelFormat.Gray8)) (x ∷ xs) ≡ true in
    elim (cases_Bool (of_source s x)) [
      | inl y ↦ subst Goal (sym y) (or_left _ _ (and_from _ _ y (eq-eqb (format_code x.format) _ refl)))
      | inr n ↦ subst Goal (sym n) (or_right _ _ (home_offered s xs (elim (or_cases _ _ h) [ inl y ↦ absurd (both_ways _ n y) | inr r ↦ r ])))
    ]
