-- Names that lie end to end in a table of letters, and which of them a string stands for.
use Rattle.std.specs.Prelude.{ℕ, suc, Bool, true, false, List, [], ◌∷◌, Some, None, Option, slice_index_or, slice_range}
use Rattle.text.specs.Strings.{matching}

-- the letters from one place to another
abbrev pub part : List ℕ → ℕ → ℕ → List ℕ
part letters from to = slice_range letters from to

-- the names after a start, each up to the next start
unfoldable pub names_from : List ℕ → ℕ → List ℕ → List (List ℕ)
names_from letters from [] = []
names_from letters from (to ∷ starts) = part letters from to ∷ names_from letters to starts

-- the names of a table of letters and starts, whose last start is where the last name ends
unfoldable pub names_of : List ℕ → List ℕ → List (List ℕ)
names_of letters [] = []
names_of letters (from ∷ starts) = names_from letters from starts

-- the name with a number; none past the last
abbrev pub name_at : List ℕ → List ℕ → ℕ → List ℕ
name_at letters starts i = slice_index_or (names_of letters starts) i []

-- one place further on, if there is one
abbrev pub later : Option ℕ → Option ℕ
later None = None
later (Some i) = Some (suc i)

-- the place of the first of the names that is spelled so
unfoldable pub place : List ℕ → List (List ℕ) → Option ℕ
place x [] = None
place x (n ∷ ns) = elim (matching false x n) [ true ↦ Some 0 | false ↦ later (place x ns) ]

-- no two of the names are spelled alike
unfoldable pub distinct : List (List ℕ) → Bool
distinct [] = true
distinct (n ∷ ns) = elim (place n ns) [ Some i ↦ false | None ↦ distinct ns ]
