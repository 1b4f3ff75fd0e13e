-- Looking a string up among names.
use Rattle.std.proofs.Common.{◌≡◌, ℕ, zero, suc, ◌-◌, ◌<◌, ◌≤◌, min, true, false, List, [], ◌∷◌, length, get_or, drop, Some, None, Option, sym, refl, ap, ◌∙◌, inl, inr, arith, length-drop}
use Rattle.std.specs.Option.{MatchOption}
use Rattle.std.proofs.lemmas.Bool.{cases_lt}
use Rattle.std.proofs.lemmas.List.{take_all}
use Rattle.text.specs.Strings.{matching}
use Rattle.names.specs.Names.{part, names_from, names_of, name_at, later, place}

-- the names of a table by their numbers
pub name_from : (ls : List ℕ) (a : ℕ) (ss : List ℕ) (i : ℕ) → i < length ss → get_or (names_from ls a ss) i [] ≡ part ls (get_or (a ∷ ss) i 0) (get_or ss i 0)
unfolding names_from
name_from ls a [] i h = absurd (omega arith)
name_from ls a (b ∷ ss) zero h = refl
name_from ls a (b ∷ ss) (suc i) h = name_from ls b ss i (omega arith)

pub names_long : (ls : List ℕ) (a : ℕ) (ss : List ℕ) → length (names_from ls a ss) ≡ length ss
unfolding names_from
names_long ls a [] = refl
names_long ls a (b ∷ ss) = ap suc (names_long ls b ss)

pub name_past : (ls : List ℕ) (a : ℕ) (ss : List ℕ) (i : ℕ) → length ss ≤ i → get_or (names_from ls a ss) i [] ≡ []
unfolding names_from
name_past ls a [] i h = refl
name_past ls a (b ∷ ss) zero h = absurd (omega arith)
name_past ls a (b ∷ ss) (suc i) h = name_past ls b ss i (omega arith)

pub name_is : (ls ss : List ℕ) (i : ℕ) → suc i < length ss → name_at ls ss i ≡ part ls (get_or ss i 0) (get_or ss (suc i) 0)
unfolding names_of
name_is ls [] i h = absurd (omega arith)
name_is ls (a ∷ ss) i h = name_from ls a ss i (omega arith)

pub name_none : (ls ss : List ℕ) (i : ℕ) → length ss ≤ suc i → name_at ls ss i ≡ []
unfolding names_of
name_none ls [] i h = refl
name_none ls (a ∷ ss) i h = name_past ls a ss i (omega arith)

pub names_count : (ls ss : List ℕ) → length (names_of ls ss) ≡ length ss - 1
unfolding names_of
names_count ls [] = refl
names_count ls (a ∷ ss) = let e = names_long ls a ss in omega arith

-- a name that would reach beyond the letters ends with them
pub part_within : (ls : List ℕ) (a b m : ℕ) → m ≡ min b (length ls) → part ls a m ≡ part ls a b
part_within ls a b m e = elim (cases_lt b (length ls)) [ inl h ↦ ap (part ls a) (let k : m ≡ b = omega arith in k) | inr h ↦ let k : m ≡ length ls = omega arith in ap (part ls a) k ∙ take_all (length ls - a) (drop a ls) (simp length-drop (omega arith)) ∙ sym (take_all (b - a) (drop a ls) (simp length-drop (omega arith))) ]

pub part_none : (ls : List ℕ) (a b m : ℕ) → m ≡ min b (length ls) → m ≤ a → part ls a b ≡ []
part_none ls a b m e h = sym (part_within ls a b m e) ∙ (let k : m - a ≡ 0 = omega arith in rw k refl)

-- none of the names is spelled so
pub place_none : (x : List ℕ) (ns : List (List ℕ)) → ((k : ℕ) → k < length ns → matching false x (get_or ns k []) ≡ false) → place x ns ≡ None
unfolding place
place_none x [] h = refl
place_none x (n ∷ ns) h = rw (place, h 0 (omega arith)) (ap later (place_none x ns (λ k l. h (suc k) (omega arith))))

-- the name at i is spelled so, and none before it
pub place_at : (x : List ℕ) (ns : List (List ℕ)) (i : ℕ) → i < length ns → matching false x (get_or ns i []) ≡ true → ((k : ℕ) → k < i → matching false x (get_or ns k []) ≡ false) → place x ns ≡ Some i
unfolding place
place_at x [] i l m h = absurd (omega arith)
place_at x (n ∷ ns) zero l m h = rw (place, m) refl
place_at x (n ∷ ns) (suc i) l m h = rw (place, h 0 (omega arith)) (ap later (place_at x ns i (omega arith) m (λ k l. h (suc k) (omega arith))))

-- the place is what a search along the names finds
pub place_found :
    (x : List ℕ) (ns : List (List ℕ)) (n : ℕ) (o : Option ℕ)
    → n ≡ length ns
    → MatchOption o ((k : ℕ) → 0 ≤ k → k < n → matching false x (get_or ns k []) ≡ false) (λ i. (0 ≤ i) × (i < n) × (matching false x (get_or ns i []) ≡ true) × ((k : ℕ) → 0 ≤ k → k < i → matching false x (get_or ns k []) ≡ false))
    → o ≡ place x ns
place_found x ns n None e h = sym (place_none x ns (λ k l. h k (omega arith) (omega arith)))
place_found x ns n (Some i) e h = sym (place_at x ns i (omega arith) h.2 (λ k l. h.3 k (omega arith) l))
