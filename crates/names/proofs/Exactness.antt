-- A string that names something is spelled as its name.
use Rattle.std.proofs.Common.{◌≡◌, ℕ, zero, suc, ◌+◌, ◌<◌, Bool, true, false, eqb, List, [], ◌∷◌, length, get_or, Some, None, Option, refl, ap, ◌∙◌, arith}
use Rattle.std.proofs.lemmas.Bool.Decides.{nat_tests}
use Rattle.std.specs.Option.{option_map}
use Rattle.text.specs.Strings.{matching, MatchesAreEqual}
use Rattle.names.specs.Names.{later, place}
use Rattle.names.specs.Vocabulary.{listed}

-- the name that was found
pub record Found (x : List ℕ) (ns : List (List ℕ)) (i : ℕ) : Type 0 where
  pub within : i < length ns
  pub spelt : x ≡ get_or ns i []

by_later : (x n : List ℕ) (ns : List (List ℕ)) (o : Option ℕ) (i : ℕ) → later o ≡ Some i → ((j : ℕ) → o ≡ Some j → Found x ns j) → Found x (n ∷ ns) i
by_later x n ns None i e h = absurd (let z : ◌≡◌ {A = ℕ} 0 1 = cc in omega arith)
by_later x n ns (Some j) zero e h = absurd (let z : suc j ≡ 0 = cc in omega arith)
by_later x n ns (Some j) (suc i) e h =
    let k : suc j ≡ suc i = cc in
    let q : j ≡ i = omega arith in
    let f = h i (ap (λ (m : ℕ). Some m) q) in
    record { within = omega (arith, f.within); spelt = f.spelt }

-- units match the letters that they are, and no others
module _ (matches : MatchesAreEqual) where
  by_match : (b : Bool) (x n : List ℕ) (ns : List (List ℕ)) (i : ℕ) → matching false x n ≡ b → place x (n ∷ ns) ≡ Some i → ((j : ℕ) → place x ns ≡ Some j → Found x ns j) → Found x (n ∷ ns) i
  unfolding place
  by_match true x n ns zero m e h = record { within = omega arith; spelt = (matches x n).holds m }
  by_match true x n ns (suc i) m e h = let p : Some 0 ≡ Some (suc i) = rw (place, m) at e in absurd (let z : 0 ≡ suc i = cc in omega arith)
  by_match false x n ns i m e h = let p : later (place x ns) ≡ Some i = rw (place, m) at e in by_later x n ns (place x ns) i p h

  pub found : (x : List ℕ) (ns : List (List ℕ)) (i : ℕ) → place x ns ≡ Some i → Found x ns i
  unfolding place
  found x [] i e = absurd (let z : ◌≡◌ {A = ℕ} 0 1 = cc in omega arith)
  found x (n ∷ ns) i e = by_match (matching false x n) x n ns i refl e (found x ns)

-- the codes of a list count up from a number
abbrev pub numbered : {K : Type 0} → (K → ℕ) → ℕ → List K → Bool
numbered code n [] = true
numbered code n (k ∷ ks) = elim (eqb (code k) n) [ true ↦ numbered code (suc n) ks | false ↦ false ]

by_number : {K : Type 0} (code : K → ℕ) (b : Bool) (n : ℕ) (k : K) (ks : List K) → eqb (code k) n ≡ b → numbered code n (k ∷ ks) ≡ true → (code k ≡ n) × (numbered code (suc n) ks ≡ true)
by_number code true n k ks e h = (grind (arith, nat_tests), rw (numbered, e) at h)
by_number code false n k ks e h = let p : false ≡ true = rw (numbered, e) at h in absurd (let z : ◌≡◌ {A = ℕ} 0 1 = cc in omega arith)

code_at : {K : Type 0} (code : K → ℕ) (n : ℕ) (ks : List K) (i : ℕ) (d : K) → numbered code n ks ≡ true → i < length ks → code (get_or ks i d) ≡ n + i
code_at code n [] i d h l = absurd (omega arith)
code_at code n (k ∷ ks) zero d h l = let e = by_number code (eqb (code k) n) n k ks refl h in omega (arith, e.0)
code_at code n (k ∷ ks) (suc i) d h l = let e = by_number code (eqb (code k) n) n k ks refl h in let r = code_at code (suc n) ks i d e.1 (omega arith) in omega arith

module _ (matches : MatchesAreEqual) {K : Type 0} (code : K → ℕ) (ks : List K) (d : K) (ns : List (List ℕ)) (long : length ns ≡ length ks) (count : numbered code 0 ks ≡ true) where
  by_place : (o : Option ℕ) (x : List ℕ) (k : K) → place x ns ≡ o → option_map (λ i. get_or ks i d) o ≡ Some k → x ≡ get_or ns (code k) []
  by_place None x k p e = absurd (let z : ◌≡◌ {A = ℕ} 0 1 = cc in omega arith)
  by_place (Some i) x k p e =
      let f = found matches x ns i p in
      let g : get_or ks i d ≡ k = cc in
      let w : i < length ks = omega (arith, f.within) in
      let q = code_at code 0 ks i d count w in
      let z : i ≡ code k = (let y : i ≡ code (get_or ks i d) = omega arith in y) ∙ ap code g in
      f.spelt ∙ ap (λ j. get_or ns j []) z

  pub exact : (x : List ℕ) (k : K) → listed ks d ns x ≡ Some k → x ≡ get_or ns (code k) []
  exact x k e = by_place (place x ns) x k refl e
