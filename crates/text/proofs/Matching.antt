-- Units compared one by one.
use Rattle.std.proofs.Common.{◌≡◌, ℕ, suc, ◌+◌, ◌<◌, ◌≤◌, Bool, true, false, not, ◌&&◌, eqb, List, [], ◌∷◌, map, length, get_or, drop, Some, None, Option, MatchOption, is_some, Bor, sym, refl, ap, ◌∙◌, arith, eq-eqb}
use Rattle.std.proofs.lemmas.List.{drop_all, drop_more, map-id}
use Rattle.std.proofs.lemmas.Bool.Decides.{nat_tests}
use Rattle.std.proofs.lemmas.Bool.{cond-true, cond-false}
use Rattle.text.specs.Strings.{adds, goes, before, units, high, low, pair, joined, paired, Tells, matching, alike, MatchesAreEqual}
use Rattle.text.specs.declared.string.Mode.{Mode}

next : (m : Mode) (xs : List ℕ) (i : ℕ) → i < length xs → units m (drop i xs) ≡ before (adds m (get_or xs i 0)) (units (goes m (get_or xs i 0)) (drop (i + 1) xs))
unfolding units
next m xs i h = rw (drop_more xs i 0 h) refl

-- a byte that completes a unit
unit_some : (m : Mode) (xs : List ℕ) (i u : ℕ) → i < length xs → adds m (get_or xs i 0) ≡ Some u → units m (drop i xs) ≡ u ∷ units (goes m (get_or xs i 0)) (drop (i + 1) xs)
unit_some m xs i u h a = rw (next m xs i h, a) refl

-- a byte that completes none
pub unit_none : (m : Mode) (xs : List ℕ) (i : ℕ) → i < length xs → adds m (get_or xs i 0) ≡ None → units m (drop i xs) ≡ units (goes m (get_or xs i 0)) (drop (i + 1) xs)
unit_none m xs i h a = rw (next m xs i h, a) refl

pub match_true : (f : Bool) (u : ℕ) (us : List ℕ) (v : ℕ) (vs : List ℕ) → alike f u v ≡ true → matching f (u ∷ us) (v ∷ vs) ≡ matching f us vs
unfolding matching
match_true f u us v vs e = rw (e, matching) refl

pub match_false : (f : Bool) (u : ℕ) (us : List ℕ) (v : ℕ) (vs : List ℕ) → alike f u v ≡ false → matching f (u ∷ us) (v ∷ vs) ≡ false
unfolding matching
match_false f u us v vs e = rw (e, matching) refl

-- a byte of a string that completes the unit u, and the letters of a name that are left
module _ (f : Bool) (raw : List ℕ) (m : Mode) (i u : ℕ) (inside : i < length raw) (unit : adds m (get_or raw i 0) ≡ Some u) where
  pub same : (v : ℕ) (vs ns : List ℕ) → ns ≡ v ∷ vs → alike f u v ≡ true → matching f (units m (drop i raw)) ns ≡ matching f (units (goes m (get_or raw i 0)) (drop (i + 1) raw)) vs
  same v vs ns q e = rw (unit_some m raw i u inside unit, q) (match_true f u _ v vs e)

  pub other : (v : ℕ) (vs ns : List ℕ) → ns ≡ v ∷ vs → alike f u v ≡ false → matching f (units m (drop i raw)) ns ≡ false
  other v vs ns q e = rw (unit_some m raw i u inside unit, q) (match_false f u _ v vs e)

  pub too_many : (ns : List ℕ) → length ns ≡ 0 → matching f (units m (drop i raw)) ns ≡ false
  unfolding matching
  too_many [] e = rw (unit_some m raw i u inside unit) refl
  too_many (v ∷ vs) e = absurd (omega arith)

is_not : (b x : Bool) → x ≡ not b → b ≡ not x
is_not true x e = rw e refl
is_not false x e = rw e refl

-- after the last byte no letter may be left
pub ended : (f : Bool) (raw : List ℕ) (m : Mode) (i : ℕ) → length raw ≤ i → (ns vs : List ℕ) (r : Option (Bor ℕ)) (P : Type 0) → MatchOption r ((length ns ≡ 0) × P) (λ x. ns ≡ x.now ∷ vs) → (b : Bool) → is_some r ≡ not b → b ≡ matching f (units m (drop i raw)) ns
unfolding units matching
ended f raw m i h [] vs None P q b e = rw (drop_all i raw h) (is_not b false e)
ended f raw m i h (v ∷ ns) vs None P q b e = absurd (omega arith)
ended f raw m i h [] vs (Some x) P q b e = cc
ended f raw m i h (v ∷ ns) vs (Some x) P q b e = rw (drop_all i raw h) (is_not b true e)

-- no byte is like a unit beyond them
beyond : (f : Bool) (u v : ℕ) → 384 ≤ u → v < 256 → alike f u v ≡ false
beyond true u v h k = grind (arith, nat_tests)
beyond false u v h k = grind (arith, nat_tests)

by_join : (f c : Bool) (u v : ℕ) (vs ns : List ℕ) → (high u && low v) ≡ c → ((i : ℕ) → get_or ns i 0 < 256) → matching f (joined u (v ∷ vs)) ns ≡ matching f (u ∷ v ∷ vs) ns
unfolding matching
by_join f false u v vs ns e b = ap (λ x. matching f x ns) (cond-false (high u && low v) _ _ e)
by_join f true u v vs [] e b = ap (λ x. matching f x []) (cond-true (high u && low v) _ _ e)
by_join f true u v vs (n ∷ ns) e b =
    let h : 55552 ≤ u = grind (arith, nat_tests) in
    let k : n < 256 = b 0 in
    ap (λ x. matching f x (n ∷ ns)) (cond-true (high u && low v) _ _ e) ∙ match_false f (pair u v) vs n ns (beyond f (pair u v) n (omega arith) k) ∙ sym (match_false f u (v ∷ vs) n ns (beyond f u n (omega arith) k))

join_matching : (f : Bool) (u : ℕ) (vs ns : List ℕ) → ((i : ℕ) → get_or ns i 0 < 256) → matching f (joined u vs) ns ≡ matching f (u ∷ vs) ns
join_matching f u [] ns b = refl
join_matching f u (v ∷ vs) ns b = by_join f (high u && low v) u v vs ns refl b

by_unit : (f c : Bool) (u : ℕ) (us vs : List ℕ) (n : ℕ) (ns : List ℕ) → alike f u n ≡ c → matching f us ns ≡ matching f vs ns → matching f (u ∷ us) (n ∷ ns) ≡ matching f (u ∷ vs) (n ∷ ns)
by_unit f true u us vs n ns e h = match_true f u us n ns e ∙ h ∙ sym (match_true f u vs n ns e)
by_unit f false u us vs n ns e h = match_false f u us n ns e ∙ sym (match_false f u vs n ns e)

-- a name of bytes is matched by the units as it is by the characters
pub paired_matching : (f : Bool) (us ns : List ℕ) → ((i : ℕ) → get_or ns i 0 < 256) → matching f (paired us) ns ≡ matching f us ns
unfolding paired matching
paired_matching f [] ns b = refl
paired_matching f (u ∷ us) [] b = join_matching f u (paired us) [] b
paired_matching f (u ∷ us) (n ∷ ns) b = join_matching f u (paired us) (n ∷ ns) b ∙ by_unit f (alike f u n) u (paired us) us n ns refl (paired_matching f us ns (λ i. b (suc i)))

-- a test of units by a key tells whether the keys are equal
module _ (f : Bool) (g : ℕ → ℕ) (key : (u v : ℕ) → alike f u v ≡ eqb (g u) (g v)) where
  by_key : (c : Bool) (u v : ℕ) (us vs : List ℕ) → alike f u v ≡ c → matching f (u ∷ us) (v ∷ vs) ≡ true → (matching f us vs ≡ true → map g us ≡ map g vs) → map g (u ∷ us) ≡ map g (v ∷ vs)
  by_key true u v us vs q e ih =
      let k : eqb (g u) (g v) ≡ true = sym (key u v) ∙ q in
      let h : g u ≡ g v = grind (arith, nat_tests) in
      let t = ih (sym (match_true f u us v vs q) ∙ e) in
      cc
  by_key false u v us vs q e ih = cc (match_false f u us v vs q)

  equal_keys : (us vs : List ℕ) → matching f us vs ≡ true → map g us ≡ map g vs
  unfolding matching
  equal_keys [] [] e = refl
  equal_keys [] (v ∷ vs) e = cc
  equal_keys (u ∷ us) [] e = cc
  equal_keys (u ∷ us) (v ∷ vs) e = by_key (alike f u v) u v us vs refl e (equal_keys us vs)

  keys_equal : (us vs : List ℕ) → map g us ≡ map g vs → matching f us vs ≡ true
  unfolding matching
  keys_equal [] [] e = refl
  keys_equal [] (v ∷ vs) e = cc
  keys_equal (u ∷ us) [] e = cc
  keys_equal (u ∷ us) (v ∷ vs) e =
      let h : g u ≡ g v = cc in
      let t : map g us ≡ map g vs = cc in
      match_true f u us v vs (key u v ∙ eq-eqb (g u) (g v) h) ∙ keys_equal us vs t

  keys_tell : (us vs : List ℕ) → Tells (matching f us vs) (map g us ≡ map g vs)
  keys_tell us vs = record { holds = equal_keys us vs; told = keys_equal us vs }

  pub key_tells : (r : Bool) (us ns : List ℕ) → r ≡ matching f us ns → ((i : ℕ) → get_or ns i 0 < 256) → Tells r (map g (paired us) ≡ map g ns)
  key_tells r us ns e b = record {
    holds = λ t. equal_keys (paired us) ns (paired_matching f us ns b ∙ sym e ∙ t);
    told = λ t. e ∙ sym (paired_matching f us ns b) ∙ keys_equal (paired us) ns t;
  }

-- units match letters where they are the same, and nowhere else
pub matches_equal : MatchesAreEqual
matches_equal us vs = let t = keys_tell false (λ x. x) (λ u v. refl) us vs in record { holds = λ e. sym (map-id us) ∙ t.holds e ∙ map-id vs; told = λ e. t.told (map-id us ∙ e ∙ sym (map-id vs)) }

-- so a test that tells whether they are the same is the match of their letters
same_answer : (r b : Bool) (P : Type 0) → Tells r P → Tells b P → r ≡ b
same_answer true b P p q = sym (q.told (p.holds refl))
same_answer false true P p q = p.told (q.holds refl)
same_answer false false P p q = refl

pub tested : (r : Bool) (us vs : List ℕ) → Tells r (us ≡ vs) → r ≡ matching false us vs
tested r us vs t = same_answer r (matching false us vs) (us ≡ vs) t (matches_equal us vs)
