-- What the items of a plan come to, and the loop that puts them in.
use Rattle.std.proofs.Common.{◌≡◌, ℕ, ◌+◌, ◌<◌, ◌≤◌, true, false, cond, ◌&&◌, ◌⊎◌, List, [], ◌∷◌, length, get_or, drop, Some, Decides, sym, refl, ap, ◌∙◌, subst, inl, inr, arith}
use Rattle.std.proofs.lemmas.List.{at_drop_more, at_drop_all}
use Rattle.std.proofs.lemmas.Bool.{cases_Bool, cond-true, cond-false, and_parts, both_ways}
use Rattle.names.specs.declared.kinds.Source.{Source}
use Rattle.names.specs.declared.kinds.PixelFormat.{PixelFormat}
use Rattle.names.specs.declared.kinds.Value.{Value}
use Rattle.names.specs.Same.{same_source, same_format}
use Rattle.scanner.specs.declared.point.Point.{Point}
use Rattle.scanner.specs.declared.plan.Item.{Item}
use Rattle.scanner.specs.declared.plan.Item.TheVariants as items
use Rattle.scanner.specs.Meaning.{Catalogue, State, powered, setting, same_point}
use Rattle.scanner.specs.Plan.{item_offered, AllOffered, offered_of, item_put, items_put, plan_put, InPlan, NoLine, LastLine, InForce}
use Rattle.scanner.proofs.Sames.{source_eq, format_eq, point_eq, pair_refl, point_refl}

-- a point after some items: its last line's value, or as it was
abbrev Stood : State → List Item → State → Point → Type 0
Stood old plan new p = ((v : Value) × LastLine plan p v × (new.current p ≡ Some v)) ⊎ (NoLine plan p × (new.current p ≡ old.current p))

-- an item that is no line at p leaves p alone
past : (x : Item) (xs : List Item) (p : Point) → ((v : Value) → x ≡ items.Line p v → ⊥) → NoLine xs p → NoLine (x ∷ xs) p
past x xs p off none v (inl e) = off v e
past x xs p off none v (inr h) = none v h

first_line : (q p : Point) (w : Value) (xs : List Item) (st : State) (new : State) → NoLine xs p → new.current p ≡ (setting st q w).current p → Stood st (items.Line q w ∷ xs) new p
first_line q p w xs st new none e =
    elim (cases_Bool (same_point q p)) [
      | inl y ↦ let same = point_eq q p y in inl (w, record { before = []; after = xs; split = ap (λ z. items.Line z w ∷ xs) same; last = none }, e ∙ cond-true _ _ _ y)
      | inr n ↦ inr (past (items.Line q w) xs p (λ v h. let same : q ≡ p = cc in both_ways _ n (subst (λ z. same_point q z ≡ true) same (point_refl q))) none, e ∙ cond-false _ _ _ n)
    ]

first_point : (x : Item) (xs : List Item) (st new : State) (p : Point) → NoLine xs p → new.current p ≡ (item_put st x).current p → Stood st (x ∷ xs) new p
first_point (items.Source s) xs st new p none e = inr (past (items.Source s) xs p (λ v h. let z : ◌≡◌ {A = ℕ} 0 1 = cc in omega arith) none, e)
first_point (items.Pair s f) xs st new p none e = inr (past (items.Pair s f) xs p (λ v h. let z : ◌≡◌ {A = ℕ} 0 1 = cc in omega arith) none, e)
first_point (items.Line q w) xs st new p none e = first_line q p w xs st new none e

stood : (xs : List Item) (st : State) (p : Point) → Stood st xs (items_put st xs) p
stood [] st p = inr (λ v h. h, refl)
stood (x ∷ xs) st p =
    elim (stood xs (item_put st x) p) [
      | inl l ↦ inl (l.0, record { before = x ∷ l.1.before; after = l.1.after; split = ap (λ ys. x ∷ ys) l.1.split; last = l.1.last }, l.2)
      | inr n ↦ first_point x xs st (items_put (item_put st x) xs) p n.0 n.1
    ]

-- a pair after one item: enabled before it, or by it
first_pair : (x : Item) (st : State) (s : Source) (f : PixelFormat) → Decides ((item_put st x).enabled s f) ((st.enabled s f ≡ true) ⊎ (x ≡ items.Pair s f))
first_pair (items.Source a) st s f = (λ h. inl h, λ h. elim h [ inl e ↦ e | inr e ↦ absurd (let z : ◌≡◌ {A = ℕ} 0 1 = cc in omega arith) ])
first_pair (items.Line p v) st s f = (λ h. inl h, λ h. elim h [ inl e ↦ e | inr e ↦ absurd (let z : ◌≡◌ {A = ℕ} 0 1 = cc in omega arith) ])
first_pair (items.Pair a g) st s f = (
  λ h. elim (cases_Bool (same_source a s && same_format g f)) [
    | inl y ↦ let parts = and_parts (same_source a s) _ y in let e = source_eq a s parts.0 in let d = format_eq g f parts.1 in inr (cc)
    | inr n ↦ inl (sym (cond-false _ _ _ n) ∙ h)
  ],
  λ h. elim (cases_Bool (same_source a s && same_format g f)) [
    | inl y ↦ cond-true _ _ _ y
    | inr n ↦ elim h [
      | inl e ↦ cond-false _ _ _ n ∙ e
      | inr e ↦ let q : a ≡ s = cc in let r : g ≡ f = cc in absurd (both_ways _ n (subst (λ z. (same_source a z && same_format g f) ≡ true) q (subst (λ z. (same_source a a && same_format g z) ≡ true) r (pair_refl a g))))
    ]
  ],
)

paired : (xs : List Item) (st : State) (s : Source) (f : PixelFormat) → Decides ((items_put st xs).enabled s f) ((st.enabled s f ≡ true) ⊎ InPlan xs (items.Pair s f))
paired [] st s f = (λ h. inl h, λ h. elim h [ inl e ↦ e | inr e ↦ absurd e ])
paired (x ∷ xs) st s f =
    let rest = paired xs (item_put st x) s f in
    let one = first_pair x st s f in (
      λ h. elim (rest.0 h) [ inl e ↦ elim (one.0 e) [ inl d ↦ inl d | inr d ↦ inr (inl d) ] | inr e ↦ inr (inr e) ],
      λ h. rest.1 (elim h [ inl e ↦ inl (one.1 (inl e)) | inr e ↦ elim e [ inl d ↦ inl (one.1 (inr d)) | inr d ↦ inr d ] ]),
    )

-- items that are put in from power-on are in force
pub in_force_lem : (k : Catalogue) (xs : List Item) → InForce k xs (items_put (powered k) xs)
in_force_lem k xs =
    record {
      pairs = λ s f. let both = paired xs (powered k) s f in
          (λ h. elim (both.0 h) [ inl e ↦ absurd (both_ways false refl e) | inr e ↦ e ], λ h. both.1 (inr h));
      points = stood xs (powered k);
    }

-- where all are offered, none is left out
pub all_offered : (k : Catalogue) (xs : List Item) → AllOffered k xs → offered_of k xs ≡ xs
all_offered k [] h = refl
all_offered k (x ∷ xs) h = cond-true _ _ _ h.0 ∙ ap (λ ys. x ∷ ys) (all_offered k xs h.1)

-- The loop: what it has done so far and what is left of the plan come to the whole.
pub record Going (k : Catalogue) (plan rest : List Item) (now : Catalogue) (st : State) : Type 0 where
  pub same : now ≡ k
  pub ends : items_put st (offered_of k rest) ≡ plan_put k plan

-- one item: taken in where it is offered, told no where not
put_one : (k : Catalogue) (st : State) (x : Item) (xs : List Item) → items_put (cond (item_offered k x) (item_put st x) st) (offered_of k xs) ≡ items_put st (offered_of k (x ∷ xs))
put_one k st x xs = elim (cases_Bool (item_offered k x)) [ inl y ↦ rw y | inr n ↦ rw n ]

pub going_more :
    (k : Catalogue) (plan : List Item) (i : ℕ) (d : Item) (was now : Catalogue) (st st' : State)
    → Going k plan (drop i plan) was st
    → i < length plan
    → now ≡ was
    → st' ≡ cond (item_offered was (get_or plan i d)) (item_put st (get_or plan i d)) st
    → Going k plan (drop (i + 1) plan) now st'
going_more k plan i d was now st st' g h same after =
    let x = get_or plan i d in
    let is : st' ≡ cond (item_offered k x) (item_put st x) st = after ∙ ap (λ q. cond (item_offered q x) (item_put st x) st) g.same in
    record {
      same = same ∙ g.same;
      ends = ap (λ s. items_put s (offered_of k (drop (i + 1) plan))) is ∙ put_one k st x (drop (i + 1) plan) ∙ sym (at_drop_more (λ xs. items_put st (offered_of k xs)) plan i d h) ∙ g.ends;
    }

pub going_all : (k : Catalogue) (plan : List Item) (i : ℕ) (now : Catalogue) (st : State) → Going k plan (drop i plan) now st → length plan ≤ i → st ≡ plan_put k plan
going_all k plan i now st g h = sym (at_drop_all (λ xs. items_put st (offered_of k xs)) plan i h) ∙ g.ends
