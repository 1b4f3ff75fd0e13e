-- What a scanner holds once a plan is put in.
use Rattle.std.specs.Prelude.{◌≡◌, Bool, true, ◌⊎◌, List, [], ◌∷◌, ◌++◌, Some, Decides, filter}
use Rattle.std.specs.List.{AllByRecursion}
use Rattle.names.specs.declared.kinds.Source.{Source}
use Rattle.names.specs.declared.kinds.PixelFormat.{PixelFormat}
use Rattle.names.specs.declared.kinds.Value.{Value}
use Rattle.scanner.specs.declared.point.Point.{Point}
use Rattle.scanner.specs.declared.plan.Item.{Item}
use Rattle.scanner.specs.declared.plan.Item.TheVariants as items
use Rattle.scanner.specs.Meaning.{Catalogue, State, powered, enabling, setting}

-- a scanner with this catalogue says yes to the item; the head of a source asks nothing of it
abbrev pub item_offered : Catalogue → Item → Bool
item_offered k (items.Source s) = true
item_offered k (items.Pair s f) = k.offers_format s f
item_offered k (items.Line p v) = k.offers_value p v

-- every item of the plan is offered
abbrev pub AllOffered : Catalogue → List Item → Type 0
AllOffered k plan = AllByRecursion (λ x. item_offered k x ≡ true) plan

-- the items of the plan that are offered, in order: the others are told no and have no effect
abbrev pub offered_of : Catalogue → List Item → List Item
offered_of k plan = filter (item_offered k) plan

-- the state after one item that is offered
abbrev pub item_put : State → Item → State
item_put st (items.Source s) = st
item_put st (items.Pair s f) = enabling st s f
item_put st (items.Line p v) = setting st p v

-- the state after items that are offered, one after the other
abbrev pub items_put : State → List Item → State
items_put st [] = st
items_put st (x ∷ xs) = items_put (item_put st x) xs

-- the state that a plan leaves: from power-on, each item that is offered in its turn
abbrev pub plan_put : Catalogue → List Item → State
plan_put k plan = items_put (powered k) (offered_of k plan)

-- the item stands somewhere in the plan
abbrev pub InPlan : List Item → Item → Type 0
InPlan [] x = ⊥
InPlan (y ∷ ys) x = (y ≡ x) ⊎ InPlan ys x

-- no line of the plan is at this point
abbrev pub NoLine : List Item → Point → Type 0
NoLine plan p = (v : Value) → InPlan plan (items.Line p v) → ⊥

-- the last line of the plan at this point gives it this value
pub record LastLine (plan : List Item) (p : Point) (v : Value) : Type 0 where
  pub before : List Item
  pub after : List Item
  pub split : plan ≡ before ++ (items.Line p v ∷ after)
  pub last : NoLine after p

-- The plan is in force: just its pairs are enabled, and each point is at its last line's value or, lacking one, at its power-on value.
pub record InForce (k : Catalogue) (plan : List Item) (st : State) : Type 0 where
  pub pairs : (s : Source) (f : PixelFormat) → Decides (st.enabled s f) (InPlan plan (items.Pair s f))
  pub points : (p : Point) → ((v : Value) × LastLine plan p v × (st.current p ≡ Some v)) ⊎ (NoLine plan p × (st.current p ≡ k.power_on p))

-- A plan whose items are all offered is in force in the state that it leaves.
pub record OfferedInForce : Type 0 where
  pub left : (k : Catalogue) (plan : List Item) → AllOffered k plan → InForce k plan (plan_put k plan)
