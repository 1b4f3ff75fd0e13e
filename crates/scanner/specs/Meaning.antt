-- What a scanner means: a catalogue, which never changes, and a state.
use Rattle.std.specs.Prelude.{◌≡◌, Bool, true, false, cond, ◌&&◌, is_some, Some, Option}
use Rattle.names.specs.declared.kinds.Source.{Source}
use Rattle.names.specs.declared.kinds.PixelFormat.{PixelFormat}
use Rattle.names.specs.declared.kinds.Value.{Value}
use Rattle.names.specs.Same.{same_source, same_format, same_attribute}
use Rattle.scanner.specs.declared.point.Point.{Point}

-- A source, a format and an attribute of the pair are a point; it has one power-on value, and off a point there is none.
pub record Catalogue : Type 0 where
  pub offers_source : Source → Bool
  pub offers_format : Source → PixelFormat → Bool
  pub power_on : Point → Option Value
  pub offers_value : Point → Value → Bool
  pub home_source : Source
  pub home_format : Source → PixelFormat

-- the enabled pairs, and one current value at each point
pub record State : Type 0 where
  pub enabled : Source → PixelFormat → Bool
  pub current : Point → Option Value

-- Nothing is said off the points: a format is offered at an offered source alone, an attribute at an offered pair alone,
-- a value at a point alone; an offered pair alone is enabled; and a current value stands at each point and nowhere else.
pub record KeepsToPoints (k : Catalogue) (st : State) : Type 0 where
  pub formats : (s : Source) (f : PixelFormat) → k.offers_format s f ≡ true → k.offers_source s ≡ true
  pub attributes : (p : Point) → is_some (k.power_on p) ≡ true → k.offers_format p.source p.format ≡ true
  pub values : (p : Point) (v : Value) → k.offers_value p v ≡ true → is_some (k.power_on p) ≡ true
  pub enabled : (s : Source) (f : PixelFormat) → st.enabled s f ≡ true → k.offers_format s f ≡ true
  pub current : (p : Point) → is_some (st.current p) ≡ is_some (k.power_on p)

abbrev pub same_point : Point → Point → Bool
same_point a b = same_source a.source b.source && (same_format a.format b.format && same_attribute a.attribute b.attribute)

-- no pair enabled, every point at its power-on value
abbrev pub powered : Catalogue → State
powered k = record { enabled = λ s f. false; current = k.power_on }

-- one pair more is enabled, and nothing else is touched
abbrev pub enabling : State → Source → PixelFormat → State
enabling st s f = record { enabled = λ a g. cond (same_source s a && same_format f g) true (st.enabled a g); current = st.current }

-- one point has this value, and nothing else is touched
abbrev pub setting : State → Point → Value → State
setting st p v = record { enabled = st.enabled; current = λ q. cond (same_point p q) (Some v) (st.current q) }

-- two states that agree on every pair and at every point
pub record Agree (a b : State) : Type 0 where
  pub enabled : (s : Source) (f : PixelFormat) → a.enabled s f ≡ b.enabled s f
  pub current : (p : Point) → a.current p ≡ b.current p
