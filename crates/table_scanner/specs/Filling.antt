-- What filling calls do, in the words of the catalogue and of the state.
use Rattle.std.specs.Prelude.{◌≡◌, ℕ, ◌+◌, Bool, true, false, cond, not, ◌&&◌, ◌||◌, List, [], ◌∷◌, ℤ, is_some, Some, None, Option, Result, nat_le, unsigned_abs}
use Rattle.names.specs.declared.kinds.Source.{Source}
use Rattle.names.specs.declared.kinds.PixelFormat.{PixelFormat}
use Rattle.names.specs.declared.kinds.Word.{Word}
use Rattle.names.specs.declared.kinds.Value.{Value}
use Rattle.names.specs.declared.kinds.Value.TheVariants as values
use Rattle.names.specs.Numbers.{source_numbered, format_numbered, attribute_numbered, word_numbered}
use Rattle.names.specs.Same.{same_source, same_format, same_word}
use Rattle.scanner.specs.declared.point.Point.{Point}
use Rattle.scanner.specs.Meaning.{Catalogue, State, setting, same_point}
use Rattle.scanners.specs.declared.fault.FillFault.{FillFault}
use Rattle.scanners.specs.Faults.{first_fault, told}
use Rattle.scanners.specs.Ranges.{in_range, is_range}
use Rattle.scanners.specs.declared.values.Values.{Values}
use Rattle.scanners.specs.declared.values.Values.TheVariants as kinds
use Rattle.table_scanner.specs.declared.fill.Fill.{Fill}
use Rattle.table_scanner.specs.declared.fill.Fill.TheVariants as calls
use Rattle.table_scanner.specs.declared.fill.Given.{Given}
use Rattle.table_scanner.specs.declared.fill.Given.TheVariants as given
use Rattle.table_scanner.specs.Bounds.{most_entries}
use Rattle.table_scanner.specs.Device.{Device}

-- what a filling call asks for, once its numbers are read
pub data Change : Type 0 where
  new_source : Source → PixelFormat → Change
  new_format : Source → PixelFormat → Change
  new_attribute : Point → Value → Change
  new_range : Point → ℤ → ℤ → ℕ → Change
  new_word : Point → Word → Change
  new_home : Source → Change

-- g of what is there, or none
abbrev pub within : {X Y : Type 0} → Option X → (X → Option Y) → Option Y
within None g = None
within (Some x) g = g x

-- a pair, a point and a value, by their numbers
abbrev pub pair_numbered : {Y : Type 0} → ℕ → ℕ → (Source → PixelFormat → Option Y) → Option Y
pair_numbered s f g = within (source_numbered s) (λ a. within (format_numbered f) (λ b. g a b))

abbrev pub point_numbered : ℕ → ℕ → ℕ → Option Point
point_numbered s f a = pair_numbered s f (λ x y. within (attribute_numbered a) (λ z. Some (record { source = x; format = y; attribute = z })))

abbrev pub value_given : Given → Option Value
value_given (given.Word w) = within (word_numbered w) (λ x. Some (values.Word x))
value_given (given.Number n) = Some (values.Number n)

-- how a call is read; none where a number is unknown, low is above high or the step is below 1
abbrev pub read : Fill → Option Change
read (calls.Source s f) = pair_numbered s f (λ a b. Some (new_source a b))
read (calls.Format s f) = pair_numbered s f (λ a b. Some (new_format a b))
read (calls.Attribute s f a v) = within (point_numbered s f a) (λ p. within (value_given v) (λ x. Some (new_attribute p x)))
read (calls.Range s f a low high step) = within (point_numbered s f a) (λ p. cond (is_range low high step) (Some (new_range p low high (unsigned_abs step))) None)
read (calls.Word s f a w) = within (point_numbered s f a) (λ p. within (word_numbered w) (λ x. Some (new_word p x)))
read (calls.Home s) = within (source_numbered s) (λ a. Some (new_home a))

-- what it hangs on is not there: a format and the home on their source, an attribute on its pair, a range and a word on their point
abbrev pub missing : Catalogue → Change → Bool
missing k (new_source s f) = false
missing k (new_format s f) = not (k.offers_source s)
missing k (new_attribute p v) = not (k.offers_format p.source p.format)
missing k (new_range p low high step) = not (is_some (k.power_on p))
missing k (new_word p w) = not (is_some (k.power_on p))
missing k (new_home s) = not (k.offers_source s)

-- it is already there; ranges may repeat
abbrev pub already : Catalogue → Change → Bool
already k (new_source s f) = k.offers_source s
already k (new_format s f) = k.offers_format s f
already k (new_attribute p v) = is_some (k.power_on p)
already k (new_range p low high step) = false
already k (new_word p w) = k.offers_value p (values.Word w)
already k (new_home s) = false

-- each is one entry, but for naming the home source
abbrev pub entries_of : Change → ℕ
entries_of (new_source s f) = 1
entries_of (new_format s f) = 1
entries_of (new_attribute p v) = 1
entries_of (new_range p low high step) = 1
entries_of (new_word p w) = 1
entries_of (new_home s) = 0

-- why a call is refused, or none
abbrev pub fault_of : Device → Option Change → Option FillFault
fault_of d None = Some FillFault.BadNumber
fault_of d (Some c) = first_fault false (missing d.catalogue c) (already d.catalogue c) (nat_le (most_entries + 1) (d.entries + entries_of c))

-- one pair more is offered
abbrev pub with_pair : Catalogue → Source → PixelFormat → Source → PixelFormat → Bool
with_pair k s f a g = k.offers_format a g || (same_source s a && same_format f g)

-- a number of a range, and a word
abbrev pub ranges : ℤ → ℤ → ℕ → Value → Bool
ranges low high step (values.Number n) = in_range low high step n
ranges low high step (values.Word w) = false

abbrev pub is_word : Word → Value → Bool
is_word w (values.Word v) = same_word w v
is_word w (values.Number n) = false

-- the catalogue after a call that is carried out: what it brings is there besides, and nothing else is touched
abbrev pub changed : Catalogue → Change → Catalogue
changed k (new_source s f) = record {
  offers_source = λ a. k.offers_source a || same_source s a;
  offers_format = with_pair k s f;
  power_on = k.power_on;
  offers_value = k.offers_value;
  home_source = k.home_source;
  home_format = λ a. cond (same_source s a) f (k.home_format a);
}
changed k (new_format s f) = record {
  offers_source = k.offers_source;
  offers_format = with_pair k s f;
  power_on = k.power_on;
  offers_value = k.offers_value;
  home_source = k.home_source;
  home_format = k.home_format;
}
changed k (new_attribute p v) = record {
  offers_source = k.offers_source;
  offers_format = k.offers_format;
  power_on = λ q. cond (same_point p q) (Some v) (k.power_on q);
  offers_value = k.offers_value;
  home_source = k.home_source;
  home_format = k.home_format;
}
changed k (new_range p low high step) = record {
  offers_source = k.offers_source;
  offers_format = k.offers_format;
  power_on = k.power_on;
  offers_value = λ q v. k.offers_value q v || (same_point p q && ranges low high step v);
  home_source = k.home_source;
  home_format = k.home_format;
}
changed k (new_word p w) = record {
  offers_source = k.offers_source;
  offers_format = k.offers_format;
  power_on = k.power_on;
  offers_value = λ q v. k.offers_value q v || (same_point p q && is_word w v);
  home_source = k.home_source;
  home_format = k.home_format;
}
changed k (new_home s) = record {
  offers_source = k.offers_source;
  offers_format = k.offers_format;
  power_on = k.power_on;
  offers_value = k.offers_value;
  home_source = s;
  home_format = k.home_format;
}

-- the state after it: a new attribute stands at its power-on value, and nothing else is touched
abbrev pub moved : State → Change → State
moved st (new_source s f) = st
moved st (new_format s f) = st
moved st (new_attribute p v) = setting st p v
moved st (new_range p low high step) = st
moved st (new_word p w) = st
moved st (new_home s) = st

abbrev pub carried_out : Device → Change → Device
carried_out d c = record { catalogue = changed d.catalogue c; state = moved d.state c; entries = d.entries + entries_of c }

-- the device after a call: a refusal changes nothing
abbrev pub unless_fault : Option FillFault → Device → Device → Device
unless_fault None new old = new
unless_fault (Some fault) new old = old

abbrev pub after_call : Device → Option Change → Device
after_call d None = d
after_call d (Some c) = unless_fault (fault_of d (Some c)) (carried_out d c) d

-- A filling call: its answer, and the device after it.
pub record Fills (call : Option Change) (old new : Device) (answer : Result (Unit {0}) FillFault) : Type 0 where
  pub says : answer ≡ told (fault_of old call)
  pub after : new ≡ after_call old call

-- the device after a list of calls
abbrev pub all_given : Device → List Fill → Device
all_given d [] = d
all_given d (c ∷ cs) = all_given (after_call d (read c)) cs

-- the two laws of a catalogue
pub record Lawful (k : Catalogue) : Type 0 where
  pub source : k.offers_source k.home_source ≡ true
  pub format : (s : Source) → k.offers_source s ≡ true → k.offers_format s (k.home_format s) ≡ true

-- one word or one range, brought to a point
abbrev pub offer_of : Point → Values → Change
offer_of p (kinds.Word w) = new_word p w
offer_of p (kinds.Range r) = new_range p r.low r.high r.step

-- they hold after any list of calls, from any device of which they hold
abbrev pub FillingKeepsTheLaws : Type 0
FillingKeepsTheLaws = (d : Device) (calls : List Fill) → Lawful d.catalogue → Lawful (all_given d calls).catalogue
