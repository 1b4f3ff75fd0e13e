-- What lists of pairs, settings and offers say of a catalogue and of a state.
use Rattle.std.specs.Prelude.{◌≡◌, Bool, true, false, cond, ◌&&◌, List, is_some, None, Option}
use Rattle.std.specs.List.{list_any}
use Rattle.std.specs.Option.{unwrap_or}
use Rattle.names.specs.declared.kinds.Source.{Source}
use Rattle.names.specs.declared.kinds.PixelFormat.{PixelFormat}
use Rattle.names.specs.declared.kinds.Value.{Value}
use Rattle.names.specs.Same.{same_source, same_format}
use Rattle.scanner.specs.declared.point.Point.{Point}
use Rattle.scanner.specs.Meaning.{Catalogue, State, same_point}
use Rattle.scanners.specs.Values.{is_one_of}
use Rattle.table_scanner.specs.declared.entry.Pair.{Pair}
use Rattle.table_scanner.specs.declared.entry.Setting.{Setting}
use Rattle.table_scanner.specs.declared.entry.Offer.{Offer}
use Rattle.table_scanner.specs.Lookup.{found}

-- the tests: a pair of this source, this pair, the setting at this point, an offer of this value at this point
abbrev pub of_source : Source → Pair → Bool
of_source s x = same_source x.source s

abbrev pub is_pair : Source → PixelFormat → Pair → Bool
is_pair s f x = same_source x.source s && same_format x.format f

abbrev pub at_point : Point → Setting → Bool
at_point p x = same_point x.point p

abbrev pub offering : Point → Value → Offer → Bool
offering p v x = same_point x.point p && is_one_of x.values v

-- the pair of a point is there
abbrev pub pair_there : List Pair → Point → Bool
pair_there pairs p = list_any (is_pair p.source p.format) pairs

-- what is looked up at a point: first its pair, then its setting
abbrev pub looked_up : {X : Type 0} → (Setting → X) → List Pair → List Setting → Point → Option X
looked_up part pairs settings p = cond (pair_there pairs p) (found (at_point p) part settings) None

-- every setting is made at a pair that is there
abbrev pub Paired : List Pair → List Setting → Type 0
Paired pairs settings = (p : Point) → list_any (at_point p) settings ≡ true → pair_there pairs p ≡ true

-- every offer is made at a point that has a setting
abbrev pub Anchored : List Setting → List Offer → Type 0
Anchored settings offers = (p : Point) (v : Value) → list_any (offering p v) offers ≡ true → list_any (at_point p) settings ≡ true

-- what the lists offer: a value is looked for once its pair and its point are found
abbrev pub listed_catalogue : List Pair → List Setting → List Offer → Source → Catalogue
listed_catalogue pairs settings offers home = record {
  offers_source = λ s. list_any (of_source s) pairs;
  offers_format = λ s f. list_any (is_pair s f) pairs;
  power_on = looked_up (λ x. x.initial) pairs settings;
  offers_value = λ p v. is_some (looked_up (λ x. x.initial) pairs settings p) && list_any (offering p v) offers;
  home_source = home;
  home_format = λ s. unwrap_or (found (of_source s) (λ x. x.format) pairs) PixelFormat.Gray8;
}

-- how they say that it stands
abbrev pub listed_state : List Pair → List Setting → State
listed_state pairs settings = record {
  enabled = λ s f. unwrap_or (found (is_pair s f) (λ x. x.enabled) pairs) false;
  current = looked_up (λ x. x.current) pairs settings;
}

-- a pair that is not enabled, and a setting at its power-on value
abbrev pub off : Pair → Pair
off x = record { source = x.source; format = x.format; enabled = false }

abbrev pub restored : Setting → Setting
restored x = record { point = x.point; initial = x.initial; current = x.initial }
