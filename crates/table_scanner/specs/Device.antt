-- A table scanner by its meaning alone: what it offers, how it stands, and how many entries it was given.
use Rattle.std.specs.Prelude.{ℕ, ◌+◌, ◌-◌, false, ◌&&◌, length, None, vec_items}
use Rattle.names.specs.declared.kinds.Source.{Source}
use Rattle.names.specs.declared.kinds.PixelFormat.{PixelFormat}
use Rattle.names.specs.Same.{same_source, same_format}
use Rattle.scanner.specs.Meaning.{Catalogue, State, powered}
use Rattle.table_scanner.specs.declared.table.TableScanner.{TableScanner}
use Rattle.table_scanner.specs.Entries.{listed_catalogue, listed_state}

pub record Device : Type 0 where
  pub catalogue : Catalogue
  pub state : State
  pub entries : ℕ

-- what a table scanner means
abbrev pub catalogue_of : TableScanner → Catalogue
catalogue_of x = listed_catalogue (vec_items x.pairs) (vec_items x.settings) (vec_items x.offers) x.home

abbrev pub state_of : TableScanner → State
state_of x = listed_state (vec_items x.pairs) (vec_items x.settings)

abbrev pub device : TableScanner → Device
device x = record {
  catalogue = catalogue_of x;
  state = state_of x;
  entries = length (vec_items x.pairs) + length (vec_items x.settings) + length (vec_items x.offers) - 1;
}

-- the start: the flatbed with gray8, which are the homes, no point, and no entry
abbrev pub start_catalogue : Catalogue
start_catalogue = record {
  offers_source = λ s. same_source Source.FlatBed s;
  offers_format = λ s f. same_source Source.FlatBed s && same_format PixelFormat.Gray8 f;
  power_on = λ p. None;
  offers_value = λ p v. false;
  home_source = Source.FlatBed;
  home_format = λ s. PixelFormat.Gray8;
}

abbrev pub start : Device
start = record { catalogue = start_catalogue; state = powered start_catalogue; entries = 0 }
