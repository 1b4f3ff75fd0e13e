-- The flatbed: one source with two formats, and three attributes at both.
use Rattle.std.specs.Prelude.{ℕ, ◌%◌, Bool, false, cond, ◌&&◌, ◌||◌, pos, negsuc, Some, None, Option, ◌==◌, nat_le}
use Rattle.names.specs.declared.kinds.Source.{Source}
use Rattle.names.specs.declared.kinds.PixelFormat.{PixelFormat}
use Rattle.names.specs.declared.kinds.Attribute.{Attribute}
use Rattle.names.specs.declared.kinds.Word.{Word}
use Rattle.names.specs.declared.kinds.Value.{Value}
use Rattle.names.specs.declared.kinds.Value.TheVariants as values
use Rattle.names.specs.Same.{same_source, same_format, same_attribute, same_word}
use Rattle.scanner.specs.Meaning.{Catalogue, State}
use Rattle.scanners.specs.declared.flatbed.Settings.{Settings}
use Rattle.scanners.specs.declared.flatbed.Flatbed.{Flatbed}

-- the bounds of its numbers, and where they stand at power-on
abbrev pub lowest_resolution : ℕ
lowest_resolution = 75

abbrev pub highest_resolution : ℕ
highest_resolution = 1200

abbrev pub resolution_step : ℕ
resolution_step = 25

abbrev pub power_on_resolution : ℕ
power_on_resolution = 300

abbrev pub highest_brightness : ℕ
highest_brightness = 100

abbrev pub power_on_brightness : ℕ
power_on_brightness = 50

-- the resolutions: the multiples of 25 from 75 to 1200
abbrev pub offered_resolution : Value → Bool
offered_resolution (values.Number (pos n)) = nat_le lowest_resolution n && (nat_le n highest_resolution && n % resolution_step == 0)
offered_resolution (values.Number (negsuc n)) = false
offered_resolution (values.Word w) = false

-- the brightness: 0 to 100, or automatic
abbrev pub offered_brightness : Value → Bool
offered_brightness (values.Number (pos n)) = nat_le n highest_brightness
offered_brightness (values.Number (negsuc n)) = false
offered_brightness (values.Word w) = same_word w Word.Automatic

-- the compression: none or jpeg
abbrev pub offered_compression : Value → Bool
offered_compression (values.Number n) = false
offered_compression (values.Word w) = same_word w Word.None || same_word w Word.Jpeg

-- one thing for each of the three attributes, and another for all the rest
abbrev pub by_attribute : {X : Type 0} → Attribute → X → X → X → X → X
by_attribute a resolution brightness compression other =
    cond (same_attribute a Attribute.Resolution) resolution (cond (same_attribute a Attribute.Brightness) brightness (cond (same_attribute a Attribute.Compression) compression other))

-- the pairs: the flatbed with gray8 and with rgb24
abbrev pub flatbed_pair : Source → PixelFormat → Bool
flatbed_pair s f = same_source s Source.FlatBed && (same_format f PixelFormat.Gray8 || same_format f PixelFormat.Rgb24)

-- what the flatbed offers
abbrev pub flatbed_catalogue : Catalogue
flatbed_catalogue = record {
  offers_source = λ s. same_source s Source.FlatBed;
  offers_format = flatbed_pair;
  power_on = λ p. cond (flatbed_pair p.source p.format) (by_attribute p.attribute (Some (values.Number (pos power_on_resolution))) (Some (values.Number (pos power_on_brightness))) (Some (values.Word Word.None)) None) None;
  offers_value = λ p v. flatbed_pair p.source p.format && by_attribute p.attribute (offered_resolution v) (offered_brightness v) (offered_compression v) false;
  home_source = Source.FlatBed;
  home_format = λ s. PixelFormat.Gray8;
}

-- the settings of a pair, or none off the pairs
abbrev pub settings_at : Flatbed → Source → PixelFormat → Option Settings
settings_at x s f = cond (same_source s Source.FlatBed) (cond (same_format f PixelFormat.Gray8) (Some x.gray) (cond (same_format f PixelFormat.Rgb24) (Some x.color) None)) None

-- whether settings are those of an enabled pair
abbrev pub switched_on : Option Settings → Bool
switched_on None = false
switched_on (Some x) = x.enabled

-- the value that settings have at an attribute
abbrev pub held_at : Option Settings → Attribute → Option Value
held_at None a = None
held_at (Some x) a = by_attribute a (Some x.resolution) (Some x.brightness) (Some x.compression) None

-- what the fields of a flatbed say of its state
abbrev pub flatbed_state : Flatbed → State
flatbed_state x = record {
  enabled = λ s f. switched_on (settings_at x s f);
  current = λ p. held_at (settings_at x p.source p.format) p.attribute;
}
