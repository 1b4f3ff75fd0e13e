-- Each member name names its member.
use Rattle.std.proofs.Common.{◌≡◌, Some, refl}
use Rattle.text.specs.Strings.{stands, units, paired, matching}
use Rattle.names.specs.Names.{names_from, names_of, place}
use Rattle.table.specs.declared.keys.Key.{Key}
use Rattle.table.specs.Words.{key_letters, key_starts, key_names, key_name, key_spelled}

pub own_name : (k : Key) → key_spelled (stands (key_name k)) ≡ Some k
unfolding units paired matching names_from names_of place key_letters key_starts key_names key_spelled
own_name Key.Actions = refl
own_name Key.Streams = refl
own_name Key.Sources = refl
own_name Key.PixelFormats = refl
own_name Key.Attributes = refl
own_name Key.Values = refl
own_name Key.Comment = refl
own_name Key.Exception = refl
own_name Key.Vendor = refl
own_name Key.Name = refl
own_name Key.Action = refl
own_name Key.Source = refl
own_name Key.PixelFormat = refl
own_name Key.Attribute = refl
own_name Key.Value = refl
