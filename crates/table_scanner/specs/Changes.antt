-- A change as the program has it, in the words of the filling calls.
use Rattle.table_scanner.specs.declared.change.Change as kept
use Rattle.table_scanner.specs.declared.change.Change.TheVariants as changes
use Rattle.table_scanner.specs.Filling.{Change, new_source, new_format, new_attribute, new_home, offer_of}

abbrev pub change_of : kept.Change → Change
change_of (changes.Source s f) = new_source s f
change_of (changes.Format s f) = new_format s f
change_of (changes.Attribute p v) = new_attribute p v
change_of (changes.Offer p vs) = offer_of p vs
change_of (changes.Home s) = new_home s
