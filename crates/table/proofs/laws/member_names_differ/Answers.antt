use Rattle.std.proofs.Common.{refl}
use Rattle.text.specs.Strings.{matching}
use Rattle.names.specs.Names.{names_from, names_of, place, distinct}
use Rattle.table.specs.Words.{key_letters, key_starts, key_names}
use Rattle.table.proofs.laws.member_names_differ.Goals as goal

pub returns : goal.returns
unfolding matching names_from names_of place distinct key_letters key_starts key_names
returns c = refl
