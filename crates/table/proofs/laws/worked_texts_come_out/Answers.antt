use Rattle.std.proofs.Common.{refl}
use Rattle.text.specs.Strings.{units, paired, matching}
use Rattle.text.specs.Numbers.{decimal}
use Rattle.text.specs.Parts.{extent, value_length, string_part, number_part}
use Rattle.text.specs.Machine.{step, over, run, tape, outcome}
use Rattle.names.specs.Names.{names_from, names_of, place}
use Rattle.names.specs.Vocabulary.{letters, starts, source_spelled, format_spelled, attribute_spelled, word_spelled}
use Rattle.table.specs.Words.{key_letters, key_starts, key_names, key_spelled, exception_spelled, vendor, foreign, word_meaning, value_meaning}
use Rattle.table.specs.Drafts.{taken}
use Rattle.table.specs.Form.{given, on_name, on_at, after}
use Rattle.table.specs.Verdict.{form, verdict}
use Rattle.table.proofs.laws.worked_texts_come_out.Goals as goal

pub returns : goal.returns
unfolding units paired matching decimal extent value_length string_part number_part step over run tape outcome names_from names_of place letters starts source_spelled format_spelled attribute_spelled word_spelled key_letters key_starts key_names key_spelled exception_spelled vendor foreign word_meaning value_meaning taken given on_name on_at after form verdict
returns c = refl
