use Rattle.std.proofs.Common.{refl}
use Rattle.text.specs.Strings.{matching, MatchesAreEqual}
use Rattle.names.specs.declared.kinds.Source.{Source}
use Rattle.names.specs.declared.kinds.PixelFormat.{PixelFormat}
use Rattle.names.specs.declared.kinds.Attribute.{Attribute}
use Rattle.names.specs.declared.kinds.Word.{Word}
use Rattle.names.specs.Codes.{source_code, format_code, attribute_code, word_code}
use Rattle.names.specs.Names.{names_from, names_of, place, distinct}
use Rattle.names.specs.Vocabulary.{letters, starts, Apart, Vocabulary, sources, source_names, source_name, source_spelled, formats, format_names, format_name, format_spelled, attributes, attribute_names, attribute_name, attribute_spelled, words, word_names, word_name, word_spelled}
use Rattle.names.proofs.Exactness.{exact}
use Rattle.names.proofs.lookup.vocabulary_stands.Goals as goal

apart : Apart
unfolding letters starts names_from names_of place distinct matching
apart = (refl, refl, refl, refl)

vocabulary : MatchesAreEqual → Vocabulary
unfolding letters starts names_from names_of place matching source_name source_spelled format_name format_spelled attribute_name attribute_spelled word_name word_spelled
vocabulary matches = (
  record { told = exact matches source_code sources Source.Feeder source_names refl refl; own = refl },
  record { told = exact matches format_code formats PixelFormat.Bw1 format_names refl refl; own = refl },
  record { told = exact matches attribute_code attributes Attribute.Alarms attribute_names refl refl; own = refl },
  record { told = exact matches word_code words Word.Off word_names refl refl; own = refl },
)

pub returns : goal.returns
returns c = record { apart = apart; exact = vocabulary c.matches_are_equal.ensures }
