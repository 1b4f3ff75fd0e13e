-- The four kinds keep the laws of named members: each by computation.
use Rattle.std.specs.Prelude.{refl, slice_range}
use Rattle.names.specs.declared.kinds.Source.{Source}
use Rattle.names.specs.declared.kinds.PixelFormat.{PixelFormat}
use Rattle.names.specs.declared.kinds.Attribute.{Attribute}
use Rattle.names.specs.declared.kinds.Word.{Word}
use Rattle.names.specs.Codes.{source_code, format_code, attribute_code, word_code}
use Rattle.names.specs.Numbers.{source_numbered, format_numbered, attribute_numbered, word_numbered}
use Rattle.names.specs.Named.{NamedLaws}
use Rattle.names.specs.Vocabulary.{letters, starts, sources, source_name, source_spelled, formats, format_name, format_spelled, attributes, attribute_name, attribute_spelled, words, word_name, word_spelled}

pub source_laws : NamedLaws letters (slice_range starts 0 7) sources Source.Feeder source_code source_name source_spelled source_numbered
unfolding starts source_name source_spelled source_numbered
source_laws = record { as_many = refl; named = λ k. refl; looked_up = λ x. refl; counted = λ n. refl }

pub format_laws : NamedLaws letters (slice_range starts 6 12) formats PixelFormat.Bw1 format_code format_name format_spelled format_numbered
unfolding starts format_name format_spelled format_numbered
format_laws = record { as_many = refl; named = λ k. refl; looked_up = λ x. refl; counted = λ n. refl }

pub attribute_laws : NamedLaws letters (slice_range starts 11 49) attributes Attribute.Alarms attribute_code attribute_name attribute_spelled attribute_numbered
unfolding starts attribute_name attribute_spelled attribute_numbered
attribute_laws = record { as_many = refl; named = λ k. refl; looked_up = λ x. refl; counted = λ n. refl }

pub word_laws : NamedLaws letters (slice_range starts 48 65) words Word.Off word_code word_name word_spelled word_numbered
unfolding starts word_name word_spelled word_numbered
word_laws = record { as_many = refl; named = λ k. refl; looked_up = λ x. refl; counted = λ n. refl }
