-- The records of a task's objects: the record of each, then those of its parts.
use Rattle.std.specs.Prelude.{◌≡◌, List, [], ◌∷◌, ◌++◌}
use Rattle.table.specs.declared.record.Record.{Record}
use Rattle.table.specs.Task.{ValueObject, AttributeObject, FormatObject, SourceObject, StreamObject, ActionObject}
use Rattle.table.specs.Views.{actions_in}

abbrev pub value_rows : List ValueObject → List Record
value_rows [] = []
value_rows (o ∷ os) = Record.Value o.head o.word ∷ value_rows os

abbrev pub attribute_rows : List AttributeObject → List Record
attribute_rows [] = []
attribute_rows (o ∷ os) = Record.Attribute o.head o.word ∷ (value_rows o.parts ++ attribute_rows os)

abbrev pub format_rows : List FormatObject → List Record
format_rows [] = []
format_rows (o ∷ os) = Record.PixelFormat o.head o.word ∷ (attribute_rows o.parts ++ format_rows os)

abbrev pub source_rows : List SourceObject → List Record
source_rows [] = []
source_rows (o ∷ os) = Record.Source o.head o.word ∷ (format_rows o.parts ++ source_rows os)

abbrev pub stream_rows : List StreamObject → List Record
stream_rows [] = []
stream_rows (o ∷ os) = Record.Stream o.head ∷ (source_rows o.parts ++ stream_rows os)

abbrev pub action_rows : List ActionObject → List Record
action_rows [] = []
action_rows (o ∷ os) = Record.Action o.head o.word o.entries ∷ (stream_rows o.parts ++ action_rows os)

-- the records of a task's objects stand for these objects
abbrev pub RowsShow : Type 0
RowsShow = (acts : List ActionObject) → actions_in (action_rows acts) ≡ acts
