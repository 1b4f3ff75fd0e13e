-- The records of a task's objects show these objects, level by level, the deepest first.
use Rattle.std.proofs.Common.{List, [], ◌∷◌, refl}
use Rattle.table.specs.declared.record.Record.{Record}
use Rattle.table.specs.Task.{ValueObject, AttributeObject, FormatObject, SourceObject, StreamObject, ActionObject}
use Rattle.table.specs.Views.{values_in, attributes_in, formats_in, sources_in, streams_in, actions_in}
use Rattle.table.specs.Rows.{value_rows, attribute_rows, format_rows, source_rows, stream_rows, action_rows, RowsShow}
use Rattle.table.proofs.Views.{Shows, stands, shows_none, shows_more, shows_all, none_in, finds_none, finds_values, finds_attributes, finds_formats, finds_sources, finds_streams, finds_actions}

show_values : (os : List ValueObject) → Shows 5 values_in (value_rows os) os
show_values [] = shows_none 5 values_in
show_values (o ∷ os) =
    let row = Record.Value o.head o.word in
    shows_more 5 values_in row [] (value_rows os) o os (stands 6 values_in none_in (λ ys. o) row [] [] finds_values finds_none refl (λ rs. refl) (shows_none 6 none_in)) (show_values os)

show_attributes : (os : List AttributeObject) → Shows 4 attributes_in (attribute_rows os) os
show_attributes [] = shows_none 4 attributes_in
show_attributes (o ∷ os) =
    let row = Record.Attribute o.head o.word in
    shows_more 4 attributes_in row (value_rows o.parts) (attribute_rows os) o os
    (stands 5 attributes_in values_in (λ ys. record { head = o.head; word = o.word; parts = ys }) row (value_rows o.parts) o.parts finds_attributes finds_values refl (λ rs. refl) (show_values o.parts))
    (show_attributes os)

show_formats : (os : List FormatObject) → Shows 3 formats_in (format_rows os) os
show_formats [] = shows_none 3 formats_in
show_formats (o ∷ os) =
    let row = Record.PixelFormat o.head o.word in
    shows_more 3 formats_in row (attribute_rows o.parts) (format_rows os) o os
    (stands 4 formats_in attributes_in (λ ys. record { head = o.head; word = o.word; parts = ys }) row (attribute_rows o.parts) o.parts finds_formats finds_attributes refl (λ rs. refl) (show_attributes o.parts))
    (show_formats os)

show_sources : (os : List SourceObject) → Shows 2 sources_in (source_rows os) os
show_sources [] = shows_none 2 sources_in
show_sources (o ∷ os) =
    let row = Record.Source o.head o.word in
    shows_more 2 sources_in row (format_rows o.parts) (source_rows os) o os
    (stands 3 sources_in formats_in (λ ys. record { head = o.head; word = o.word; parts = ys }) row (format_rows o.parts) o.parts finds_sources finds_formats refl (λ rs. refl) (show_formats o.parts))
    (show_sources os)

show_streams : (os : List StreamObject) → Shows 1 streams_in (stream_rows os) os
show_streams [] = shows_none 1 streams_in
show_streams (o ∷ os) =
    let row = Record.Stream o.head in
    shows_more 1 streams_in row (source_rows o.parts) (stream_rows os) o os
    (stands 2 streams_in sources_in (λ ys. record { head = o.head; parts = ys }) row (source_rows o.parts) o.parts finds_streams finds_sources refl (λ rs. refl) (show_sources o.parts))
    (show_streams os)

show_actions : (os : List ActionObject) → Shows 0 actions_in (action_rows os) os
show_actions [] = shows_none 0 actions_in
show_actions (o ∷ os) =
    let row = Record.Action o.head o.word o.entries in
    shows_more 0 actions_in row (stream_rows o.parts) (action_rows os) o os
    (stands 1 actions_in streams_in (λ ys. record { head = o.head; word = o.word; entries = o.entries; parts = ys }) row (stream_rows o.parts) o.parts finds_actions finds_streams refl (λ rs. refl) (show_streams o.parts))
    (show_actions os)

pub rows_show : RowsShow
rows_show acts = shows_all 0 actions_in (action_rows acts) acts refl (show_actions acts)
