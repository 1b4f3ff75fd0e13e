-- The objects that a list of records stands for. An object's parts are what follows it, up to the next record that is not deeper.
-- A vacant record is as shallow as the task itself, so that it ends everything.
use Rattle.std.specs.Prelude.{◌≡◌, ℕ, ◌<◌, List, [], ◌∷◌, Option}
use Rattle.text.specs.declared.token.Placed.{Placed}
use Rattle.names.specs.declared.kinds.Source.{Source}
use Rattle.names.specs.declared.kinds.PixelFormat.{PixelFormat}
use Rattle.names.specs.declared.kinds.Attribute.{Attribute}
use Rattle.names.specs.declared.kinds.Value.{Value}
use Rattle.table.specs.declared.record.Head.{Head}
use Rattle.table.specs.declared.record.Verb.{Verb}
use Rattle.table.specs.declared.record.Wanted.{Wanted}
use Rattle.table.specs.declared.record.Record.{Record}
use Rattle.table.specs.Task.{ValueObject, AttributeObject, FormatObject, SourceObject, StreamObject, ActionObject}

-- the values at the front
abbrev pub values_in : List Record → List ValueObject
values_in [] = []
values_in (Record.Vacant ∷ rs) = []
values_in (Record.Action h w n ∷ rs) = []
values_in (Record.Stream h ∷ rs) = []
values_in (Record.Source h w ∷ rs) = []
values_in (Record.PixelFormat h w ∷ rs) = []
values_in (Record.Attribute h w ∷ rs) = []
values_in (Record.Value h w ∷ rs) = record { head = h; word = w } ∷ values_in rs

-- the attribute that these records follow
abbrev pub attribute_of : Head → Placed (Option Attribute) → List Record → AttributeObject
attribute_of h w rs = record { head = h; word = w; parts = values_in rs }

-- the attributes up to the next record that is not deeper than a pixelFormat object
abbrev pub attributes_in : List Record → List AttributeObject
attributes_in [] = []
attributes_in (Record.Vacant ∷ rs) = []
attributes_in (Record.Action h w n ∷ rs) = []
attributes_in (Record.Stream h ∷ rs) = []
attributes_in (Record.Source h w ∷ rs) = []
attributes_in (Record.PixelFormat h w ∷ rs) = []
attributes_in (Record.Attribute h w ∷ rs) = attribute_of h w rs ∷ attributes_in rs
attributes_in (Record.Value h w ∷ rs) = attributes_in rs

-- the pixelFormat object that these records follow
abbrev pub format_of : Head → Option (Placed (Wanted PixelFormat)) → List Record → FormatObject
format_of h w rs = record { head = h; word = w; parts = attributes_in rs }

-- the pixelFormat objects up to the next record that is not deeper than a source
abbrev pub formats_in : List Record → List FormatObject
formats_in [] = []
formats_in (Record.Vacant ∷ rs) = []
formats_in (Record.Action h w n ∷ rs) = []
formats_in (Record.Stream h ∷ rs) = []
formats_in (Record.Source h w ∷ rs) = []
formats_in (Record.PixelFormat h w ∷ rs) = format_of h w rs ∷ formats_in rs
formats_in (Record.Attribute h w ∷ rs) = formats_in rs
formats_in (Record.Value h w ∷ rs) = formats_in rs

-- the source that these records follow
abbrev pub source_of : Head → Option (Placed (Wanted Source)) → List Record → SourceObject
source_of h w rs = record { head = h; word = w; parts = formats_in rs }

-- the sources up to the next record that is not deeper than a stream
abbrev pub sources_in : List Record → List SourceObject
sources_in [] = []
sources_in (Record.Vacant ∷ rs) = []
sources_in (Record.Action h w n ∷ rs) = []
sources_in (Record.Stream h ∷ rs) = []
sources_in (Record.Source h w ∷ rs) = source_of h w rs ∷ sources_in rs
sources_in (Record.PixelFormat h w ∷ rs) = sources_in rs
sources_in (Record.Attribute h w ∷ rs) = sources_in rs
sources_in (Record.Value h w ∷ rs) = sources_in rs

-- the stream that these records follow
abbrev pub stream_of : Head → List Record → StreamObject
stream_of h rs = record { head = h; parts = sources_in rs }

-- the streams up to the next record that is not deeper than an action
abbrev pub streams_in : List Record → List StreamObject
streams_in [] = []
streams_in (Record.Vacant ∷ rs) = []
streams_in (Record.Action h w n ∷ rs) = []
streams_in (Record.Stream h ∷ rs) = stream_of h rs ∷ streams_in rs
streams_in (Record.Source h w ∷ rs) = streams_in rs
streams_in (Record.PixelFormat h w ∷ rs) = streams_in rs
streams_in (Record.Attribute h w ∷ rs) = streams_in rs
streams_in (Record.Value h w ∷ rs) = streams_in rs

-- the action that these records follow
abbrev pub action_of : Head → Option (Placed Verb) → ℕ → List Record → ActionObject
action_of h w n rs = record { head = h; word = w; entries = n; parts = streams_in rs }

-- the actions of the task
abbrev pub actions_in : List Record → List ActionObject
actions_in [] = []
actions_in (Record.Vacant ∷ rs) = []
actions_in (Record.Action h w n ∷ rs) = action_of h w n rs ∷ actions_in rs
actions_in (Record.Stream h ∷ rs) = actions_in rs
actions_in (Record.Source h w ∷ rs) = actions_in rs
actions_in (Record.PixelFormat h w ∷ rs) = actions_in rs
actions_in (Record.Attribute h w ∷ rs) = actions_in rs
actions_in (Record.Value h w ∷ rs) = actions_in rs

-- how deep the object of a record lies, the task itself at 0
abbrev pub depth : Record → ℕ
depth Record.Vacant = 0
depth (Record.Action h w n) = 1
depth (Record.Stream h) = 2
depth (Record.Source h w) = 3
depth (Record.PixelFormat h w) = 4
depth (Record.Attribute h w) = 5
depth (Record.Value h w) = 6

-- a view finds the objects that lie at this depth: it ends at a record that is less deep, and passes over a deeper one
pub record Finds {X : Type 0} (n : ℕ) (view : List Record → List X) : Type 0 where
  pub none : view [] ≡ []
  pub ends : (r : Record) (rs : List Record) → depth r < n → view (r ∷ rs) ≡ []
  pub passes : (r : Record) (rs : List Record) → n < depth r → view (r ∷ rs) ≡ view rs

-- how to go through the objects of each level, which lie at one depth
pub record GoThrough : Type 0 where
  pub actions : Finds 1 actions_in
  pub streams : Finds 2 streams_in
  pub sources : Finds 3 sources_in
  pub formats : Finds 4 formats_in
  pub attributes : Finds 5 attributes_in
  pub values : Finds 6 values_in
  -- a record of the level is the next object, whose parts are found in what follows it
  pub an_action : (h : Head) (w : Option (Placed Verb)) (n : ℕ) (rs : List Record) → actions_in (Record.Action h w n ∷ rs) ≡ record { head = h; word = w; entries = n; parts = streams_in rs } ∷ actions_in rs
  pub a_stream : (h : Head) (rs : List Record) → streams_in (Record.Stream h ∷ rs) ≡ record { head = h; parts = sources_in rs } ∷ streams_in rs
  pub a_source : (h : Head) (w : Option (Placed (Wanted Source))) (rs : List Record) → sources_in (Record.Source h w ∷ rs) ≡ record { head = h; word = w; parts = formats_in rs } ∷ sources_in rs
  pub a_format : (h : Head) (w : Option (Placed (Wanted PixelFormat))) (rs : List Record) → formats_in (Record.PixelFormat h w ∷ rs) ≡ record { head = h; word = w; parts = attributes_in rs } ∷ formats_in rs
  pub an_attribute : (h : Head) (w : Placed (Option Attribute)) (rs : List Record) → attributes_in (Record.Attribute h w ∷ rs) ≡ record { head = h; word = w; parts = values_in rs } ∷ attributes_in rs
  pub a_value : (h : Head) (w : Placed (Option Value)) (rs : List Record) → values_in (Record.Value h w ∷ rs) ≡ record { head = h; word = w } ∷ values_in rs
