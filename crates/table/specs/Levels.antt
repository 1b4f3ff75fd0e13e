-- The levels of a task and the member names that each knows.
use Rattle.std.specs.Prelude.{ℕ, Bool, true, false, not, ◌||◌, Some, None, Option, ◌==◌}
use Rattle.table.specs.declared.level.Level.{Level}
use Rattle.table.specs.declared.keys.Key.{Key}
use Rattle.table.specs.declared.exception.Exception.{Exception}
use Rattle.table.specs.Limits.{max_actions, max_streams, max_sources, max_pixel_formats, max_attributes, max_values}

-- how deep a level lies, the task itself at 0
abbrev pub level_code : Level → ℕ
level_code Level.Task = 0
level_code Level.Action = 1
level_code Level.Stream = 2
level_code Level.Source = 3
level_code Level.PixelFormat = 4
level_code Level.Attribute = 5
level_code Level.Value = 6

-- the place of a member name in their list
abbrev pub key_code : Key → ℕ
key_code Key.Actions = 0
key_code Key.Streams = 1
key_code Key.Sources = 2
key_code Key.PixelFormats = 3
key_code Key.Attributes = 4
key_code Key.Values = 5
key_code Key.Comment = 6
key_code Key.Exception = 7
key_code Key.Vendor = 8
key_code Key.Name = 9
key_code Key.Action = 10
key_code Key.Source = 11
key_code Key.PixelFormat = 12
key_code Key.Attribute = 13
key_code Key.Value = 14

-- the names of arrays
abbrev pub is_array_name : Key → Bool
is_array_name Key.Actions = true
is_array_name Key.Streams = true
is_array_name Key.Sources = true
is_array_name Key.PixelFormats = true
is_array_name Key.Attributes = true
is_array_name Key.Values = true
is_array_name Key.Comment = false
is_array_name Key.Exception = false
is_array_name Key.Vendor = false
is_array_name Key.Name = false
is_array_name Key.Action = false
is_array_name Key.Source = false
is_array_name Key.PixelFormat = false
is_array_name Key.Attribute = false
is_array_name Key.Value = false

-- two levels are the same
abbrev pub same_level : Level → Level → Bool
same_level l m = level_code l == level_code m

-- the level of an array's entries, in an object of the level that has the array
abbrev pub part_if : Bool → Level → Option Level
part_if true p = Some p
part_if false p = None

-- the level of the entries of the array with this name, if an object of the level has it
abbrev pub part : Level → Key → Option Level
part l Key.Actions = part_if (same_level l Level.Task) Level.Action
part l Key.Streams = part_if (same_level l Level.Action) Level.Stream
part l Key.Sources = part_if (same_level l Level.Stream) Level.Source
part l Key.PixelFormats = part_if (same_level l Level.Source) Level.PixelFormat
part l Key.Attributes = part_if (same_level l Level.PixelFormat) Level.Attribute
part l Key.Values = part_if (same_level l Level.Attribute) Level.Value
part l Key.Comment = None
part l Key.Exception = None
part l Key.Vendor = None
part l Key.Name = None
part l Key.Action = None
part l Key.Source = None
part l Key.PixelFormat = None
part l Key.Attribute = None
part l Key.Value = None

-- the members that are no arrays, and the levels that know each
abbrev pub knows : Level → Key → Bool
knows l Key.Actions = false
knows l Key.Streams = false
knows l Key.Sources = false
knows l Key.PixelFormats = false
knows l Key.Attributes = false
knows l Key.Values = false
knows l Key.Comment = not (same_level l Level.Task)
knows l Key.Exception = not (same_level l Level.Task)
knows l Key.Vendor = not (same_level l Level.Task)
knows l Key.Name = same_level l Level.Stream || same_level l Level.Source || same_level l Level.PixelFormat
knows l Key.Action = same_level l Level.Action
knows l Key.Source = same_level l Level.Source
knows l Key.PixelFormat = same_level l Level.PixelFormat
knows l Key.Attribute = same_level l Level.Attribute
knows l Key.Value = same_level l Level.Value

-- a member name that is an array's, or that the level knows
abbrev pub known_if : Bool → Key → Option Key
known_if true key = Some key
known_if false key = None

abbrev pub known : Level → Option Key → Option Key
known l None = None
known l (Some key) = known_if (is_array_name key || knows l key) key

-- how many objects of a level an array may have
abbrev pub limit : Level → ℕ
limit Level.Task = 1
limit Level.Action = max_actions
limit Level.Stream = max_streams
limit Level.Source = max_sources
limit Level.PixelFormat = max_pixel_formats
limit Level.Attribute = max_attributes
limit Level.Value = max_values

-- the place of an exception in their list
abbrev pub exception_code : Exception → ℕ
exception_code Exception.Fail = 0
exception_code Exception.Ignore = 1
exception_code Exception.NextStream = 2

-- which exceptions an object may have: an action has no next stream to go to
abbrev pub allows : Level → Exception → Bool
allows l e = not (same_level l Level.Action) || not (exception_code e == 2)

-- what an object without parts weighs beyond itself
abbrev pub absent_weight : Level → ℕ
absent_weight Level.Task = 0
absent_weight Level.Action = 3
absent_weight Level.Stream = 2
absent_weight Level.Source = 1
absent_weight Level.PixelFormat = 0
absent_weight Level.Attribute = 0
absent_weight Level.Value = 0
