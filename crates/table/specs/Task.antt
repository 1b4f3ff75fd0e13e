-- A task as the rules speak of it: its objects by level, each with the list of its parts in array order.
-- Skipped objects are left out; a head's index counts them.
use Rattle.std.specs.Prelude.{ℕ, List, Option}
use Rattle.text.specs.declared.token.Placed.{Placed}
use Rattle.names.specs.declared.kinds.Source.{Source}
use Rattle.names.specs.declared.kinds.PixelFormat.{PixelFormat}
use Rattle.names.specs.declared.kinds.Attribute.{Attribute}
use Rattle.names.specs.declared.kinds.Value.{Value}
use Rattle.table.specs.declared.record.Head.{Head}
use Rattle.table.specs.declared.record.Verb.{Verb}
use Rattle.table.specs.declared.record.Wanted.{Wanted}

-- its word is none where it is no value word and no number
pub record ValueObject : Type 0 where
  pub head : Head
  pub word : Placed (Option Value)

-- its word is none where it names no attribute
pub record AttributeObject : Type 0 where
  pub head : Head
  pub word : Placed (Option Attribute)
  pub parts : List ValueObject

-- a pixelFormat object, which may have no word
pub record FormatObject : Type 0 where
  pub head : Head
  pub word : Option (Placed (Wanted PixelFormat))
  pub parts : List AttributeObject

-- a source object, which may have no word
pub record SourceObject : Type 0 where
  pub head : Head
  pub word : Option (Placed (Wanted Source))
  pub parts : List FormatObject

pub record StreamObject : Type 0 where
  pub head : Head
  pub parts : List SourceObject

-- entries: how many its array of streams has, skipped ones counted
pub record ActionObject : Type 0 where
  pub head : Head
  pub word : Option (Placed Verb)
  pub entries : ℕ
  pub parts : List StreamObject
