-- Worked tasks on the flatbed, one row each, from the bytes of the text to the outcome.
use Rattle.std.specs.Prelude.{◌≡◌, ℕ, Bool, true, false, List, [], ◌∷◌, pos, Some, None, Ok, Err, Result, codes}
use Rattle.text.specs.declared.fault.TextFault.TheVariants.{Forbidden}
use Rattle.names.specs.declared.kinds.Source.{Source}
use Rattle.names.specs.declared.kinds.PixelFormat.{PixelFormat}
use Rattle.names.specs.declared.kinds.Attribute.{Attribute}
use Rattle.names.specs.declared.kinds.Value.TheVariants as values
use Rattle.table.specs.declared.exception.Exception.TheVariants.{Fail, NextStream}
use Rattle.table.specs.declared.fault.FormRule.TheVariants.{OutermostNoObject}
use Rattle.table.specs.declared.fault.TableFault.{TableFault}
use Rattle.table.specs.declared.fault.TableFault.TheVariants.{Text, Form}
use Rattle.table.specs.declared.level.Level.{Level}
use Rattle.table.specs.declared.place.Place.{Place}
use Rattle.table.specs.Limits.{max_weight}
use Rattle.table.specs.Places.{outside, entered}
use Rattle.table.specs.Task.{ActionObject}
use Rattle.table.specs.Verdict.{task}
use Rattle.scanner.specs.declared.plan.Item.{Item}
use Rattle.scanner.specs.declared.point.Point.{Point}
use Rattle.scanner.specs.Meaning.{Catalogue, State, powered}
use Rattle.scanner.specs.Plan.{plan_put}
use Rattle.scanners.specs.Flatbed.{flatbed_catalogue}
use Rattle.negotiation.specs.declared.settle.ByStream.{ByStream}
use Rattle.negotiation.specs.declared.settle.ByStream.TheVariants.{Default, At}
use Rattle.negotiation.specs.Endings.{failing, ran_out}
use Rattle.negotiation.specs.Verdicts.{Outcome, unchanged, planned, rejected, OneVerdict}

-- the path of an action
abbrev action_path : ℕ → Place
action_path i = entered outside Level.Action i

-- of the first source of the first stream of that action
abbrev source_path : ℕ → Place
source_path i = entered (entered (action_path i) Level.Stream 0) Level.Source 0

-- and of the first pixelFormat object of that source
abbrev format_path : ℕ → Place
format_path i = entered (source_path i) Level.PixelFormat 0

-- resolution at gray8
abbrev pub gray_point : Point
gray_point = record { source = Source.FlatBed; format = PixelFormat.Gray8; attribute = Attribute.Resolution }

-- the plan of gray8 alone
abbrev gray : List Item
gray = Item.Source Source.FlatBed ∷ Item.Pair Source.FlatBed PixelFormat.Gray8 ∷ []

-- and with a resolution
abbrev gray_at : ℕ → List Item
gray_at n = Item.Source Source.FlatBed ∷ Item.Pair Source.FlatBed PixelFormat.Gray8 ∷ Item.Line gray_point (values.Number (pos n)) ∷ []

-- a text, the fault that refuses it or the outcome of its task, and what a scanner that was just switched on then holds: whether gray8 is enabled, and its resolution
pub record Row : Type 0 where
  pub text : List ℕ
  pub result : Result Outcome TableFault
  pub gray_enabled : Bool
  pub gray_resolution : ℕ

-- met by this stream of the action, whose brace stands at this offset
abbrev stream_at : ℕ → ℕ → ByStream
stream_at i n = At (record { index = i; offset = n; exception = None; unknown = false })

-- the table
abbrev pub worked : List Row
worked =
    -- an empty task is accepted without change
    record { text = codes "{}"; result = Ok unchanged; gray_enabled = false; gray_resolution = 300 }
    -- a text that is no JSON is refused at its first forbidden byte
    ∷ record { text = codes "{\"actions\":[}"; result = Err (Text (Forbidden 12)); gray_enabled = false; gray_resolution = 300 }
    -- JSON that is no object is refused
    ∷ record { text = codes "[]"; result = Err (Form OutermostNoObject 0); gray_enabled = false; gray_resolution = 300 }
    -- one action enables gray8
    ∷ record { text = codes "{\"actions\":[{}]}"; result = Ok (planned Default gray); gray_enabled = true; gray_resolution = 300 }
    -- one stream that wants rgb48 gives gray8
    ∷ record { text = codes "{\"actions\":[{\"streams\":[{\"sources\":[{\"pixelFormats\":[{\"pixelFormat\":\"rgb48\"}]}]}]}]}"; result = Ok (planned (stream_at 0 24) gray); gray_enabled = true; gray_resolution = 300 }
    -- and with nextStream on it no stream is left
    ∷ record { text = codes "{\"actions\":[{\"streams\":[{\"exception\":\"nextStream\",\"sources\":[{\"pixelFormats\":[{\"pixelFormat\":\"rgb48\"}]}]}]}]}"; result = Ok (rejected (ran_out (record { path = format_path 0; offset = 78; exception = NextStream }))); gray_enabled = false; gray_resolution = 300 }
    -- resolution 70, 80, 100, 150 gives 100
    ∷ record { text = codes "{\"actions\":[{\"streams\":[{\"sources\":[{\"pixelFormats\":[{\"attributes\":[{\"attribute\":\"resolution\",\"values\":[{\"value\":70},{\"value\":80},{\"value\":100},{\"value\":150}]}]}]}]}]}]}"; result = Ok (planned (stream_at 0 24) (gray_at 100)); gray_enabled = true; gray_resolution = 100 }
    -- resolution 70 with its own ignore, then 100, stays 300
    ∷ record { text = codes "{\"actions\":[{\"streams\":[{\"sources\":[{\"pixelFormats\":[{\"attributes\":[{\"attribute\":\"resolution\",\"values\":[{\"value\":70,\"exception\":\"ignore\"},{\"value\":100}]}]}]}]}]}]}"; result = Ok (planned (stream_at 0 24) gray); gray_enabled = true; gray_resolution = 300 }
    -- a stream that wants resolution 600 and then the feeder, before one that wants the flatbed, gives 300
    ∷ record { text = codes "{\"actions\":[{\"streams\":[{\"sources\":[{\"pixelFormats\":[{\"attributes\":[{\"attribute\":\"resolution\",\"values\":[{\"value\":600}]}]}]},{\"source\":\"feeder\"}]},{\"sources\":[{\"source\":\"flatBed\"}]}]}]}"; result = Ok (planned (stream_at 1 146) gray); gray_enabled = true; gray_resolution = 300 }
    -- a stream that wants the feeder, before one of another vendor, which is skipped: no stream is left
    ∷ record { text = codes "{\"actions\":[{\"streams\":[{\"sources\":[{\"source\":\"feeder\"}]},{\"vendor\":\"x\"}]}]}"; result = Ok (rejected (ran_out (record { path = source_path 0; offset = 36; exception = NextStream }))); gray_enabled = false; gray_resolution = 300 }
    -- the same with spaces and escapes, which count in the offset
    ∷ record { text = codes "{ \"actions\": [ { \"str\\u0065ams\": [ { \"sources\": [ { \"source\": \"f\\u0065eder\" } ] }, { \"vendor\": \"x\" } ] } ] }"; result = Ok (rejected (ran_out (record { path = source_path 0; offset = 50; exception = NextStream }))); gray_enabled = false; gray_resolution = 300 }
    -- a stream that wants the feeder under fail stops, though the next would fit
    ∷ record { text = codes "{\"actions\":[{\"streams\":[{\"exception\":\"fail\",\"sources\":[{\"source\":\"feeder\"}]},{}]}]}"; result = Ok (rejected (failing (record { path = source_path 0; offset = 55; exception = Fail }))); gray_enabled = false; gray_resolution = 300 }
    -- an action of another word has no effect, and under fail it decides
    ∷ record { text = codes "{\"actions\":[{\"action\":\"encryptionReport\"}]}"; result = Ok unchanged; gray_enabled = false; gray_resolution = 300 }
    ∷ record { text = codes "{\"actions\":[{\"action\":\"encryptionReport\",\"exception\":\"fail\"}]}"; result = Ok (rejected (failing (record { path = action_path 0; offset = 12; exception = Fail }))); gray_enabled = false; gray_resolution = 300 }
    -- of two actions, the one that can't be met decides
    ∷ record { text = codes "{\"actions\":[{},{\"exception\":\"fail\",\"streams\":[{\"sources\":[{\"source\":\"feeder\"}]}]}]}"; result = Ok (rejected (failing (record { path = source_path 1; offset = 58; exception = Fail }))); gray_enabled = false; gray_resolution = 300 }
    ∷ []

-- what a scanner that was just switched on holds after a text was refused or its task came to an outcome
abbrev pub leaves : Catalogue → Result Outcome TableFault → State
leaves k (Err e) = powered k
leaves k (Ok unchanged) = powered k
leaves k (Ok (planned b xs)) = plan_put k xs
leaves k (Ok (rejected r)) = powered k

-- a text is refused by this fault, or is a task that comes to this outcome and to no other
abbrev pub ComesTo : List ℕ → Result Outcome TableFault → Type 0
ComesTo t (Err e) = task t max_weight ≡ Err e
ComesTo t (Ok o) = (acts : List ActionObject) × (task t max_weight ≡ Ok acts) × OneVerdict flatbed_catalogue outside acts o

-- the text of a row comes to what the row says, and leaves its values
pub record Stands (r : Row) : Type 0 where
  pub comes : ComesTo r.text r.result
  pub enabled : (leaves flatbed_catalogue r.result).enabled Source.FlatBed PixelFormat.Gray8 ≡ r.gray_enabled
  pub resolution : (leaves flatbed_catalogue r.result).current gray_point ≡ Some (values.Number (pos r.gray_resolution))
