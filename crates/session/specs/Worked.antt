-- Worked replies and complaints: plans and the replies that show them, refusals and their lines.
use Rattle.std.specs.Prelude.{◌≡◌, ℕ, List, [], ◌∷◌, map, pos, negsuc, codes}
use Rattle.text.specs.declared.fault.TextFault.{TextFault}
use Rattle.names.specs.declared.kinds.Source.{Source}
use Rattle.names.specs.declared.kinds.PixelFormat.{PixelFormat}
use Rattle.names.specs.declared.kinds.Attribute.{Attribute}
use Rattle.names.specs.declared.kinds.Word.{Word}
use Rattle.names.specs.declared.kinds.Value.{Value}
use Rattle.table.specs.declared.exception.Exception.{Exception}
use Rattle.table.specs.declared.fault.TableFault.{TableFault}
use Rattle.table.specs.declared.level.Level.{Level}
use Rattle.table.specs.declared.place.Place.{Place}
use Rattle.table.specs.Places.{outside, entered}
use Rattle.scanner.specs.declared.plan.Item.{Item}
use Rattle.negotiation.specs.declared.trouble.Refusal.{Refusal}
use Rattle.negotiation.specs.Words.{point_at}
use Rattle.session.specs.declared.fault.SubmitFault.{SubmitFault}
use Rattle.session.specs.Complaints.{complaint_text}
use Rattle.session.specs.Reply.{reply_text}

-- a plan and the reply that shows it
pub record ReplyRow : Type 0 where
  pub plan : List Item
  pub reply : List ℕ

abbrev shown : List Item → List ℕ → ReplyRow
shown p t = record { plan = p; reply = t }

-- a line of a plan: one attribute, with its value
abbrev line : Source → PixelFormat → Attribute → Value → Item
line s f a v = Item.Line (point_at s f a) v

-- the default stream of a scanner whose homes are flatBed and gray8; two sources, one with lines; a negative number and a word
abbrev pub replies : List ReplyRow
replies =
    shown (Item.Source Source.FlatBed ∷ Item.Pair Source.FlatBed PixelFormat.Gray8 ∷ [])
    (codes "{\"actions\":[{\"action\":\"configure\",\"streams\":[{\"sources\":[{\"source\":\"flatBed\",\"pixelFormats\":[{\"pixelFormat\":\"gray8\"}]}]}]}]}")
    ∷ shown
    (
    Item.Source Source.FeederFront
    ∷ Item.Pair Source.FeederFront PixelFormat.Bw1
    ∷ line Source.FeederFront PixelFormat.Bw1 Attribute.Resolution (Value.Number (pos 300))
    ∷ line Source.FeederFront PixelFormat.Bw1 Attribute.Threshold (Value.Number (pos 128))
    ∷ Item.Pair Source.FeederFront PixelFormat.Gray8
    ∷ Item.Source Source.FeederRear
    ∷ Item.Pair Source.FeederRear PixelFormat.Bw1
    ∷ [])
    (codes "{\"actions\":[{\"action\":\"configure\",\"streams\":[{\"sources\":[{\"source\":\"feederFront\",\"pixelFormats\":[{\"pixelFormat\":\"bw1\",\"attributes\":[{\"attribute\":\"resolution\",\"values\":[{\"value\":300}]},{\"attribute\":\"threshold\",\"values\":[{\"value\":128}]}]},{\"pixelFormat\":\"gray8\"}]},{\"source\":\"feederRear\",\"pixelFormats\":[{\"pixelFormat\":\"bw1\"}]}]}]}]}")
    ∷ shown
    (
    Item.Source Source.FlatBed
    ∷ Item.Pair Source.FlatBed PixelFormat.Rgb24
    ∷ line Source.FlatBed PixelFormat.Rgb24 Attribute.Brightness (Value.Number (negsuc 24))
    ∷ line Source.FlatBed PixelFormat.Rgb24 Attribute.Compression (Value.Word Word.Jpeg)
    ∷ [])
    (codes "{\"actions\":[{\"action\":\"configure\",\"streams\":[{\"sources\":[{\"source\":\"flatBed\",\"pixelFormats\":[{\"pixelFormat\":\"rgb24\",\"attributes\":[{\"attribute\":\"brightness\",\"values\":[{\"value\":-25}]},{\"attribute\":\"compression\",\"values\":[{\"value\":\"jpeg\"}]}]}]}]}]}]}")
    ∷ []

-- a refusal and its line
pub record ComplaintRow : Type 0 where
  pub fault : SubmitFault
  pub complaint : List ℕ

abbrev told : SubmitFault → List ℕ → ComplaintRow
told e t = record { fault = e; complaint = t }

-- the first source of the second stream of the first action
abbrev a_source : Place
a_source = entered (entered (entered outside Level.Action 0) Level.Stream 1) Level.Source 0

-- a task that was rejected at that source, which stands at byte 107, and a text that ends where a value has to follow
abbrev pub complaints : List ComplaintRow
complaints =
    told (SubmitFault.Rejected (record { refusal = Refusal.NoStreamLeft; trouble = record { path = a_source; offset = 107; exception = Exception.NextStream } }))
    (codes "refused 32 at 107 actions[0].streams[1].sources[0]")
    ∷ told (SubmitFault.Table (TableFault.Text (TextFault.Forbidden 12)))
    (codes "refused 11 at 12")
    ∷ []

-- each plan is shown by its reply, and each refusal told by its line
pub record Worked : Type 0 where
  pub each_reply : map (λ r. reply_text r.plan) replies ≡ map (λ r. r.reply) replies
  pub each_complaint : map (λ r. complaint_text r.fault) complaints ≡ map (λ r. r.complaint) complaints
