-- Names by number, from 1 in the order of their lists, as a setup tool sends them.
use Rattle.std.specs.Prelude.{ℕ, ◌-◌, cond, List, [], ◌∷◌, Some, None, Option, ◌==◌}
use Rattle.names.specs.declared.kinds.Source.{Source}
use Rattle.names.specs.declared.kinds.PixelFormat.{PixelFormat}
use Rattle.names.specs.declared.kinds.Attribute.{Attribute}
use Rattle.names.specs.declared.kinds.Word.{Word}

-- the entry with this number, counted from 1, or none where the list has none
abbrev pub numbered : {X : Type 0} → List X → ℕ → Option X
numbered [] n = None
numbered (x ∷ xs) n = cond (n == 1) (Some x) (numbered xs (n - 1))

-- the sources in order
abbrev pub source_list : List Source
source_list = Source.Feeder ∷ Source.FeederFront ∷ Source.FeederRear ∷ Source.FlatBed ∷ Source.Planetary ∷ Source.Storage ∷ []

-- the source with this number
unfoldable pub source_numbered : ℕ → Option Source
source_numbered n = numbered source_list n

-- the pixel formats in order
abbrev pub format_list : List PixelFormat
format_list = PixelFormat.Bw1 ∷ PixelFormat.Gray8 ∷ PixelFormat.Gray16 ∷ PixelFormat.Rgb24 ∷ PixelFormat.Rgb48 ∷ []

-- the pixel format with this number
unfoldable pub format_numbered : ℕ → Option PixelFormat
format_numbered n = numbered format_list n

-- the attributes in order
abbrev pub attribute_list : List Attribute
attribute_list = Attribute.Alarms ∷ Attribute.AlarmVolume ∷ Attribute.AutomaticDeskew ∷ Attribute.AutomaticSize ∷ Attribute.Barcodes ∷ Attribute.BitDepthReduction ∷ Attribute.Brightness ∷ Attribute.Compression ∷ Attribute.ContinuousScan ∷ Attribute.Contrast ∷ Attribute.Cropping ∷ Attribute.DiscardBlankImages ∷ Attribute.DoubleFeedDetection ∷ Attribute.DoubleFeedDetectionLength ∷ Attribute.DoubleFeedDetectionResponse ∷ Attribute.DoubleFeedDetectionSensitivity ∷ Attribute.FlipRotation ∷ Attribute.Height ∷ Attribute.ImageMerge ∷ Attribute.ImageMergeHeightThreshold ∷ Attribute.Invert ∷ Attribute.JpegQuality ∷ Attribute.Micr ∷ Attribute.Mirror ∷ Attribute.NoiseFilter ∷ Attribute.OverScan ∷ Attribute.NumberOfSheets ∷ Attribute.OffsetX ∷ Attribute.OffsetY ∷ Attribute.PatchCodes ∷ Attribute.Resolution ∷ Attribute.Rotation ∷ Attribute.SheetHandling ∷ Attribute.SheetSize ∷ Attribute.Threshold ∷ Attribute.UncalibratedImage ∷ Attribute.Width ∷ []

-- the attribute with this number
unfoldable pub attribute_numbered : ℕ → Option Attribute
attribute_numbered n = numbered attribute_list n

-- the value words in order
abbrev pub word_list : List Word
word_list = Word.Off ∷ Word.On ∷ Word.Automatic ∷ Word.None ∷ Word.Group4 ∷ Word.Jpeg ∷ Word.Dynamic ∷ Word.ErrorDiffusion ∷ Word.Thresholding ∷ Word.Maximum ∷ Word.Minimum ∷ Word.SheetSize ∷ Word.FrontAboveRear ∷ Word.FrontBelowRear ∷ Word.FrontLeftOfRear ∷ Word.FrontRightOfRear ∷ []

-- the value word with this number
unfoldable pub word_numbered : ℕ → Option Word
word_numbered n = numbered word_list n
