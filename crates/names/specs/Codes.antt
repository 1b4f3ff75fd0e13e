-- The place of each name in its list, counted from 0.
use Rattle.std.specs.Prelude.{ℕ}
use Rattle.names.specs.declared.kinds.Source.{Source}
use Rattle.names.specs.declared.kinds.PixelFormat.{PixelFormat}
use Rattle.names.specs.declared.kinds.Attribute.{Attribute}
use Rattle.names.specs.declared.kinds.Word.{Word}

abbrev pub source_code : Source → ℕ
source_code Source.Feeder = 0
source_code Source.FeederFront = 1
source_code Source.FeederRear = 2
source_code Source.FlatBed = 3
source_code Source.Planetary = 4
source_code Source.Storage = 5

abbrev pub format_code : PixelFormat → ℕ
format_code PixelFormat.Bw1 = 0
format_code PixelFormat.Gray8 = 1
format_code PixelFormat.Gray16 = 2
format_code PixelFormat.Rgb24 = 3
format_code PixelFormat.Rgb48 = 4

abbrev pub attribute_code : Attribute → ℕ
attribute_code Attribute.Alarms = 0
attribute_code Attribute.AlarmVolume = 1
attribute_code Attribute.AutomaticDeskew = 2
attribute_code Attribute.AutomaticSize = 3
attribute_code Attribute.Barcodes = 4
attribute_code Attribute.BitDepthReduction = 5
attribute_code Attribute.Brightness = 6
attribute_code Attribute.Compression = 7
attribute_code Attribute.ContinuousScan = 8
attribute_code Attribute.Contrast = 9
attribute_code Attribute.Cropping = 10
attribute_code Attribute.DiscardBlankImages = 11
attribute_code Attribute.DoubleFeedDetection = 12
attribute_code Attribute.DoubleFeedDetectionLength = 13
attribute_code Attribute.DoubleFeedDetectionResponse = 14
attribute_code Attribute.DoubleFeedDetectionSensitivity = 15
attribute_code Attribute.FlipRotation = 16
attribute_code Attribute.Height = 17
attribute_code Attribute.ImageMerge = 18
attribute_code Attribute.ImageMergeHeightThreshold = 19
attribute_code Attribute.Invert = 20
attribute_code Attribute.JpegQuality = 21
attribute_code Attribute.Micr = 22
attribute_code Attribute.Mirror = 23
attribute_code Attribute.NoiseFilter = 24
attribute_code Attribute.OverScan = 25
attribute_code Attribute.NumberOfSheets = 26
attribute_code Attribute.OffsetX = 27
attribute_code Attribute.OffsetY = 28
attribute_code Attribute.PatchCodes = 29
attribute_code Attribute.Resolution = 30
attribute_code Attribute.Rotation = 31
attribute_code Attribute.SheetHandling = 32
attribute_code Attribute.SheetSize = 33
attribute_code Attribute.Threshold = 34
attribute_code Attribute.UncalibratedImage = 35
attribute_code Attribute.Width = 36

abbrev pub word_code : Word → ℕ
word_code Word.Off = 0
word_code Word.On = 1
word_code Word.Automatic = 2
word_code Word.None = 3
word_code Word.Group4 = 4
word_code Word.Jpeg = 5
word_code Word.Dynamic = 6
word_code Word.ErrorDiffusion = 7
word_code Word.Thresholding = 8
word_code Word.Maximum = 9
word_code Word.Minimum = 10
word_code Word.SheetSize = 11
word_code Word.FrontAboveRear = 12
word_code Word.FrontBelowRear = 13
word_code Word.FrontLeftOfRear = 14
word_code Word.FrontRightOfRear = 15
