-- The vocabulary: the names of the sources, pixel formats, attributes and value words, and what each names.
use Rattle.std.specs.Prelude.{◌≡◌, ℕ, true, List, [], ◌∷◌, map, get_or, Some, codes, Option, slice_index_or, slice_range}
use Rattle.std.specs.Option.{option_map}
use Rattle.names.specs.declared.kinds.Source.{Source}
use Rattle.names.specs.declared.kinds.PixelFormat.{PixelFormat}
use Rattle.names.specs.declared.kinds.Attribute.{Attribute}
use Rattle.names.specs.declared.kinds.Word.{Word}
use Rattle.names.specs.Codes.{source_code, format_code, attribute_code, word_code}
use Rattle.names.specs.Names.{names_of, place, distinct}

-- the letters of the 64 names, end to end
unfoldable pub letters : List ℕ
letters = codes "feederfeederFrontfeederRearflatBedplanetarystoragebw1gray8gray16rgb24rgb48alarmsalarmVolumeautomaticDeskewautomaticSizebarcodesbitDepthReductionbrightnesscompressioncontinuousScancontrastcroppingdiscardBlankImagesdoubleFeedDetectiondoubleFeedDetectionLengthdoubleFeedDetectionResponsedoubleFeedDetectionSensitivityflipRotationheightimageMergeimageMergeHeightThresholdinvertjpegQualitymicrmirrornoiseFilteroverScannumberOfSheetsoffsetXoffsetYpatchCodesresolutionrotationsheetHandlingsheetSizethresholduncalibratedImagewidthoffonautomaticnonegroup4jpegdynamicerrorDiffusionthresholdingmaximumminimumsheetSizefrontAboveRearfrontBelowRearfrontLeftOfRearfrontRightOfRear"

-- where each name starts, and where the last one ends
unfoldable pub starts : List ℕ
starts = 0 ∷ 6 ∷ 17 ∷ 27 ∷ 34 ∷ 43 ∷ 50 ∷ 53 ∷ 58 ∷ 64 ∷ 69 ∷ 74 ∷ 80 ∷ 91 ∷ 106 ∷ 119 ∷ 127 ∷ 144 ∷ 154 ∷ 165 ∷ 179 ∷ 187 ∷ 195 ∷ 213 ∷ 232 ∷ 257 ∷ 284 ∷ 314 ∷ 326 ∷ 332 ∷ 342 ∷ 367 ∷ 373 ∷ 384 ∷ 388 ∷ 394 ∷ 405 ∷ 413 ∷ 427 ∷ 434 ∷ 441 ∷ 451 ∷ 461 ∷ 469 ∷ 482 ∷ 491 ∷ 500 ∷ 517 ∷ 522 ∷ 525 ∷ 527 ∷ 536 ∷ 540 ∷ 546 ∷ 550 ∷ 557 ∷ 571 ∷ 583 ∷ 590 ∷ 597 ∷ 606 ∷ 620 ∷ 634 ∷ 649 ∷ 665 ∷ []

-- the names of so many starts from a place on
abbrev pub names : ℕ → ℕ → List (List ℕ)
names from to = names_of letters (slice_range starts from to)

-- what is listed at the place of the first name that is spelled so
abbrev pub listed : {K : Type 0} → List K → K → List (List ℕ) → List ℕ → Option K
listed ks d ns x = option_map (λ i. get_or ks i d) (place x ns)

-- the sources, in the order of their names
abbrev pub sources : List Source
sources = Source.Feeder ∷ Source.FeederFront ∷ Source.FeederRear ∷ Source.FlatBed ∷ Source.Planetary ∷ Source.Storage ∷ []

abbrev pub source_names : List (List ℕ)
source_names = names 0 7

-- the name of one of them
unfoldable pub source_name : Source → List ℕ
source_name k = slice_index_or source_names (source_code k) []

-- the one that a string names which stands for these letters
unfoldable pub source_spelled : List ℕ → Option Source
source_spelled = listed sources Source.Feeder source_names

-- the pixel formats, in the order of their names
abbrev pub formats : List PixelFormat
formats = PixelFormat.Bw1 ∷ PixelFormat.Gray8 ∷ PixelFormat.Gray16 ∷ PixelFormat.Rgb24 ∷ PixelFormat.Rgb48 ∷ []

abbrev pub format_names : List (List ℕ)
format_names = names 6 12

-- the name of one of them
unfoldable pub format_name : PixelFormat → List ℕ
format_name k = slice_index_or format_names (format_code k) []

-- the one that a string names which stands for these letters
unfoldable pub format_spelled : List ℕ → Option PixelFormat
format_spelled = listed formats PixelFormat.Bw1 format_names

-- the attributes, in the order of their names
abbrev pub attributes : List Attribute
attributes = Attribute.Alarms ∷ Attribute.AlarmVolume ∷ Attribute.AutomaticDeskew ∷ Attribute.AutomaticSize ∷ Attribute.Barcodes ∷ Attribute.BitDepthReduction ∷ Attribute.Brightness ∷ Attribute.Compression ∷ Attribute.ContinuousScan ∷ Attribute.Contrast ∷ Attribute.Cropping ∷ Attribute.DiscardBlankImages ∷ Attribute.DoubleFeedDetection ∷ Attribute.DoubleFeedDetectionLength ∷ Attribute.DoubleFeedDetectionResponse ∷ Attribute.DoubleFeedDetectionSensitivity ∷ Attribute.FlipRotation ∷ Attribute.Height ∷ Attribute.ImageMerge ∷ Attribute.ImageMergeHeightThreshold ∷ Attribute.Invert ∷ Attribute.JpegQuality ∷ Attribute.Micr ∷ Attribute.Mirror ∷ Attribute.NoiseFilter ∷ Attribute.OverScan ∷ Attribute.NumberOfSheets ∷ Attribute.OffsetX ∷ Attribute.OffsetY ∷ Attribute.PatchCodes ∷ Attribute.Resolution ∷ Attribute.Rotation ∷ Attribute.SheetHandling ∷ Attribute.SheetSize ∷ Attribute.Threshold ∷ Attribute.UncalibratedImage ∷ Attribute.Width ∷ []

abbrev pub attribute_names : List (List ℕ)
attribute_names = names 11 49

-- the name of one of them
unfoldable pub attribute_name : Attribute → List ℕ
attribute_name k = slice_index_or attribute_names (attribute_code k) []

-- the one that a string names which stands for these letters
unfoldable pub attribute_spelled : List ℕ → Option Attribute
attribute_spelled = listed attributes Attribute.Alarms attribute_names

-- the value words, in the order of their names
abbrev pub words : List Word
words = Word.Off ∷ Word.On ∷ Word.Automatic ∷ Word.None ∷ Word.Group4 ∷ Word.Jpeg ∷ Word.Dynamic ∷ Word.ErrorDiffusion ∷ Word.Thresholding ∷ Word.Maximum ∷ Word.Minimum ∷ Word.SheetSize ∷ Word.FrontAboveRear ∷ Word.FrontBelowRear ∷ Word.FrontLeftOfRear ∷ Word.FrontRightOfRear ∷ []

abbrev pub word_names : List (List ℕ)
word_names = names 48 65

-- the name of one of them
unfoldable pub word_name : Word → List ℕ
word_name k = slice_index_or word_names (word_code k) []

-- the one that a string names which stands for these letters
unfoldable pub word_spelled : List ℕ → Option Word
word_spelled = listed words Word.Off word_names

-- in each list no two names are the same
abbrev pub Apart : Type 0
Apart = (distinct source_names ≡ true) × (distinct format_names ≡ true) × (distinct attribute_names ≡ true) × (distinct word_names ≡ true)

-- a string that names something is spelled as its name, and each name, spelled out, names what it is the name of
pub record Exact {K : Type 0} (all : List K) (name : K → List ℕ) (spelled : List ℕ → Option K) : Type 0 where
  pub told : (x : List ℕ) (k : K) → spelled x ≡ Some k → x ≡ name k
  pub own : map (λ k. spelled (name k)) all ≡ map (λ k. Some k) all

-- so it is in all four lists
abbrev pub Vocabulary : Type 0
Vocabulary = Exact sources source_name source_spelled × Exact formats format_name format_spelled × Exact attributes attribute_name attribute_spelled × Exact words word_name word_spelled
