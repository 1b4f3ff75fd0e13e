-- Names that a test finds the same are equal, each is the same as itself, and states that agree are equal.
use Rattle.std.proofs.Common.{◌≡◌, ℕ, true, ◌&&◌, [], ◌∷◌, get_or, sym, refl, ap, ◌∙◌, rules}
use Rattle.std.proofs.lemmas.Bool.{and_parts, and_from, eqb-true, eq-eqb}
use Rattle.names.specs.declared.kinds.Source.{Source}
use Rattle.names.specs.declared.kinds.PixelFormat.{PixelFormat}
use Rattle.names.specs.declared.kinds.Attribute.{Attribute}
use Rattle.names.specs.Codes.{source_code, format_code, attribute_code}
use Rattle.names.specs.Same.{same_source, same_format, same_attribute}
use Rattle.names.specs.contracts.kinds.SourcePartialEq as sources
use Rattle.names.specs.contracts.kinds.PixelFormatPartialEq as formats
use Rattle.names.specs.contracts.kinds.AttributePartialEq as attributes
use Rattle.scanner.specs.declared.point.Point.{Point}
use Rattle.scanner.specs.contracts.point.PointPartialEq as points
use Rattle.scanner.specs.Meaning.{State, Agree, same_point}

-- a list of all names, in the order of their codes, gives each back at its code
abbrev source_of : ℕ → Source
source_of n = get_or (Source.Feeder ∷ Source.FeederFront ∷ Source.FeederRear ∷ Source.FlatBed ∷ Source.Planetary ∷ Source.Storage ∷ []) n Source.Feeder

source_back : (a : Source) → source_of (source_code a) ≡ a
source_back Source.Feeder = refl
source_back Source.FeederFront = refl
source_back Source.FeederRear = refl
source_back Source.FlatBed = refl
source_back Source.Planetary = refl
source_back Source.Storage = refl

pub source_eq : (a b : Source) → same_source a b ≡ true → a ≡ b
source_eq a b h = sym (source_back a) ∙ ap source_of (eqb-true (source_code a) (source_code b) h) ∙ source_back b

abbrev format_of : ℕ → PixelFormat
format_of n = get_or (PixelFormat.Bw1 ∷ PixelFormat.Gray8 ∷ PixelFormat.Gray16 ∷ PixelFormat.Rgb24 ∷ PixelFormat.Rgb48 ∷ []) n PixelFormat.Bw1

format_back : (a : PixelFormat) → format_of (format_code a) ≡ a
format_back PixelFormat.Bw1 = refl
format_back PixelFormat.Gray8 = refl
format_back PixelFormat.Gray16 = refl
format_back PixelFormat.Rgb24 = refl
format_back PixelFormat.Rgb48 = refl

pub format_eq : (a b : PixelFormat) → same_format a b ≡ true → a ≡ b
format_eq a b h = sym (format_back a) ∙ ap format_of (eqb-true (format_code a) (format_code b) h) ∙ format_back b

abbrev attribute_of : ℕ → Attribute
attribute_of n = get_or (Attribute.Alarms ∷ Attribute.AlarmVolume ∷ Attribute.AutomaticDeskew ∷ Attribute.AutomaticSize ∷ Attribute.Barcodes ∷ Attribute.BitDepthReduction ∷ Attribute.Brightness ∷ Attribute.Compression ∷ Attribute.ContinuousScan ∷ Attribute.Contrast ∷ Attribute.Cropping ∷ Attribute.DiscardBlankImages ∷ Attribute.DoubleFeedDetection ∷ Attribute.DoubleFeedDetectionLength ∷ Attribute.DoubleFeedDetectionResponse ∷ Attribute.DoubleFeedDetectionSensitivity ∷ Attribute.FlipRotation ∷ Attribute.Height ∷ Attribute.ImageMerge ∷ Attribute.ImageMergeHeightThreshold ∷ Attribute.Invert ∷ Attribute.JpegQuality ∷ Attribute.Micr ∷ Attribute.Mirror ∷ Attribute.NoiseFilter ∷ Attribute.OverScan ∷ Attribute.NumberOfSheets ∷ Attribute.OffsetX ∷ Attribute.OffsetY ∷ Attribute.PatchCodes ∷ Attribute.Resolution ∷ Attribute.Rotation ∷ Attribute.SheetHandling ∷ Attribute.SheetSize ∷ Attribute.Threshold ∷ Attribute.UncalibratedImage ∷ Attribute.Width ∷ []) n Attribute.Alarms

attribute_back : (a : Attribute) → attribute_of (attribute_code a) ≡ a
attribute_back Attribute.Alarms = refl
attribute_back Attribute.AlarmVolume = refl
attribute_back Attribute.AutomaticDeskew = refl
attribute_back Attribute.AutomaticSize = refl
attribute_back Attribute.Barcodes = refl
attribute_back Attribute.BitDepthReduction = refl
attribute_back Attribute.Brightness = refl
attribute_back Attribute.Compression = refl
attribute_back Attribute.ContinuousScan = refl
attribute_back Attribute.Contrast = refl
attribute_back Attribute.Cropping = refl
attribute_back Attribute.DiscardBlankImages = refl
attribute_back Attribute.DoubleFeedDetection = refl
attribute_back Attribute.DoubleFeedDetectionLength = refl
attribute_back Attribute.DoubleFeedDetectionResponse = refl
attribute_back Attribute.DoubleFeedDetectionSensitivity = refl
attribute_back Attribute.FlipRotation = refl
attribute_back Attribute.Height = refl
attribute_back Attribute.ImageMerge = refl
attribute_back Attribute.ImageMergeHeightThreshold = refl
attribute_back Attribute.Invert = refl
attribute_back Attribute.JpegQuality = refl
attribute_back Attribute.Micr = refl
attribute_back Attribute.Mirror = refl
attribute_back Attribute.NoiseFilter = refl
attribute_back Attribute.OverScan = refl
attribute_back Attribute.NumberOfSheets = refl
attribute_back Attribute.OffsetX = refl
attribute_back Attribute.OffsetY = refl
attribute_back Attribute.PatchCodes = refl
attribute_back Attribute.Resolution = refl
attribute_back Attribute.Rotation = refl
attribute_back Attribute.SheetHandling = refl
attribute_back Attribute.SheetSize = refl
attribute_back Attribute.Threshold = refl
attribute_back Attribute.UncalibratedImage = refl
attribute_back Attribute.Width = refl

pub attribute_eq : (a b : Attribute) → same_attribute a b ≡ true → a ≡ b
attribute_eq a b h = sym (attribute_back a) ∙ ap attribute_of (eqb-true (attribute_code a) (attribute_code b) h) ∙ attribute_back b

pub point_eq : (a b : Point) → same_point a b ≡ true → a ≡ b
point_eq a b h =
    let outer = and_parts (same_source a.source b.source) _ h in
    let inner = and_parts (same_format a.format b.format) _ outer.1 in
    let s = source_eq a.source b.source outer.0 in
    let f = format_eq a.format b.format inner.0 in
    let t = attribute_eq a.attribute b.attribute inner.1 in
    λ i. record { source = s i; format = f i; attribute = t i }

pub pair_refl : (s : Source) (f : PixelFormat) → (same_source s s && same_format f f) ≡ true
pair_refl s f = and_from _ _ (eq-eqb (source_code s) _ refl) (eq-eqb (format_code f) _ refl)

pub point_refl : (a : Point) → same_point a a ≡ true
point_refl a =
    and_from _ _ (eq-eqb (source_code a.source) _ refl)
    (and_from _ _ (eq-eqb (format_code a.format) _ refl) (eq-eqb (attribute_code a.attribute) _ refl))

pub whole : {a b : State} → Agree a b → a ≡ b
whole h = λ i. record { enabled = λ s f. h.enabled s f i; current = λ p. h.current p i }

-- the derived comparison of points goes by the numbers of the three parts
source_test : (a b : Source) → sources.TheImpl.ghosts.eq a b ≡ same_source a b
source_test a b = search rules

format_test : (a b : PixelFormat) → formats.TheImpl.ghosts.eq a b ≡ same_format a b
format_test a b = search rules

attribute_test : (a b : Attribute) → attributes.TheImpl.ghosts.eq a b ≡ same_attribute a b
attribute_test a b = search rules

pub point_test : (a b : Point) → points.TheImpl.ghosts.eq a b ≡ same_point a b
point_test a b = let s = source_test a.source b.source in let f = format_test a.format b.format in let t = attribute_test a.attribute b.attribute in cc
