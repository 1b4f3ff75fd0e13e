-- Comparing points goes by an equivalence: each of the three parts is compared by its number.
use Rattle.std.specs.Prelude.{◌≡◌, true}
use Rattle.std.specs.Cmp.{IsEquivalence, and_equiv, on_equiv, nat_eq_equiv}
use Rattle.names.specs.declared.kinds.Source.{Source}
use Rattle.names.specs.declared.kinds.PixelFormat.{PixelFormat}
use Rattle.names.specs.declared.kinds.Attribute.{Attribute}
use Rattle.names.specs.Codes.{source_code, format_code, attribute_code}
use Rattle.names.specs.Same.{same_source, same_format, same_attribute}
use Rattle.scanner.specs.declared.point.Point.{Point}
use Rattle.scanner.specs.Meaning.{same_point}

-- Sources, formats and attributes with the same number are one, and so are points whose three parts are the same.
pub record SameIsOne : Type 0 where
  pub sources : (a b : Source) → same_source a b ≡ true → a ≡ b
  pub formats : (a b : PixelFormat) → same_format a b ≡ true → a ≡ b
  pub attributes : (a b : Attribute) → same_attribute a b ≡ true → a ≡ b
  pub points : (a b : Point) → same_point a b ≡ true → a ≡ b

pub same_point_equiv : IsEquivalence same_point
same_point_equiv =
    and_equiv
    (on_equiv (λ (p : Point). source_code p.source) nat_eq_equiv)
    (and_equiv (on_equiv (λ (p : Point). format_code p.format) nat_eq_equiv) (on_equiv (λ (p : Point). attribute_code p.attribute) nat_eq_equiv))
