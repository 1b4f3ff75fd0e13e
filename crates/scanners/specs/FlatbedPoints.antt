-- The flatbed keeps to its points.
use Rattle.std.specs.Prelude.{◌≡◌, Bool, true, false, cond, ◌&&◌, ◌||◌, is_some, Some, None, Option, refl}
use Rattle.std.proofs.Common.{ap, ◌∙◌}
use Rattle.std.proofs.lemmas.Bool.{and_parts, cond-true}
use Rattle.names.specs.declared.kinds.Source.{Source}
use Rattle.names.specs.declared.kinds.PixelFormat.{PixelFormat}
use Rattle.names.specs.declared.kinds.Attribute.{Attribute}
use Rattle.names.specs.declared.kinds.Value.{Value}
use Rattle.names.specs.Same.{same_source, same_format, same_attribute}
use Rattle.scanner.specs.declared.point.Point.{Point}
use Rattle.scanner.specs.Meaning.{KeepsToPoints}
use Rattle.scanners.specs.declared.flatbed.Settings.{Settings}
use Rattle.scanners.specs.declared.flatbed.Flatbed.{Flatbed}
use Rattle.scanners.specs.Flatbed.{flatbed_catalogue, flatbed_state, flatbed_pair, switched_on, held_at, by_attribute}

-- what is there behind a test has passed it
passed : {X : Type 0} (b : Bool) (o : Option X) → is_some (cond b o None) ≡ true → b ≡ true
passed true o h = refl
passed false o h = h

-- values are offered at the three attributes alone, and each of these has a value
valued : (t u w q r s : Bool) (x y z : Value) → cond t q (cond u r (cond w s false)) ≡ true → is_some (cond t (Some x) (cond u (Some y) (cond w (Some z) None))) ≡ true
valued true u w q r s x y z h = refl
valued false true w q r s x y z h = refl
valued false false true q r s x y z h = refl
valued false false false q r s x y z h = h

-- whichever values they have
alike : (t u w : Bool) (x y z k l m : Value) → is_some (cond t (Some x) (cond u (Some y) (cond w (Some z) None))) ≡ is_some (cond t (Some k) (cond u (Some l) (cond w (Some m) None)))
alike true u w x y z k l m = refl
alike false true w x y z k l m = refl
alike false false true x y z k l m = refl
alike false false false x y z k l m = refl

-- settings are those of one of the two pairs
switched : (s g c : Bool) (x y : Settings) → switched_on (cond s (cond g (Some x) (cond c (Some y) None)) None) ≡ true → (s && (g || c)) ≡ true
switched true true c x y h = refl
switched true false true x y h = refl
switched true false false x y h = h
switched false g c x y h = h

held : (s g c : Bool) (x y : Settings) (a : Attribute) (k l m : Value)
    → is_some (held_at (cond s (cond g (Some x) (cond c (Some y) None)) None) a) ≡ is_some (cond (s && (g || c)) (by_attribute a (Some k) (Some l) (Some m) None) None)
held true true c x y a k l m = alike (same_attribute a Attribute.Resolution) (same_attribute a Attribute.Brightness) (same_attribute a Attribute.Compression) x.resolution x.brightness x.compression k l m
held true false true x y a k l m = alike (same_attribute a Attribute.Resolution) (same_attribute a Attribute.Brightness) (same_attribute a Attribute.Compression) y.resolution y.brightness y.compression k l m
held true false false x y a k l m = refl
held false g c x y a k l m = refl

pub keeps_to_points : (x : Flatbed) → KeepsToPoints flatbed_catalogue (flatbed_state x)
keeps_to_points x =
    let pair : Point → Bool = λ p. flatbed_pair p.source p.format in
    record {
      formats = λ s f h. (and_parts (same_source s Source.FlatBed) _ h).0;
      attributes = λ p h. passed (pair p) _ h;
      values = λ p v h.
          let both = and_parts (pair p) _ h in
          ap is_some (cond-true (pair p) _ None both.0) ∙ valued (same_attribute p.attribute Attribute.Resolution) (same_attribute p.attribute Attribute.Brightness) (same_attribute p.attribute Attribute.Compression) _ _ _ _ _ _ both.1;
      enabled = λ s f h. switched (same_source s Source.FlatBed) (same_format f PixelFormat.Gray8) (same_format f PixelFormat.Rgb24) x.gray x.color h;
      current = λ p. held (same_source p.source Source.FlatBed) (same_format p.format PixelFormat.Gray8) (same_format p.format PixelFormat.Rgb24) x.gray x.color p.attribute _ _ _;
    }
