-- The member names, and what each is for.
use Rattle.std.proofs.Common.{◌≡◌, ℕ, ◌<◌, true, false, get_or, Some, refl, sym, ap, ◌∙◌, arith}
use Rattle.table.specs.declared.keys.Key.{Key}
use Rattle.table.specs.declared.level.Level.{Level}
use Rattle.table.specs.Levels.{key_code, is_array_name, part, knows}
use Rattle.table.specs.Words.{keys}
use Rattle.table.specs.Form.{is_value_name}

-- the list of the member names tells each by its place
key_back : (key : Key) → get_or keys (key_code key) Key.Actions ≡ key
key_back Key.Actions = refl
key_back Key.Streams = refl
key_back Key.Sources = refl
key_back Key.PixelFormats = refl
key_back Key.Attributes = refl
key_back Key.Values = refl
key_back Key.Comment = refl
key_back Key.Exception = refl
key_back Key.Vendor = refl
key_back Key.Name = refl
key_back Key.Action = refl
key_back Key.Source = refl
key_back Key.PixelFormat = refl
key_back Key.Attribute = refl
key_back Key.Value = refl

pub same_key : (a b : Key) → key_code a ≡ key_code b → a ≡ b
same_key a b e = sym (key_back a) ∙ ap (λ (n : ℕ). get_or keys n Key.Actions) e ∙ key_back b

pub key_small : (key : Key) → key_code key < 15
key_small Key.Actions = omega arith
key_small Key.Streams = omega arith
key_small Key.Sources = omega arith
key_small Key.PixelFormats = omega arith
key_small Key.Attributes = omega arith
key_small Key.Values = omega arith
key_small Key.Comment = omega arith
key_small Key.Exception = omega arith
key_small Key.Vendor = omega arith
key_small Key.Name = omega arith
key_small Key.Action = omega arith
key_small Key.Source = omega arith
key_small Key.PixelFormat = omega arith
key_small Key.Attribute = omega arith
key_small Key.Value = omega arith

-- arrays, other members, and the one called value
pub part_array : (l p : Level) (key : Key) → part l key ≡ Some p → is_array_name key ≡ true
part_array l p Key.Actions e = refl
part_array l p Key.Streams e = refl
part_array l p Key.Sources e = refl
part_array l p Key.PixelFormats e = refl
part_array l p Key.Attributes e = refl
part_array l p Key.Values e = refl
part_array l p Key.Comment e = absurd (cc)
part_array l p Key.Exception e = absurd (cc)
part_array l p Key.Vendor e = absurd (cc)
part_array l p Key.Name e = absurd (cc)
part_array l p Key.Action e = absurd (cc)
part_array l p Key.Source e = absurd (cc)
part_array l p Key.PixelFormat e = absurd (cc)
part_array l p Key.Attribute e = absurd (cc)
part_array l p Key.Value e = absurd (cc)

pub known_plain : (l : Level) (key : Key) → knows l key ≡ true → is_array_name key ≡ false
known_plain l Key.Actions e = absurd (cc)
known_plain l Key.Streams e = absurd (cc)
known_plain l Key.Sources e = absurd (cc)
known_plain l Key.PixelFormats e = absurd (cc)
known_plain l Key.Attributes e = absurd (cc)
known_plain l Key.Values e = absurd (cc)
known_plain l Key.Comment e = refl
known_plain l Key.Exception e = refl
known_plain l Key.Vendor e = refl
known_plain l Key.Name e = refl
known_plain l Key.Action e = refl
known_plain l Key.Source e = refl
known_plain l Key.PixelFormat e = refl
known_plain l Key.Attribute e = refl
known_plain l Key.Value e = refl

pub not_value : (key : Key) → (key ≡ Key.Value → ⊥) → is_value_name key ≡ false
not_value Key.Actions n = refl
not_value Key.Streams n = refl
not_value Key.Sources n = refl
not_value Key.PixelFormats n = refl
not_value Key.Attributes n = refl
not_value Key.Values n = refl
not_value Key.Comment n = refl
not_value Key.Exception n = refl
not_value Key.Vendor n = refl
not_value Key.Name n = refl
not_value Key.Action n = refl
not_value Key.Source n = refl
not_value Key.PixelFormat n = refl
not_value Key.Attribute n = refl
not_value Key.Value n = absurd (n refl)
