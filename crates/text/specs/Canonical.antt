-- The canonical text of a value: no white space, plain letters, integers of 32 bits.
use Rattle.std.specs.Prelude.{◌≡◌, ℕ, zero, suc, ◌≤◌, Bool, true, false, not, ◌&&◌, ◌||◌, List, [], ◌∷◌, ◌++◌, ℤ, pos, negsuc, ◌==◌, nat_le}
use Rattle.std.specs.Fmt.{signed_decimal}
use Rattle.text.specs.Bytes.{digit, exponent_mark}
use Rattle.text.specs.Machine.{string, number}
use Rattle.text.specs.Tree.{Json, Members, Entries, scalar, no_member, one_member, no_entry, one_entry}

mutual
  -- a string of letters, an integer, an object by its fields, an array by its items
  pub data Plain : Type 0 where
    word : List ℕ → Plain
    integer : ℤ → Plain
    object_of : Fields → Plain
    array_of : Items → Plain

  -- a name, its value, and the fields after it
  pub data Fields : Type 0 where
    no_field : Fields
    a_field : List ℕ → Plain → Fields → Fields

  -- an item and the items after it
  pub data Items : Type 0 where
    no_item : Items
    an_item : Plain → Items → Items

-- the bytes of a value, with the bytes that follow; fields and items come with their closing bracket, and all but the
-- first have a comma before them
unfoldable mutual
  pub written_on : Plain → List ℕ → List ℕ
  written_on (word cs) r = 34 ∷ (cs ++ 34 ∷ r)
  written_on (integer z) r = signed_decimal z ++ r
  written_on (object_of fs) r = 123 ∷ fields_on true fs r
  written_on (array_of vs) r = 91 ∷ items_on true vs r

  pub fields_on : Bool → Fields → List ℕ → List ℕ
  fields_on first no_field r = 125 ∷ r
  fields_on true (a_field n v fs) r = 34 ∷ (n ++ 34 ∷ 58 ∷ written_on v (fields_on false fs r))
  fields_on false (a_field n v fs) r = 44 ∷ 34 ∷ (n ++ 34 ∷ 58 ∷ written_on v (fields_on false fs r))

  pub items_on : Bool → Items → List ℕ → List ℕ
  items_on first no_item r = 93 ∷ r
  items_on true (an_item v vs) r = written_on v (items_on false vs r)
  items_on false (an_item v vs) r = 44 ∷ written_on v (items_on false vs r)

-- the canonical text of a value
abbrev pub written : Plain → List ℕ
written v = written_on v []

-- the offset after these bytes
abbrev pub past : List ℕ → ℕ → ℕ
past [] i = i
past (c ∷ cs) i = past cs (suc i)

-- where the value that begins at i ends; of fields and items, where the closing bracket stands
unfoldable mutual
  pub past_value : Plain → ℕ → ℕ
  past_value (word cs) i = suc (past cs (suc i))
  past_value (integer z) i = past (signed_decimal z) i
  past_value (object_of fs) i = suc (past_fields true fs (suc i))
  past_value (array_of vs) i = suc (past_items true vs (suc i))

  pub past_fields : Bool → Fields → ℕ → ℕ
  past_fields first no_field i = i
  past_fields true (a_field n v fs) i = past_fields false fs (past_value v (suc (suc (past n (suc i)))))
  past_fields false (a_field n v fs) i = past_fields false fs (past_value v (suc (suc (past n (suc (suc i))))))

  pub past_items : Bool → Items → ℕ → ℕ
  past_items first no_item i = i
  past_items true (an_item v vs) i = past_items false vs (past_value v i)
  past_items false (an_item v vs) i = past_items false vs (past_value v (suc i))

-- the value that begins at i, by the offsets of its tokens
unfoldable mutual
  pub placed : Plain → ℕ → Json
  placed (word cs) i = scalar string i
  placed (integer z) i = scalar number i
  placed (object_of fs) i = Json.object i (placed_fields true fs (suc i)) (past_fields true fs (suc i))
  placed (array_of vs) i = Json.array i (placed_items true vs (suc i)) (past_items true vs (suc i))

  pub placed_fields : Bool → Fields → ℕ → Members
  placed_fields first no_field i = no_member
  placed_fields true (a_field n v fs) i = one_member i (placed v (suc (suc (past n (suc i))))) (placed_fields false fs (past_value v (suc (suc (past n (suc i))))))
  placed_fields false (a_field n v fs) i = one_member (suc i) (placed v (suc (suc (past n (suc (suc i)))))) (placed_fields false fs (past_value v (suc (suc (past n (suc (suc i)))))))

  pub placed_items : Bool → Items → ℕ → Entries
  placed_items first no_item i = no_entry
  placed_items true (an_item v vs) i = one_entry (placed v i) (placed_items false vs (past_value v i))
  placed_items false (an_item v vs) i = one_entry (placed v (suc i)) (placed_items false vs (past_value v (suc i)))

-- an ASCII character that stands for itself: no control character, quote or backslash
abbrev pub letter : ℕ → Bool
letter b = nat_le 32 b && nat_le b 126 && not (b == 34) && not (b == 92)

-- such characters only
abbrev pub Letters : List ℕ → Type 0
Letters [] = Unit {0}
Letters (c ∷ cs) = (letter c ≡ true) × Letters cs

-- from -2147483648 to 2147483647
abbrev pub Within32 : ℤ → Type 0
Within32 (pos n) = n ≤ 2147483647
Within32 (negsuc n) = n ≤ 2147483647

-- letters, integers of 32 bits, and at most d levels
unfoldable mutual
  pub Writable : ℕ → Plain → Type 0
  Writable d (word cs) = Letters cs
  Writable d (integer z) = Within32 z
  Writable zero (object_of fs) = ⊥
  Writable (suc d) (object_of fs) = WritableFields d fs
  Writable zero (array_of vs) = ⊥
  Writable (suc d) (array_of vs) = WritableItems d vs

  pub WritableFields : ℕ → Fields → Type 0
  WritableFields d no_field = Unit {0}
  WritableFields d (a_field n v fs) = Letters n × Writable d v × WritableFields d fs

  pub WritableItems : ℕ → Items → Type 0
  WritableItems d no_item = Unit {0}
  WritableItems d (an_item v vs) = Writable d v × WritableItems d vs

-- no number goes on with what comes first: no digit, point or exponent
abbrev pub number_ends : List ℕ → Bool
number_ends [] = true
number_ends (b ∷ bs) = not (digit b || b == 46 || exponent_mark b)
