-- What a member does to its object: the ways in which it breaks no rule, and those in which it breaks one.
use Rattle.std.proofs.Common.{◌≡◌, ℕ, Bool, true, false, List, drop, Some, None, Option, refl, sym}
use Rattle.text.specs.Machine.{Kind, begin_object, end_object, begin_array, end_array, name, string, number, literal_true, literal_false, literal_null}
use Rattle.text.specs.Tree.{Json}
use Rattle.table.specs.declared.keys.Key.{Key}
use Rattle.table.specs.declared.level.Level.{Level}
use Rattle.table.specs.declared.draft.Draft.{Draft}
use Rattle.table.specs.declared.fault.FormRule.{FormRule}
use Rattle.table.specs.declared.fault.FormRule.TheVariants.{ArrayElsewhere, WrongKind, Repeated}
use Rattle.table.specs.Levels.{is_array_name, part, knows, known}
use Rattle.table.specs.Words.{value_meaning}
use Rattle.table.specs.Drafts.{seen_before, with_unknown, with_word, taken}
use Rattle.table.specs.Form.{Doing, doing, is_value_name}
use Rattle.table.specs.Members.{first_kind, starts, said}
use Rattle.table.proofs.Values.{Read, fine, broke, same_fine, took, string_of, value_of, first_time, noting, array_of, plain_of, known_of, member_of}

module _ (t : List ℕ) (k : ℕ) (v : Json) (d : Doing) (f : Level → Doing → Read Doing) where
  -- a member whose name spells this key, or none, breaks no rule and leaves the object so
  pub data Took : Option Key → Doing → Type 0 where
    -- its level does not know it
    unknown : {o : Option Key} → known d.draft.level o ≡ None → Took o (doing (with_unknown d.draft) d.parts)
    -- the array of the level's parts
    parts : {key : Key} {p : Level} {e : Doing} → is_array_name key ≡ true → part d.draft.level key ≡ Some p → seen_before key d.draft ≡ false → f p (noting key d) ≡ fine e → Took (Some key) e
    -- the value of a value object
    valued : {key : Key} → is_array_name key ≡ false → knows d.draft.level key ≡ true → seen_before key d.draft ≡ false → is_value_name key ≡ true → Took (Some key) (doing (with_word (value_meaning (first_kind v) (drop (starts v) t)) (starts v) (noting key d).draft) d.parts)
    -- another string
    worded : {key : Key} {h : Draft} → is_array_name key ≡ false → knows d.draft.level key ≡ true → seen_before key d.draft ≡ false → is_value_name key ≡ false → first_kind v ≡ string → taken (said t (starts v)) key (starts v) (noting key d).draft ≡ Some h → Took (Some key) (doing h d.parts)

  -- it breaks this rule at this offset
  pub data Refused : Option Key → FormRule → ℕ → Type 0 where
    elsewhere : {key : Key} → is_array_name key ≡ true → part d.draft.level key ≡ None → Refused (Some key) ArrayElsewhere k
    array_again : {key : Key} {p : Level} → part d.draft.level key ≡ Some p → seen_before key d.draft ≡ true → Refused (Some key) Repeated k
    plain_again : {key : Key} → knows d.draft.level key ≡ true → seen_before key d.draft ≡ true → Refused (Some key) Repeated k
    in_parts : {key : Key} {p : Level} {rule : FormRule} {i : ℕ} → part d.draft.level key ≡ Some p → f p (noting key d) ≡ broke rule i → Refused (Some key) rule i
    no_string : {key : Key} → knows d.draft.level key ≡ true → is_value_name key ≡ false → (first_kind v ≡ string → ⊥) → Refused (Some key) WrongKind (starts v)
    not_taken : {key : Key} → knows d.draft.level key ≡ true → first_kind v ≡ string → taken (said t (starts v)) key (starts v) (noting key d).draft ≡ None → Refused (Some key) WrongKind (starts v)

  -- either way
  pub data Went (o : Option Key) : Read Doing → Type 0 where
    went : {e : Doing} → Took o e → Went o (fine e)
    stopped : {rule : FormRule} {i : ℕ} → Refused o rule i → Went o (broke rule i)

  module _ (key : Key) (n : is_array_name key ≡ false) (c : knows d.draft.level key ≡ true) (s : seen_before key d.draft ≡ false) where
    went_took : (o : Option Draft) → is_value_name key ≡ false → first_kind v ≡ string → taken (said t (starts v)) key (starts v) (noting key d).draft ≡ o → Went (Some key) (took o d.parts (starts v))
    went_took None b x e = stopped (not_taken c x e)
    went_took (Some h) b x e = went (worded n c s b x e)

    went_string : (x : Kind) → is_value_name key ≡ false → first_kind v ≡ x → Went (Some key) (string_of x t key (starts v) (noting key d))
    went_string string b e = went_took _ b e refl
    went_string begin_object b e = stopped (no_string c b (λ z. cc))
    went_string end_object b e = stopped (no_string c b (λ z. cc))
    went_string begin_array b e = stopped (no_string c b (λ z. cc))
    went_string end_array b e = stopped (no_string c b (λ z. cc))
    went_string name b e = stopped (no_string c b (λ z. cc))
    went_string number b e = stopped (no_string c b (λ z. cc))
    went_string literal_true b e = stopped (no_string c b (λ z. cc))
    went_string literal_false b e = stopped (no_string c b (λ z. cc))
    went_string literal_null b e = stopped (no_string c b (λ z. cc))

    went_value : (b : Bool) → is_value_name key ≡ b → Went (Some key) (value_of b t key v (noting key d))
    went_value true e = went (valued n c s e)
    went_value false e = went_string (first_kind v) e refl

  went_plain_once : (b : Bool) (key : Key) → is_array_name key ≡ false → knows d.draft.level key ≡ true → seen_before key d.draft ≡ b → Went (Some key) (first_time b k (value_of (is_value_name key) t key v (noting key d)))
  went_plain_once true key n c s = stopped (plain_again c s)
  went_plain_once false key n c s = went_value key n c s (is_value_name key) refl

  went_plain : (b : Bool) (key : Key) → is_array_name key ≡ false → knows d.draft.level key ≡ b → Went (Some key) (plain_of b t key k v d)
  went_plain true key n c = went_plain_once (seen_before key d.draft) key n c refl
  went_plain false key n c = went (unknown (rw (n, c) refl))

  went_parts : (r : Read Doing) (key : Key) (p : Level) → is_array_name key ≡ true → part d.draft.level key ≡ Some p → seen_before key d.draft ≡ false → f p (noting key d) ≡ r → Went (Some key) r
  went_parts (fine e) key p n c s z = went (parts n c s z)
  went_parts (broke rule i) key p n c s z = stopped (in_parts c z)

  went_array_once : (b : Bool) (key : Key) (p : Level) → is_array_name key ≡ true → part d.draft.level key ≡ Some p → seen_before key d.draft ≡ b → Went (Some key) (first_time b k (f p (noting key d)))
  went_array_once true key p n c s = stopped (array_again c s)
  went_array_once false key p n c s = went_parts _ key p n c s refl

  went_array : (o : Option Level) (key : Key) → is_array_name key ≡ true → part d.draft.level key ≡ o → Went (Some key) (array_of o key k d f)
  went_array None key n c = stopped (elsewhere n c)
  went_array (Some p) key n c = went_array_once (seen_before key d.draft) key p n c refl

  went_known : (b : Bool) (key : Key) → is_array_name key ≡ b → Went (Some key) (known_of b t key k v d f)
  went_known true key n = went_array (part d.draft.level key) key n refl
  went_known false key n = went_plain (knows d.draft.level key) key n refl

  -- each member goes one of the ways
  pub goes : (o : Option Key) → Went o (member_of o t k v d f)
  goes None = went (unknown refl)
  goes (Some key) = went_known (is_array_name key) key refl

  by_went : (o : Option Key) (r : Read Doing) (e : Doing) → Went o r → r ≡ fine e → Took o e
  by_went o (fine x) e (went w) z = rw (sym (same_fine z)) w
  by_went o (broke rule i) e (stopped w) z = absurd (cc)

  pub member_took : (o : Option Key) (e : Doing) → member_of o t k v d f ≡ fine e → Took o e
  member_took o e z = by_went o _ e (goes o) z

  by_stopped : (o : Option Key) (r : Read Doing) (rule : FormRule) (i : ℕ) → Went o r → r ≡ broke rule i → Refused o rule i
  by_stopped o (fine x) rule i (went w) z = absurd (cc)
  by_stopped o (broke a b) rule i (stopped w) z =
      let p : a ≡ rule = cc in
      let q : b ≡ i = cc in
      rw (sym p, sym q) w

  pub member_refused : (o : Option Key) (rule : FormRule) (i : ℕ) → member_of o t k v d f ≡ broke rule i → Refused o rule i
  member_refused o rule i z = by_stopped o _ rule i (goes o) z
