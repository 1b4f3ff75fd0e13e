-- What each token does to the form, in the words of the code that reads it.
use Rattle.std.proofs.Common.{◌≡◌, ℕ, ◌+◌, Bool, true, false, ltb, List, [], ◌∷◌, drop, Some, None, Option, refl, ◌∙◌, ◌||◌, Bor}
use Rattle.std.proofs.lemmas.Bool.{or_parts}
use Rattle.text.specs.declared.token.Token.{Token}
use Rattle.text.specs.Machine.{begin_object, end_object, begin_array, end_array, name, string}
use Rattle.text.specs.Strings.{stands}
use Rattle.text.specs.Parts.{string_part}
use Rattle.text.specs.Ahead.{kind_of}
use Rattle.table.specs.declared.keys.Key.{Key}
use Rattle.table.specs.declared.level.Level.{Level}
use Rattle.table.specs.declared.record.Record.{Record}
use Rattle.table.specs.declared.draft.Draft.{Draft}
use Rattle.table.specs.declared.fault.FormRule.TheVariants.{OutermostNoObject, ArrayElsewhere, WrongKind, NamesakeMissing, Repeated, TooMany}
use Rattle.table.specs.Levels.{is_array_name, part, knows, known, known_if, limit}
use Rattle.table.specs.Drafts.{seen_before, noted, with_unknown, with_entries, taken, record_of}
use Rattle.table.specs.Form.{Lot, ◌⊕◌, doing, begun, Place, between, entries, beside, begins, inside, failed, closed, given, on_known_name, on_name, on_taken, key_at, is_value_name, on_at, on}
use Rattle.table.specs.Works.{at_members, at_array, at_value, at_entries, at_name}

-- what holds of each token holds of all
by_token : (P : Token → Type 0) → P Token.Object → P Token.Array → ((y : Bor (List ℕ)) → P (Token.String y)) → ((y : Bor (List ℕ)) → P (Token.Number y)) → P Token.True → P Token.False → P Token.Null → (x : Token) → P x
by_token P o a s n t f z Token.Object = o
by_token P o a s n t f z Token.Array = a
by_token P o a s n t f z (Token.String y) = s y
by_token P o a s n t f z (Token.Number y) = n y
by_token P o a s n t f z Token.True = t
by_token P o a s n t f z Token.False = f
by_token P o a s n t f z Token.Null = z

module _ (t : List ℕ) (h : Draft) (b : Lot) (i : ℕ) (ps : List Place) where
  pub array_opens : (l : Level) → on t (at_array l h b ps) begin_array i ≡ at_entries l 0 h b ps
  unfolding on_at
  array_opens l = refl

  pub not_array : (l : Level) (x : Token) → (x ≡ Token.Array → ⊥) → on t (at_array l h b ps) (kind_of x) i ≡ failed WrongKind i
  unfolding on_at
  not_array l = by_token (λ x. (x ≡ Token.Array → ⊥) → on t (at_array l h b ps) (kind_of x) i ≡ failed WrongKind i)
      (λ n. refl) (λ n. absurd (n refl)) (λ y n. refl) (λ y n. refl) (λ n. refl) (λ n. refl) (λ n. refl)

  pub entry_opens : (l : Level) (n : ℕ) → ltb n (limit l) ≡ true → on t (at_entries l n h b ps) begin_object i ≡ inside (between (begun l n i) ∷ entries l n (doing h b) ∷ ps)
  unfolding on_at
  entry_opens l n a = rw a refl

  pub too_many : (l : Level) (n : ℕ) (x : Token) → ltb n (limit l) ≡ false → on t (at_entries l n h b ps) (kind_of x) i ≡ failed TooMany i
  unfolding on_at
  too_many l n = by_token (λ x. ltb n (limit l) ≡ false → on t (at_entries l n h b ps) (kind_of x) i ≡ failed TooMany i)
      (λ a. rw a refl) (λ a. rw a refl) (λ y a. rw a refl) (λ y a. rw a refl) (λ a. rw a refl) (λ a. rw a refl) (λ a. rw a refl)

  pub not_object : (l : Level) (n : ℕ) (x : Token) → ltb n (limit l) ≡ true → (x ≡ Token.Object → ⊥) → on t (at_entries l n h b ps) (kind_of x) i ≡ failed WrongKind i
  unfolding on_at
  not_object l n = by_token (λ x. ltb n (limit l) ≡ true → (x ≡ Token.Object → ⊥) → on t (at_entries l n h b ps) (kind_of x) i ≡ failed WrongKind i)
      (λ a z. absurd (z refl)) (λ a z. rw a refl) (λ y a z. rw a refl) (λ y a z. rw a refl) (λ a z. rw a refl) (λ a z. rw a refl) (λ a z. rw a refl)

  pub entries_end : (l : Level) (n : ℕ) → on t (at_entries l n h b ps) end_array i ≡ at_members (with_entries n h) b ps
  unfolding on_at
  entries_end l n = refl

  pub name_comes : (o : Option Key) → o ≡ key_at (drop i t) → on t (at_members h b ps) name i ≡ at_name o h i b ps
  unfolding on_at
  name_comes o e = rw e refl

  pub object_ends : (r : Record) → record_of h ≡ Some r → on t (at_members h b ps) end_object i ≡ given (closed (doing h b) r) ps
  unfolding on_at
  object_ends r e = rw e refl

  pub namesake_missing : record_of h ≡ None → on t (at_members h b ps) end_object i ≡ failed NamesakeMissing i
  unfolding on_at
  namesake_missing e = rw e refl

  pub string_comes : (key : Key) (o : Option Draft) → is_value_name key ≡ false → taken (stands (string_part (drop i t))) key i h ≡ o → on t (at_value key h b ps) string i ≡ on_taken o b i ps
  unfolding on_at
  string_comes key o e f = rw (e, f) refl

  pub not_string : (key : Key) (x : Token) → is_value_name key ≡ false → ((y : Bor (List ℕ)) → x ≡ Token.String y → ⊥) → on t (at_value key h b ps) (kind_of x) i ≡ failed WrongKind i
  unfolding on_at
  not_string key = by_token (λ x. is_value_name key ≡ false → ((y : Bor (List ℕ)) → x ≡ Token.String y → ⊥) → on t (at_value key h b ps) (kind_of x) i ≡ failed WrongKind i)
      (λ e n. rw e refl) (λ e n. rw e refl) (λ y e n. absurd (n y refl)) (λ y e n. rw e refl) (λ e n. rw e refl) (λ e n. rw e refl) (λ e n. rw e refl)

pub one_more : (l : Level) (n : ℕ) (h : Draft) (b o : Lot) (ps : List Place) → given o (entries l n (doing h b) ∷ ps) ≡ at_entries l (n + 1) h (b ⊕ o) ps
unfolding given
one_more l n h b o ps = refl

pub not_task : (t : List ℕ) (i : ℕ) (x : Token) → (x ≡ Token.Object → ⊥) → on t begins (kind_of x) i ≡ failed OutermostNoObject i
unfolding on_at
not_task t i = by_token (λ x. (x ≡ Token.Object → ⊥) → on t begins (kind_of x) i ≡ failed OutermostNoObject i)
    (λ n. absurd (n refl)) (λ n. refl) (λ y n. refl) (λ y n. refl) (λ n. refl) (λ n. refl) (λ n. refl)

pub task_opens : (t : List ℕ) (i : ℕ) → on t begins begin_object i ≡ inside (between (begun Level.Task 0 i) ∷ [])
unfolding on_at
task_opens t i = refl

-- the test that a known name passes, and its key
if_some : (a : Bool) (k key : Key) → known_if a k ≡ Some key → (k ≡ key) × (a ≡ true)
if_some true k key e = (cc, refl)
if_some false k key e = absurd (cc)

if_none : (a : Bool) (k : Key) → known_if a k ≡ None → a ≡ false
if_none true k e = absurd (cc)
if_none false k e = refl

-- the name of a member
module _ (h : Draft) (b : Lot) (i : ℕ) (ps : List Place) where
  pub name_unknown : (o : Option Key) → known h.level o ≡ None → at_name o h i b ps ≡ inside (beside 0 (doing (with_unknown h) b) ∷ ps)
  unfolding on_name
  name_unknown None e = refl
  name_unknown (Some k) e = let n = or_parts (is_array_name k) (knows h.level k) (if_none _ k e) in rw (n.0, n.1) refl

  name_comes_known : (o : Option Key) (key : Key) → known h.level o ≡ Some key → at_name o h i b ps ≡ on_known_name (is_array_name key) key (doing h b) i ps
  unfolding on_name
  name_comes_known None key e = absurd (cc)
  name_comes_known (Some k) key e = let n = if_some _ k key e in rw (n.0) refl

  knows_it : (o : Option Key) (key : Key) → known h.level o ≡ Some key → (is_array_name key || knows h.level key) ≡ true
  knows_it None key e = absurd (cc)
  knows_it (Some k) key e = let n = if_some _ k key e in rw (n.0) at n.1

  module _ (o : Option Key) (key : Key) (e : known h.level o ≡ Some key) where
    pub name_elsewhere : is_array_name key ≡ true → part h.level key ≡ None → at_name o h i b ps ≡ failed ArrayElsewhere i
    name_elsewhere a p = name_comes_known o key e ∙ rw (a, p) refl

    pub array_again : (l : Level) → is_array_name key ≡ true → part h.level key ≡ Some l → seen_before key h ≡ true → at_name o h i b ps ≡ failed Repeated i
    array_again l a p s = name_comes_known o key e ∙ rw (a, p, s) refl

    pub array_named : (l : Level) (h' : Draft) → is_array_name key ≡ true → part h.level key ≡ Some l → seen_before key h ≡ false → h' ≡ noted key h → at_name o h i b ps ≡ at_array l h' b ps
    array_named l h' a p s f = name_comes_known o key e ∙ rw (a, p, s, f) refl

    pub name_again : is_array_name key ≡ false → seen_before key h ≡ true → at_name o h i b ps ≡ failed Repeated i
    name_again a s =
        let k : knows h.level key ≡ true = rw a at (knows_it o key e) in
        name_comes_known o key e ∙ rw (a, k, s) refl

    pub name_known : (h' : Draft) → is_array_name key ≡ false → seen_before key h ≡ false → h' ≡ noted key h → at_name o h i b ps ≡ at_value key h' b ps
    name_known h' a s f =
        let k : knows h.level key ≡ true = rw a at (knows_it o key e) in
        name_comes_known o key e ∙ rw (a, k, s, f) refl
