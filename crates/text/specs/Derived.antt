-- The JSON value that a derivation of the grammar gives: each token by the offset of its first byte.
use Rattle.std.specs.Prelude.{ℕ, ◌-◌, List, ◌∷◌, length}
use Rattle.text.specs.Machine.{string, number, literal_true, literal_false, literal_null}
use Rattle.text.specs.Grammar.{Mark, mark, Value, is_false, is_null, is_true, is_object, is_array, is_number, is_string, Object, object_none, object_some, Members, members_end, members_more, Member, member, Array, array_none, array_some, Entries, entries_end, entries_more, Text, text}
use Rattle.text.specs.Tree.{Json, Members as MemberTrees, Entries as EntryTrees, scalar, object, array, no_member, one_member, no_entry, one_entry}
use Rattle.text.specs.Value.{ValueOf}
use Rattle.text.specs.Limits.{most_levels}

-- the offset in a text of n bytes where t is left
abbrev pub at : ℕ → List ℕ → ℕ
at n t = n - length t

-- the offset of a structural character, after the white space before it
abbrev pub mark_at : (n : ℕ) {c : ℕ} {t u : List ℕ} → Mark c t u → ℕ
mark_at n {c} (mark {a = x} w v) = at n (c ∷ x)

-- the offset of the brace that closes an object
abbrev pub members_close : (n : ℕ) {d : ℕ} {t u : List ℕ} → Members d t u → ℕ
members_close n (members_end m) = mark_at n m
members_close n (members_more c m ms) = members_close n ms

abbrev pub object_close : (n : ℕ) {d : ℕ} {t u : List ℕ} → Object d t u → ℕ
object_close n (object_none m) = mark_at n m
object_close n (object_some m ms) = members_close n ms

-- the offset of the bracket that closes an array
abbrev pub entries_close : (n : ℕ) {d : ℕ} {t u : List ℕ} → Entries d t u → ℕ
entries_close n (entries_end m) = mark_at n m
entries_close n (entries_more c v es) = entries_close n es

abbrev pub array_close : (n : ℕ) {d : ℕ} {t u : List ℕ} → Array d t u → ℕ
array_close n (array_none m) = mark_at n m
array_close n (array_some v es) = entries_close n es

-- the value at its place in a text of n bytes, and the members of an object and the entries of an array
unfoldable mutual
  pub value_tree : (n : ℕ) {d : ℕ} {t u : List ℕ} → Value d t u → Json
  value_tree n {t = x} is_false = scalar literal_false (at n x)
  value_tree n {t = x} is_null = scalar literal_null (at n x)
  value_tree n {t = x} is_true = scalar literal_true (at n x)
  value_tree n (is_object m o) = object (mark_at n m) (object_trees n o) (object_close n o)
  value_tree n (is_array m o) = array (mark_at n m) (array_trees n o) (array_close n o)
  value_tree n {t = x} (is_number y) = scalar number (at n x)
  value_tree n {t = x} (is_string y) = scalar string (at n x)

  -- a member is told by the quote that begins its name, and its value
  pub object_trees : (n : ℕ) {d : ℕ} {t u : List ℕ} → Object d t u → MemberTrees
  object_trees n (object_none m) = no_member
  object_trees n {t = x} (object_some m ms) = one_member (at n x) (member_value n m) (members_trees n ms)

  pub members_trees : (n : ℕ) {d : ℕ} {t u : List ℕ} → Members d t u → MemberTrees
  members_trees n (members_end m) = no_member
  members_trees n (members_more {a = x} c m ms) = one_member (at n x) (member_value n m) (members_trees n ms)

  pub member_value : (n : ℕ) {d : ℕ} {t u : List ℕ} → Member d t u → Json
  member_value n (member s c v) = value_tree n v

  pub array_trees : (n : ℕ) {d : ℕ} {t u : List ℕ} → Array d t u → EntryTrees
  array_trees n (array_none m) = no_entry
  array_trees n (array_some v es) = one_entry (value_tree n v) (entries_trees n es)

  pub entries_trees : (n : ℕ) {d : ℕ} {t u : List ℕ} → Entries d t u → EntryTrees
  entries_trees n (entries_end m) = no_entry
  entries_trees n (entries_more c v es) = one_entry (value_tree n v) (entries_trees n es)

-- the value of a whole text
abbrev pub text_tree : {d : ℕ} {t : List ℕ} → Text d t → Json
text_tree {t = x} (text w v y) = value_tree (length x) v

-- however the grammar has a text within the limit of levels, the value that it gives is the one that the text writes
abbrev pub Derives : Type 0
Derives = (t : List ℕ) (g : Text most_levels t) → ValueOf t (text_tree g)
