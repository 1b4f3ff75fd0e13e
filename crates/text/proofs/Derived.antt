-- The value of a text is the one that the grammar gives it.
use Rattle.std.proofs.Common.{ℕ, List, length, arith}
use Rattle.text.specs.Machine.{tape}
use Rattle.text.specs.Grammar.{Value, is_false, is_null, is_true, is_object, is_array, is_number, is_string, Object, object_none, object_some, Members, members_end, members_more, Member, member, Array, array_none, array_some, Entries, entries_end, entries_more, text}
use Rattle.text.specs.Tree.{Proper, ProperMembers, ProperEntries}
use Rattle.text.specs.Derived.{value_tree, object_trees, members_trees, member_value, array_trees, entries_trees, Derives}
use Rattle.text.proofs.Complete.{text_on}

-- every scalar has a kind of its own
mutual
  unfolding value_tree object_trees members_trees member_value array_trees entries_trees Proper ProperMembers ProperEntries

  value_proper : (n : ℕ) {d : ℕ} {t u : List ℕ} (v : Value d t u) → Proper (value_tree n v)
  value_proper n is_false = tt
  value_proper n is_null = tt
  value_proper n is_true = tt
  value_proper n (is_object m o) = object_proper n o
  value_proper n (is_array m o) = array_proper n o
  value_proper n (is_number x) = tt
  value_proper n (is_string x) = tt

  object_proper : (n : ℕ) {d : ℕ} {t u : List ℕ} (o : Object d t u) → ProperMembers (object_trees n o)
  object_proper n (object_none m) = tt
  object_proper n (object_some m ms) = (member_proper n m, members_proper n ms)

  members_proper : (n : ℕ) {d : ℕ} {t u : List ℕ} (ms : Members d t u) → ProperMembers (members_trees n ms)
  members_proper n (members_end m) = tt
  members_proper n (members_more c m ms) = (member_proper n m, members_proper n ms)

  member_proper : (n : ℕ) {d : ℕ} {t u : List ℕ} (m : Member d t u) → Proper (member_value n m)
  member_proper n (member s c v) = value_proper n v

  array_proper : (n : ℕ) {d : ℕ} {t u : List ℕ} (o : Array d t u) → ProperEntries (array_trees n o)
  array_proper n (array_none m) = tt
  array_proper n (array_some v es) = (value_proper n v, entries_proper n es)

  entries_proper : (n : ℕ) {d : ℕ} {t u : List ℕ} (es : Entries d t u) → ProperEntries (entries_trees n es)
  entries_proper n (entries_end m) = tt
  entries_proper n (entries_more c v es) = (value_proper n v, entries_proper n es)

pub derives : Derives
unfolding tape
derives t (text w v x) = record { proper = value_proper (length t) v; tokens = text_on (length t) 0 (omega arith) w v x }
