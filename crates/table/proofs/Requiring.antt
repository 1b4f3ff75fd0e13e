-- The member that a level requires, and the strings that are not taken.
use Rattle.std.proofs.Common.{◌≡◌, ℕ, Bool, true, false, List, Some, None, Option, refl, sym, ap, ◌∙◌}
use Rattle.std.proofs.lemmas.Option.{same_Some}
use Rattle.text.specs.Tree.{Json, Members, no_member, one_member}
use Rattle.table.specs.declared.keys.Key.{Key}
use Rattle.table.specs.declared.level.Level.{Level}
use Rattle.table.specs.declared.exception.Exception.{Exception}
use Rattle.table.specs.declared.draft.Draft.{Draft}
use Rattle.table.specs.Levels.{known, allows}
use Rattle.table.specs.Words.{exception_spelled}
use Rattle.table.specs.Drafts.{excepting, excepted, taken}
use Rattle.table.specs.Form.{Doing, begun}
use Rattle.table.specs.Members.{key_of, Has, first, later, Named}
use Rattle.table.specs.Rules.{required, Excepts}
use Rattle.table.specs.TaskOf.{is_key, value_if, or_else, named, word_at}
use Rattle.table.proofs.Values.{fine, members_read}
use Rattle.table.proofs.Drafting.{is_same, is_itself, word_name, meaning_at, word_drawn}

-- only an exception may not be taken
not_excepting : (b : Bool) (x : Exception) (i : ℕ) (d : Draft) → excepting b x i d ≡ None → b ≡ true → ⊥
not_excepting true x i d z e = cc
not_excepting false x i d z e = cc

not_excepted : (o : Option Exception) (i : ℕ) (d : Draft) → excepted o i d ≡ None → Excepts d.level o → ⊥
not_excepted None i d z h = h
not_excepted (Some x) i d z h = not_excepting (allows d.level x) x i d z h

pub taken_none : (key : Key) (x : List ℕ) (i : ℕ) (d : Draft) → taken x key i d ≡ None → (key ≡ Key.Exception) × (Excepts d.level (exception_spelled x) → ⊥)
unfolding taken
taken_none Key.Actions x i d z = absurd (cc)
taken_none Key.Streams x i d z = absurd (cc)
taken_none Key.Sources x i d z = absurd (cc)
taken_none Key.PixelFormats x i d z = absurd (cc)
taken_none Key.Attributes x i d z = absurd (cc)
taken_none Key.Values x i d z = absurd (cc)
taken_none Key.Comment x i d z = absurd (cc)
taken_none Key.Exception x i d z = (refl, not_excepted (exception_spelled x) i d z)
taken_none Key.Vendor x i d z = absurd (cc)
taken_none Key.Name x i d z = absurd (cc)
taken_none Key.Action x i d z = absurd (cc)
taken_none Key.Source x i d z = absurd (cc)
taken_none Key.PixelFormat x i d z = absurd (cc)
taken_none Key.Attribute x i d z = absurd (cc)
taken_none Key.Value x i d z = absurd (cc)

excepting_not : (b : Bool) (x : Exception) (i : ℕ) (d : Draft) → (b ≡ true → ⊥) → excepting b x i d ≡ None
excepting_not true x i d h = absurd (h refl)
excepting_not false x i d h = refl

excepted_not : (o : Option Exception) (i : ℕ) (d : Draft) → (Excepts d.level o → ⊥) → excepted o i d ≡ None
excepted_not None i d h = refl
excepted_not (Some x) i d h = excepting_not (allows d.level x) x i d h

pub exception_not_taken : (x : List ℕ) (i : ℕ) (d : Draft) → (Excepts d.level (exception_spelled x) → ⊥) → taken x Key.Exception i d ≡ None
unfolding taken
exception_not_taken x i d h = excepted_not (exception_spelled x) i d h

-- the value of a member of this name is found exactly if there is one
key_is : (o : Option Key) (key : Key) → is_key o key ≡ true → o ≡ Some key
key_is None key e = absurd (cc)
key_is (Some x) key e = ap (λ y. Some y) (is_same x key e)

neither : (o : Option Json) (b : Bool) (v : Json) → or_else o (value_if b v) ≡ None → (o ≡ None) × (b ≡ false)
neither None true v e = absurd (cc)
neither None false v e = (refl, refl)
neither (Some x) b v e = absurd (cc)

none_named : (t : List ℕ) (key : Key) (ms : Members) → named t key ms ≡ None → (k : ℕ) (v : Json) → Has ms k v → key_of t k ≡ Some key → ⊥
unfolding named
none_named t key no_member e k v h s = elim h [ ]
none_named t key (one_member k v ms) e _ _ first s = let n = (neither (named t key ms) (is_key (key_of t k) key) v e).1 in let y = is_itself key in let z : is_key (key_of t k) key ≡ true = rw s y in cc
none_named t key (one_member n w ms) e k v (later h) s = none_named t key ms (neither (named t key ms) (is_key (key_of t n) key) w e).0 k v h s

named_none : (t : List ℕ) (key : Key) (ms : Members) → ((k : ℕ) (v : Json) → Named t key ms k v → ⊥) → named t key ms ≡ None
unfolding named
named_none t key no_member n = refl
named_none t key (one_member k v ms) n = rw (named_none t key ms (λ i w h. n i w (later h.0, h.1))) (other (is_key (key_of t k) key) refl)
  where
    other : (b : Bool) → is_key (key_of t k) key ≡ b → value_if b v ≡ None
    other true e = absurd (n k v (first, key_is (key_of t k) key e))
    other false e = refl

-- the required member is the one called like the level
required_word : (l : Level) (key : Key) → required l ≡ Some key → (word_name l ≡ key) × (known l (Some (word_name l)) ≡ Some (word_name l))
required_word Level.Task key e = absurd (cc)
required_word Level.Action key e = absurd (cc)
required_word Level.Stream key e = absurd (cc)
required_word Level.Source key e = absurd (cc)
required_word Level.PixelFormat key e = absurd (cc)
required_word Level.Attribute key e = (same_Some _ _ e, refl)
required_word Level.Value key e = (same_Some _ _ e, refl)

no_word_at : {X : Type 0} (f : Json → X) (o : Option Json) → word_at f o ≡ None → o ≡ None
no_word_at f None e = refl
no_word_at f (Some v) e = absurd (cc)

module _ (t : List ℕ) (l : Level) (key : Key) (r : required l ≡ Some key) (n i : ℕ) (ms : Members) (d : Doing) (z : members_read t ms (begun l n i) ≡ fine d) where
  word_named : d.draft.word ≡ word_at (meaning_at t l) (named t key ms)
  word_named = let w = required_word l key r in rw (w.0) at (word_drawn t l n i ms d z w.1)

  -- an object without a word has not the required member
  pub without_word : d.draft.word ≡ None → (k : ℕ) (v : Json) → Named t key ms k v → ⊥
  without_word e k v h = none_named t key ms (no_word_at (meaning_at t l) (named t key ms) (sym word_named ∙ e)) k v h.0 h.1

  -- without the required member there is no word
  pub no_word : ((k : ℕ) (v : Json) → Named t key ms k v → ⊥) → d.draft.word ≡ None
  no_word h = word_named ∙ ap (word_at (meaning_at t l)) (named_none t key ms h)
