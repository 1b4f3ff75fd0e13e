-- What the members of an object do to its draft, where they break no rule: each known one by its own name, so that the draft
-- tells what the members with these names are.
use Rattle.std.proofs.Common.{◌≡◌, ℕ, ◌+◌, Bool, true, false, ◌||◌, eqb, List, [], ◌∷◌, drop, get_or, Some, None, Option, refl, sym, ap, ◌∙◌, arith}
use Rattle.std.proofs.lemmas.Bool.{false_from_ne_true, eqb-true, eq-eqb, or_right}
use Rattle.std.proofs.lemmas.Option.{same_Some}
use Rattle.text.specs.declared.token.Placed.{Placed}
use Rattle.text.specs.Tree.{Json, Members, Entries, scalar, object, array, no_member, one_member, no_entry, one_entry}
use Rattle.table.specs.declared.keys.Key.{Key}
use Rattle.table.specs.declared.level.Level.{Level}
use Rattle.table.specs.declared.exception.Exception.{Exception}
use Rattle.table.specs.declared.record.Head.{Head}
use Rattle.table.specs.declared.meaning.Meaning.{Meaning}
use Rattle.table.specs.declared.draft.Draft.{Draft}
use Rattle.table.specs.Levels.{level_code, key_code, is_array_name, same_level, part_if, part, knows, known, allows}
use Rattle.table.specs.Words.{exception_spelled, foreign, word_meaning, value_meaning}
use Rattle.table.specs.Drafts.{seen_before, noted, with_unknown, with_exception, with_word, with_skipped, with_entries, excepting, excepted, taken}
use Rattle.table.specs.Form.{Lot, ◌⊕◌, Doing, doing, begun, is_value_name}
use Rattle.table.specs.Members.{first_kind, starts, said, key_of}
use Rattle.table.specs.TaskOf.{is_key, value_if, or_else, named, word_at, exception_at, unknown_name, unknown_in, foreign_at, skipped, head_at, count}
use Rattle.table.proofs.Values.{fine, same_fine, then_fine, noting, member_of, members_read, array_read, entries_read, entry_read}
use Rattle.table.proofs.Taking.{Took, unknown, parts, valued, worded, member_took}
use Rattle.table.proofs.Naming.{same_key}

-- names, and levels, with the same code are the same
pub is_same : (x key : Key) → is_key (Some x) key ≡ true → x ≡ key
is_same x key e = same_key x key (eqb-true (key_code x) (key_code key) e)

pub is_itself : (key : Key) → is_key (Some key) key ≡ true
is_itself key = eq-eqb (key_code key) (key_code key) refl

levels : List Level
levels = Level.Task ∷ Level.Action ∷ Level.Stream ∷ Level.Source ∷ Level.PixelFormat ∷ Level.Attribute ∷ Level.Value ∷ []

level_there : (l : Level) → get_or levels (level_code l) Level.Task ≡ l
unfolding levels
level_there Level.Task = refl
level_there Level.Action = refl
level_there Level.Stream = refl
level_there Level.Source = refl
level_there Level.PixelFormat = refl
level_there Level.Attribute = refl
level_there Level.Value = refl

level_is : (l m : Level) → same_level l m ≡ true → l ≡ m
level_is l m e = sym (level_there l) ∙ ap (λ n. get_or levels n Level.Task) (eqb-true (level_code l) (level_code m) e) ∙ level_there m

-- the level of the parts of an object, and the name of their array; a value object has no parts
abbrev pub below : Level → Level
below Level.Task = Level.Action
below Level.Action = Level.Stream
below Level.Stream = Level.Source
below Level.Source = Level.PixelFormat
below Level.PixelFormat = Level.Attribute
below Level.Attribute = Level.Value
below Level.Value = Level.Value

abbrev pub array_name : Level → Key
array_name Level.Task = Key.Actions
array_name Level.Action = Key.Streams
array_name Level.Stream = Key.Sources
array_name Level.Source = Key.PixelFormats
array_name Level.PixelFormat = Key.Attributes
array_name Level.Attribute = Key.Values
array_name Level.Value = Key.Values

-- the name of the member called like the level; the task and a stream have none
abbrev pub word_name : Level → Key
word_name Level.Task = Key.Action
word_name Level.Action = Key.Action
word_name Level.Stream = Key.Action
word_name Level.Source = Key.Source
word_name Level.PixelFormat = Key.PixelFormat
word_name Level.Attribute = Key.Attribute
word_name Level.Value = Key.Value

-- what that member says
abbrev pub meaning_at : List ℕ → Level → Json → Meaning
meaning_at t Level.Task v = word_meaning Level.Task (said t (starts v))
meaning_at t Level.Action v = word_meaning Level.Action (said t (starts v))
meaning_at t Level.Stream v = word_meaning Level.Stream (said t (starts v))
meaning_at t Level.Source v = word_meaning Level.Source (said t (starts v))
meaning_at t Level.PixelFormat v = word_meaning Level.PixelFormat (said t (starts v))
meaning_at t Level.Attribute v = word_meaning Level.Attribute (said t (starts v))
meaning_at t Level.Value v = value_meaning (first_kind v) (drop (starts v) t)

-- the sorts of names: those of arrays, those that tell nothing, the exception, the vendor, and those of words
abbrev pub sort : Key → ℕ
sort Key.Actions = 0
sort Key.Streams = 0
sort Key.Sources = 0
sort Key.PixelFormats = 0
sort Key.Attributes = 0
sort Key.Values = 0
sort Key.Comment = 1
sort Key.Exception = 2
sort Key.Vendor = 3
sort Key.Name = 1
sort Key.Action = 4
sort Key.Source = 4
sort Key.PixelFormat = 4
sort Key.Attribute = 4
sort Key.Value = 4

pub array_sort : (l : Level) → sort (array_name l) ≡ 0
array_sort Level.Task = refl
array_sort Level.Action = refl
array_sort Level.Stream = refl
array_sort Level.Source = refl
array_sort Level.PixelFormat = refl
array_sort Level.Attribute = refl
array_sort Level.Value = refl

pub word_sort : (l : Level) → sort (word_name l) ≡ 4
word_sort Level.Task = refl
word_sort Level.Action = refl
word_sort Level.Stream = refl
word_sort Level.Source = refl
word_sort Level.PixelFormat = refl
word_sort Level.Attribute = refl
word_sort Level.Value = refl

-- names of different sorts are different
pub other_sort : (x key : Key) (m n : ℕ) → sort x ≡ m → sort key ≡ n → eqb m n ≡ false → is_key (Some x) key ≡ false
other_sort x key m n a b e = false_from_ne_true _ (λ z.
    let c : m ≡ n = sym a ∙ ap sort (is_same x key z) ∙ b in
    let d : eqb m n ≡ true = eq-eqb m n c in
    cc)

-- a name that the level does not know is none that it knows
pub not_known : (l : Level) (o : Option Key) (key : Key) → known l o ≡ None → known l (Some key) ≡ Some key → is_key o key ≡ false
not_known l None key a b = refl
not_known l (Some x) key a b = false_from_ne_true _ (λ z.
    let c : known l (Some x) ≡ known l (Some key) = ap (λ y. known l (Some y)) (is_same x key z) in
    cc)

-- the only array that an object of a level may have
module _ (l : Level) where
  chosen : (b : Bool) (q p : Level) → part_if b q ≡ Some p → (b ≡ true) × (q ≡ p)
  chosen true q p e = (refl, cc)
  chosen false q p e = absurd (cc)

  of_part : (m q p : Level) (key : Key) → array_name m ≡ key → below m ≡ q → part_if (same_level l m) q ≡ Some p → (key ≡ array_name l) × (p ≡ below l)
  of_part m q p key a b e =
      let c = chosen (same_level l m) q p e in
      let s = level_is l m c.0 in
      (sym a ∙ ap array_name (sym s), sym c.1 ∙ sym b ∙ ap below (sym s))

  only_part : (key : Key) (p : Level) → part l key ≡ Some p → (key ≡ array_name l) × (p ≡ below l)
  only_part Key.Actions p e = of_part Level.Task _ p _ refl refl e
  only_part Key.Streams p e = of_part Level.Action _ p _ refl refl e
  only_part Key.Sources p e = of_part Level.Stream _ p _ refl refl e
  only_part Key.PixelFormats p e = of_part Level.Source _ p _ refl refl e
  only_part Key.Attributes p e = of_part Level.PixelFormat _ p _ refl refl e
  only_part Key.Values p e = of_part Level.Attribute _ p _ refl refl e
  only_part Key.Comment p e = absurd (cc)
  only_part Key.Exception p e = absurd (cc)
  only_part Key.Vendor p e = absurd (cc)
  only_part Key.Name p e = absurd (cc)
  only_part Key.Action p e = absurd (cc)
  only_part Key.Source p e = absurd (cc)
  only_part Key.PixelFormat p e = absurd (cc)
  only_part Key.Attribute p e = absurd (cc)
  only_part Key.Value p e = absurd (cc)

-- after the entries of an array the draft has their number
pub entries_counted : (t : List ℕ) (vs : Entries) (p : Level) (n : ℕ) (d e : Doing) → entries_read t vs p n d ≡ fine e → e.draft ≡ with_entries (n + count vs) d.draft
unfolding entries_read count
entries_counted t no_entry p n d e z = ap (λ x. x.draft) (sym (same_fine z)) ∙ ap (λ m. with_entries m d.draft) (omega arith)
entries_counted t (one_entry v vs) p n d e z =
    let c = then_fine (λ o. entries_read t vs p (n + 1) (doing d.draft (d.parts ⊕ o))) (entry_read t v p n) e z in
    entries_counted t vs p (n + 1) (doing d.draft (d.parts ⊕ c.0)) e c.2 ∙ ap (λ m. with_entries m d.draft) (omega arith)

-- a member of an object of level l does one of these things
module _ (t : List ℕ) (l : Level) (v : Json) (d : Doing) where
  pub data Does : Option Key → Doing → Type 0 where
    -- its level does not know it
    aside : {o : Option Key} → known l o ≡ None → Does o (doing (with_unknown d.draft) d.parts)
    -- the array of the object's parts, which come after those that it has
    lists : {i j : ℕ} {vs : Entries} {b : Lot} → part l (array_name l) ≡ Some (below l) → seen_before (array_name l) d.draft ≡ false → v ≡ array i vs j → entries_read t vs (below l) 0 (noting (array_name l) d) ≡ fine (doing (with_entries (count vs) (noted (array_name l) d.draft)) b) → Does (Some (array_name l)) (doing (with_entries (count vs) (noted (array_name l) d.draft)) b)
    -- a comment or a name
    remarks : {key : Key} → sort key ≡ 1 → knows l key ≡ true → Does (Some key) (noting key d)
    -- the vendor
    for_vendor : knows l Key.Vendor ≡ true → Does (Some Key.Vendor) (doing (with_skipped (foreign (said t (starts v))) (noted Key.Vendor d.draft)) d.parts)
    -- the exception
    excepts : {x : Exception} → exception_spelled (said t (starts v)) ≡ Some x → knows l Key.Exception ≡ true → Does (Some Key.Exception) (doing (with_exception x (starts v) (noted Key.Exception d.draft)) d.parts)
    -- the member called like the level
    says : knows l (word_name l) ≡ true → Does (Some (word_name l)) (doing (with_word (meaning_at t l v) (starts v) (noted (word_name l) d.draft)) d.parts)

  says_so : (key : Key) (m : Meaning) → key ≡ word_name l → m ≡ meaning_at t l v → knows l key ≡ true → Does (Some key) (doing (with_word m (starts v) (noted key d.draft)) d.parts)
  says_so key m a b c = rw (a, b) (says (rw a at c))

  -- a string, by its name
  module _ (q : d.draft.level ≡ l) where
    says_at : (key : Key) (m : Level) (h : Draft) → same_level l m ≡ true → knows l key ≡ true → key ≡ word_name m → meaning_at t m v ≡ word_meaning m (said t (starts v)) → Some (with_word (word_meaning d.draft.level (said t (starts v))) (starts v) (noted key d.draft)) ≡ Some h → Does (Some key) (doing h d.parts)
    says_at key m h s c a b z =
        let e = level_is l m s in
        rw (sym (same_Some _ _ z)) (says_so key _ (a ∙ ap word_name (sym e)) (ap (λ x. word_meaning x (said t (starts v))) (q ∙ e) ∙ sym b ∙ ap (λ x. meaning_at t x v) (sym e)) c)

    excepts_so : (o : Option Exception) (h : Draft) → knows l Key.Exception ≡ true → exception_spelled (said t (starts v)) ≡ o → excepted o (starts v) (noted Key.Exception d.draft) ≡ Some h → Does (Some Key.Exception) (doing h d.parts)
    excepts_so None h c a z = absurd (cc)
    excepts_so (Some x) h c a z = allowed (allows d.draft.level x) z
      where
        allowed : (b : Bool) → excepting b x (starts v) (noted Key.Exception d.draft) ≡ Some h → Does (Some Key.Exception) (doing h d.parts)
        allowed true z = rw (sym (same_Some _ _ z)) (excepts a c)
        allowed false z = absurd (cc)

    string_does : (key : Key) (h : Draft) → is_array_name key ≡ false → knows l key ≡ true → is_value_name key ≡ false → taken (said t (starts v)) key (starts v) (noted key d.draft) ≡ Some h → Does (Some key) (doing h d.parts)
    unfolding taken
    string_does Key.Comment h n c b z = rw (sym (same_Some _ _ z)) (remarks refl c)
    string_does Key.Name h n c b z = rw (sym (same_Some _ _ z)) (remarks refl c)
    string_does Key.Vendor h n c b z = rw (sym (same_Some _ _ z)) (for_vendor c)
    string_does Key.Exception h n c b z = excepts_so _ h c refl z
    string_does Key.Action h n c b z = says_at Key.Action Level.Action h c c refl refl z
    string_does Key.Source h n c b z = says_at Key.Source Level.Source h c c refl refl z
    string_does Key.PixelFormat h n c b z = says_at Key.PixelFormat Level.PixelFormat h c c refl refl z
    string_does Key.Attribute h n c b z = says_at Key.Attribute Level.Attribute h c c refl refl z
    string_does Key.Value h n c b z = absurd (cc)
    string_does Key.Actions h n c b z = absurd (cc)
    string_does Key.Streams h n c b z = absurd (cc)
    string_does Key.Sources h n c b z = absurd (cc)
    string_does Key.PixelFormats h n c b z = absurd (cc)
    string_does Key.Attributes h n c b z = absurd (cc)
    string_does Key.Values h n c b z = absurd (cc)

  -- the value of a value object
  value_does : (key : Key) → is_value_name key ≡ true → knows l key ≡ true → Does (Some key) (doing (with_word (value_meaning (first_kind v) (drop (starts v) t)) (starts v) (noted key d.draft)) d.parts)
  value_does key b c =
      let a = is_same key Key.Value b in
      let e = level_is l Level.Value (ap (λ x. knows l x) (sym a) ∙ c) in
      says_so key _ (a ∙ ap word_name (sym e)) (ap (λ x. meaning_at t x v) (sym e)) c

  -- the array of parts
  array_fine : (w : Json) (p : Level) (x e : Doing) → array_read t w p x ≡ fine e → (i : ℕ) × (j : ℕ) × (vs : Entries) × (w ≡ array i vs j) × (entries_read t vs p 0 x ≡ fine e)
  unfolding array_read
  array_fine (scalar x i) p x' e z = absurd (cc)
  array_fine (object i ms j) p x e z = absurd (cc)
  array_fine (array i vs j) p x e z = (i, j, vs, refl, z)

  lists_so : (e : Doing) → part l (array_name l) ≡ Some (below l) → seen_before (array_name l) d.draft ≡ false → array_read t v (below l) (noting (array_name l) d) ≡ fine e → Does (Some (array_name l)) e
  lists_so e c s z =
      let a = array_fine v (below l) (noting (array_name l) d) e z in
      let g : e.draft ≡ with_entries (count a.2) (noted (array_name l) d.draft) = entries_counted t a.2 (below l) 0 (noting (array_name l) d) e a.4 ∙ ap (λ m. with_entries m (noted (array_name l) d.draft)) (omega arith) in
      let w : e ≡ doing (with_entries (count a.2) (noted (array_name l) d.draft)) e.parts = ap (λ h. doing h e.parts) g in
      rw w (lists c s a.3 (a.4 ∙ ap (λ x. fine x) w))

  array_does : (key : Key) (p : Level) (e : Doing) → part l key ≡ Some p → seen_before key d.draft ≡ false → array_read t v p (noting key d) ≡ fine e → Does (Some key) e
  array_does key p e c s z =
      let o = only_part l key p c in
      rw (o.0) (lists_so e (rw (o.0, o.1) at c) (rw (o.0) at s) (rw (o.0, o.1) at z))

  took_does : (k : ℕ) (o : Option Key) (e : Doing) → d.draft.level ≡ l → Took t k v d (λ p x. array_read t v p x) o e → Does o e
  took_does k o e q (unknown z) = aside (rw q at z)
  took_does k o e q (parts {key} {p} n c s z) = array_does key p e (rw q at c) s z
  took_does k o e q (valued {key} n c s b) = value_does key b (rw q at c)
  took_does k o e q (worded {key} {h} n c s b x z) = string_does q key h n (rw q at c) b z

  pub member_does : (k : ℕ) (o : Option Key) (e : Doing) → d.draft.level ≡ l → member_of o t k v d (λ p x. array_read t v p x) ≡ fine e → Does o e
  member_does k o e q z = took_does k o e q (member_took t k v d (λ p x. array_read t v p x) o e z)

-- its level stays
pub does_level : (t : List ℕ) (l : Level) (v : Json) (d : Doing) (o : Option Key) (e : Doing) → Does t l v d o e → e.draft.level ≡ d.draft.level
does_level t l v d o e (aside z) = refl
does_level t l v d o e (lists c s a z) = refl
does_level t l v d o e (remarks z c) = refl
does_level t l v d o e (for_vendor c) = refl
does_level t l v d o e (excepts z c) = refl
does_level t l v d o e (says c) = refl

or_assoc : {X : Type 0} (a b c : Option X) → or_else a (or_else b c) ≡ or_else (or_else a b) c
or_assoc None b c = refl
or_assoc (Some x) b c = refl

or_none : {X : Type 0} (a : Option X) → or_else a None ≡ a
or_none None = refl
or_none (Some x) = refl

-- what holds of an object and its member of this name so far, after each member, holds at the end of the member that has the name
module _ (t : List ℕ) (l : Level) (key : Key) (Keeps : Option Json → Doing → Type 0)
    (step : (v : Json) (d : Doing) (o : Option Key) (e : Doing) (s : Option Json) → d.draft.level ≡ l → Does t l v d o e → Keeps s d → Keeps (or_else (value_if (is_key o key) v) s) e) where
  members_keep : (ms : Members) (s : Option Json) (d e : Doing) → d.draft.level ≡ l → members_read t ms d ≡ fine e → Keeps s d → Keeps (or_else (named t key ms) s) e
  unfolding members_read named
  members_keep no_member s d e q z h = rw (sym (same_fine z)) h
  members_keep (one_member k v ms) s d e q z h =
      let c = then_fine (λ x. members_read t ms x) (member_of (key_of t k) t k v d (λ p x. array_read t v p x)) e z in
      let m = member_does t l v d k (key_of t k) c.0 q c.1 in
      rw (← or_assoc (named t key ms) (value_if (is_key (key_of t k) key) v) s)
      (members_keep ms (or_else (value_if (is_key (key_of t k) key) v) s) c.0 e (does_level t l v d (key_of t k) c.0 m ∙ q) c.2 (step v d (key_of t k) c.0 s q m h))

  pub kept : (ms : Members) (d e : Doing) → d.draft.level ≡ l → members_read t ms d ≡ fine e → Keeps None d → Keeps (named t key ms) e
  kept ms d e q z h = rw or_none at (members_keep ms None d e q z h)

-- the exception
abbrev Excepts : List ℕ → Option Json → Doing → Type 0
Excepts t s d = d.draft.head.exception ≡ exception_at t s

excepts_step : (t : List ℕ) (l : Level) → known l (Some Key.Exception) ≡ Some Key.Exception → (v : Json) (d : Doing) (o : Option Key) (e : Doing) (s : Option Json) → d.draft.level ≡ l → Does t l v d o e → Excepts t s d → Excepts t (or_else (value_if (is_key o Key.Exception) v) s) e
excepts_step t l n v d o e s q (aside z) h = rw (not_known l o Key.Exception z n) h
excepts_step t l n v d o e s q (lists c f a z) h = rw (other_sort (array_name l) Key.Exception 0 2 (array_sort l) refl refl) h
excepts_step t l n v d o e s q (remarks {key} z c) h = rw (other_sort key Key.Exception 1 2 z refl refl) h
excepts_step t l n v d o e s q (for_vendor c) h = h
excepts_step t l n v d o e s q (excepts {x} z c) h = rw z refl
excepts_step t l n v d o e s q (says c) h = rw (other_sort (word_name l) Key.Exception 4 2 (word_sort l) refl refl) h

-- the vendor
abbrev Skips : List ℕ → Option Json → Doing → Type 0
Skips t s d = d.draft.skipped ≡ foreign_at t s

skips_step : (t : List ℕ) (l : Level) → known l (Some Key.Vendor) ≡ Some Key.Vendor → (v : Json) (d : Doing) (o : Option Key) (e : Doing) (s : Option Json) → d.draft.level ≡ l → Does t l v d o e → Skips t s d → Skips t (or_else (value_if (is_key o Key.Vendor) v) s) e
skips_step t l n v d o e s q (aside z) h = rw (not_known l o Key.Vendor z n) h
skips_step t l n v d o e s q (lists c f a z) h = rw (other_sort (array_name l) Key.Vendor 0 3 (array_sort l) refl refl) h
skips_step t l n v d o e s q (remarks {key} z c) h = rw (other_sort key Key.Vendor 1 3 z refl refl) h
skips_step t l n v d o e s q (for_vendor c) h = refl
skips_step t l n v d o e s q (excepts z c) h = h
skips_step t l n v d o e s q (says c) h = rw (other_sort (word_name l) Key.Vendor 4 3 (word_sort l) refl refl) h

-- the member called like the level
abbrev Says : List ℕ → Level → Option Json → Doing → Type 0
Says t l s d = d.draft.word ≡ word_at (meaning_at t l) s

says_step : (t : List ℕ) (l : Level) → known l (Some (word_name l)) ≡ Some (word_name l) → (v : Json) (d : Doing) (o : Option Key) (e : Doing) (s : Option Json) → d.draft.level ≡ l → Does t l v d o e → Says t l s d → Says t l (or_else (value_if (is_key o (word_name l)) v) s) e
says_step t l n v d o e s q (aside z) h = rw (not_known l o (word_name l) z n) h
says_step t l n v d o e s q (lists c f a z) h = rw (other_sort (array_name l) (word_name l) 0 4 (array_sort l) (word_sort l) refl) h
says_step t l n v d o e s q (remarks {key} z c) h = rw (other_sort key (word_name l) 1 4 z (word_sort l) refl) h
says_step t l n v d o e s q (for_vendor c) h = rw (other_sort Key.Vendor (word_name l) 3 4 refl (word_sort l) refl) h
says_step t l n v d o e s q (excepts z c) h = rw (other_sort Key.Exception (word_name l) 2 4 refl (word_sort l) refl) h
says_step t l n v d o e s q (says c) h = rw (is_itself (word_name l)) refl

-- what no member changes
abbrev Stays : Level → ℕ → ℕ → Doing → Type 0
Stays l n i d = (d.draft.level ≡ l) × (d.draft.head.index ≡ n) × (d.draft.head.offset ≡ i)

stays_step : (t : List ℕ) (l : Level) (n i : ℕ) (v : Json) (d : Doing) (o : Option Key) (e : Doing) → Does t l v d o e → Stays l n i d → Stays l n i e
stays_step t l n i v d o e (aside z) h = h
stays_step t l n i v d o e (lists c f a z) h = h
stays_step t l n i v d o e (remarks z c) h = h
stays_step t l n i v d o e (for_vendor c) h = h
stays_step t l n i v d o e (excepts z c) h = h
stays_step t l n i v d o e (says c) h = h

-- a name that its level does not know
name_known : (l : Level) (key : Key) → knows l key ≡ true → unknown_name (known l (Some key)) ≡ false
name_known l key c = rw (or_right (is_array_name key) (knows l key) c) refl

pub array_known : (l : Level) → known l (Some (array_name l)) ≡ Some (array_name l)
array_known Level.Task = refl
array_known Level.Action = refl
array_known Level.Stream = refl
array_known Level.Source = refl
array_known Level.PixelFormat = refl
array_known Level.Attribute = refl
array_known Level.Value = refl

does_unknown : (t : List ℕ) (l : Level) (v : Json) (d : Doing) (o : Option Key) (e : Doing) → Does t l v d o e → e.draft.head.unknown ≡ (unknown_name (known l o) || d.draft.head.unknown)
does_unknown t l v d o e (aside z) = rw z refl
does_unknown t l v d o e (lists c f a z) = rw (array_known l) refl
does_unknown t l v d o e (remarks {key} z c) = rw (name_known l key c) refl
does_unknown t l v d o e (for_vendor c) = rw (name_known l Key.Vendor c) refl
does_unknown t l v d o e (excepts z c) = rw (name_known l Key.Exception c) refl
does_unknown t l v d o e (says c) = rw (name_known l (word_name l) c) refl

no_more : (a : Bool) → a ≡ (a || false)
no_more true = refl
no_more false = refl

swapped : (a b c : Bool) → (a || (b || c)) ≡ ((b || a) || c)
swapped true true c = refl
swapped true false c = refl
swapped false true c = refl
swapped false false c = refl

unknowns : (t : List ℕ) (l : Level) (ms : Members) (d e : Doing) → d.draft.level ≡ l → members_read t ms d ≡ fine e → e.draft.head.unknown ≡ (d.draft.head.unknown || unknown_in t l ms)
unfolding members_read unknown_in
unknowns t l no_member d e q z = rw (sym (same_fine z)) (no_more d.draft.head.unknown)
unknowns t l (one_member k v ms) d e q z =
    let c = then_fine (λ x. members_read t ms x) (member_of (key_of t k) t k v d (λ p x. array_read t v p x)) e z in
    let m = member_does t l v d k (key_of t k) c.0 q c.1 in
    unknowns t l ms c.0 e (does_level t l v d (key_of t k) c.0 m ∙ q) c.2
    ∙ ap (λ b. b || unknown_in t l ms) (does_unknown t l v d (key_of t k) c.0 m)
    ∙ sym (swapped d.draft.head.unknown (unknown_name (known l (key_of t k))) (unknown_in t l ms))

same_head : (h : Head) (n i : ℕ) (x : Option (Placed Exception)) (u : Bool) → h.index ≡ n → h.offset ≡ i → h.exception ≡ x → h.unknown ≡ u → h ≡ record { index = n; offset = i; exception = x; unknown = u }
same_head h n i x u a b c e = rw (← a, ← b, ← c, ← e) refl

-- the draft of an object of level l, the n-th of its array with its brace at i, after its members
pub record Drawn (t : List ℕ) (l : Level) (n i : ℕ) (ms : Members) (h : Draft) : Type 0 where
  pub level : h.level ≡ l
  pub head : h.head ≡ head_at t l n i ms
  pub skips : h.skipped ≡ skipped t ms

module _ (t : List ℕ) (l : Level) (n i : ℕ) (ms : Members) (d : Doing) (z : members_read t ms (begun l n i) ≡ fine d) where
  pub drawn : known l (Some Key.Exception) ≡ Some Key.Exception → known l (Some Key.Vendor) ≡ Some Key.Vendor → Drawn t l n i ms d.draft
  drawn a b =
      let same = kept t l Key.Vendor (λ s x. Stays l n i x) (λ v d o e s q m h. stays_step t l n i v d o e m h) ms (begun l n i) d refl z (refl, refl, refl) in
      let x = kept t l Key.Exception (Excepts t) (excepts_step t l a) ms (begun l n i) d refl z refl in
      let u = unknowns t l ms (begun l n i) d refl z in
      record {
        level = same.0;
        head = same_head d.draft.head n i _ _ same.1 same.2 x u;
        skips = kept t l Key.Vendor (Skips t) (skips_step t l b) ms (begun l n i) d refl z refl;
      }

  pub word_drawn : known l (Some (word_name l)) ≡ Some (word_name l) → d.draft.word ≡ word_at (meaning_at t l) (named t (word_name l) ms)
  word_drawn a = kept t l (word_name l) (Says t l) (says_step t l a) ms (begun l n i) d refl z refl

  -- the task itself has no vendor
  pub not_skipped : known l (Some Key.Vendor) ≡ None → (d.draft.level ≡ l) × (d.draft.skipped ≡ false)
  not_skipped a = kept t l Key.Vendor (λ s x. (x.draft.level ≡ l) × (x.draft.skipped ≡ false)) (λ v d o e s q m h. stays_in v d o e m h) ms (begun l n i) d refl z (refl, refl)
    where
      stays_in : (v : Json) (d : Doing) (o : Option Key) (e : Doing) → Does t l v d o e → (d.draft.level ≡ l) × (d.draft.skipped ≡ false) → (e.draft.level ≡ l) × (e.draft.skipped ≡ false)
      stays_in v d o e (aside z) h = h
      stays_in v d o e (lists c f a z) h = h
      stays_in v d o e (remarks z c) h = h
      stays_in v d o e (for_vendor c) h = absurd (let b = name_known l Key.Vendor c in let e : unknown_name (known l (Some Key.Vendor)) ≡ true = ap unknown_name a in cc)
      stays_in v d o e (excepts z c) h = h
      stays_in v d o e (says c) h = h
