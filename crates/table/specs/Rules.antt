-- The rules of form, each as what a JSON value has where it breaks the rule. The text t is the one that writes the value.
use Rattle.std.specs.Prelude.{◌≡◌, ◌⊎◌, ℕ, ◌<◌, ◌≤◌, true, List, Some, None, Option}
use Rattle.text.specs.Machine.{begin_object, begin_array, string}
use Rattle.text.specs.Tree.{Json, Members, Entries, object, array}
use Rattle.table.specs.declared.keys.Key.{Key}
use Rattle.table.specs.declared.level.Level.{Level}
use Rattle.table.specs.declared.exception.Exception.{Exception}
use Rattle.table.specs.declared.fault.FormRule.{FormRule}
use Rattle.table.specs.declared.fault.FormRule.TheVariants.{OutermostNoObject, ArrayElsewhere, WrongKind, NamesakeMissing, Repeated, TooMany}
use Rattle.table.specs.Levels.{is_array_name, part, knows, allows, limit}
use Rattle.table.specs.Words.{exception_spelled}
use Rattle.table.specs.Members.{first_kind, starts, said, Named, Again, Entry}

-- an object of level l has an array of parts of level p, with these entries
abbrev pub PartsOf : List ℕ → Level → Members → Level → Entries → Type 0
PartsOf t l ms p vs = (key : Key) × (k : ℕ) × (a : ℕ) × (b : ℕ) × Named t key ms k (array a vs b) × (part l key ≡ Some p)

-- the objects of a task, by an object that they lie in: itself and those in its parts. An object has a level, members,
-- and the offset of its closing brace
pub data HasObject (t : List ℕ) : Level → Members → ℕ → Level → Members → ℕ → Type 0 where
  itself : {l : Level} {ms : Members} {j : ℕ} → HasObject t l ms j l ms j
  in_part : {l p m : Level} {ms os ns : Members} {j i e n f : ℕ} {vs : Entries} → PartsOf t l ms p vs → Entry vs n (object i os e) → HasObject t p os e m ns f → HasObject t l ms j m ns f

-- objects of level l know a member of this name, their array included
abbrev pub Belongs : Level → Key → Type 0
Belongs l key = ((p : Level) × (part l key ≡ Some p)) ⊎ (knows l key ≡ true)

-- the member without which an object of this level is none
abbrev pub required : Level → Option Key
required Level.Task = None
required Level.Action = None
required Level.Stream = None
required Level.Source = None
required Level.PixelFormat = None
required Level.Attribute = Some Key.Attribute
required Level.Value = Some Key.Value

-- an exception that an object of this level may have
abbrev pub Excepts : Level → Option Exception → Type 0
Excepts l None = ⊥
Excepts l (Some e) = allows l e ≡ true

-- an object of level l with the members ms and its closing brace at j breaks a rule at an offset, whatever lies in its parts
pub data Breaks (t : List ℕ) (l : Level) (ms : Members) (j : ℕ) : FormRule → ℕ → Type 0 where
  -- the name of an array that only objects of another level have
  elsewhere : {key : Key} {k : ℕ} {v : Json} → Named t key ms k v → is_array_name key ≡ true → part l key ≡ None → Breaks t l ms j ArrayElsewhere k
  -- the value of an array's name that is no array
  no_array : {key : Key} {p : Level} {k : ℕ} {v : Json} → Named t key ms k v → part l key ≡ Some p → (first_kind v ≡ begin_array → ⊥) → Breaks t l ms j WrongKind (starts v)
  -- an entry of an array that is no object
  no_object : {p : Level} {vs : Entries} {n : ℕ} {v : Json} → PartsOf t l ms p vs → Entry vs n v → (first_kind v ≡ begin_object → ⊥) → Breaks t l ms j WrongKind (starts v)
  -- the value of another known member that is no string; the member called value may be of any kind
  no_string : {key : Key} {k : ℕ} {v : Json} → Named t key ms k v → knows l key ≡ true → (key ≡ Key.Value → ⊥) → (first_kind v ≡ string → ⊥) → Breaks t l ms j WrongKind (starts v)
  -- an exception that is no exception word, or one that the level may not have
  not_allowed : {k : ℕ} {v : Json} → Named t Key.Exception ms k v → knows l Key.Exception ≡ true → first_kind v ≡ string → (Excepts l (exception_spelled (said t (starts v))) → ⊥) → Breaks t l ms j WrongKind (starts v)
  -- the end of an object without the member that its level requires
  missing : {key : Key} → required l ≡ Some key → ((k : ℕ) (v : Json) → Named t key ms k v → ⊥) → Breaks t l ms j NamesakeMissing j
  -- a member that the level knows, its array included, again
  repeated : {key : Key} {k : ℕ} → Belongs l key → Again t key ms k → Breaks t l ms j Repeated k
  -- an entry of an array after as many as it may have
  too_many : {p : Level} {vs : Entries} {n : ℕ} {v : Json} → PartsOf t l ms p vs → Entry vs n v → limit p ≤ n → Breaks t l ms j TooMany (starts v)

-- a JSON value breaks a rule at an offset
pub data Broken (t : List ℕ) : Json → FormRule → ℕ → Type 0 where
  outermost : {v : Json} → (first_kind v ≡ begin_object → ⊥) → Broken t v OutermostNoObject (starts v)
  in_object : {i j f : ℕ} {ms ns : Members} {m : Level} {rule : FormRule} {at : ℕ} → HasObject t Level.Task ms j m ns f → Breaks t m ns f rule at → Broken t (object i ms j) rule at

-- of two broken rules the one at the smaller offset comes first, and at one offset an entry above the limit
abbrev pub Before : FormRule → ℕ → FormRule → ℕ → Type 0
Before rule i other k = (i < k) ⊎ ((i ≡ k) × ((rule ≡ other) ⊎ (rule ≡ TooMany)))

-- a value breaks this rule at this offset, and no other before it
pub record FirstBroken (t : List ℕ) (v : Json) (rule : FormRule) (i : ℕ) : Type 0 where
  pub breaks : Broken t v rule i
  pub earliest : (other : FormRule) (k : ℕ) → Broken t v other k → Before rule i other k

-- a value breaks no rule of form
abbrev pub Formed : List ℕ → Json → Type 0
Formed t v = (rule : FormRule) (i : ℕ) → Broken t v rule i → ⊥
