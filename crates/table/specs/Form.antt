-- The form of a task, as what the tokens of its text do one after another.
use Rattle.std.specs.Prelude.{ℕ, zero, suc, ◌+◌, Bool, true, false, List, [], ◌∷◌, ◌++◌, drop, Some, None, Option, ◌==◌, nat_lt}
use Rattle.text.specs.Machine.{Kind, begin_object, end_object, begin_array, end_array, name, string, number, literal_true, literal_false, literal_null, Tape, good, fault, event}
use Rattle.text.specs.Strings.{stands}
use Rattle.text.specs.Parts.{string_part}
use Rattle.table.specs.declared.keys.Key.{Key}
use Rattle.table.specs.declared.level.Level.{Level}
use Rattle.table.specs.declared.record.Record.{Record}
use Rattle.table.specs.declared.draft.Draft.{Draft}
use Rattle.table.specs.declared.fault.FormRule.{FormRule}
use Rattle.table.specs.declared.fault.FormRule.TheVariants.{OutermostNoObject, ArrayElsewhere, WrongKind, NamesakeMissing, Repeated, TooMany}
use Rattle.table.specs.Levels.{key_code, same_level, is_array_name, part, knows, limit, absent_weight}
use Rattle.table.specs.Words.{key_spelled, value_meaning}
use Rattle.table.specs.Drafts.{fresh, seen_before, noted, with_unknown, with_word, with_entries, taken, record_of}

-- objects that were read whole: the records of those that are not skipped, each before its parts, and the weight of all
pub record Lot : Type 0 where
  pub records : List Record
  pub weight : ℕ

abbrev pub nothing : Lot
nothing = record { records = []; weight = 0 }

-- one after the other
infixl 20 ◌⊕◌
abbrev pub ◌⊕◌ : Lot → Lot → Lot
l ⊕ m = record { records = l.records ++ m.records; weight = l.weight + m.weight }

-- an object that is being read: what is known of it, and its parts so far
pub record Doing : Type 0 where
  pub draft : Draft
  pub parts : Lot

abbrev pub doing : Draft → Lot → Doing
doing h b = record { draft = h; parts = b }

abbrev pub begun : Level → ℕ → ℕ → Doing
begun l n i = doing (fresh l n i) nothing

-- where in the task the text is
pub data Place : Type 0 where
  -- between the members of an object
  between : Doing → Place
  -- before the array whose entries are of this level
  before_array : Level → Doing → Place
  -- before the value of another known member
  before_value : Key → Doing → Place
  -- among the entries of an array, after so many
  entries : Level → ℕ → Doing → Place
  -- in a value of which only the JSON counts, so many brackets deep
  beside : ℕ → Doing → Place

-- what the tokens so far come to
pub data State : Type 0 where
  -- none came
  begins : State
  -- the innermost place first
  inside : List Place → State
  -- a rule is broken, at this offset
  failed : FormRule → ℕ → State
  -- the task is whole
  done : Lot → State
  -- the tokens are those of no text
  astray : State

-- the task itself has no record and no weight
abbrev pub is_task : Level → Bool
is_task l = same_level l Level.Task

-- the records of a whole object, by whether it is skipped and whether it is the task: a skipped one leaves none, nor do its parts
abbrev pub leaves : Bool → Bool → Record → List Record → List Record
leaves true task r rs = []
leaves false true r rs = rs
leaves false false r rs = r ∷ rs

-- an object's own weight, by whether it is the task
abbrev pub own_weight : Bool → ℕ
own_weight true = 0
own_weight false = 1

-- an object without parts has the weight of the default ones besides
abbrev pub default_weight : Level → List Record → ℕ
default_weight l [] = absent_weight l
default_weight l (r ∷ rs) = 0

-- a whole object, whose record is r
abbrev pub closed : Doing → Record → Lot
closed d r = record {
  records = leaves d.draft.skipped (is_task d.draft.level) r d.parts.records;
  weight = own_weight (is_task d.draft.level) + d.parts.weight + default_weight d.draft.level d.parts.records;
}

-- an object ended
unfoldable pub given : Lot → List Place → State
given o [] = done o
given o (between d ∷ ps) = astray
given o (before_array l d ∷ ps) = astray
given o (before_value key d ∷ ps) = astray
given o (entries l n d ∷ ps) = inside (entries l (n + 1) (doing d.draft (d.parts ⊕ o)) ∷ ps)
given o (beside n d ∷ ps) = astray

-- a brace at i ends the object that has this record, or lacks one
abbrev pub closing : Option Record → Doing → ℕ → List Place → State
closing None d i ps = failed NamesakeMissing i
closing (Some r) d i ps = given (closed d r) ps

-- a member whose value only counts as JSON
abbrev pub unknown : Doing → List Place → State
unknown d ps = inside (beside 0 (doing (with_unknown d.draft) d.parts) ∷ ps)

-- a known member may come once
abbrev pub once : Bool → Place → ℕ → List Place → State
once true p i ps = failed Repeated i
once false p i ps = inside (p ∷ ps)

-- the name of an array, at i
abbrev pub on_array_name : Option Level → Key → Doing → ℕ → List Place → State
on_array_name None key d i ps = failed ArrayElsewhere i
on_array_name (Some l) key d i ps = once (seen_before key d.draft) (before_array l (doing (noted key d.draft) d.parts)) i ps

-- another name that some level knows
abbrev pub on_plain_name : Bool → Key → Doing → ℕ → List Place → State
on_plain_name false key d i ps = unknown d ps
on_plain_name true key d i ps = once (seen_before key d.draft) (before_value key (doing (noted key d.draft) d.parts)) i ps

abbrev pub on_known_name : Bool → Key → Doing → ℕ → List Place → State
on_known_name true key d i ps = on_array_name (part d.draft.level key) key d i ps
on_known_name false key d i ps = on_plain_name (knows d.draft.level key) key d i ps

-- a member's name at i
unfoldable pub on_name : Option Key → Doing → ℕ → List Place → State
on_name None d i ps = unknown d ps
on_name (Some key) d i ps = on_known_name (is_array_name key) key d i ps

-- the key that the name which begins the text spells
abbrev pub key_at : List ℕ → Option Key
key_at u = key_spelled (stands (string_part u))

-- a known member's string was taken, or is not allowed
abbrev pub on_taken : Option Draft → Lot → ℕ → List Place → State
on_taken None b i ps = failed WrongKind i
on_taken (Some h) b i ps = inside (between (doing h b) ∷ ps)

-- a value of which only the JSON counts begins, goes on or ends
abbrev pub aside : Kind → ℕ → Doing → List Place → State
aside begin_object n d ps = inside (beside (suc n) d ∷ ps)
aside begin_array n d ps = inside (beside (suc n) d ∷ ps)
aside end_object zero d ps = astray
aside end_object (suc zero) d ps = inside (between d ∷ ps)
aside end_object (suc (suc n)) d ps = inside (beside (suc n) d ∷ ps)
aside end_array zero d ps = astray
aside end_array (suc zero) d ps = inside (between d ∷ ps)
aside end_array (suc (suc n)) d ps = inside (beside (suc n) d ∷ ps)
aside name n d ps = inside (beside n d ∷ ps)
aside string zero d ps = inside (between d ∷ ps)
aside string (suc n) d ps = inside (beside (suc n) d ∷ ps)
aside number zero d ps = inside (between d ∷ ps)
aside number (suc n) d ps = inside (beside (suc n) d ∷ ps)
aside literal_true zero d ps = inside (between d ∷ ps)
aside literal_true (suc n) d ps = inside (beside (suc n) d ∷ ps)
aside literal_false zero d ps = inside (between d ∷ ps)
aside literal_false (suc n) d ps = inside (beside (suc n) d ∷ ps)
aside literal_null zero d ps = inside (between d ∷ ps)
aside literal_null (suc n) d ps = inside (beside (suc n) d ∷ ps)

-- the array of a known member begins at i, or something else
abbrev pub on_array : Level → Doing → Kind → ℕ → List Place → State
on_array l d begin_array i ps = inside (entries l 0 d ∷ ps)
on_array l d begin_object i ps = failed WrongKind i
on_array l d string i ps = failed WrongKind i
on_array l d number i ps = failed WrongKind i
on_array l d literal_true i ps = failed WrongKind i
on_array l d literal_false i ps = failed WrongKind i
on_array l d literal_null i ps = failed WrongKind i
on_array l d end_object i ps = astray
on_array l d end_array i ps = astray
on_array l d name i ps = astray

-- the string of a known member begins at i, or something else
abbrev pub on_string : List ℕ → Key → Doing → Kind → ℕ → List Place → State
on_string u key d string i ps = on_taken (taken (stands (string_part u)) key i d.draft) d.parts i ps
on_string u key d begin_object i ps = failed WrongKind i
on_string u key d begin_array i ps = failed WrongKind i
on_string u key d number i ps = failed WrongKind i
on_string u key d literal_true i ps = failed WrongKind i
on_string u key d literal_false i ps = failed WrongKind i
on_string u key d literal_null i ps = failed WrongKind i
on_string u key d end_object i ps = astray
on_string u key d end_array i ps = astray
on_string u key d name i ps = astray

-- a value may be of any kind, the other members are strings
abbrev pub on_value : Bool → List ℕ → Key → Doing → Kind → ℕ → List Place → State
on_value true u key d x i ps = aside x 0 (doing (with_word (value_meaning x u) i d.draft) d.parts) ps
on_value false u key d x i ps = on_string u key d x i ps

-- the member called value
abbrev pub is_value_name : Key → Bool
is_value_name key = key_code key == 14

-- an object within the array's limit begins at i, or something else
abbrev pub on_object : Level → ℕ → Doing → Kind → ℕ → List Place → State
on_object l n d begin_object i ps = inside (between (begun l n i) ∷ entries l n d ∷ ps)
on_object l n d begin_array i ps = failed WrongKind i
on_object l n d string i ps = failed WrongKind i
on_object l n d number i ps = failed WrongKind i
on_object l n d literal_true i ps = failed WrongKind i
on_object l n d literal_false i ps = failed WrongKind i
on_object l n d literal_null i ps = failed WrongKind i
on_object l n d end_object i ps = astray
on_object l n d end_array i ps = astray
on_object l n d name i ps = astray

-- an entry above the limit is refused, whatever it is
abbrev pub within : Bool → State → ℕ → State
within true s i = s
within false s i = failed TooMany i

-- an entry begins at i, or the array ends
abbrev pub on_entry : Level → ℕ → Doing → Kind → ℕ → List Place → State
on_entry l n d end_array i ps = inside (between (doing (with_entries n d.draft) d.parts) ∷ ps)
on_entry l n d begin_object i ps = within (nat_lt n (limit l)) (on_object l n d begin_object i ps) i
on_entry l n d begin_array i ps = within (nat_lt n (limit l)) (on_object l n d begin_array i ps) i
on_entry l n d string i ps = within (nat_lt n (limit l)) (on_object l n d string i ps) i
on_entry l n d number i ps = within (nat_lt n (limit l)) (on_object l n d number i ps) i
on_entry l n d literal_true i ps = within (nat_lt n (limit l)) (on_object l n d literal_true i ps) i
on_entry l n d literal_false i ps = within (nat_lt n (limit l)) (on_object l n d literal_false i ps) i
on_entry l n d literal_null i ps = within (nat_lt n (limit l)) (on_object l n d literal_null i ps) i
on_entry l n d end_object i ps = astray
on_entry l n d name i ps = astray

-- a member begins at i, or the object ends
abbrev pub on_member : List ℕ → Doing → Kind → ℕ → List Place → State
on_member u d name i ps = on_name (key_at u) d i ps
on_member u d end_object i ps = closing (record_of d.draft) d i ps
on_member u d begin_object i ps = astray
on_member u d begin_array i ps = astray
on_member u d end_array i ps = astray
on_member u d string i ps = astray
on_member u d number i ps = astray
on_member u d literal_true i ps = astray
on_member u d literal_false i ps = astray
on_member u d literal_null i ps = astray

-- the outermost value begins at i
abbrev pub on_task : Kind → ℕ → State
on_task begin_object i = inside (between (begun Level.Task 0 i) ∷ [])
on_task begin_array i = failed OutermostNoObject i
on_task string i = failed OutermostNoObject i
on_task number i = failed OutermostNoObject i
on_task literal_true i = failed OutermostNoObject i
on_task literal_false i = failed OutermostNoObject i
on_task literal_null i = failed OutermostNoObject i
on_task end_object i = astray
on_task end_array i = astray
on_task name i = astray

-- a token of this kind at i, of which the rest u of the text begins
unfoldable pub on_at : List ℕ → State → Kind → ℕ → State
on_at u begins x i = on_task x i
on_at u (failed rule j) x i = failed rule j
on_at u (done o) x i = astray
on_at u astray x i = astray
on_at u (inside []) x i = astray
on_at u (inside (between d ∷ ps)) x i = on_member u d x i ps
on_at u (inside (before_array l d ∷ ps)) x i = on_array l d x i ps
on_at u (inside (before_value key d ∷ ps)) x i = on_value (is_value_name key) u key d x i ps
on_at u (inside (entries l n d ∷ ps)) x i = on_entry l n d x i ps
on_at u (inside (beside n d ∷ ps)) x i = aside x n d ps

abbrev pub on : List ℕ → State → Kind → ℕ → State
on t s x i = on_at (drop i t) s x i

-- what the tokens of a tape make of a state
unfoldable pub after : List ℕ → State → Tape → State
after t s good = s
after t s (fault e) = s
after t s (event x i u) = after t (on t s x i) u
