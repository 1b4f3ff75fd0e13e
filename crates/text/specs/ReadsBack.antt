-- What is written reads back.
use Rattle.std.specs.Prelude.{◌≡◌, ℕ, suc, ◌≤◌, Bool, true, false, List, [], ◌∷◌, ◌++◌, length, drop, ℤ, Some, Ok}
use Rattle.std.specs.Fmt.{signed_decimal}
use Rattle.text.specs.Machine.{Kind, Tape, good, fault, event, tape, outcome, begin_object, end_object, begin_array, end_array, name, string, number}
use Rattle.text.specs.Tree.{events}
use Rattle.text.specs.Parts.{string_part, number_part}
use Rattle.text.specs.Strings.{stands}
use Rattle.text.specs.Numbers.{integer_of}
use Rattle.text.specs.Canonical.{Plain, Fields, Items, word, integer, object_of, array_of, no_field, a_field, no_item, an_item, written_on, fields_on, items_on, written, past, past_value, past_fields, past_items, placed, Letters, Within32, Writable, number_ends}
use Rattle.text.specs.Limits.{most_bytes, most_levels}

-- a canonical text within the limits is read, and its tape has just the tokens of its value, each at its offset
abbrev pub ReadsBack : Type 0
ReadsBack = (v : Plain) → Writable most_levels v → (length (written v) ≤ most_bytes → outcome (written v) ≡ Ok tt) × (tape (written v) ≡ events (placed v 0) good)

-- a string of letters is found again between its quotes, and stands for its letters
abbrev pub WordsBack : Type 0
WordsBack = (cs r : List ℕ) → Letters cs → (string_part (34 ∷ (cs ++ 34 ∷ r)) ≡ cs) × (stands cs ≡ cs)

-- an integer is found again, and stands for itself
abbrev pub IntegersBack : Type 0
IntegersBack = (z : ℤ) (r : List ℕ) → Within32 z → number_ends r ≡ true → (number_part (signed_decimal z ++ r) ≡ signed_decimal z) × (integer_of (signed_decimal z) ≡ Some z)

-- what an event makes of a state: the text from the token on, the state, the token's kind and its offset
abbrev pub Folding : Type 0 → Type 0
Folding S = List ℕ → S → Kind → ℕ → S

-- the state after the events of a tape over the text t
unfoldable pub fold_tape : {S : Type 0} → Folding S → List ℕ → S → Tape → S
fold_tape on t s good = s
fold_tape on t s (fault e) = s
fold_tape on t s (event x i u) = fold_tape on t (on (drop i t) s x i) u

-- the state after the value that is written at i, before the bytes r
unfoldable mutual
  pub fold_value : {S : Type 0} → Folding S → Plain → List ℕ → ℕ → S → S
  fold_value on (word cs) r i s = on (34 ∷ (cs ++ 34 ∷ r)) s string i
  fold_value on (integer z) r i s = on (signed_decimal z ++ r) s number i
  fold_value on (object_of fs) r i s = on (125 ∷ r) (fold_fields on true fs r (suc i) (on (123 ∷ fields_on true fs r) s begin_object i)) end_object (past_fields true fs (suc i))
  fold_value on (array_of vs) r i s = on (93 ∷ r) (fold_items on true vs r (suc i) (on (91 ∷ items_on true vs r) s begin_array i)) end_array (past_items true vs (suc i))

  pub fold_fields : {S : Type 0} → Folding S → Bool → Fields → List ℕ → ℕ → S → S
  fold_fields on first no_field r i s = s
  fold_fields on true (a_field n v fs) r i s =
      fold_fields on false fs r (past_value v (suc (suc (past n (suc i))))) (fold_value on v (fields_on false fs r) (suc (suc (past n (suc i)))) (on (34 ∷ (n ++ 34 ∷ 58 ∷ written_on v (fields_on false fs r))) s name i))
  fold_fields on false (a_field n v fs) r i s =
      fold_fields on false fs r (past_value v (suc (suc (past n (suc (suc i)))))) (fold_value on v (fields_on false fs r) (suc (suc (past n (suc (suc i))))) (on (34 ∷ (n ++ 34 ∷ 58 ∷ written_on v (fields_on false fs r))) s name (suc i)))

  pub fold_items : {S : Type 0} → Folding S → Bool → Items → List ℕ → ℕ → S → S
  fold_items on first no_item r i s = s
  fold_items on true (an_item v vs) r i s = fold_items on false vs r (past_value v i) (fold_value on v (items_on false vs r) i s)
  fold_items on false (an_item v vs) r i s = fold_items on false vs r (past_value v (suc i)) (fold_value on v (items_on false vs r) (suc i) s)

-- whatever is folded over the events of a canonical text is folded over its value, in states of type S
abbrev pub FoldsBack : Type 0 → Type 0
FoldsBack S = (on : Folding S) (s : S) (v : Plain) → Writable most_levels v → fold_tape on (written v) s (tape (written v)) ≡ fold_value on v [] 0 s

-- all that an event tells; with a list of these as its state a fold can keep them all, so that any other follows from it
pub record Visit : Type 0 where
  pub from : List ℕ
  pub kind : Kind
  pub offset : ℕ

-- a canonical text is read as its value, in its whole and in each of its parts
pub record WrittenReadsBack : Type 0 where
  pub texts : ReadsBack
  pub words : WordsBack
  pub integers : IntegersBack
  pub visits : FoldsBack (List Visit)
