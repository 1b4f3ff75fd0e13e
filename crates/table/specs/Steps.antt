-- What each step at the object that is being read does, and how it is refused.
use Rattle.std.specs.Prelude.{◌≡◌, ℕ, true, false, List, Some, None, Ok, Err, Option, Result}
use Rattle.text.specs.declared.token.Placed.{Placed}
use Rattle.std.specs.Option.{option_map}
use Rattle.table.specs.declared.meaning.Meaning.{Meaning}
use Rattle.table.specs.declared.keys.Key.{Key}
use Rattle.table.specs.declared.level.Level.{Level}
use Rattle.table.specs.declared.exception.Exception.{Exception}
use Rattle.table.specs.declared.record.Record.{Record}
use Rattle.table.specs.declared.draft.Draft.{Draft}
use Rattle.table.specs.declared.fault.TableFault.{TableFault}
use Rattle.table.specs.declared.fault.TableFault.TheVariants.{Form}
use Rattle.table.specs.declared.fault.FormRule.TheVariants.{Repeated, WrongKind, NamesakeMissing}
use Rattle.table.specs.Levels.{allows}
use Rattle.table.specs.Words.{exception_spelled}
use Rattle.table.specs.Drafts.{placed, seen_before, noted, taken}

-- a known member whose name stands at i came for the first time, or again
abbrev pub Notes : Key → ℕ → Draft → Draft → Result (Unit {0}) TableFault → Type 0
Notes key i d d' (Ok x) = (seen_before key d ≡ false) × (d' ≡ noted key d)
Notes key i d d' (Err e) = (seen_before key d ≡ true) × (e ≡ Form Repeated i) × (d' ≡ d)

-- the string of a known member was taken, or is an exception that is not allowed
abbrev pub Takes : List ℕ → Key → ℕ → Draft → Draft → Result (Unit {0}) TableFault → Type 0
Takes x key i d d' (Ok u) = (taken x key i d ≡ Some d') × (d'.level ≡ d.level)
Takes x key i d d' (Err e) = (taken x key i d ≡ None) × (e ≡ Form WrongKind i) × (d'.level ≡ d.level)

-- a string that is an exception and allowed
abbrev pub AllowedBy : Option Exception → Level → ℕ → Result (Placed Exception) TableFault → Type 0
AllowedBy o l i (Ok p) = (o ≡ Some p.value) × (allows l p.value ≡ true) × (p ≡ placed p.value i)
AllowedBy (Some e) l i (Err f) = (allows l e ≡ false) × (f ≡ Form WrongKind i)
AllowedBy None l i (Err f) = f ≡ Form WrongKind i

abbrev pub Allowed : List ℕ → Level → ℕ → Result (Placed Exception) TableFault → Type 0
Allowed x l i r = AllowedBy (exception_spelled x) l i r

-- the record of an object, or its namesake is missing at its closing brace
abbrev pub Ends : ℕ → Option Record → Result Record TableFault → Type 0
Ends i o (Ok r) = o ≡ Some r
Ends i o (Err e) = (o ≡ None) × (e ≡ Form NamesakeMissing i)

-- what a part of a meaning finds in a word, at the word's offset
abbrev pub Asks : {T : Type 0} → (Meaning → Option T → Type 0) → Option (Placed Meaning) → Option (Placed T) → Type 0
Asks P None r = r ≡ None
Asks P (Some p) r = (o : _) × P p.value o × (r ≡ option_map (λ v. placed v p.offset) o)
