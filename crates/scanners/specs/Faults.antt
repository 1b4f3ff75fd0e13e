-- Refusals: each by its number, and the order in which they are looked for.
use Rattle.std.specs.Prelude.{ℕ, Bool, cond, Some, None, Ok, Err, Option, Result}
use Rattle.scanners.specs.declared.fault.FillFault.{FillFault}

-- the number of each refusal
abbrev pub fault_number : FillFault → ℕ
fault_number FillFault.BadNumber = 41
fault_number FillFault.Missing = 42
fault_number FillFault.AlreadyThere = 43
fault_number FillFault.Full = 44

-- the first reason to refuse, in the order of their numbers, or none
abbrev pub first_fault : Bool → Bool → Bool → Bool → Option FillFault
first_fault bad missing there full =
    cond bad (Some FillFault.BadNumber) (cond missing (Some FillFault.Missing) (cond there (Some FillFault.AlreadyThere) (cond full (Some FillFault.Full) None)))

-- what the caller is told: the refusal, or that all is done
abbrev pub told : Option FillFault → Result (Unit {0}) FillFault
told None = Ok tt
told (Some fault) = Err fault
