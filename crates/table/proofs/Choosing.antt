-- A choice by whether a string stands for given letters.
use Rattle.std.proofs.Common.{◌≡◌, ℕ, Bool, true, false, List, sym, refl, ◌∙◌}
use Rattle.text.specs.Strings.{matching}
use Rattle.table.specs.Words.{either}

pub chosen : {A : Type 0} (r : Bool) (us vs : List ℕ) (a b : A) → r ≡ matching false us vs → r ≡ true → a ≡ either (matching false us vs) a b
chosen r us vs a b t e = let m : matching false us vs ≡ true = sym t ∙ e in rw m refl

pub not_chosen : {A : Type 0} (r : Bool) (us vs : List ℕ) (a b c : A) → r ≡ matching false us vs → r ≡ false → c ≡ b → c ≡ either (matching false us vs) a b
not_chosen r us vs a b c t e h = let m : matching false us vs ≡ false = sym t ∙ e in rw m h
