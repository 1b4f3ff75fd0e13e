-- When two levels, member names, exceptions or verbs are the same: where they have the same code.
use Rattle.std.specs.Prelude.{ℕ, Bool, ◌==◌}
use Rattle.table.specs.declared.exception.Exception.{Exception}
use Rattle.table.specs.declared.keys.Key.{Key}
use Rattle.table.specs.declared.record.Verb.{Verb}
use Rattle.table.specs.Levels.{key_code}

abbrev pub same_key : Key → Key → Bool
same_key a b = key_code a == key_code b

abbrev pub exception_code : Exception → ℕ
exception_code Exception.Fail = 0
exception_code Exception.Ignore = 1
exception_code Exception.NextStream = 2

abbrev pub same_exception : Exception → Exception → Bool
same_exception a b = exception_code a == exception_code b

abbrev pub verb_code : Verb → ℕ
verb_code Verb.Configure = 0
verb_code Verb.Other = 1

abbrev pub same_verb : Verb → Verb → Bool
same_verb a b = verb_code a == verb_code b
