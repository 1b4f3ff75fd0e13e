-- The number and the offset of each fault of this layer; a fault of the text keeps its own.
use Rattle.std.specs.Prelude.{ℕ}
use Rattle.text.specs.Faults.{text_number, text_offset}
use Rattle.table.specs.declared.fault.FormRule.{FormRule}
use Rattle.table.specs.declared.fault.FormRule.TheVariants.{OutermostNoObject, ArrayElsewhere, WrongKind, NamesakeMissing, Repeated, TooMany}
use Rattle.table.specs.declared.fault.TableFault.{TableFault}
use Rattle.table.specs.declared.fault.TableFault.TheVariants.{Text, Form, TooHeavy}

abbrev pub rule_number : FormRule → ℕ
rule_number OutermostNoObject = 21
rule_number ArrayElsewhere = 22
rule_number WrongKind = 23
rule_number NamesakeMissing = 24
rule_number Repeated = 25
rule_number TooMany = 26

abbrev pub table_number : TableFault → ℕ
table_number (Text e) = text_number e
table_number (Form rule i) = rule_number rule
table_number TooHeavy = 27

abbrev pub table_offset : TableFault → ℕ
table_offset (Text e) = text_offset e
table_offset (Form rule i) = i
table_offset TooHeavy = 0
