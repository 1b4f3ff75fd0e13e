use Rattle.std.proofs.Common.{◌≡◌, MatchResult, rules}
use Rattle.table.specs.declared.fault.TableFault.TheVariants.{Text}
use Rattle.table.proofs.Judgement.{stands_so, form_or_text}
use Rattle.table.proofs.read.first_fault.Goals as goal

pub returns-in-Form : goal.returns-in-Form
returns-in-Form c new p =
    let m : MatchResult c.check.result (λ _. c.map_or_else.result ≡ c.args.fault) (λ y. c.map_or_else.result ≡ Text y) = search rules in
    form_or_text c.args.text.now new c.args.fault _ _ _ _ c.in-Form.is c.check.ensures.exact m p

pub returns-in_default : goal.returns-in_default
returns-in_default c new p = stands_so c.args.text.now new c.args.fault c.in_default.not-Form p
