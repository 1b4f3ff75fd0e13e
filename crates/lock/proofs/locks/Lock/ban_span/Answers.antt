use Rattle.std.proofs.Common.{◌≡◌, true, Some, None, vec_items, sym, refl, ap, ◌∙◌, subst, w32, SFits, arith}
use lib.Signed.{le_z}
use Rattle.std.proofs.lemmas.Int.{to_z-of_z, ints}
use Rattle.std.proofs.lemmas.Bool.{cond-true}
use Rattle.std.proofs.lemmas.Bool.Decides.{nat_tests}
use Rattle.names.specs.Numbers.{attribute_numbered}
use Rattle.lock.specs.Bans.{Bans, span_ban, a_span}
use Rattle.lock.proofs.Banning.{added}
use Rattle.lock.proofs.locks.Lock.ban_span.Goals as goal

pub returns-clause-bans : goal.returns-clause-bans
returns-clause-bans g c =
    let a = c.in_ok-attribute.attribute in
    let low = c.args.low in
    let high = c.args.high in
    let low_fits : SFits w32 low = c.ranges.low in
    let high_fits : SFits w32 high = c.ranges.high in
    let above = simp to_z-of_z at c.if-low-high.false in
    let ordered : le_z low high ≡ true = grind (arith, nat_tests, ints) in
    let old = vec_items c.args.self.now.bans in
    let new = vec_items c.ban.new.self.bans in
    let known_as : Some a ≡ attribute_numbered c.args.attribute = sym c.in_ok-attribute.ensures.ok_part ∙ c.from_number.ensures in
    let pushed = simp to_z-of_z at c.ban.ensures.bans in
    let call : Some (a_span a low high) ≡ span_ban (attribute_numbered c.args.attribute) low high =
    sym (cond-true _ _ None ordered) ∙ ap (λ x. span_ban x low high) known_as in
    subst (λ x. Bans x old new c.ban.result) call (added (a_span a low high) old new _ c.ban.result (λ b v. refl) c.ban.ensures.answer pushed)
