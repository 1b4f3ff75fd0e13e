use Rattle.std.proofs.Common.{false, sym, ◌∙◌, arith, rules}
use Rattle.text.proofs.Matching.{matches_equal, paired_matching}
use Rattle.text.proofs.string.spells.Goals as goal

pub returns : goal.returns
returns c =
    let m = c.compare.ensures false (λ u v x m. search rules) ∙ sym (paired_matching false _ c.args.name.now (λ i. omega (arith, c.type_inv.name i))) in
    record { tells = rw m (matches_equal _ _); letters = m }

-- The bytes are the name's, and without a backslash the string stands for them.
pub returns-then-unescaped : goal.returns-then-unescaped
returns-then-unescaped c =
    let q = c.unescaped.ensures.stands c.if-unescaped.true in
    let here = sym c.if-same.true in
    record { tells = rw q (rw here c.same.ensures.tells); letters = rw q (here ∙ c.same.ensures.letters) }
