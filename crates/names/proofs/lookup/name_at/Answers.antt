use Rattle.std.proofs.Common.{◌≡◌, suc, ◌+◌, ◌≤◌, length, get_or, sym, refl, ◌∙◌, add-one, arith}
use Rattle.names.proofs.Looking.{name_is, name_none, part_within, part_none}
use Rattle.names.proofs.lookup.name_at.Goals as goal
use Rattle.names.proofs.lookup.name_at.Goals.{then-i-starts-via-then-i-starts, then-i-starts-via-else-i-starts+then-i-starts-2}

pub returns-then-i-starts : goal.returns-then-i-starts
returns-then-i-starts c =
    let h : length c.args.starts.now ≤ suc c.args.i = elim c.then-i-starts.branch [ then-i-starts-via-then-i-starts w ↦ omega (arith, w.if-i-starts.true) | then-i-starts-via-else-i-starts+then-i-starts-2 w ↦ omega (arith, w.if-i-starts-2.true) ] in
    sym (name_none c.args.letters.now c.args.starts.now c.args.i h)

pub returns-then-from-to : goal.returns-then-from-to
returns-then-from-to c =
    let e : c.args.i + 1 ≡ suc c.args.i = add-one c.args.i in
    part_within c.args.letters.now (get_or c.args.starts.now c.args.i 0) _ _ c.min-to.ensures
    ∙ sym (name_is c.args.letters.now c.args.starts.now c.args.i (omega arith) ∙ rw (sym e) refl)

pub returns-else-from-to : goal.returns-else-from-to
returns-else-from-to c =
    let e : c.args.i + 1 ≡ suc c.args.i = add-one c.args.i in
    sym (name_is c.args.letters.now c.args.starts.now c.args.i (omega arith) ∙ rw (sym e) (part_none c.args.letters.now (get_or c.args.starts.now c.args.i 0) _ _ c.min-to.ensures c.if-from-to.false))
