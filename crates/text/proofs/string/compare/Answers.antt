use Rattle.std.proofs.Common.{sym, ap, ◌∙◌}
use Rattle.text.specs.Strings.{matching}
use Rattle.text.proofs.Matching.{unit_none, same, other, too_many, ended}
use Rattle.text.proofs.string.compare.Goals as goal
use Rattle.text.proofs.string.compare.Goals.{in-Some+in-Some-next, in_default, in_default-next-via-in-Some-next+else-same, in_default-next-via-in_default-next}

pub returns-in_default-next : goal.returns-in_default-next
returns-in_default-next g c fold h =
    let u = sym c.step-added.ensures.0 ∙ c.in-Some.is in
    sym (c.loop-b.invariant fold h ∙ elim c.in_default-next.branch [
      | in_default-next-via-in-Some-next+else-same w ↦ other fold c.args.raw.now c.loop-b.mode c.loop-b.b-index _ c.loop-b-test.true u _ _ _ w.in-Some-next.ensures.steps (h _ _ _ w.same.ensures ∙ w.if-same.false)
      | in_default-next-via-in_default-next w ↦ too_many fold c.args.raw.now c.loop-b.mode c.loop-b.b-index _ c.loop-b-test.true u _ w.in_default-next.ensures.steps.0
    ])

pub loop-b-preserved : goal.loop-b-preserved
loop-b-preserved g c fold h = elim c.match-added.branch [
  | in-Some+in-Some-next w ↦ rw (w.letters-is, c.step-added.ensures.1) (c.loop-b.invariant fold h ∙ same fold c.args.raw.now c.loop-b.mode c.loop-b.b-index _ c.loop-b-test.true (sym c.step-added.ensures.0 ∙ w.in-Some.is) _ _ _ w.in-Some-next.ensures.steps (h _ _ _ w.same.ensures ∙ w.if-same.true))
  | in_default w ↦ rw (w.letters-is, c.step-added.ensures.1) (c.loop-b.invariant fold h ∙ ap (λ us. matching fold us c.loop-b.letters.rest.now) (unit_none c.loop-b.mode _ c.loop-b.b-index c.loop-b-test.true (sym c.step-added.ensures.0 ∙ w.in_default.is)))
]

pub returns : goal.returns
returns g c fold h = ended fold c.args.raw.now c.loop-b.mode c.loop-b.b-index c.loop-b-test.false _ _ _ _ c.next-2.ensures.steps _ c.is_none.ensures ∙ sym (c.loop-b.invariant fold h)
