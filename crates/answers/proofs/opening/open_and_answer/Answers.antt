use Rattle.std.proofs.Common.{length, refl, ap, ◌∙◌, subst}
use Rattle.answers.specs.Answering.{Answers}
use Rattle.answers.specs.Opening.{first_drew}
use Rattle.session.specs.Held.{items_of}
use Rattle.session.specs.Promise.{HoldsChosen, KeepsChosen}
use Rattle.answers.proofs.First.{first_turn}
use Rattle.answers.proofs.opening.open_and_answer.Goals as goal

pub returns-clause-answered : goal.returns-clause-answered
returns-clause-answered g c =
    let k = g.S.Scanner.catalogue c.args.scanner in
    let e = c.in-Ok-run.ensures in
    let turns = c.in-Ok-run.ran.1.items in
    let plan = items_of c.in-Ok-run.ran.0.kept in
    let st = g.S.Scanner.state c.in-Ok-run.ran.0.scanner in
    let one = first_turn k c.args.text.now (length c.args.table.now) _ _ _ turns c.in-Ok.ensures.items c.push_reserved.ensures.items refl e.answered in
    let told = c.first_drew-drew.ensures ∙ ap first_drew c.deref.ensures.value in (
      one.turn,
      first_drew turns,
      one.first,
      subst (λ l. HoldsChosen k l st) one.whole e.holds,
      subst (λ l. KeepsChosen k l plan) one.whole e.keeps,
      subst (λ d. Answers d plan c.args.buffer.now c.put_answer-told.new.buffer c.put_answer-told.result) told c.put_answer-told.ensures,
    )
