use Rattle.negotiation.proofs.Growing.{task_grouped}
use Rattle.negotiation.proofs.Lightness.{task_fits}
use Rattle.negotiation.proofs.laws.plans_of_texts_are_grouped.Goals as goal

pub returns-clause-fit : goal.returns-clause-fit
returns-clause-fit c t room acts e = task_fits t room acts (c.value_decides.ensures.judged t room _ e)

pub returns-clause-grouped : goal.returns-clause-grouped
returns-clause-grouped c k h t room acts p b plan e v =
    task_grouped k h.source h.format p acts b plan (c.tasks_are_within_limits.ensures t room acts e).1 (task_fits t room acts (c.value_decides.ensures.judged t room _ e)) v
