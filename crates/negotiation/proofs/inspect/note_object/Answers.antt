use Rattle.std.proofs.Common.{rules}
use Rattle.negotiation.proofs.Objects.{object_noted}
use Rattle.negotiation.proofs.inspect.note_object.Goals as goal
use Rattle.negotiation.proofs.inspect.note_object.Goals.{then-head, else-head}

pub returns : goal.returns
returns g c = elim c.if-head.branch [
  | then-head w ↦ object_noted c.args.head.unknown _ c.args.meant c.note.result (search rules) c.note.ensures
  | else-head w ↦ object_noted c.args.head.unknown _ c.args.meant c.note.result (search rules) c.note.ensures
]
