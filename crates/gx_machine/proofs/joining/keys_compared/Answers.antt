use Rattle.gx_joins.specs.JoinedMeaning.{joined_meaning as joined}
use Rattle.gx_machine.proofs.JoinResuming.{compared_so}
use Rattle.gx_machine.proofs.joining.keys_compared.Goals as goal

pub returns : goal.returns
returns c = λ k.
    rw (← c.comparison.view_is, c.in-Binary.is, c.deref.ensures, c.deref-2.ensures)
    (compared_so k c.args.left c.args.right (joined k c.args.source.now) (joined k c.args.other.now) (joined k c.args.chosen.now) c.comparison.inside.place c.comparison.inside.outer c.comparison.inside.kind
    c.in-Binary.operator c.in-Binary.left_key.value c.in-Binary.right_key.value c.in-AnyEq.is)
