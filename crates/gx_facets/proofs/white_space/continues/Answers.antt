use Rattle.std.proofs.Common.{◌∷◌}
use Rattle.gx_facets.proofs.white_space.continues.Goals as goal

pub returns-else-takes-clause-taken : goal.returns-else-takes-clause-taken
returns-else-takes-clause-taken c = rw (c.if-takes.false, c.if-gap.true) (λ cs. c.if-takes.ensures.taken (c.args.character ∷ cs))
