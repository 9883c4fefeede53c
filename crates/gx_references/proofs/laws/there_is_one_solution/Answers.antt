use Rattle.gx_references.proofs.PublicLaws.{one_solution}
use Rattle.gx_references.proofs.laws.there_is_one_solution.Goals as goal

pub returns : goal.returns
returns g c = one_solution g.B.Body.named g.B.Body.meant g.B.Body.nothing g.met.B.Body.same
