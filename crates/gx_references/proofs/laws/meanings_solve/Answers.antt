use Rattle.gx_references.proofs.PublicLaws.{meanings_solve}
use Rattle.gx_references.proofs.laws.meanings_solve.Goals as goal

pub returns : goal.returns
returns g c = meanings_solve g.B.Body.named g.B.Body.meant g.B.Body.nothing g.met.B.Body.same
