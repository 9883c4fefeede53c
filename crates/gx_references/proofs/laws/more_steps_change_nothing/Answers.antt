use Rattle.gx_references.proofs.PublicLaws.{more_steps_change_nothing, ends_are_soon}
use Rattle.gx_references.proofs.laws.more_steps_change_nothing.Goals as goal

pub returns : goal.returns
returns g c = record {
  meanings = more_steps_change_nothing g.B.Body.named g.B.Body.meant g.B.Body.nothing g.met.B.Body.same;
  ends = ends_are_soon g.B.Body.named;
}
