use Rattle.gx_references.proofs.PublicLaws.{circle_if_endless_law, endless_if_circle}
use Rattle.gx_references.proofs.laws.circles_are_endless.Goals as goal

pub returns : goal.returns
returns g c = record { circle = circle_if_endless_law g.B.Body.named; endless = endless_if_circle g.B.Body.named }
