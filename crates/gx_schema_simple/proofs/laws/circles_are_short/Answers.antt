use Rattle.gx_schema_simple.proofs.ShortCircles.{circles_are_short}
use Rattle.gx_schema_simple.proofs.laws.circles_are_short.Goals as goal

pub returns : goal.returns
returns c = circles_are_short
