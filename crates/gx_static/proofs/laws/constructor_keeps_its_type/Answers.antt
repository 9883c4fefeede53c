use Rattle.gx_static.proofs.ConstructorTypes.{constructor_keeps}
use Rattle.gx_static.proofs.laws.constructor_keeps_its_type.Goals as goal

pub returns : goal.returns
returns c = constructor_keeps
