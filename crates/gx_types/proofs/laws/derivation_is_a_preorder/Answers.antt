use Rattle.gx_types.proofs.PublicLaws.{derivation_is_a_preorder, derivation_is_linear}
use Rattle.gx_types.proofs.laws.derivation_is_a_preorder.Goals as goal

pub returns-clause-preorder : goal.returns-clause-preorder
returns-clause-preorder c = derivation_is_a_preorder

pub returns-clause-linear : goal.returns-clause-linear
returns-clause-linear c = derivation_is_linear
