use Rattle.gx_static.proofs.NormalRules.{rules_give_normal_types}
use Rattle.gx_static.proofs.laws.rules_give_normal_types.Goals as goal

pub returns : goal.returns
returns c = rules_give_normal_types
