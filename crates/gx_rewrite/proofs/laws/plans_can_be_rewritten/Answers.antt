use Rattle.gx_plan.specs.Remaking.{query_remade}
use Rattle.gx_rewrite.specs.Rewriting.{rewritten_operator}
use Rattle.gx_rewrite.proofs.Rewritten.{query_is_rewritten}
use Rattle.gx_rewrite.proofs.laws.plans_can_be_rewritten.Goals as goal

pub returns : goal.returns
returns c = λ setting query. (query_remade (rewritten_operator setting) query, query_is_rewritten setting query)
