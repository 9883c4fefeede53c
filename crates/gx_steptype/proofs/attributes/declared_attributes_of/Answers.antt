use Rattle.std.proofs.Common.{◌≡◌, IfOk, subst}
use Rattle.gx_types.specs.SchemaSet.{SchemaSet}
use Rattle.gx_steptype.specs.AskedView.{kind_asked}
use Rattle.gx_steptype.specs.StepType.{attributes_behind}
use Rattle.gx_steptype.proofs.attributes.declared_attributes_of.Goals as goal

pub returns-clause-content : goal.returns-clause-content
returns-clause-content c =
    subst (λ (s : SchemaSet). IfOk c.attributes_over.result (λ t. t ≡ attributes_behind s (kind_asked c.args.asked) c.args.kind.now)) c.schemas-schemas.ensures c.attributes_over.ensures
