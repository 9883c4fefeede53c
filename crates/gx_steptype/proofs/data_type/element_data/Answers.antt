use Rattle.std.proofs.Common.{◌≡◌, IfOk, subst}
use Rattle.gx_types.specs.SchemaSet.{SchemaSet}
use Rattle.gx_steptype.specs.DerivedTypes.{over_derived}
use Rattle.gx_steptype.specs.DataType.{value_type_of}
use Rattle.gx_steptype.proofs.data_type.element_data.Goals as goal

pub returns-clause-data : goal.returns-clause-data
returns-clause-data c =
    subst (λ (s : SchemaSet). IfOk c.over_types.result (λ t. t ≡ over_derived s (value_type_of s) c.args.kind.now)) c.schemas-schemas.ensures c.over_types.ensures
