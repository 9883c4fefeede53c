-- When a step or a typed value has a type.
use Rattle.std.specs.Prelude.{◌≡◌, true, false}
use Rattle.gx_types.specs.declared.step.Axis.{Axis}
use Rattle.gx_types.specs.declared.step.Test.{Test}
use Rattle.gx_types.specs.SchemaSet.{SchemaSet}
use Rattle.gx_types.specs.SequenceType.{SequenceType}
use Rattle.gx_include.specs.Decision.{is_included}
use Rattle.gx_steptype.specs.declared.error.StepError.{StepError}
use Rattle.gx_steptype.specs.declared.error.StepError.TheVariants.{NotANode, NoTypedValue, Memory}
use Rattle.gx_steptype.specs.StepType.{step_type, node_type}
use Rattle.gx_steptype.specs.DataType.{has_data, type_of_data}

-- the type of a step from one node, and a refusal of a context that is not one node
pub record HasStepType (schemas : SchemaSet) (axis : Axis) (test : Test) (context t : SequenceType) : Type 0 where
  pub node : is_included schemas context node_type ≡ true
  pub type : t ≡ step_type schemas axis test context

abbrev pub RefusesStep : SchemaSet → SequenceType → StepError → Type 0
RefusesStep schemas context NotANode = is_included schemas context node_type ≡ false
RefusesStep schemas context NoTypedValue = ⊥
RefusesStep schemas context Memory = Unit {0}

-- the type of the typed values, and a refusal where an item type has none
pub record HasDataType (schemas : SchemaSet) (operand t : SequenceType) : Type 0 where
  pub values : has_data schemas operand ≡ true
  pub type : t ≡ type_of_data schemas operand

abbrev pub RefusesData : SchemaSet → SequenceType → StepError → Type 0
RefusesData schemas operand NotANode = ⊥
RefusesData schemas operand NoTypedValue = has_data schemas operand ≡ false
RefusesData schemas operand Memory = Unit {0}
