-- The test whether a type takes a list of shapes: the positions of the type that the list comes to.
use Rattle.std.specs.Prelude.{Bool, true, false, List, [], ◌∷◌}
use Rattle.gx_types.specs.declared.shape.Shape.{Shape}
use Rattle.gx_types.specs.declared.shape.Shape.TheVariants as shapes
use Rattle.gx_types.specs.SchemaSet.{SchemaSet}
use Rattle.gx_types.specs.SequenceType.{SequenceType}
use Rattle.gx_include_positions.specs.Step.{single, step_over, is_end}
use Rattle.gx_include_positions.specs.Test.{is_taken}

-- the set of positions behind a list of shapes
abbrev pub set_behind : SchemaSet → SequenceType → List Shape → List Bool → List Bool
set_behind schemas t [] set = set
set_behind schemas t (shape ∷ shapes) set = set_behind schemas t shapes (step_over t (is_taken schemas shape) set)

unfoldable pub takes_shapes : SchemaSet → SequenceType → List Shape → Bool
takes_shapes schemas t shapes = is_end t (set_behind schemas t shapes (single 0))

-- a text, or nothing
abbrev pub is_text_at_most : List Shape → Bool
is_text_at_most [] = true
is_text_at_most (shapes.Text ∷ []) = true
is_text_at_most _ = false
