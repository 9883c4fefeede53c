-- Casts, and whether there is one (XQuery 1.0, sections 3.12.3 and 3.12.4).
use Rattle.std.specs.Prelude.{Bool, [], ◌∷◌, Result, Ok, Err, is_ok, if◌then◌else◌}
use Rattle.gx_base.specs.declared.type_name.TypeName.{TypeName}
use Rattle.gx_facets.specs.declared.Atomic.{Atomic}
use Rattle.gx_types.specs.SchemaSet.{SchemaSet}
use Rattle.gx_atomic.specs.declared.casting.CastError.{CastError}
use Rattle.gx_atomic.specs.Cast.{cast_of}
use Rattle.gx_model.specs.Forest.{Forest}
use Rattle.gx_model.specs.Item.{atom, Items}
use Rattle.gx_core.specs.Outcome.{Outcome, gives, wrong}
use Rattle.gx_core.specs.Comparing.{truth_value, cast_failure}

abbrev pub cast_outcome : Result Atomic CastError → Forest → Outcome Items
cast_outcome (Ok a) forest = gives (atom a ∷ []) forest
cast_outcome (Err error) forest = cast_failure error

-- the cast of an atomic value; an empty operand stays empty where that is allowed, and is else a type error
abbrev pub cast_items : SchemaSet → TypeName → (optional : Bool) → Items → Forest → Outcome Items
cast_items schemas kind optional [] forest = if optional then gives [] forest else wrong
cast_items schemas kind optional (atom a ∷ []) forest = cast_outcome (cast_of schemas a kind) forest
cast_items schemas kind optional _ forest = wrong

-- whether there is a cast; of an empty operand, where that is allowed
abbrev pub castable_items : SchemaSet → TypeName → (optional : Bool) → Items → Forest → Outcome Items
castable_items schemas kind optional [] forest = gives (truth_value optional) forest
castable_items schemas kind optional (atom a ∷ []) forest = gives (truth_value (is_ok (cast_of schemas a kind))) forest
castable_items schemas kind optional _ forest = wrong
