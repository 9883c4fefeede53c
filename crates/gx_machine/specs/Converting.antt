-- Which items the function conversion rules leave as they are.
use Rattle.std.specs.Prelude.{Bool, false, not, ◌&&◌}
use Rattle.gx_base.specs.declared.type_name.TypeName.{TypeName}
use Rattle.gx_model.specs.Item.{Item, atom, node}
use Rattle.gx_core.specs.Converting.{is_untyped, is_any_atomic_type}

-- an atomic value that is not cast
abbrev pub is_left_alone : TypeName → Item → Bool
is_left_alone kind (atom a) = not (is_untyped a.value && not (is_any_atomic_type kind))
is_left_alone kind (node place) = false
