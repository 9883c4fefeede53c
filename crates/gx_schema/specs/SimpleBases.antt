-- The simple types whose values simple content has (XML Schema 1.0 part 1, section 3.4.2).
use Rattle.std.specs.Prelude.{ℕ, zero, suc, List, length, Option, None, Some, slice_get, unwrap_or}
use Rattle.gx_schema_components.specs.declared.component.Base.{Base}
use Rattle.gx_schema_components.specs.declared.component.Base.TheVariants.{Builtin, Declared}
use Rattle.gx_schema_simple.specs.declared.type_form.TypeForm.{TypeForm}
use Rattle.gx_schema_simple.specs.declared.type_form.TypeForm.TheVariants as forms

-- the base of a type with simple content
abbrev pub base_of_simple_content : Option TypeForm → Option Base
base_of_simple_content (Some (forms.SimpleContent base facets)) = Some base
base_of_simple_content _ = None

-- the base of a type with simple content; another one stays
abbrev pub behind_simple_content : List TypeForm → Base → Base
behind_simple_content types (Builtin builtin) = Builtin builtin
behind_simple_content types (Declared number) = unwrap_or (base_of_simple_content (slice_get types number)) (Declared number)

-- the type at which bases of simple content end, within so many steps
abbrev pub simple_base_within : List TypeForm → (steps : ℕ) → Base → Base
simple_base_within types zero base = base
simple_base_within types (suc steps) base = simple_base_within types steps (behind_simple_content types base)

-- the simple type of a base of simple content: the base itself where it is simple
abbrev pub simple_base : List TypeForm → Base → Base
simple_base types base = simple_base_within types (length types) base
