-- Which types a type names (XML Schema 1.0 part 1, sections 3.4 and 3.14).
use Rattle.std.specs.Prelude.{ℕ, List, map, Option, None, Some, option_and_then}
use Rattle.gx_schema_components.specs.declared.component.Base.{Base}
use Rattle.gx_schema_components.specs.declared.component.Base.TheVariants.{Builtin, Declared}
use Rattle.gx_schema_simple.specs.declared.type_form.TypeForm.{TypeForm}
use Rattle.gx_schema_simple.specs.declared.type_form.TypeForm.TheVariants as forms

abbrev pub base_number : Base → Option ℕ
base_number (Builtin builtin) = None
base_number (Declared number) = Some number

-- the base or the item type that a type names
abbrev pub named_base : TypeForm → Option Base
named_base (forms.Restriction place base facets) = Some base
named_base (forms.List place item) = Some item
named_base (forms.SimpleContent base facets) = Some base
named_base (forms.ComplexContent base) = base

-- the base on whose values those of a type rest
abbrev pub followed_base : TypeForm → Option Base
followed_base (forms.Restriction place base facets) = Some base
followed_base (forms.List place item) = None
followed_base (forms.SimpleContent base facets) = Some base
followed_base (forms.ComplexContent base) = None

abbrev pub reference_of : TypeForm → Option ℕ
reference_of form = option_and_then base_number (named_base form)

abbrev pub followed_of : TypeForm → Option ℕ
followed_of form = option_and_then base_number (followed_base form)

-- the declared type that each type names
abbrev pub references_of : List TypeForm → List (Option ℕ)
references_of types = map reference_of types

-- the declared base that each type rests on
abbrev pub followed_bases : List TypeForm → List (Option ℕ)
followed_bases types = map followed_of types
