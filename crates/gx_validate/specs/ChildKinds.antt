-- The types that a content has for elements, in a table by their names.
use Rattle.std.specs.Prelude.{◌≡◌, Option, unwrap_or}
use Rattle.indexmap.specs.IndexMap.{IndexMap, get}
use Rattle.gx_base.specs.Name.{same_name}
use Rattle.gx_base.specs.declared.name.Name.{Name}
use Rattle.gx_base.specs.declared.type_name.Builtin.TheVariants.{Untyped}
use Rattle.gx_base.specs.declared.type_name.TypeName.{TypeName}
use Rattle.gx_base.specs.declared.type_name.TypeName.TheVariants as names
use Rattle.gx_types.specs.declared.declaration.Declared.{Declared}
use Rattle.gx_model.specs.DeclaredContent.{content_model}
use Rattle.gx_validate.specs.ElementContent.{element_type_in}

abbrev pub kind_or_untyped : Option TypeName → TypeName
kind_or_untyped found = unwrap_or found (names.Builtin Untyped)

-- the table has the type of the elements of each name
abbrev pub AreKindsOf : {S : Type 0} → Option Declared → IndexMap Name TypeName S → Type 0
AreKindsOf holder kinds = (name : Name) → get same_name kinds name ≡ element_type_in (content_model holder) name
