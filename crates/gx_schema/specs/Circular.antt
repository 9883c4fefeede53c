-- Declarations that are part of themselves (XML Schema 1.0 part 1, sections 3.4.6, 3.6.6, 3.8.6 and 3.14.6).
use Rattle.std.specs.Prelude.{List, length, Option, option_map}
use Rattle.gx_schema_syntax.specs.DocumentTree.{DocumentTree}
use Rattle.gx_schema_components.specs.declared.mention.ComponentKind.TheVariants as kinds
use Rattle.gx_schema_components.specs.Components.{first_inner}
use Rattle.gx_schema_simple.specs.declared.type_form.TypeForm.{TypeForm}
use Rattle.gx_schema_simple.specs.CircularTypes.{first_circular}
use Rattle.gx_schema.specs.declared.found.Found.{Found}
use Rattle.gx_schema.specs.FirstFound.{earlier_found}
use Rattle.gx_schema.specs.FirstNumber.{first_number}
use Rattle.gx_schema.specs.Found.{found_by_number, globals_found, types_found}
use Rattle.gx_schema.specs.SeenComponents.{attribute_groups, is_circular_attribute_group, is_circular_group, model_groups}

-- the first type that is its own base, or the item type of itself, through others
abbrev pub circular_type : List DocumentTree → List TypeForm → Option Found
circular_type documents forms = option_map (found_by_number (types_found 0 documents)) (first_circular forms)

-- the first group definition that holds itself, through others
abbrev pub circular_group : List DocumentTree → Option Found
circular_group documents =
    option_map (found_by_number (globals_found kinds.GroupDefinition 0 documents)) (first_number (is_circular_group (model_groups documents)) 0 (first_inner documents))

abbrev pub circular_attribute_group : List DocumentTree → Option Found
circular_attribute_group documents =
    option_map (found_by_number (globals_found kinds.AttributeGroupDefinition 0 documents))
    (first_number (is_circular_attribute_group (attribute_groups documents)) 0 (length (attribute_groups documents)))

-- the first of all
abbrev pub circular : List DocumentTree → List TypeForm → Option Found
circular documents forms = earlier_found (circular_type documents forms) (earlier_found (circular_group documents) (circular_attribute_group documents))
