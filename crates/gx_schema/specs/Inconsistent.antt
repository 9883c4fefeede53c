-- Declarations that disagree (XML Schema 1.0 part 1, sections 3.4.6, 3.8.6, 3.14.6 and 3.15.3; part 2, section 4.3).
use Rattle.std.specs.Prelude.{List, Option, option_map}
use Rattle.gx_schema_syntax.specs.DocumentTree.{DocumentTree}
use Rattle.gx_schema_components.specs.declared.mention.ComponentKind.TheVariants as kinds
use Rattle.gx_typetext.specs.NameText.{name_text}
use Rattle.gx_schema_content.specs.declared.elements.ElementParticle.{ElementParticle}
use Rattle.gx_schema_content.specs.Disagreement.{first_disagreement}
use Rattle.gx_schema_content.specs.declared.extensions.DifferingExtension.{DifferingExtension}
use Rattle.gx_schema_content.specs.Extensions.{first_differing_extension}
use Rattle.gx_schema_attributes.specs.declared.doubled.DoubledAttribute.{DoubledAttribute}
use Rattle.gx_schema_attributes.specs.Doubled.{first_doubled}
use Rattle.gx_schema_simple.specs.declared.faults.Fault.{Fault}
use Rattle.gx_schema_simple.specs.declared.type_form.TypeForm.{TypeForm}
use Rattle.gx_schema_simple.specs.Faults.{first_type_fault, simple_faults}
use Rattle.gx_schema.specs.declared.found.Found.{Found}
use Rattle.gx_schema.specs.FirstFound.{earlier_found}
use Rattle.gx_schema.specs.Occurrences.{disordered_bounds}
use Rattle.gx_schema.specs.AttributeTypes.{complex_attribute_type}
use Rattle.gx_schema.specs.DerivationFaults.{first_derivation_fault}
use Rattle.gx_schema.specs.Doubled.{doubled_of_kind, doubled_type}
use Rattle.gx_schema.specs.Found.{file_of_place, found_by_number, found_in_place, types_found}
use Rattle.gx_schema.specs.SeenComponents.{SeenComponents}

-- a fault is shown with the type that holds it
abbrev pub found_fault : List Found → Fault → Found
found_fault types fault = found_in_place fault.place (found_by_number types fault.number)

-- a simple type over a complex one, a list of lists, or a faulty facet
abbrev pub faulty_type : List DocumentTree → List TypeForm → Option Found
faulty_type documents forms = option_map (found_fault (types_found 0 documents)) (first_type_fault (simple_faults forms))

-- a complex type over a base of another kind
abbrev pub faulty_derivation : List DocumentTree → List TypeForm → SeenComponents → Option Found
faulty_derivation documents forms seen =
    option_map (found_fault (types_found 0 documents)) (first_derivation_fault forms 0 seen.types)

-- an extension that is mixed where its base is not, or the other way round
abbrev pub found_extension : List Found → DifferingExtension → Found
found_extension types extension = found_in_place extension.place (found_by_number types extension.number)

abbrev pub extension_found : List DocumentTree → SeenComponents → Option Found
extension_found documents seen = option_map (found_extension (types_found 0 documents)) (first_differing_extension seen.types seen.groups)

-- the first name of a kind that is declared twice
abbrev pub doubled_declaration : List DocumentTree → Option Found
doubled_declaration documents =
    let doubled = doubled_of_kind documents in
    earlier_found (doubled_type documents) (earlier_found (doubled kinds.ElementDeclaration) (earlier_found (doubled kinds.AttributeDeclaration)
    (earlier_found (doubled kinds.GroupDefinition) (doubled kinds.AttributeGroupDefinition))))

-- an element that has another type in a content than one of its name before it
abbrev pub found_particle : List DocumentTree → ElementParticle → Found
found_particle documents particle = record { file = file_of_place particle.place documents; place = particle.place; name = name_text particle.name }

abbrev pub disagreeing_element : List DocumentTree → SeenComponents → Option Found
disagreeing_element documents seen = option_map (found_particle documents) (first_disagreement seen.types seen.groups)

-- an attribute that a type has twice
abbrev pub found_attribute : List Found → DoubledAttribute → Found
found_attribute types doubled = record { file = (found_by_number types doubled.number).file; place = doubled.place; name = name_text doubled.name }

abbrev pub doubled_attribute : List DocumentTree → SeenComponents → Option Found
doubled_attribute documents seen = option_map (found_attribute (types_found 0 documents)) (first_doubled seen.types seen.attribute_groups)

-- faults of single declarations
abbrev pub faulty_declaration : List DocumentTree → Option Found
faulty_declaration documents = earlier_found (complex_attribute_type documents) (disordered_bounds documents)

-- faults of complex types
abbrev pub faulty_complex_type : List DocumentTree → List TypeForm → SeenComponents → Option Found
faulty_complex_type documents forms seen =
    earlier_found (doubled_attribute documents seen) (earlier_found (disagreeing_element documents seen)
    (earlier_found (extension_found documents seen) (faulty_derivation documents forms seen)))

-- the first by place, and at one place in this order: a doubled declaration, a doubled attribute, an element with two types, an extension that is mixed
-- otherwise than its base, a base of another kind, a faulty simple type, an attribute of a complex type, bounds out of order
abbrev pub inconsistent : List DocumentTree → List TypeForm → SeenComponents → Option Found
inconsistent documents forms seen =
    earlier_found (doubled_declaration documents) (earlier_found (faulty_complex_type documents forms seen)
    (earlier_found (faulty_type documents forms) (faulty_declaration documents)))
