-- Types, with numbers in the place of names (XML Schema 1.0 part 1, sections 3.4 and 3.14).
use Rattle.std.specs.Prelude.{ℕ, List, [], ◌∷◌, Option, None, Some}
use Rattle.gx_schema_syntax.specs.declared.written.ComplexTypeDefinition.{ComplexTypeDefinition}
use Rattle.gx_schema_syntax.specs.declared.written.Derivation.{Derivation as WrittenDerivation}
use Rattle.gx_schema_syntax.specs.declared.written.DerivationMethod.{DerivationMethod}
use Rattle.gx_schema_syntax.specs.declared.written.DerivationMethod.TheVariants as methods
use Rattle.gx_schema_syntax.specs.declared.written.SimpleTypeDefinition.{SimpleTypeDefinition}
use Rattle.gx_schema_syntax.specs.declared.written.SimpleTypeDefinition.TheVariants as written
use Rattle.gx_schema_syntax.specs.declared.written.TypeDeclaration.{TypeDeclaration}
use Rattle.gx_schema_syntax.specs.declared.written.TypeDefinition.{TypeDefinition}
use Rattle.gx_schema_syntax.specs.declared.written.TypeDefinition.TheVariants as definitions
use Rattle.gx_schema_components.specs.declared.component.ComplexType.{ComplexType}
use Rattle.gx_schema_components.specs.declared.component.Derivation.{Derivation}
use Rattle.gx_schema_components.specs.declared.component.Derivation.TheVariants as derivations
use Rattle.gx_schema_components.specs.declared.component.DerivedFrom.{DerivedFrom}
use Rattle.gx_schema_components.specs.declared.component.ModelGroup.{ModelGroup}
use Rattle.gx_schema_components.specs.declared.component.Particle.{Particle}
use Rattle.gx_schema_components.specs.declared.component.SimpleType.{SimpleType}
use Rattle.gx_schema_components.specs.declared.component.SimpleType.TheVariants as simple
use Rattle.gx_schema_components.specs.declared.component.TypeComponent.{TypeComponent}
use Rattle.gx_schema_components.specs.declared.component.TypeForm.{TypeForm}
use Rattle.gx_schema_components.specs.declared.component.TypeForm.TheVariants as forms
use Rattle.gx_schema_components.specs.AttributeLists.{parts_of_members}
use Rattle.gx_schema_components.specs.GroupNumbers.{Placed, content_placed}
use Rattle.gx_schema_components.specs.Referred.{Globals, base_referred}

abbrev pub simple_type_of : Globals → SimpleTypeDefinition → SimpleType
simple_type_of x (written.Restriction place base facets) = simple.Restriction place (base_referred x.numbers base) facets
simple_type_of x (written.List place item) = simple.List place (base_referred x.numbers item)

abbrev pub derived_from : Globals → WrittenDerivation → DerivedFrom
derived_from x derivation = record { place = derivation.place; content = derivation.content; base = base_referred x.numbers derivation.base }

abbrev pub derivation_by : DerivationMethod → DerivedFrom → Derivation
derivation_by methods.Extension from = derivations.Extends from
derivation_by methods.Restriction from = derivations.Restricts from

abbrev pub derivation_of : Globals → Option WrittenDerivation → Derivation
derivation_of x None = derivations.Own
derivation_of x (Some derivation) = derivation_by derivation.method (derived_from x derivation)

abbrev pub complex_type_of : Globals → ComplexTypeDefinition → Option Particle → ComplexType
complex_type_of x definition content = record {
  mixed = definition.is_mixed;
  derivation = derivation_of x definition.derivation;
  facets = definition.facets;
  content = content;
  attributes = parts_of_members x definition.attributes;
}

abbrev pub complex_form : Globals → ComplexTypeDefinition → Placed (Option Particle) → Placed TypeForm
complex_form x definition content = record { groups = content.groups; placed = forms.Complex (complex_type_of x definition content.placed) }

abbrev pub form_placed : Globals → (first : ℕ) → List ModelGroup → TypeDefinition → Placed TypeForm
form_placed x first groups (definitions.Simple definition) = record { groups = groups; placed = forms.Simple (simple_type_of x definition) }
form_placed x first groups (definitions.Complex definition) = complex_form x definition (content_placed x first groups definition.particle)

abbrev pub type_component : TypeDeclaration → TypeForm → TypeComponent
type_component declaration form = record { place = declaration.place; name = declaration.name; form = form }

abbrev pub behind_type : TypeComponent → Placed (List TypeComponent) → Placed (List TypeComponent)
behind_type component others = record { groups = others.groups; placed = component ∷ others.placed }

abbrev pub types_placed : Globals → (first : ℕ) → List ModelGroup → List TypeDeclaration → Placed (List TypeComponent)
types_placed x first groups [] = record { groups = groups; placed = [] }
types_placed x first groups (declaration ∷ others) =
    let form = form_placed x first groups declaration.definition in behind_type (type_component declaration form.placed) (types_placed x first form.groups others)
