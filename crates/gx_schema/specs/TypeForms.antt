-- Types, as far as the values of simple types tell of them.
use Rattle.std.specs.Prelude.{List, map, None, Some}
use Rattle.gx_schema_syntax.specs.declared.written.ContentKind.{ContentKind}
use Rattle.gx_schema_syntax.specs.declared.written.ContentKind.TheVariants as contents
use Rattle.gx_schema_syntax.specs.declared.written.WrittenFacet.{WrittenFacet}
use Rattle.gx_schema_components.specs.declared.component.Base.{Base}
use Rattle.gx_schema_components.specs.declared.component.Derivation.{Derivation}
use Rattle.gx_schema_components.specs.declared.component.Derivation.TheVariants as derivations
use Rattle.gx_schema_components.specs.declared.component.SimpleType.{SimpleType}
use Rattle.gx_schema_components.specs.declared.component.SimpleType.TheVariants as simple
use Rattle.gx_schema_components.specs.declared.component.TypeComponent.{TypeComponent}
use Rattle.gx_schema_components.specs.declared.component.TypeForm.{TypeForm as ComponentForm}
use Rattle.gx_schema_components.specs.declared.component.TypeForm.TheVariants.{Simple, Complex}
use Rattle.gx_schema_simple.specs.declared.type_form.TypeForm.{TypeForm}
use Rattle.gx_schema_simple.specs.declared.type_form.TypeForm.TheVariants as forms

abbrev pub form_of_simple_type : SimpleType → TypeForm
form_of_simple_type (simple.Restriction place base facets) = forms.Restriction place base facets
form_of_simple_type (simple.List place item) = forms.List place item

abbrev pub form_of_content : ContentKind → Base → List WrittenFacet → TypeForm
form_of_content contents.Simple base facets = forms.SimpleContent base facets
form_of_content contents.Complex base facets = forms.ComplexContent (Some base)

abbrev pub form_of_derivation : Derivation → List WrittenFacet → TypeForm
form_of_derivation derivations.Own facets = forms.ComplexContent None
form_of_derivation (derivations.Extends from) facets = form_of_content from.content from.base facets
form_of_derivation (derivations.Restricts from) facets = form_of_content from.content from.base facets

abbrev pub form_of_type : ComponentForm → TypeForm
form_of_type (Simple definition) = form_of_simple_type definition
form_of_type (Complex definition) = form_of_derivation definition.derivation definition.facets

abbrev pub forms_of : List TypeComponent → List TypeForm
forms_of types = map (λ (component : TypeComponent). form_of_type component.form) types
