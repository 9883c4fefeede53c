-- Where the contents of complex types come from (XML Schema 1.0 part 1, section 3.4.2).
use Rattle.std.specs.Prelude.{ℕ, List, [], ◌∷◌}
use Rattle.gx_schema_syntax.specs.declared.written.ContentKind.{ContentKind}
use Rattle.gx_schema_syntax.specs.declared.written.ContentKind.TheVariants as kinds
use Rattle.gx_schema_components.specs.declared.component.Base.{Base}
use Rattle.gx_schema_components.specs.declared.component.Base.TheVariants.{Builtin, Declared}
use Rattle.gx_schema_components.specs.declared.component.Derivation.{Derivation}
use Rattle.gx_schema_components.specs.declared.component.Derivation.TheVariants.{Own, Extends, Restricts}
use Rattle.gx_schema_components.specs.declared.component.TypeComponent.{TypeComponent}
use Rattle.gx_schema_components.specs.declared.component.TypeForm.{TypeForm}
use Rattle.gx_schema_components.specs.declared.component.TypeForm.TheVariants as forms
use Rattle.gx_schema_content.specs.declared.source.ContentSource.{ContentSource}
use Rattle.gx_schema_content.specs.declared.source.ContentSource.TheVariants as sources

-- a derivation with simple content has no elements, whatever its base is
abbrev pub extension_source : ContentKind → Base → ContentSource
extension_source kinds.Simple base = sources.Simple
extension_source kinds.Complex base = sources.Behind base

abbrev pub restriction_source : ContentKind → ContentSource
restriction_source kinds.Simple = sources.Simple
restriction_source kinds.Complex = sources.Written

-- an extension adds to the content of its base, and a restriction takes its place
abbrev pub source_of : Derivation → ContentSource
source_of Own = sources.Written
source_of (Extends from) = extension_source from.content from.base
source_of (Restricts from) = restriction_source from.content

-- the declared type that a type is behind
abbrev pub declared_base : Base → List ℕ
declared_base (Builtin builtin) = []
declared_base (Declared number) = number ∷ []

abbrev pub extended_by : ContentSource → List ℕ
extended_by sources.Simple = []
extended_by sources.Written = []
extended_by (sources.Behind base) = declared_base base

-- the declared type to whose content a type adds
abbrev pub extended_by_form : TypeForm → List ℕ
extended_by_form (forms.Simple definition) = []
extended_by_form (forms.Complex definition) = extended_by (source_of definition.derivation)

abbrev pub extended_types : TypeComponent → List ℕ
extended_types component = extended_by_form component.form
