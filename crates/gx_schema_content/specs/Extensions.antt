-- Extensions that are mixed where their bases are not, or the other way round (XML Schema 1.0 part 1, section 3.4.6, Derivation Valid (Extension)).
use Rattle.std.specs.Prelude.{ℕ, suc, nat_le, Bool, false, ◌||◌, ◌&&◌, not, List, [], ◌∷◌, Option, None, Some, if◌then◌else◌}
use Rattle.gx_types.specs.SequenceType.{SequenceType}
use Rattle.gx_schema_components.specs.declared.component.ComplexType.{ComplexType}
use Rattle.gx_schema_components.specs.declared.component.Derivation.{Derivation}
use Rattle.gx_schema_components.specs.declared.component.Derivation.TheVariants.{Own, Extends, Restricts}
use Rattle.gx_schema_components.specs.declared.component.ModelGroup.{ModelGroup}
use Rattle.gx_schema_components.specs.declared.component.TypeComponent.{TypeComponent}
use Rattle.gx_schema_components.specs.declared.component.TypeForm.{TypeForm}
use Rattle.gx_schema_components.specs.declared.component.TypeForm.TheVariants as forms
use Rattle.gx_schema_content.specs.declared.effective.Effective.{Effective}
use Rattle.gx_schema_content.specs.declared.extensions.DifferingExtension.{DifferingExtension}
use Rattle.gx_schema_content.specs.declared.source.ContentSource.{ContentSource}
use Rattle.gx_schema_content.specs.declared.source.ContentSource.TheVariants as sources
use Rattle.gx_schema_content.specs.Sources.{source_of}
use Rattle.gx_schema_content.specs.TypeContents.{content_of_base, is_nothing, written_content}
use Rattle.gx_schema_content.specs.WholeContents.{whole_content_of_group, whole_content_of_type}

-- a content without elements and texts
abbrev pub is_empty_content : Effective → Bool
is_empty_content effective = is_nothing effective.content && not effective.mixed

abbrev pub differ : Bool → Bool → Bool
differ one other = if one then not other else other

-- nothing need agree with an empty content, and an extension that adds nothing and is not mixed itself is as its base
abbrev pub mixed_differs : (mixed : Bool) (added : SequenceType) (base : Effective) → Bool
mixed_differs mixed added base = differ mixed base.mixed && (not (is_empty_content base) && (not (is_nothing added) || mixed))

-- what is known of groups and types: their contents
pub record KnownContents : Type 0 where
  pub groups : ℕ → SequenceType
  pub types : ℕ → Effective

-- a type that adds to a base
abbrev pub source_differs : KnownContents → ContentSource → (mixed : Bool) (added : SequenceType) → Bool
source_differs known sources.Simple mixed added = false
source_differs known sources.Written mixed added = false
source_differs known (sources.Behind base) mixed added = mixed_differs mixed added (content_of_base known.types base)

abbrev pub definition_differs : KnownContents → ComplexType → Bool
definition_differs known definition = source_differs known (source_of definition.derivation) definition.mixed (written_content known.groups definition.content)

-- ---- the first of all, where a test tells which definitions differ from their bases

abbrev pub form_differs : (ComplexType → Bool) → TypeForm → Bool
form_differs differs (forms.Simple definition) = false
form_differs differs (forms.Complex definition) = differs definition

abbrev pub place_of_derivation : Derivation → ℕ
place_of_derivation Own = 0
place_of_derivation (Extends from) = from.place
place_of_derivation (Restricts from) = from.place

abbrev pub place_of_form : TypeForm → ℕ
place_of_form (forms.Simple definition) = 0
place_of_form (forms.Complex definition) = place_of_derivation definition.derivation

abbrev pub differing_extension : (ComplexType → Bool) → (number : ℕ) → TypeForm → Option DifferingExtension
differing_extension differs number form = if form_differs differs form then Some (record { place = place_of_form form; number = number }) else None

-- the earlier of two by place, and the left one at one place
abbrev pub earlier_extension : Option DifferingExtension → Option DifferingExtension → Option DifferingExtension
earlier_extension None other = other
earlier_extension (Some one) None = Some one
earlier_extension (Some one) (Some other) = if nat_le one.place other.place then Some one else Some other

-- the first by place among types, of which the first has this number among all types
abbrev pub first_differing_from : (ComplexType → Bool) → (number : ℕ) → List TypeComponent → Option DifferingExtension
first_differing_from differs number [] = None
first_differing_from differs number (component ∷ others) = earlier_extension (differing_extension differs number component.form) (first_differing_from differs (suc number) others)

-- contents of any size are seen
abbrev pub known_contents : List TypeComponent → List ModelGroup → KnownContents
known_contents types groups = record { groups = whole_content_of_group groups; types = whole_content_of_type types groups }

-- the first extension by place
unfoldable pub first_differing_extension : List TypeComponent → List ModelGroup → Option DifferingExtension
first_differing_extension types groups = first_differing_from (definition_differs (known_contents types groups)) 0 types
