-- Which simple types are inconsistent (XML Schema 1.0 part 1, section 3.14.6; part 2, sections 4.1.2 and 4.3).
use Rattle.std.specs.Prelude.{ℕ, suc, nat_le, Bool, true, false, ◌||◌, ◌&&◌, not, List, [], ◌∷◌, ◌++◌, filter, map, is_ok, Option, None, Some, slice_get, if◌then◌else◌}
use Rattle.gx_base.specs.declared.type_name.Builtin.{Builtin}
use Rattle.gx_base.specs.declared.type_name.Builtin.TheVariants as builtins
use Rattle.gx_schema_syntax.specs.declared.role.FacetKind.{FacetKind}
use Rattle.gx_schema_syntax.specs.declared.role.FacetKind.TheVariants as kinds
use Rattle.gx_schema_syntax.specs.declared.written.WrittenFacet.{WrittenFacet}
use Rattle.gx_types.specs.SimpleType.{SimpleMeaning}
use Rattle.gx_types.specs.SimpleValue.{values_at}
use Rattle.gx_schema_simple.specs.Circles.{is_circular}
use Rattle.gx_schema_simple.specs.Forms.{references_of}
use Rattle.gx_schema_simple.specs.Meanings.{simple_meaning_among}
use Rattle.gx_schema_simple.specs.Varieties.{variety_of, variety_of_base}
use Rattle.gx_schema_simple.specs.declared.faults.Fault.{Fault}
use Rattle.gx_schema_components.specs.declared.component.Base.{Base}
use Rattle.gx_schema_components.specs.declared.component.Base.TheVariants.{Builtin as built_in, Declared}
use Rattle.gx_schema_simple.specs.declared.type_form.TypeForm.{TypeForm}
use Rattle.gx_schema_simple.specs.declared.type_form.TypeForm.TheVariants as forms
use Rattle.gx_schema_simple.specs.declared.variety.TypeVariety.{TypeVariety}
use Rattle.gx_schema_simple.specs.declared.variety.TypeVariety.TheVariants.{Hidden, NoValues, Atomic, List as ListOf}

-- ---- which facets apply to which values

abbrev pub is_length : FacetKind → Bool
is_length kinds.Length = true
is_length kinds.MinLength = true
is_length kinds.MaxLength = true
is_length _ = false

abbrev pub is_bound : FacetKind → Bool
is_bound kinds.MinInclusive = true
is_bound kinds.MaxInclusive = true
is_bound kinds.MinExclusive = true
is_bound kinds.MaxExclusive = true
is_bound _ = false

-- strings have enumerations and lengths, numbers have enumerations and bounds, and booleans have none of these
abbrev pub applies_to_builtin : Builtin → FacetKind → Bool
applies_to_builtin builtins.Str kind = not (is_bound kind)
applies_to_builtin builtins.NormalizedStr kind = not (is_bound kind)
applies_to_builtin builtins.Token kind = not (is_bound kind)
applies_to_builtin builtins.AnyType kind = false
applies_to_builtin builtins.Untyped kind = false
applies_to_builtin builtins.AnySimple kind = false
applies_to_builtin builtins.AnyAtomic kind = false
applies_to_builtin builtins.UntypedAtomic kind = false
applies_to_builtin builtins.Boolean kind = false
applies_to_builtin _ kind = not (is_length kind)

-- lists have enumerations and lengths; of values that are not seen, or not there, nothing is said
abbrev pub applies : TypeVariety → FacetKind → Bool
applies Hidden kind = true
applies NoValues kind = true
applies (Atomic bottom) kind = applies_to_builtin bottom kind
applies (ListOf item) kind = not (is_bound kind)

-- ---- which facets are faulty

-- a text stands for values of a type, if these are seen
abbrev pub stands_for_values : Option SimpleMeaning → List ℕ → Bool
stands_for_values None text = true
stands_for_values (Some base) text = is_ok (values_at base text)

-- a facet applies to the values of the base, and its value is one of them, or a length
abbrev pub is_sound_facet : TypeVariety → Option SimpleMeaning → WrittenFacet → Bool
is_sound_facet variety base facet = applies variety facet.kind && (is_length facet.kind || stands_for_values base facet.value)

abbrev pub facet_fault : (number : ℕ) → WrittenFacet → Fault
facet_fault number facet = record { place = facet.place; number = number }

-- the faults of facets over a base, in the type of this number
abbrev pub facet_faults : TypeVariety → Option SimpleMeaning → (number : ℕ) → List WrittenFacet → List Fault
facet_faults variety base number facets = map (facet_fault number) (filter (λ facet. not (is_sound_facet variety base facet)) facets)

-- ---- which types are faulty

abbrev pub is_complex_form : Option TypeForm → Bool
is_complex_form (Some (forms.SimpleContent base facets)) = true
is_complex_form (Some (forms.ComplexContent base)) = true
is_complex_form _ = false

-- a type is seen to be complex
abbrev pub is_complex : (is_on_circle : ℕ → Bool) → List TypeForm → Base → Bool
is_complex is_on_circle types (built_in builtin) = false
is_complex is_on_circle types (Declared number) = not (is_on_circle number) && is_complex_form (slice_get types number)

abbrev pub is_list : TypeVariety → Bool
is_list (ListOf item) = true
is_list _ = false

abbrev pub fault_if : Bool → (place number : ℕ) → List Fault
fault_if true place number = record { place = place; number = number } ∷ []
fault_if false place number = []

-- what is seen of other types: which stand on circles, the varieties, and the meanings
pub record Seen : Type 0 where
  pub is_on_circle : ℕ → Bool
  pub variety : ℕ → TypeVariety
  pub meaning : Base → Option SimpleMeaning

-- a simple type over a complex one; a list of complex types or of lists; facets
abbrev pub type_faults : List TypeForm → Seen → (number : ℕ) → TypeForm → List Fault
type_faults types seen number (forms.Restriction place base facets) =
    fault_if (is_complex seen.is_on_circle types base) place number ++ facet_faults (variety_of_base seen.variety base) (seen.meaning base) number facets
type_faults types seen number (forms.List place item) = fault_if (is_complex seen.is_on_circle types item || is_list (variety_of_base seen.variety item)) place number
type_faults types seen number (forms.SimpleContent base facets) = facet_faults (variety_of_base seen.variety base) (seen.meaning base) number facets
type_faults types seen number (forms.ComplexContent base) = []

-- the faults of types, of which the first has this number among all types
abbrev pub faults_from : List TypeForm → Seen → (number : ℕ) → List TypeForm → List Fault
faults_from types seen number [] = []
faults_from types seen number (form ∷ others) = type_faults types seen number form ++ faults_from types seen (suc number) others

abbrev pub values_seen_among : List TypeForm → Seen
values_seen_among types = record { is_on_circle = is_circular (references_of types); variety = variety_of types; meaning = simple_meaning_among types }

abbrev pub simple_faults : List TypeForm → List Fault
simple_faults types = faults_from types (values_seen_among types) 0 types

-- ---- the first fault

-- the earlier of two faults by place, and the left one at one place
abbrev pub earlier_fault : Option Fault → Option Fault → Option Fault
earlier_fault None other = other
earlier_fault (Some fault) None = Some fault
earlier_fault (Some fault) (Some other) = if nat_le fault.place other.place then Some fault else Some other

abbrev pub first_type_fault : List Fault → Option Fault
first_type_fault [] = None
first_type_fault (fault ∷ faults) = earlier_fault (Some fault) (first_type_fault faults)
