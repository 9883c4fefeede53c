-- What simple types mean, as far as their values are seen (XML Schema 1.0 part 1, section 3.14; part 2, section 4.1).
use Rattle.std.specs.Prelude.{ℕ, zero, suc, List, [], ◌++◌, length, map, Option, None, Some, slice_get}
use Rattle.std.specs.Option.{option_to_list}
use Rattle.gx_base.specs.declared.type_name.TypeName.TheVariants as names
use Rattle.gx_facets.specs.declared.restriction.Facets.{Facets}
use Rattle.gx_types.specs.SimpleType.{SimpleMeaning}
use Rattle.gx_types.specs.declared.simple_type.Variety.TheVariants as variety
use Rattle.gx_schema_simple.specs.Circles.{named_next}
use Rattle.gx_schema_simple.specs.Forms.{base_number, followed_bases}
use Rattle.gx_schema_simple.specs.OwnFacets.{facets_read}
use Rattle.gx_schema_simple.specs.Varieties.{variety_of, variety_of_base}
use Rattle.gx_schema_components.specs.declared.component.Base.{Base}
use Rattle.gx_schema_simple.specs.declared.type_form.TypeForm.{TypeForm}
use Rattle.gx_schema_simple.specs.declared.type_form.TypeForm.TheVariants as forms
use Rattle.gx_schema_simple.specs.declared.variety.TypeVariety.{TypeVariety}
use Rattle.gx_schema_simple.specs.declared.variety.TypeVariety.TheVariants.{Hidden, NoValues, Atomic, List as ListOf}

-- ---- the facets of a type and of all its bases, over the facets that each has of its own

abbrev pub facets_within : (bases : List (Option ℕ)) (own : List Facets) → (steps : ℕ) → Option ℕ → List Facets
facets_within bases own zero number = []
facets_within bases own (suc steps) None = []
facets_within bases own (suc steps) (Some number) = option_to_list (slice_get own number) ++ facets_within bases own steps (named_next bases number)

-- no type has more bases than there are types
abbrev pub all_facets_of : (bases : List (Option ℕ)) (own : List Facets) → Base → List Facets
all_facets_of bases own base = facets_within bases own (length own) (base_number base)

-- ---- the meaning of a type, where its values are seen

-- lists of items of an item type, which has this variety; lists of other items have no values
abbrev pub list_meaning : (Base → List Facets) → (t item : Base) → TypeVariety → Option SimpleMeaning
list_meaning facets t item (Atomic bottom) = Some (record {
  variety = variety.List;
  item = record { kind = names.Builtin bottom; bottom = bottom; facets = facets item };
  facets = facets t;
})
list_meaning facets t item _ = None

abbrev pub meaning_by : (Base → List Facets) → (ℕ → TypeVariety) → Base → TypeVariety → Option SimpleMeaning
meaning_by facets known t Hidden = None
meaning_by facets known t NoValues = None
meaning_by facets known t (Atomic bottom) = Some (record {
  variety = variety.Atomic;
  item = record { kind = names.Builtin bottom; bottom = bottom; facets = facets t };
  facets = [];
})
meaning_by facets known t (ListOf item) = list_meaning facets t item (variety_of_base known item)

abbrev pub meaning_seen : (Base → List Facets) → (ℕ → TypeVariety) → Base → Option SimpleMeaning
meaning_seen facets known t = meaning_by facets known t (variety_of_base known t)

-- the values of a type, whatever its facets
abbrev pub plain_meaning : (ℕ → TypeVariety) → Base → Option SimpleMeaning
plain_meaning known t = meaning_seen (λ _. []) known t

-- ---- the facets that each type has of its own

abbrev pub no_facets : Facets
no_facets = facets_read None []

abbrev pub own_facets_over : (ℕ → TypeVariety) → TypeForm → Facets
own_facets_over known (forms.Restriction place base facets) = facets_read (plain_meaning known base) facets
own_facets_over known (forms.List place item) = no_facets
own_facets_over known (forms.SimpleContent base facets) = facets_read (plain_meaning known base) facets
own_facets_over known (forms.ComplexContent base) = no_facets

-- ---- among types

abbrev pub own_facets_among : List TypeForm → List Facets
own_facets_among types = map (own_facets_over (variety_of types)) types

-- what a type means among others, with the facets of all its bases
abbrev pub simple_meaning_among : List TypeForm → Base → Option SimpleMeaning
simple_meaning_among types t = meaning_seen (all_facets_of (followed_bases types) (own_facets_among types)) (variety_of types) t
