-- The positions of the types that documents declare can be counted.
use Rattle.std.proofs.Common.{ℕ, suc, ◌<◌, ◌^◌, List, [], ◌∷◌, arith}
use Rattle.gx_base.specs.declared.type_name.TypeName.{TypeName}
use Rattle.gx_facets.specs.declared.restriction.Facets.{Facets}
use Rattle.gx_types.specs.TypeRules.{positions_of}
use Rattle.gx_schema_syntax.specs.DocumentTree.{DocumentTree}
use Rattle.gx_schema_components.specs.DeclaredNames.{type_names_in}
use Rattle.gx_schema_content.specs.Laws.{ContentsAreBounded}
use Rattle.gx_schema_content.specs.MixedContents.{model_of}
use Rattle.gx_schema_restriction.specs.Laws.{AreCountable}
use Rattle.gx_schema_restriction.specs.Restriction.{children_in}
use Rattle.gx_schema_simple.specs.declared.type_form.TypeForm.{TypeForm}
use Rattle.gx_schema_simple.specs.declared.type_form.TypeForm.TheVariants as forms
use Rattle.gx_schema_simple.specs.declared.variety.TypeVariety.{TypeVariety}
use Rattle.gx_schema_simple.specs.declared.variety.TypeVariety.TheVariants.{Hidden, NoValues, Atomic, List as ListOf}
use Rattle.gx_schema_simple.specs.Meanings.{own_facets_over}
use Rattle.gx_schema.specs.SchemaTypes.{TypeMeanings, content_declared, meanings_seen, schema_types_from, schemas_written, simple_content, type_forms}
use Rattle.gx_schema.specs.SeenComponents.{seen_components}

-- the content of each type by number is one that can be counted
abbrev HaveFewPositions : TypeMeanings → Type 0
HaveFewPositions meanings = (number : ℕ) → positions_of (model_of (meanings.content number).mixed (meanings.content number).content) < 2 ^ 62

simple_is_countable : (declared : List TypeName) (variety : TypeVariety) (facets : Facets) → positions_of (children_in (simple_content declared variety facets)) < 2 ^ 62
simple_is_countable declared (ListOf item) facets = omega arith
simple_is_countable declared (Atomic bottom) facets = omega arith
simple_is_countable declared NoValues facets = omega arith
simple_is_countable declared Hidden facets = omega arith

content_is_countable : (declared : List TypeName) (types : List TypeForm) (meanings : TypeMeanings) → HaveFewPositions meanings → (number : ℕ) (form : TypeForm) →
    positions_of (children_in (content_declared declared types meanings number form)) < 2 ^ 62
content_is_countable declared types meanings few number (forms.Restriction place base facets) =
    simple_is_countable declared (meanings.variety number) (own_facets_over meanings.variety (forms.Restriction place base facets))
content_is_countable declared types meanings few number (forms.List place item) =
    simple_is_countable declared (meanings.variety number) (own_facets_over meanings.variety (forms.List place item))
content_is_countable declared types meanings few number (forms.SimpleContent base facets) = omega arith
content_is_countable declared types meanings few number (forms.ComplexContent base) = few number

types_are_countable : (declared : List TypeName) (types : List TypeForm) (meanings : TypeMeanings) → HaveFewPositions meanings → (number : ℕ) (names : List TypeName) (forms : List TypeForm) →
    AreCountable (schema_types_from declared types meanings number names forms)
types_are_countable declared types meanings few number [] forms = tt
types_are_countable declared types meanings few number (name ∷ names) [] = tt
types_are_countable declared types meanings few number (name ∷ names) (form ∷ forms) =
    (content_is_countable declared types meanings few number form, types_are_countable declared types meanings few (suc number) names forms)

pub written_are_countable : ContentsAreBounded → (documents : List DocumentTree) → AreCountable (schemas_written documents).types
written_are_countable bounded documents =
    let seen = seen_components documents in
    let meanings = meanings_seen (type_forms documents) seen in
    types_are_countable (type_names_in documents) (type_forms documents) meanings
    (λ number. let few = bounded seen.types seen.groups (meanings.content number).mixed number in omega arith) 0 (type_names_in documents) (type_forms documents)
