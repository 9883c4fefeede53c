-- Soundness of what schema files declare (XML Schema 1.0 part 1, sections 3.4.6, 3.6.6, 3.8.6, 3.14.6 and 3.15.3).
use Rattle.std.specs.Prelude.{◌≡◌, ℕ, ◌<◌, true, List, length, None, Some, slice_get}
use Rattle.std.specs.Bool.{IsTrue}
use Rattle.gx_types.specs.Prime.{items_of}
use Rattle.gx_types.specs.SchemaInvariant.{DeclaresOneTypeAName, HoldsOfEach}
use Rattle.gx_types.specs.SchemaSet.{SchemaSet}
use Rattle.gx_types.specs.declared.declaration.Content.{Content}
use Rattle.gx_types.specs.declared.declaration.Content.TheVariants as contents
use Rattle.gx_types.specs.declared.declaration.Declared.{Declared}
use Rattle.gx_xml.specs.declared.source.Source.{Source}
use Rattle.gx_references.specs.Circles.{IsPartOfItself}
use Rattle.gx_schema_syntax.specs.DocumentTree.{DocumentTree}
use Rattle.gx_schema_components.specs.declared.mention.Mention.{Mention}
use Rattle.gx_schema_components.specs.Components.{first_inner}
use Rattle.gx_schema_components.specs.DeclaredNames.{declared_number}
use Rattle.gx_schema_components.specs.Mentions.{document_mentions}
use Rattle.gx_schema_components.specs.Unknown.{refers}
use Rattle.gx_schema_content.specs.GroupContents.{groups_in}
use Rattle.gx_schema_restriction.specs.Restrictions.{is_restricted}
use Rattle.gx_schema_restriction.specs.SoundRestriction.{IsSoundRestriction}
use Rattle.gx_schema_simple.specs.Circles.{StandsOnCircle}
use Rattle.gx_schema_simple.specs.Forms.{references_of}
use Rattle.gx_schema.specs.Import.{documents_of}
use Rattle.gx_schema.specs.Inconsistent.{inconsistent}
use Rattle.gx_schema.specs.RestrictedTypes.{restricted_types}
use Rattle.gx_schema.specs.SchemaTypes.{type_forms}
use Rattle.gx_schema.specs.SeenComponents.{attribute_groups, attribute_groups_in_group, model_groups, seen_components}

-- each reference in documents refers to a declaration that is there
abbrev pub NamesExist : List DocumentTree → Type 0
NamesExist documents =
    HoldsOfEach (λ (document : DocumentTree). HoldsOfEach (λ (m : Mention). IsTrue (refers (declared_number documents) m.kind m.reference)) (document_mentions document)) documents

-- no declaration is part of itself
pub record NothingIsCircular (documents : List DocumentTree) : Type 0 where
  -- no type is its own base, or the item type of itself, through others
  pub types : (number : ℕ) → StandsOnCircle (references_of (type_forms documents)) number → ⊥
  -- no group definition holds itself, through others
  pub groups : (number : ℕ) → number < first_inner documents → IsPartOfItself groups_in (model_groups documents) number → ⊥
  -- nor does an attribute group
  pub attribute_groups : (number : ℕ) → number < length (attribute_groups documents) → IsPartOfItself attribute_groups_in_group (attribute_groups documents) number → ⊥

-- no two elements of one name in a content have different types
abbrev pub HasOneTypeAName : Content → Type 0
HasOneTypeAName (contents.Complex mixed model) = DeclaresOneTypeAName (items_of model)
HasOneTypeAName _ = Unit {0}

-- what schema files declare is sound
pub record IsSoundReading (files : List Source) (schemas : SchemaSet) : Type 0 where
  pub names : NamesExist (documents_of files)
  pub circles : NothingIsCircular (documents_of files)
  -- declarations agree; among them those of elements of one name in a content
  pub consistent : inconsistent (documents_of files) (type_forms (documents_of files)) (seen_components (documents_of files)) ≡ None
  pub one_type : HoldsOfEach (λ (declared : Declared). HasOneTypeAName declared.content) schemas.types
  -- each restriction of a complex type is sound
  pub restrictions : (number : ℕ) (declared : Declared) → slice_get schemas.types number ≡ Some declared
      → is_restricted (restricted_types (seen_components (documents_of files)).types) number ≡ true → IsSoundRestriction schemas declared
