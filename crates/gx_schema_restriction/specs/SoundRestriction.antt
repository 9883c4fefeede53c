-- When a restriction is sound (XML Schema 1.0 part 1, section 3.4.6): it allows nothing that its base does not allow.
use Rattle.std.specs.Prelude.{List}
use Rattle.std.specs.Bool.{IsTrue}
use Rattle.std.specs.List.{list_any}
use Rattle.gx_types.specs.SchemaInvariant.{HoldsOfEach}
use Rattle.gx_types.specs.SchemaSet.{SchemaSet, declaration_of}
use Rattle.gx_types.specs.declared.declaration.AttributeUse.{AttributeUse}
use Rattle.gx_types.specs.declared.declaration.Declared.{Declared}
use Rattle.gx_include.specs.Inclusion.{IsIncluded}
use Rattle.gx_schema_restriction.specs.Attributes.{allows, is_required_as}
use Rattle.gx_schema_restriction.specs.Restriction.{children_in, children_of_base, uses_of_base}

-- each attribute is one of the base's with a derived type
abbrev pub AreAllowedBy : SchemaSet → (base uses : List AttributeUse) → Type 0
AreAllowedBy schemas base uses = HoldsOfEach (λ (given : AttributeUse). IsTrue (list_any (allows schemas given) base)) uses

-- each attribute that the base requires is required
abbrev pub AreRequiredAsBy : (base uses : List AttributeUse) → Type 0
AreRequiredAsBy base uses = HoldsOfEach (λ (inherited : AttributeUse). IsTrue inherited.required → IsTrue (list_any (is_required_as inherited) uses)) base

pub record IsSoundRestriction (schemas : SchemaSet) (declared : Declared) : Type 0 where
  -- its content is included in that of its base
  pub content : IsIncluded schemas (children_in declared.content) (children_of_base (declaration_of schemas declared.base))
  pub allowed : AreAllowedBy schemas (uses_of_base (declaration_of schemas declared.base)) declared.attributes
  pub required : AreRequiredAsBy (uses_of_base (declaration_of schemas declared.base)) declared.attributes
