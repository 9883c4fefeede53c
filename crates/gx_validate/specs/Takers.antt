-- What is kept for each type of schemas: its declaration, and its content model, on which the children of its elements are tried.
use Rattle.std.specs.Prelude.{◌≡◌, Some, IfSome}
use Rattle.std.specs.Borrow.{Bor}
use Rattle.indexmap.specs.IndexMap.{IndexMap, get}
use Rattle.gx_base.specs.declared.type_name.TypeName.{TypeName}
use Rattle.gx_types.specs.SchemaSet.{SchemaSet, declaration_of}
use Rattle.gx_types.specs.TypeIndex.{equal_kinds}
use Rattle.gx_types.specs.declared.declaration.Declared.{Declared}
use Rattle.gx_include_takes.specs.Tried.{Tried}
use Rattle.gx_model.specs.DeclaredContent.{content_model}

-- the content model of a type, with its schemas
abbrev pub content_tried : SchemaSet → TypeName → Tried
content_tried schemas kind = record { schemas = schemas; model = content_model (declaration_of schemas kind) }

-- what is kept for a type is its content model
abbrev pub AreTakers : {S : Type 0} → SchemaSet → IndexMap TypeName Tried S → Type 0
AreTakers schemas known = (kind : TypeName) → IfSome (get equal_kinds known kind) (λ (tried : Tried). tried ≡ content_tried schemas kind)

-- what is kept for a type is its declaration
abbrev pub AreHolders : {S : Type 0} → SchemaSet → IndexMap TypeName (Bor Declared) S → Type 0
AreHolders schemas holders = (kind : TypeName) → IfSome (get equal_kinds holders kind) (λ (declared : Bor Declared). declaration_of schemas kind ≡ Some declared.now)
