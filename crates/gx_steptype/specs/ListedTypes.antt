-- The declared types that are derived from a type, as they are listed for each declared type.
use Rattle.std.specs.Prelude.{◌≡◌, List, [], ◌∷◌, Option, None, Some, IfSome, Vec, if◌then◌else◌}
use Rattle.indexmap.specs.IndexMap.{IndexMap, get}
use Rattle.gx_base.specs.declared.type_name.TypeName.{TypeName}
use Rattle.gx_types.specs.declared.declaration.Declared.{Declared}
use Rattle.gx_types.specs.SchemaSet.{SchemaSet, declaration_of}
use Rattle.gx_types.specs.TypeIndex.{equal_kinds}
use Rattle.gx_types.specs.Derivation.{is_derived}
use Rattle.gx_include_derivations.specs.Derivations.{derived_types}

-- a type alone, if it is derived from another one
abbrev pub alone_if_derived : SchemaSet → TypeName → TypeName → TypeName → List TypeName
alone_if_derived schemas t u kind = if is_derived schemas u kind then t ∷ [] else []

module _ {A : Type 0} where
  abbrev pub listed_types_of : Option (Vec TypeName A) → List TypeName
  listed_types_of None = []
  listed_types_of (Some types) = types.items

-- the types that are listed for a type
abbrev pub types_listed : {A S : Type 0} → IndexMap TypeName (Vec TypeName A) S → TypeName → List TypeName
types_listed lists kind = listed_types_of (get equal_kinds lists kind)

-- what holds of each type that is declared
abbrev pub OfDeclared : SchemaSet → (TypeName → Type 0) → Type 0
OfDeclared schemas Fact = (kind : TypeName) (declared : Declared) → declaration_of schemas kind ≡ Some declared → Fact kind

-- the list of a declared type, if there is one, has the declared types that are derived from it, in document order
abbrev pub AreDerivedLists : {A S : Type 0} → SchemaSet → IndexMap TypeName (Vec TypeName A) S → Type 0
AreDerivedLists schemas lists = OfDeclared schemas (λ kind. IfSome (get equal_kinds lists kind) (λ types. types.items ≡ derived_types schemas kind))
