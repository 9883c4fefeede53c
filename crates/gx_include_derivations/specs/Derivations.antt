-- Which declared types are derived from a type that item types ask for, by their numbers in document order.
use Rattle.std.specs.Prelude.{◌≡◌, ℕ, Bool, true, false, List, length, Option, None, Some, IfSome, IsSome, Vec, filter, slice_get, slice_index_or}
use Rattle.indexmap.specs.IndexMap.{IndexMap, get}
use Rattle.gx_base.specs.declared.type_name.TypeName.{TypeName}
use Rattle.gx_types.specs.declared.declaration.Declared.{Declared}
use Rattle.gx_types.specs.SchemaSet.{SchemaSet, declared_types}
use Rattle.gx_types.specs.TypeIndex.{equal_kinds}
use Rattle.gx_types.specs.Derivation.{is_derived}
use Rattle.gx_include_derivations.specs.declared.lead.Lead.{Lead}
use Rattle.gx_include_derivations.specs.declared.lead.Lead.TheVariants.{Answer, Base}

abbrev pub is_derived_declared : SchemaSet → TypeName → Option Declared → Bool
is_derived_declared schemas kind None = false
is_derived_declared schemas kind (Some declared) = is_derived schemas declared.name kind

-- the declared type of a number is derived from a type
abbrev pub is_derived_at : SchemaSet → TypeName → ℕ → Bool
is_derived_at schemas kind number = is_derived_declared schemas kind (slice_get schemas.types number)

-- the declared types that are derived from a type, in document order
abbrev pub derived_types : SchemaSet → TypeName → List TypeName
derived_types schemas kind = filter (λ t. is_derived schemas t kind) (declared_types schemas)

-- a flag for each declared type: it is derived from a type
pub record IsColumn (schemas : SchemaSet) (kind : TypeName) (flags : List Bool) : Type 0 where
  pub count_is : length flags ≡ length schemas.types
  pub are : (number : ℕ) → slice_index_or flags number false ≡ is_derived_at schemas kind number

-- a declared type has this number, and its name is equal to this one
pub record IsNumberOf (schemas : SchemaSet) (t : TypeName) (number : ℕ) : Type 0 where
  pub declared : Declared
  pub here : slice_get schemas.types number ≡ Some declared
  pub same : equal_kinds declared.name t ≡ true

abbrev pub AreNumbers : {S : Type 0} → SchemaSet → IndexMap TypeName ℕ S → Type 0
AreNumbers schemas numbers = (t : TypeName) → IfSome (get equal_kinds numbers t) (IsNumberOf schemas t)

-- each declared type has a number
abbrev pub AllAreNumbered : {S : Type 0} → SchemaSet → IndexMap TypeName ℕ S → Type 0
AllAreNumbered schemas numbers = (number : ℕ) (declared : Declared) → slice_get schemas.types number ≡ Some declared → IsSome (get equal_kinds numbers declared.name)

-- for each declared type the number of its base, where that is declared
pub record AreBases (schemas : SchemaSet) (bases : List (Option ℕ)) : Type 0 where
  pub count_is : length bases ≡ length schemas.types
  pub are : (number base : ℕ) (declared : Declared) → slice_get schemas.types number ≡ Some declared → slice_get bases number ≡ Some (Some base) → IsNumberOf schemas declared.base base

-- what is known of declared types is so
abbrev pub AreKnown : SchemaSet → TypeName → List (Option Bool) → Type 0
AreKnown schemas kind known = (number : ℕ) (answer : Bool) → slice_get known number ≡ Some (Some answer) → answer ≡ is_derived_at schemas kind number

-- an answer, or the number of a base that is derived from a type exactly where the answer is true
abbrev pub IsLead : SchemaSet → TypeName → Bool → Lead → Type 0
IsLead schemas kind derived (Answer answer) = answer ≡ derived
IsLead schemas kind derived (Base base) = derived ≡ is_derived_at schemas kind base

abbrev pub AreColumnsByKind : {A S : Type 0} → SchemaSet → IndexMap TypeName (Vec Bool A) S → Type 0
AreColumnsByKind schemas columns = (kind : TypeName) → IfSome (get equal_kinds columns kind) (λ column. IsColumn schemas kind column.items)

-- numbers of all declared types and of their bases, and columns of some types
pub record AreDerivations {A S Z : Type 0} (schemas : SchemaSet) (numbers : IndexMap TypeName ℕ S) (bases : List (Option ℕ)) (columns : IndexMap TypeName (Vec Bool A) Z) : Type 0 where
  pub numbered : AreNumbers schemas numbers
  pub all_numbered : AllAreNumbered schemas numbers
  pub with_bases : AreBases schemas bases
  pub by_kind : AreColumnsByKind schemas columns
