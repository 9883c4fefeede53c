-- When a type is derived from another one (XML Schema 1.0 part 1, section 2.2.1.1; XQuery 1.0, section 2.5.4).
use Rattle.std.specs.Prelude.{◌≡◌, ℕ, zero, suc, ◌+◌, Bool, false, ◌||◌, List, [], ◌∷◌, map, length, Option, None, Some, is_some, if◌then◌else◌}
use Rattle.std.specs.Bool.{IsTrue}
use Rattle.std.specs.Option.{option_map}
use Rattle.gx_base.specs.declared.type_name.TypeName.{TypeName}
use Rattle.gx_base.specs.declared.type_name.TypeName.TheVariants as names
use Rattle.gx_types.specs.BuiltinBase.{builtin_base_of}
use Rattle.gx_types.specs.SameItemType.{same_type_name}
use Rattle.gx_types.specs.SchemaSet.{SchemaSet}
use Rattle.gx_types.specs.declared.declaration.Declared.{Declared}

-- declared types, each with its base
abbrev pub Bases : Type 0
Bases = List (TypeName × TypeName)

abbrev pub bases_among : List Declared → Bases
bases_among types = map (λ (declared : Declared). (declared.name, declared.base)) types

-- the declared types with their bases, in document order
abbrev pub bases_of : SchemaSet → Bases
bases_of schemas = bases_among schemas.types

-- the base that a type is declared with
abbrev pub declared_base_of : Bases → TypeName → Option TypeName
declared_base_of [] t = None
declared_base_of (declaration ∷ others) t = if same_type_name declaration.0 t then Some declaration.1 else declared_base_of others t

abbrev pub is_declared : Bases → TypeName → Bool
is_declared bases t = is_some (declared_base_of bases t)

-- the base of a type, declared or built-in
abbrev pub base_of : Bases → TypeName → Option TypeName
base_of bases (names.Builtin builtin) = option_map names.Builtin (builtin_base_of builtin)
base_of bases (names.Named name) = declared_base_of bases (names.Named name)
base_of bases (names.Anonymous number) = declared_base_of bases (names.Anonymous number)

-- a chain of so many bases leads from one type to another
abbrev pub Leads : Bases → ℕ → TypeName → TypeName → Type 0
Leads bases zero t u = IsTrue (same_type_name t u)
Leads bases (suc steps) t u = (base : TypeName) × (base_of bases t ≡ Some base) × Leads bases steps base u

abbrev pub LeadsTo : Bases → TypeName → TypeName → Type 0
LeadsTo bases t u = (steps : ℕ) × Leads bases steps t u

-- a type is derived from another one: a finite chain of bases, possibly of no step, leads there
abbrev pub DerivesFrom : SchemaSet → TypeName → TypeName → Type 0
DerivesFrom schemas t u = LeadsTo (bases_of schemas) t u

-- what holds of a base, if there is one
abbrev pub of_base : Option TypeName → (TypeName → Bool) → Bool
of_base None test = false
of_base (Some base) test = test base

-- a chain of at most so many bases leads from one type to another
abbrev pub leads_within : Bases → ℕ → TypeName → TypeName → Bool
leads_within bases zero t u = same_type_name t u
leads_within bases (suc steps) t u = same_type_name t u || of_base (base_of bases t) (λ base. leads_within bases steps base u)

-- the test for derivation: no chain has more bases than there are types, declared and built-in
abbrev pub is_derived : SchemaSet → TypeName → TypeName → Bool
is_derived schemas t u = leads_within (bases_of schemas) (length (bases_of schemas) + 23) t u
