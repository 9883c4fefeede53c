-- The chain of bases of a type (XML Schema 1.0 part 1, section 2.2.1.1).
use Rattle.std.specs.Prelude.{ℕ, zero, suc, List, [], ◌∷◌, length, Option, None, Some, option_map}
use Rattle.gx_base.specs.declared.type_name.TypeName.{TypeName}
use Rattle.gx_base.specs.declared.type_name.TypeName.TheVariants as names
use Rattle.gx_types.specs.Derivation.{bases_among}
use Rattle.gx_types.specs.Grounded.{EndsWithin}
use Rattle.gx_types.specs.SchemaSet.{declaration_among}
use Rattle.gx_types.specs.declared.declaration.Content.{Content}
use Rattle.gx_types.specs.declared.declaration.Declared.{Declared}

-- the declaration of a type; a built-in type has none
abbrev pub own_declaration : List Declared → TypeName → Option Declared
own_declaration types (names.Builtin builtin) = None
own_declaration types t = declaration_among types t

-- what a type is declared to hold
abbrev pub own_content : List Declared → TypeName → Option Content
own_content types t = option_map (λ (declared : Declared). declared.content) (own_declaration types t)

-- a declaration, and then those that its base leads to
abbrev pub with_bases : Option Declared → (TypeName → List Declared) → List Declared
with_bases None bases_of_type = []
with_bases (Some declared) bases_of_type = declared ∷ bases_of_type declared.base

-- the declarations of a type and of its bases, from the type on, and at most so many of them
abbrev pub chain_within : List Declared → ℕ → TypeName → List Declared
chain_within types zero t = []
chain_within types (suc steps) t = with_bases (own_declaration types t) (chain_within types steps)

-- the declarations of a type and of all its bases: there are no more than there are declared types
abbrev pub base_chain : List Declared → TypeName → List Declared
base_chain types t = chain_within types (length types) t

-- the type at which a chain of bases from a type ends
abbrev pub end_of_chain : List Declared → TypeName → TypeName
end_of_chain [] t = t
end_of_chain (declared ∷ others) t = end_of_chain others declared.base

-- the bases of all types end
abbrev pub BasesEnd : List Declared → Type 0
BasesEnd types = (t : TypeName) → EndsWithin (bases_among types) (length types) t
