-- What the code holds of attributes that are being given, and of those of types.
use Rattle.std.specs.Prelude.{◌≡◌, ℕ, List, [], slice_index_or}
use Rattle.gx_types.specs.declared.declaration.AttributeUse.{AttributeUse}
use Rattle.gx_schema_attributes.specs.declared.given.GivenUses.{GivenUses}
use Rattle.gx_schema_attributes.specs.declared.given.Giving.{Giving}
use Rattle.gx_schema_attributes.specs.GivenUses.{names_of_uses}

abbrev pub given_in : Giving → GivenUses
given_in giving = record { uses = giving.uses.items; doubled = giving.doubled }

-- the set has the names of the attributes, in their order
abbrev pub HasNameSet : Giving → Type 0
HasNameSet giving = giving.names.keys ≡ names_of_uses giving.uses.items

-- the attributes of the type of a number in a list
abbrev pub uses_at : List (List AttributeUse) → ℕ → List AttributeUse
uses_at uses number = slice_index_or uses number []
