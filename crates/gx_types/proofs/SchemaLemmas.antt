-- Declarations and their bases; schemas that declare nothing.
use Rattle.std.proofs.Common.{◌≡◌, suc, length, Bool, true, false, List, [], ◌∷◌, Some, None, refl, ◌∙◌, ap, if◌then◌else◌}
use Rattle.std.specs.Option.{option_map}
use Rattle.gx_base.specs.declared.type_name.TypeName.{TypeName}
use Rattle.gx_types.specs.SameItemType.{same_type_name}
use Rattle.gx_types.specs.declared.declaration.Declared.{Declared}
use Rattle.gx_types.specs.SchemaSet.{no_declarations, declaration_among}
use Rattle.gx_types.specs.SchemaInvariant.{IsSchemaSet}
use Rattle.gx_types.specs.Derivation.{bases_among, declared_base_of}
use Rattle.gx_types.proofs.DerivationLemmas.{nothing_is_grounded}

pub nothing_is_a_schema_set : IsSchemaSet no_declarations
nothing_is_a_schema_set = record { grounded = nothing_is_grounded; types = tt; distinct = tt; elements = tt; distinct_elements = tt }

-- the base of a type is that of its declaration
pub base_of_declaration : (types : List Declared) (t : TypeName) → declared_base_of (bases_among types) t ≡ option_map (λ (declared : Declared). declared.base) (declaration_among types t)
base_of_declaration [] t = refl
base_of_declaration (declared ∷ others) t =
    elim (same_type_name declared.name t) as (λ (same : Bool). (if same then Some declared.base else declared_base_of (bases_among others) t)
    ≡ option_map (λ (d : Declared). d.base) (if same then Some declared else declaration_among others t)) [
      | true ↦ refl
      | false ↦ base_of_declaration others t
    ]

pub base_is : (types : List Declared) (t : TypeName) (declared : Declared) → declaration_among types t ≡ Some declared → declared_base_of (bases_among types) t ≡ Some declared.base
base_is types t declared e = base_of_declaration types t ∙ ap (option_map (λ (d : Declared). d.base)) e

pub no_base : (types : List Declared) (t : TypeName) → declaration_among types t ≡ None → declared_base_of (bases_among types) t ≡ None
no_base types t e = base_of_declaration types t ∙ ap (option_map (λ (d : Declared). d.base)) e

-- there are as many bases as declared types
pub as_many_bases : (types : List Declared) → length (bases_among types) ≡ length types
as_many_bases [] = refl
as_many_bases (declared ∷ others) = ap suc (as_many_bases others)
