-- What types declare keeps to what declarations keep to.
use Rattle.std.proofs.Common.{◌≡◌, ℕ, true, List, is_some, sym, ◌∙◌, subst, ap}
use Rattle.gx_base.specs.declared.type_name.TypeName.{TypeName}
use Rattle.gx_types.specs.Derivation.{bases_of}
use Rattle.gx_types.specs.Grounded.{Grounded}
use Rattle.gx_types.specs.SameItemType.{same_type_name}
use Rattle.gx_types.specs.SchemaInvariant.{AreDistinctBy, HoldsOfEach, IsDeclarationOf}
use Rattle.gx_types.specs.SchemaSet.{declaration_of, declared_types}
use Rattle.gx_types.specs.declared.declaration.GlobalElement.{GlobalElement}
use Rattle.gx_schema_simple.specs.Laws.{VarietiesSolve}
use Rattle.gx_schema_simple.specs.declared.type_form.TypeForm.{TypeForm}
use Rattle.gx_schema.specs.TypeNumbers.{first_type_number, type_number_from}
use Rattle.gx_schema.proofs.Declarations.{numbered_is_declared}
pub use Rattle.gx_schema.proofs.SimpleForms.{AreReadTypes, HeldByTypes, HoldWhatFits, meanings_with, types_with, IsReadBase, IsReadForm, schemas_with}
use Rattle.gx_schema.proofs.NumberedDeclarations.{names_are}
use Rattle.gx_schema.proofs.SimpleBases.{all_bases_are_known, all_types_end}
use Rattle.gx_schema.proofs.SimpleDeclarations.{all_are_declarations}

-- schemas of types keep to what schemas keep to of types
pub types_fit : VarietiesSolve → (declared : List TypeName) (types : List TypeForm) (held : HeldByTypes) → AreReadTypes declared types → (elements : List GlobalElement) (targets : List (List ℕ)) →
    HoldWhatFits (schemas_with declared types held elements targets) held →
    let schemas = schemas_with declared types held elements targets in
    Grounded (bases_of schemas) × HoldsOfEach (IsDeclarationOf schemas) schemas.types × AreDistinctBy same_type_name (declared_types schemas)
types_fit solve declared types held are elements targets fit = (
  record { ends = all_types_end declared types held are; based = all_bases_are_known declared types held are },
  all_are_declarations solve declared types held are elements targets fit,
  subst (AreDistinctBy same_type_name) (sym (names_are declared types held are)) are.distinct,
)

-- a type is declared where its name has a number
pub declared_where_numbered : (declared : List TypeName) (types : List TypeForm) (held : HeldByTypes) → AreReadTypes declared types → (elements : List GlobalElement) (targets : List (List ℕ)) (t : TypeName) →
    is_some (first_type_number declared t) ≡ true → is_some (declaration_of (schemas_with declared types held elements targets) t) ≡ true
declared_where_numbered declared types held are elements targets t e =
    sym (numbered_is_declared (types_with declared types held) 0 t) ∙ ap (λ (names : List TypeName). is_some (type_number_from 0 names t)) (names_are declared types held are) ∙ e
