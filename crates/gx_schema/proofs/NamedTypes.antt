-- Types that names refer to are read.
use Rattle.std.proofs.Common.{◌≡◌, ℕ, Bool, true, false, List, [], ◌∷◌, Option, None, Some, refl, subst, if◌then◌else◌}
use Rattle.std.specs.Prelude.{bytes_eq, codes, unwrap_or}
use Rattle.std.specs.Str.{encode_utf8_all}
use Rattle.gx_base.specs.declared.type_name.Builtin.{Builtin}
use Rattle.gx_base.specs.declared.type_name.Builtin.TheVariants as builtins
use Rattle.gx_types.specs.SchemaInvariant.{HoldsOfEach, is_nameable}
use Rattle.gx_xml.specs.declared.source.Declaration.{Declaration}
use Rattle.gx_xml.specs.declared.source.SourceAttribute.{SourceAttribute}
use Rattle.gx_qnames.specs.Builtins.{BuiltinRows, builtin_among, nameable_builtin, named_builtin}
use Rattle.gx_qnames.specs.Scope.{reference_in}
use Rattle.gx_qnames.specs.Words.{is_schema_uri}
use Rattle.gx_qnames.specs.declared.reference.Reference.{Reference}
use Rattle.gx_schema_syntax.specs.declared.written.TypeDeclaration.{TypeDeclaration}
use Rattle.gx_schema_syntax.specs.declared.written.TypeDefinition.{TypeDefinition}
use Rattle.gx_schema_syntax.specs.declared.written.TypeReference.TheVariants as types
use Rattle.gx_schema_syntax.specs.Contents.{given_value}
use Rattle.gx_schema_syntax.specs.Declarations.{type_found, type_in, type_named}
use Rattle.gx_schema.proofs.ReadDeclarations.{IsReadKind, is_read_base}

row_step : (rest : Option Builtin) (one found : Builtin) (b : Bool) → (if b then Some one else rest) ≡ Some found → is_nameable one ≡ true → (rest ≡ Some found → is_nameable found ≡ true) → is_nameable found ≡ true
row_step rest one found true h k l = let e : one ≡ found = cc in subst (λ (x : Builtin). is_nameable x ≡ true) e k
row_step rest one found false h k l = l h

row_is_nameable : (rows : BuiltinRows) (local : List ℕ) (found : Builtin) → HoldsOfEach (λ (row : List ℕ × Builtin). is_nameable row.1 ≡ true) rows → builtin_among rows local ≡ Some found → is_nameable found ≡ true
row_is_nameable [] local found p h = absurd (cc)
row_is_nameable (row ∷ rows) local found p h =
    row_step (builtin_among rows local) row.1 found (bytes_eq row.0 local) h p.0 (row_is_nameable rows local found p.1)

abbrev rows_of_builtins : BuiltinRows
rows_of_builtins =
    (codes "string", builtins.Str) ∷ (codes "normalizedString", builtins.NormalizedStr) ∷ (codes "token", builtins.Token) ∷ (codes "boolean", builtins.Boolean) ∷ (codes "decimal", builtins.Decimal)
    ∷ (codes "integer", builtins.Integer) ∷ (codes "nonPositiveInteger", builtins.NonPositive) ∷ (codes "negativeInteger", builtins.Negative) ∷ (codes "long", builtins.Long) ∷ (codes "int", builtins.Int)
    ∷ (codes "short", builtins.Short) ∷ (codes "byte", builtins.Byte) ∷ (codes "nonNegativeInteger", builtins.NonNegative) ∷ (codes "unsignedLong", builtins.UnsignedLong) ∷ (codes "unsignedInt", builtins.UnsignedInt)
    ∷ (codes "unsignedShort", builtins.UnsignedShort) ∷ (codes "unsignedByte", builtins.UnsignedByte) ∷ (codes "positiveInteger", builtins.Positive) ∷ []

rows_are_nameable : HoldsOfEach (λ (row : List ℕ × Builtin). is_nameable row.1 ≡ true) rows_of_builtins
rows_are_nameable = (refl, (refl, (refl, (refl, (refl, (refl, (refl, (refl, (refl, (refl, (refl, (refl, (refl, (refl, (refl, (refl, (refl, (refl, tt))))))))))))))))))

nameable : (local : List ℕ) (found : Builtin) → nameable_builtin local ≡ Some found → is_nameable found ≡ true
unfolding nameable_builtin
nameable local found h = row_is_nameable rows_of_builtins local found rows_are_nameable h

found_base : (o : Option Builtin) (reference : Reference) → named_builtin reference ≡ o → is_read_base (type_found o reference) ≡ true
found_base None reference e = refl
found_base (Some b) reference e = nameable (encode_utf8_all reference.name.local) b e

reference_base : (b : Bool) (reference : Reference) → is_read_base (if b then type_found (named_builtin reference) reference else types.Declared reference) ≡ true
reference_base true reference = found_base (named_builtin reference) reference refl
reference_base false reference = refl

pub base_is_read : (word : List ℕ) (scope : List Declaration) (attributes : List SourceAttribute) → is_read_base (type_named word scope attributes) ≡ true
base_is_read word scope attributes =
    let reference = reference_in scope (unwrap_or (given_value word attributes) []) in reference_base (is_schema_uri reference.name.uri) reference

found_type : (wanted : TypeDefinition → Bool) (all : List TypeDeclaration) (o : Option Builtin) (reference : Reference) → named_builtin reference ≡ o → IsReadKind wanted all (type_found o reference)
found_type wanted all None reference e = refl
found_type wanted all (Some b) reference e = nameable (encode_utf8_all reference.name.local) b e

reference_type : (wanted : TypeDefinition → Bool) (all : List TypeDeclaration) (b : Bool) (reference : Reference) →
    IsReadKind wanted all (if b then type_found (named_builtin reference) reference else types.Declared reference)
reference_type wanted all true reference = found_type wanted all (named_builtin reference) reference refl
reference_type wanted all false reference = refl

pub named_type_is_read : (wanted : TypeDefinition → Bool) (all : List TypeDeclaration) (scope : List Declaration) (value : List ℕ) → IsReadKind wanted all (type_in scope value)
named_type_is_read wanted all scope value = let reference = reference_in scope value in reference_type wanted all (is_schema_uri reference.name.uri) reference
