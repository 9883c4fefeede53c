-- The built-in types that schema documents may name (XML Schema 1.0 part 2, section 3).
use Rattle.std.specs.Prelude.{ℕ, Bool, ◌&&◌, List, [], ◌∷◌, codes, bytes_eq, Option, Some, None, is_none, if◌then◌else◌}
use Rattle.std.specs.Str.{encode_utf8_all}
use Rattle.gx_base.specs.declared.type_name.Builtin.{Builtin}
use Rattle.gx_base.specs.declared.type_name.Builtin.TheVariants as builtins
use Rattle.gx_qnames.specs.declared.reference.Reference.{Reference}
use Rattle.gx_qnames.specs.Words.{is_schema_uri}

abbrev pub BuiltinRows : Type 0
BuiltinRows = List (List ℕ × Builtin)

abbrev pub builtin_among : BuiltinRows → List ℕ → Option Builtin
builtin_among [] local = None
builtin_among (row ∷ rows) local = if bytes_eq row.0 local then Some row.1 else builtin_among rows local

-- the built-in type of a local name in the namespace of schema documents
unfoldable pub nameable_builtin : List ℕ → Option Builtin
nameable_builtin =
    builtin_among
    ((codes "string", builtins.Str) ∷ (codes "normalizedString", builtins.NormalizedStr) ∷ (codes "token", builtins.Token) ∷ (codes "boolean", builtins.Boolean) ∷ (codes "decimal", builtins.Decimal)
    ∷ (codes "integer", builtins.Integer) ∷ (codes "nonPositiveInteger", builtins.NonPositive) ∷ (codes "negativeInteger", builtins.Negative) ∷ (codes "long", builtins.Long) ∷ (codes "int", builtins.Int)
    ∷ (codes "short", builtins.Short) ∷ (codes "byte", builtins.Byte) ∷ (codes "nonNegativeInteger", builtins.NonNegative) ∷ (codes "unsignedLong", builtins.UnsignedLong) ∷ (codes "unsignedInt", builtins.UnsignedInt)
    ∷ (codes "unsignedShort", builtins.UnsignedShort) ∷ (codes "unsignedByte", builtins.UnsignedByte) ∷ (codes "positiveInteger", builtins.Positive) ∷ [])

-- the built-in type that a reference into that namespace names
abbrev pub named_builtin : Reference → Option Builtin
named_builtin reference = nameable_builtin (encode_utf8_all reference.name.local)

-- a type of that namespace is outside the profile
abbrev pub is_outside_profile : Reference → Bool
is_outside_profile reference = is_schema_uri reference.name.uri && is_none (named_builtin reference)
