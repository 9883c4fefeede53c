-- The bases of declared types end at built-in types.
use Rattle.std.specs.Prelude.{◌≡◌, ℕ, zero, suc, Bool, true, length, None, Some}
use Rattle.std.specs.Bool.{IsTrue}
use Rattle.gx_base.specs.declared.type_name.TypeName.{TypeName}
use Rattle.gx_base.specs.declared.type_name.TypeName.TheVariants as names
use Rattle.gx_types.specs.Derivation.{Bases, declared_base_of, is_declared}

-- within so many steps from a type there is a built-in type, or one without a base
abbrev pub EndsWithin : Bases → ℕ → TypeName → Type 0
EndsWithin bases steps (names.Builtin builtin) = Unit {0}
EndsWithin bases zero (names.Named name) = declared_base_of bases (names.Named name) ≡ None
EndsWithin bases zero (names.Anonymous number) = declared_base_of bases (names.Anonymous number) ≡ None
EndsWithin bases (suc steps) (names.Named name) =
    (base : TypeName) → declared_base_of bases (names.Named name) ≡ Some base → EndsWithin bases steps base
EndsWithin bases (suc steps) (names.Anonymous number) =
    (base : TypeName) → declared_base_of bases (names.Anonymous number) ≡ Some base → EndsWithin bases steps base

-- a type is built-in or declared
abbrev pub is_known : Bases → TypeName → Bool
is_known bases (names.Builtin builtin) = true
is_known bases (names.Named name) = is_declared bases (names.Named name)
is_known bases (names.Anonymous number) = is_declared bases (names.Anonymous number)

pub record Grounded (bases : Bases) : Type 0 where
  -- every chain of bases has at most as many declared types as there are
  pub ends : (t : TypeName) → EndsWithin bases (length bases) t
  -- the base of a declared type is built-in or declared, so that the chain ends at a built-in type
  pub based : (t base : TypeName) → declared_base_of bases t ≡ Some base → IsTrue (is_known bases base)
