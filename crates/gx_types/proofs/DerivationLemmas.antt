-- Chains of bases, step by step.
use Rattle.std.proofs.Common.{◌≡◌, ℕ, zero, suc, ◌-◌, ◌≤◌, ◌⊎◌, inl, inr, false, [], Some, None, refl, subst, arith}
use Rattle.gx_base.specs.declared.name.Name.{Name}
use Rattle.gx_base.specs.declared.type_name.Builtin.{Builtin}
use Rattle.gx_base.specs.declared.type_name.Builtin.TheVariants.{AnyType, Untyped, AnySimple, AnyAtomic, UntypedAtomic, Str, NormalizedStr, Token, Boolean, Decimal, Integer, NonPositive, Negative, Long, Int, Short, Byte, NonNegative, UnsignedLong, UnsignedInt, UnsignedShort, UnsignedByte, Positive}
use Rattle.gx_base.specs.declared.type_name.TypeName.{TypeName}
use Rattle.gx_base.specs.declared.type_name.TypeName.TheVariants as names
use Rattle.gx_types.specs.BuiltinOrder.{builtin_number}
use Rattle.gx_types.specs.SameItemType.{same_type_name}
use Rattle.gx_types.specs.Derivation.{Bases, declared_base_of, base_of, Leads, LeadsTo}
use Rattle.gx_types.specs.Grounded.{EndsWithin, Grounded}

-- where nothing is declared, every chain ends
no_bases_end : (t : TypeName) → EndsWithin [] 0 t
no_bases_end (names.Builtin b) = tt
no_bases_end (names.Named n) = refl
no_bases_end (names.Anonymous n) = refl

pub nothing_is_grounded : Grounded []
nothing_is_grounded = record { ends = no_bases_end; based = λ t base e. absurd (cc) }

-- a type that has no base leads to itself alone
pub baseless : (bases : Bases) (t u : TypeName) → same_type_name t u ≡ false → base_of bases t ≡ None → LeadsTo bases t u → ⊥
baseless bases t u differ none (zero, same) = cc
baseless bases t u differ none (suc n, (b, e, r)) = cc

-- a chain from another type goes on from its base
pub from_base : (bases : Bases) (t u base : TypeName) → same_type_name t u ≡ false → base_of bases t ≡ Some base → LeadsTo bases t u → LeadsTo bases base u
from_base bases t u base differ e (zero, same) = absurd (cc)
from_base bases t u base differ e (suc n, (b, f, r)) = let same : b ≡ base = cc in (n, subst (λ (x : TypeName). Leads bases n x u) same r)

pub to_base : (bases : Bases) (t u base : TypeName) → base_of bases t ≡ Some base → LeadsTo bases base u → LeadsTo bases t u
to_base bases t u base e (n, r) = (suc n, (base, e, r))

-- a type is declared: it has a name, or a number
abbrev pub IsDeclared : TypeName → Type 0
IsDeclared t = ((name : Name) × (t ≡ names.Named name)) ⊎ ((number : ℕ) × (t ≡ names.Anonymous number))

pub declared_base_is : (bases : Bases) (t : TypeName) → IsDeclared t → base_of bases t ≡ declared_base_of bases t
declared_base_is bases (names.Builtin b) (inl h) = absurd (cc)
declared_base_is bases (names.Builtin b) (inr h) = absurd (cc)
declared_base_is bases (names.Named n) h = refl
declared_base_is bases (names.Anonymous n) h = refl

-- a base of a built-in type comes before it, and a declared type comes after all
abbrev pub rank_of : TypeName → ℕ
rank_of (names.Builtin b) = builtin_number b
rank_of (names.Named n) = 23
rank_of (names.Anonymous n) = 23

number_at_most : (b : Builtin) → builtin_number b ≤ 23
number_at_most AnyType = omega arith
number_at_most Untyped = omega arith
number_at_most AnySimple = omega arith
number_at_most AnyAtomic = omega arith
number_at_most UntypedAtomic = omega arith
number_at_most Str = omega arith
number_at_most NormalizedStr = omega arith
number_at_most Token = omega arith
number_at_most Boolean = omega arith
number_at_most Decimal = omega arith
number_at_most Integer = omega arith
number_at_most NonPositive = omega arith
number_at_most Negative = omega arith
number_at_most Long = omega arith
number_at_most Int = omega arith
number_at_most Short = omega arith
number_at_most Byte = omega arith
number_at_most NonNegative = omega arith
number_at_most UnsignedLong = omega arith
number_at_most UnsignedInt = omega arith
number_at_most UnsignedShort = omega arith
number_at_most UnsignedByte = omega arith
number_at_most Positive = omega arith

pub rank_at_most : (t : TypeName) → rank_of t ≤ 23
rank_at_most (names.Builtin b) = number_at_most b
rank_at_most (names.Named n) = omega arith
rank_at_most (names.Anonymous n) = omega arith

-- the base of a declared type is one step nearer to its chain's end
pub a_step_is_left : (bases : Bases) (steps : ℕ) (t base : TypeName) → IsDeclared t → EndsWithin bases steps t → declared_base_of bases t ≡ Some base → 1 ≤ steps
a_step_is_left bases steps (names.Builtin b) base (inl d) h e = absurd (cc)
a_step_is_left bases steps (names.Builtin b) base (inr d) h e = absurd (cc)
a_step_is_left bases zero (names.Named n) base d h e = absurd (cc)
a_step_is_left bases zero (names.Anonymous n) base d h e = absurd (cc)
a_step_is_left bases (suc k) (names.Named n) base d h e = omega arith
a_step_is_left bases (suc k) (names.Anonymous n) base d h e = omega arith

pub base_ends : (bases : Bases) (steps : ℕ) (t base : TypeName) → IsDeclared t → EndsWithin bases steps t → declared_base_of bases t ≡ Some base → EndsWithin bases (steps - 1) base
base_ends bases steps (names.Builtin b) base (inl d) h e = absurd (cc)
base_ends bases steps (names.Builtin b) base (inr d) h e = absurd (cc)
base_ends bases zero (names.Named n) base d h e = absurd (cc)
base_ends bases zero (names.Anonymous n) base d h e = absurd (cc)
base_ends bases (suc k) (names.Named n) base d h e = let q : k ≡ suc k - 1 = omega arith in subst (λ (m : ℕ). EndsWithin bases m base) q (h base e)
base_ends bases (suc k) (names.Anonymous n) base d h e = let q : k ≡ suc k - 1 = omega arith in subst (λ (m : ℕ). EndsWithin bases m base) q (h base e)
