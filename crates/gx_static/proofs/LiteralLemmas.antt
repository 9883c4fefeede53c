-- Atomic values, and the built-in types that they show.
use Rattle.std.proofs.Common.{◌≡◌, true, false, Some, inl, inr, refl, sym, ap, subst}
use Rattle.std.specs.Option.{option_map}
use Rattle.gx_base.specs.declared.type_name.Builtin.{Builtin}
use Rattle.gx_base.specs.declared.type_name.Builtin.TheVariants.{AnyType, AnySimple, AnyAtomic, UntypedAtomic, Str, Boolean, Decimal, Integer}
use Rattle.gx_base.specs.declared.type_name.TypeName.{TypeName}
use Rattle.gx_base.specs.declared.type_name.TypeName.TheVariants as names
use Rattle.gx_num.specs.declared.Number.{Number}
use Rattle.gx_num.specs.declared.Number.TheVariants.{Int, Dec}
use Rattle.gx_facets.specs.declared.Atomic.{Atomic}
use Rattle.gx_facets.specs.declared.AtomValue.{AtomValue}
use Rattle.gx_facets.specs.declared.AtomValue.TheVariants as values
use Rattle.gx_types.specs.BuiltinBase.{builtin_base_of}
use Rattle.gx_types.specs.BuiltinOrder.{same_builtin}
use Rattle.gx_types.specs.SameItemType.{same_type_name}
use Rattle.gx_types.specs.SchemaSet.{SchemaSet}
use Rattle.gx_types.specs.Derivation.{bases_of, DerivesFrom}
use Rattle.gx_types.proofs.EqualNames.{builtins_are_one}
use Rattle.gx_types.proofs.DerivationLemmas.{from_base, baseless}
use Rattle.gx_types.proofs.DerivationOrder.{derivation_is_linear, derivation_is_a_preorder}
use Rattle.gx_model.specs.Belongs.{ValueFits}
use Rattle.gx_funcs.specs.Numbers.{type_of_number}
use Rattle.gx_static.specs.Rule.{shown_type}

-- a type that is derived from xs:anyAtomicType at once is derived from no other type than those above it
apart : (s : SchemaSet) (b c : Builtin) → builtin_base_of b ≡ Some AnyAtomic → same_builtin b c ≡ false → same_builtin AnyAtomic c ≡ false → same_builtin AnySimple c ≡ false → same_builtin AnyType c ≡ false
    → DerivesFrom s (names.Builtin b) (names.Builtin c) → ⊥
apart s b c base differs atomic simple any d =
    baseless (bases_of s) (names.Builtin AnyType) (names.Builtin c) any refl
    (from_base (bases_of s) (names.Builtin AnySimple) (names.Builtin c) (names.Builtin AnyType) simple refl
    (from_base (bases_of s) (names.Builtin AnyAtomic) (names.Builtin c) (names.Builtin AnySimple) atomic refl
    (from_base (bases_of s) (names.Builtin b) (names.Builtin c) (names.Builtin AnyAtomic) differs (ap (λ o. option_map names.Builtin o) base) d)))

pub decimal_is_no_integer : (s : SchemaSet) → DerivesFrom s (names.Builtin Decimal) (names.Builtin Integer) → ⊥
decimal_is_no_integer s = apart s Decimal Integer refl refl refl refl refl

-- no type is derived from two such types
both_apart : (s : SchemaSet) (t : TypeName) (b c : Builtin) → (DerivesFrom s (names.Builtin b) (names.Builtin c) → ⊥) → (DerivesFrom s (names.Builtin c) (names.Builtin b) → ⊥)
    → DerivesFrom s t (names.Builtin b) → DerivesFrom s t (names.Builtin c) → ⊥
both_apart s t b c f g d e = elim (derivation_is_linear s t (names.Builtin b) (names.Builtin c) d e) as (λ _. ⊥) [ inl h ↦ f h | inr h ↦ g h ]

pub string_is_no_number : (s : SchemaSet) (t : TypeName) → DerivesFrom s t (names.Builtin Str) → DerivesFrom s t (names.Builtin Decimal) → ⊥
string_is_no_number s t = both_apart s t Str Decimal (apart s Str Decimal refl refl refl refl refl) (apart s Decimal Str refl refl refl refl refl)

pub boolean_is_no_number : (s : SchemaSet) (t : TypeName) → DerivesFrom s t (names.Builtin Boolean) → DerivesFrom s t (names.Builtin Decimal) → ⊥
boolean_is_no_number s t = both_apart s t Boolean Decimal (apart s Boolean Decimal refl refl refl refl refl) (apart s Decimal Boolean refl refl refl refl refl)

pub untyped_is_no_number : (s : SchemaSet) (t : TypeName) → t ≡ names.Builtin UntypedAtomic → DerivesFrom s t (names.Builtin Decimal) → ⊥
untyped_is_no_number s t e d =
    apart s UntypedAtomic Decimal refl refl refl refl refl (subst (λ (u : TypeName). DerivesFrom s u (names.Builtin Decimal)) e d)

pub string_is_no_boolean : (s : SchemaSet) (t : TypeName) → DerivesFrom s t (names.Builtin Str) → DerivesFrom s t (names.Builtin Boolean) → ⊥
string_is_no_boolean s t = both_apart s t Str Boolean (apart s Str Boolean refl refl refl refl refl) (apart s Boolean Str refl refl refl refl refl)

pub untyped_is_no_boolean : (s : SchemaSet) (t : TypeName) → t ≡ names.Builtin UntypedAtomic → DerivesFrom s t (names.Builtin Boolean) → ⊥
untyped_is_no_boolean s t e d =
    apart s UntypedAtomic Boolean refl refl refl refl refl (subst (λ (u : TypeName). DerivesFrom s u (names.Builtin Boolean)) e d)

-- no type is derived from xs:untypedAtomic and from xs:boolean, or a number
pub from_untyped_is_no_boolean : (s : SchemaSet) (t : TypeName) → DerivesFrom s t (names.Builtin UntypedAtomic) → DerivesFrom s t (names.Builtin Boolean) → ⊥
from_untyped_is_no_boolean s t = both_apart s t UntypedAtomic Boolean (apart s UntypedAtomic Boolean refl refl refl refl refl) (apart s Boolean UntypedAtomic refl refl refl refl refl)

pub from_untyped_is_no_number : (s : SchemaSet) (t : TypeName) → DerivesFrom s t (names.Builtin UntypedAtomic) → DerivesFrom s t (names.Builtin Decimal) → ⊥
from_untyped_is_no_number s t = both_apart s t UntypedAtomic Decimal (apart s UntypedAtomic Decimal refl refl refl refl refl) (apart s Decimal UntypedAtomic refl refl refl refl refl)

pub from_untyped_is_no_string : (s : SchemaSet) (t : TypeName) → DerivesFrom s t (names.Builtin UntypedAtomic) → DerivesFrom s t (names.Builtin Str) → ⊥
from_untyped_is_no_string s t = both_apart s t UntypedAtomic Str (apart s UntypedAtomic Str refl refl refl refl refl) (apart s Str UntypedAtomic refl refl refl refl refl)

-- a type that is derived from xs:integer is derived from xs:decimal
pub from_integer_is_a_number : (s : SchemaSet) (t : TypeName) → DerivesFrom s t (names.Builtin Integer) → DerivesFrom s t (names.Builtin Decimal)
from_integer_is_a_number s t d = derivation_is_a_preorder.transitive s t (names.Builtin Integer) (names.Builtin Decimal) d (1, (names.Builtin Decimal, refl, refl))

-- the type of a number is derived from xs:decimal
pub integer_is_a_number : (s : SchemaSet) (n : Number) (t : TypeName) → ValueFits s (values.Num n) t → DerivesFrom s t (names.Builtin Decimal)
integer_is_a_number s (Int i) t f = from_integer_is_a_number s t f
integer_is_a_number s (Dec d) t f = f.0

-- a type that equals a built-in type is that one
same_as_builtin : (t : TypeName) (b : Builtin) → same_type_name t (names.Builtin b) ≡ true → t ≡ names.Builtin b
same_as_builtin (names.Builtin a) b e = ap names.Builtin (builtins_are_one a b e)
same_as_builtin (names.Named n) b e = absurd (cc)
same_as_builtin (names.Anonymous n) b e = absurd (cc)

pub number_fits : (s : SchemaSet) (n : Number) → ValueFits s (values.Num n) (names.Builtin (type_of_number n))
number_fits s (Int i) = (0, refl)
number_fits s (Dec d) = ((0, refl), decimal_is_no_integer s)

-- a value fits the type that it shows
shown_fits : (s : SchemaSet) (v : AtomValue) → ValueFits s v (names.Builtin (shown_type v))
shown_fits s (values.Untyped t) = refl
shown_fits s (values.Str t) = (0, refl)
shown_fits s (values.Truth b) = (0, refl)
shown_fits s (values.Num n) = number_fits s n

pub literal_fits : (s : SchemaSet) (a : Atomic) → same_type_name a.kind (names.Builtin (shown_type a.value)) ≡ true → ValueFits s a.value a.kind
literal_fits s a e = subst (ValueFits s a.value) (sym (same_as_builtin a.kind (shown_type a.value) e)) (shown_fits s a.value)
