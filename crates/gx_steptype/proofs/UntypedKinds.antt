-- The types that xs:untyped and xs:untypedAtomic are derived from.
use Rattle.std.proofs.Common.{◌≡◌, ℕ, zero, suc, true, ◌⊎◌, inl, inr, Some, refl, sym, ap, subst}
use Rattle.std.proofs.lemmas.Bool.{true≢false}
use Rattle.gx_base.specs.declared.type_name.Builtin.{Builtin}
use Rattle.gx_base.specs.declared.type_name.Builtin.TheVariants.{AnyType, Untyped, AnySimple, AnyAtomic, UntypedAtomic}
use Rattle.gx_base.specs.declared.type_name.TypeName.{TypeName}
use Rattle.gx_base.specs.declared.type_name.TypeName.TheVariants as names
use Rattle.gx_types.specs.SameItemType.{same_type_name}
use Rattle.gx_types.specs.SchemaSet.{SchemaSet}
use Rattle.gx_types.specs.Derivation.{Bases, bases_of, Leads, DerivesFrom}
use Rattle.gx_types.proofs.PublicLaws.{equality_is_an_equivalence}

same_is_one : (b : Builtin) (kind : TypeName) → same_type_name (names.Builtin b) kind ≡ true → kind ≡ names.Builtin b
same_is_one b (names.Builtin c) h = ap names.Builtin (sym (equality_is_an_equivalence.builtins_are_one b c h))
same_is_one b (names.Named n) h = absurd (true≢false (sym h))
same_is_one b (names.Anonymous n) h = absurd (true≢false (sym h))

inside : {A : Type 0} (x y : A) → Some x ≡ Some y → y ≡ x
inside x y e = cc

-- a chain from a built-in type either ends there or goes on from its base
above_any : (bases : Bases) (n : ℕ) (kind : TypeName) → Leads bases n (names.Builtin AnyType) kind → kind ≡ names.Builtin AnyType
above_any bases zero kind h = same_is_one AnyType kind h
above_any bases (suc n) kind (base, e, h) = absurd (cc)

above_untyped : (bases : Bases) (n : ℕ) (kind : TypeName) → Leads bases n (names.Builtin Untyped) kind → (kind ≡ names.Builtin Untyped) ⊎ (kind ≡ names.Builtin AnyType)
above_untyped bases zero kind h = inl (same_is_one Untyped kind h)
above_untyped bases (suc n) kind (base, e, h) =
    inr (above_any bases n kind (subst (λ (b : TypeName). Leads bases n b kind) (inside (names.Builtin AnyType) base e) h))

pub untyped_kinds : (s : SchemaSet) (kind : TypeName) → DerivesFrom s (names.Builtin Untyped) kind → (kind ≡ names.Builtin Untyped) ⊎ (kind ≡ names.Builtin AnyType)
untyped_kinds s kind h = above_untyped (bases_of s) h.0 kind h.1

-- chains that are there

pub untyped_atomic_is_simple : (s : SchemaSet) → DerivesFrom s (names.Builtin UntypedAtomic) (names.Builtin AnySimple)
untyped_atomic_is_simple s = (2, (names.Builtin AnyAtomic, refl, (names.Builtin AnySimple, refl, refl)))
