-- The order of derivation: reflexive, transitive, linear, and the same for equal types.
use Rattle.std.proofs.Common.{◌≡◌, ℕ, zero, suc, ◌<◌, Bool, true, [], ◌∷◌, ◌⊎◌, inl, inr, Option, None, Some, is_some, length, refl, ◌∙◌, ap, subst, arith, if◌then◌else◌}
use Rattle.std.specs.Option.{option_map}
use Rattle.gx_base.specs.declared.type_name.Builtin.{Builtin}
use Rattle.gx_base.specs.declared.type_name.Builtin.TheVariants.{AnyType, Untyped, AnySimple, AnyAtomic, UntypedAtomic, Str, NormalizedStr, Token, Boolean, Decimal, Integer, NonPositive, Negative, Long, Int, Short, Byte, NonNegative, UnsignedLong, UnsignedInt, UnsignedShort, UnsignedByte, Positive}
use Rattle.gx_base.specs.declared.type_name.TypeName.{TypeName}
use Rattle.gx_base.specs.declared.type_name.TypeName.TheVariants as names
use Rattle.gx_types.specs.BuiltinBase.{builtin_base_of}
use Rattle.gx_types.specs.BuiltinOrder.{builtin_number}
use Rattle.gx_types.specs.SameItemType.{same_type_name}
use Rattle.gx_types.specs.Derivation.{bases_of, Bases, declared_base_of, is_declared, base_of, Leads, LeadsTo}
use Rattle.gx_types.specs.Grounded.{EndsWithin, is_known}
use Rattle.gx_types.specs.DerivationLaws.{DerivationIsAPreorder, DerivationIsLinear, DerivationLooksAtNoPrefix, AllTypesAreDerivedFromAnyType}
use Rattle.gx_types.specs.EqualNames.{builtins_are_one, type_names_are_equivalent, type_name_symm, type_name_trans, type_name_itself}
use Rattle.gx_types.proofs.EqualTypes.{leads_to_equal}
use Rattle.gx_types.proofs.DerivationLemmas.{to_base}

-- equal types pass the same tests
tests_agree : (d t u : TypeName) → same_type_name t u ≡ true → same_type_name d t ≡ same_type_name d u
tests_agree d t u h = type_names_are_equivalent.symm d t ∙ type_names_are_equivalent.congr t u d h ∙ type_names_are_equivalent.symm u d

-- and have the same bases
declared_bases_agree : (bases : Bases) (t u : TypeName) → same_type_name t u ≡ true → declared_base_of bases t ≡ declared_base_of bases u
declared_bases_agree [] t u h = refl
declared_bases_agree (d ∷ ds) t u h =
    ap (λ (b : Bool). if b then Some d.1 else declared_base_of ds t) (tests_agree d.0 t u h)
    ∙ ap (λ (o : Option TypeName). if same_type_name d.0 u then Some d.1 else o) (declared_bases_agree ds t u h)

pub bases_agree : (bases : Bases) (t u : TypeName) → same_type_name t u ≡ true → base_of bases t ≡ base_of bases u
bases_agree bases (names.Builtin t) (names.Builtin u) h = ap (λ (b : Builtin). option_map names.Builtin (builtin_base_of b)) (builtins_are_one t u h)
bases_agree bases (names.Named t) (names.Named u) h = declared_bases_agree bases (names.Named t) (names.Named u) h
bases_agree bases (names.Anonymous t) (names.Anonymous u) h = declared_bases_agree bases (names.Anonymous t) (names.Anonymous u) h
bases_agree bases _ _ h = absurd (cc)

-- a chain from a type is one from an equal type
leads_from_equal : (bases : Bases) (steps : ℕ) (t u v : TypeName) → same_type_name t u ≡ true → Leads bases steps u v → Leads bases steps t v
leads_from_equal bases zero t u v h k = type_name_trans t u v h k
leads_from_equal bases (suc n) t u v h (b, e, r) = (b, bases_agree bases t u h ∙ e, r)

chains_join : (bases : Bases) (steps : ℕ) (t u v : TypeName) → Leads bases steps t u → LeadsTo bases u v → LeadsTo bases t v
chains_join bases zero t u v h k = (k.0, leads_from_equal bases k.0 t u v h k.1)
chains_join bases (suc n) t u v (b, e, r) k = let q = chains_join bases n b u v r k in (suc q.0, (b, e, q.1))

pub derivation_is_a_preorder : DerivationIsAPreorder
derivation_is_a_preorder = record { reflexive = λ s t. (0, type_name_itself t); transitive = λ s t u v h k. chains_join (bases_of s) h.0 t u v h.1 k }

-- of two chains from a type the longer one goes on from the end of the shorter
chains_are_one : (bases : Bases) (m n : ℕ) (t u v : TypeName) → Leads bases m t u → Leads bases n t v → LeadsTo bases u v ⊎ LeadsTo bases v u
chains_are_one bases zero n t u v h k = inl (n, leads_from_equal bases n u t v (type_name_symm t u h) k)
chains_are_one bases (suc m) zero t u v h k = inr (suc m, leads_from_equal bases (suc m) v t u (type_name_symm t v k) h)
chains_are_one bases (suc m) (suc n) t u v (b, e, h) (c, f, k) =
    let same : c ≡ b = cc in chains_are_one bases m n b u v h (subst (λ (x : TypeName). Leads bases n x v) same k)

pub derivation_is_linear : DerivationIsLinear
derivation_is_linear s t u v h k = chains_are_one (bases_of s) h.0 k.0 t u v h.1 k.1

pub derivation_looks_at_no_prefix : DerivationLooksAtNoPrefix
derivation_looks_at_no_prefix s t u v w h k d =
    (d.0, leads_from_equal (bases_of s) d.0 u t w (type_name_symm t u h) (leads_to_equal (bases_of s) d.0 t w v (type_name_symm v w k) d.1))

-- built-in types lead to xs:anyType, and so do declared ones
leads_to_top : (bases : Bases) (n : ℕ) (b : Builtin) → builtin_number b < n → LeadsTo bases (names.Builtin b) (names.Builtin AnyType)
leads_to_top bases zero b h = absurd (omega arith)
leads_to_top bases (suc n) AnyType h = (0, refl)
leads_to_top bases (suc n) Untyped h = to_base bases (names.Builtin Untyped) (names.Builtin AnyType) (names.Builtin AnyType) refl (leads_to_top bases n AnyType (omega arith))
leads_to_top bases (suc n) AnySimple h = to_base bases (names.Builtin AnySimple) (names.Builtin AnyType) (names.Builtin AnyType) refl (leads_to_top bases n AnyType (omega arith))
leads_to_top bases (suc n) AnyAtomic h = to_base bases (names.Builtin AnyAtomic) (names.Builtin AnyType) (names.Builtin AnySimple) refl (leads_to_top bases n AnySimple (omega arith))
leads_to_top bases (suc n) UntypedAtomic h = to_base bases (names.Builtin UntypedAtomic) (names.Builtin AnyType) (names.Builtin AnyAtomic) refl (leads_to_top bases n AnyAtomic (omega arith))
leads_to_top bases (suc n) Str h = to_base bases (names.Builtin Str) (names.Builtin AnyType) (names.Builtin AnyAtomic) refl (leads_to_top bases n AnyAtomic (omega arith))
leads_to_top bases (suc n) NormalizedStr h = to_base bases (names.Builtin NormalizedStr) (names.Builtin AnyType) (names.Builtin Str) refl (leads_to_top bases n Str (omega arith))
leads_to_top bases (suc n) Token h = to_base bases (names.Builtin Token) (names.Builtin AnyType) (names.Builtin NormalizedStr) refl (leads_to_top bases n NormalizedStr (omega arith))
leads_to_top bases (suc n) Boolean h = to_base bases (names.Builtin Boolean) (names.Builtin AnyType) (names.Builtin AnyAtomic) refl (leads_to_top bases n AnyAtomic (omega arith))
leads_to_top bases (suc n) Decimal h = to_base bases (names.Builtin Decimal) (names.Builtin AnyType) (names.Builtin AnyAtomic) refl (leads_to_top bases n AnyAtomic (omega arith))
leads_to_top bases (suc n) Integer h = to_base bases (names.Builtin Integer) (names.Builtin AnyType) (names.Builtin Decimal) refl (leads_to_top bases n Decimal (omega arith))
leads_to_top bases (suc n) NonPositive h = to_base bases (names.Builtin NonPositive) (names.Builtin AnyType) (names.Builtin Integer) refl (leads_to_top bases n Integer (omega arith))
leads_to_top bases (suc n) Negative h = to_base bases (names.Builtin Negative) (names.Builtin AnyType) (names.Builtin NonPositive) refl (leads_to_top bases n NonPositive (omega arith))
leads_to_top bases (suc n) Long h = to_base bases (names.Builtin Long) (names.Builtin AnyType) (names.Builtin Integer) refl (leads_to_top bases n Integer (omega arith))
leads_to_top bases (suc n) Int h = to_base bases (names.Builtin Int) (names.Builtin AnyType) (names.Builtin Long) refl (leads_to_top bases n Long (omega arith))
leads_to_top bases (suc n) Short h = to_base bases (names.Builtin Short) (names.Builtin AnyType) (names.Builtin Int) refl (leads_to_top bases n Int (omega arith))
leads_to_top bases (suc n) Byte h = to_base bases (names.Builtin Byte) (names.Builtin AnyType) (names.Builtin Short) refl (leads_to_top bases n Short (omega arith))
leads_to_top bases (suc n) NonNegative h = to_base bases (names.Builtin NonNegative) (names.Builtin AnyType) (names.Builtin Integer) refl (leads_to_top bases n Integer (omega arith))
leads_to_top bases (suc n) UnsignedLong h = to_base bases (names.Builtin UnsignedLong) (names.Builtin AnyType) (names.Builtin NonNegative) refl (leads_to_top bases n NonNegative (omega arith))
leads_to_top bases (suc n) UnsignedInt h = to_base bases (names.Builtin UnsignedInt) (names.Builtin AnyType) (names.Builtin UnsignedLong) refl (leads_to_top bases n UnsignedLong (omega arith))
leads_to_top bases (suc n) UnsignedShort h = to_base bases (names.Builtin UnsignedShort) (names.Builtin AnyType) (names.Builtin UnsignedInt) refl (leads_to_top bases n UnsignedInt (omega arith))
leads_to_top bases (suc n) UnsignedByte h = to_base bases (names.Builtin UnsignedByte) (names.Builtin AnyType) (names.Builtin UnsignedShort) refl (leads_to_top bases n UnsignedShort (omega arith))
leads_to_top bases (suc n) Positive h = to_base bases (names.Builtin Positive) (names.Builtin AnyType) (names.Builtin NonNegative) refl (leads_to_top bases n NonNegative (omega arith))

declared_to_top : (bases : Bases) (n : ℕ) (t : TypeName) → ((u base : TypeName) → declared_base_of bases u ≡ Some base → is_known bases base ≡ true)
    → EndsWithin bases n t → is_known bases t ≡ true → LeadsTo bases t (names.Builtin AnyType)
declared_to_top bases n (names.Builtin b) based ends known = leads_to_top bases (suc (builtin_number b)) b (omega arith)
declared_to_top bases zero (names.Named m) based ends known = absurd (cc (ap (λ (o : Option TypeName). is_some o) ends))
declared_to_top bases zero (names.Anonymous m) based ends known = absurd (cc (ap (λ (o : Option TypeName). is_some o) ends))
declared_to_top bases (suc n) (names.Named m) based ends known =
    elim (declared_base_of bases (names.Named m)) as (λ (o : Option TypeName). declared_base_of bases (names.Named m) ≡ o → LeadsTo bases (names.Named m) (names.Builtin AnyType)) [
      | None ↦ λ e. absurd (cc (ap (λ (o : Option TypeName). is_some o) e))
      | Some base ↦ λ e. to_base bases (names.Named m) (names.Builtin AnyType) base e (declared_to_top bases n base based (ends base e) (based (names.Named m) base e))
    ] refl
declared_to_top bases (suc n) (names.Anonymous m) based ends known =
    elim (declared_base_of bases (names.Anonymous m)) as (λ (o : Option TypeName). declared_base_of bases (names.Anonymous m) ≡ o → LeadsTo bases (names.Anonymous m) (names.Builtin AnyType)) [
      | None ↦ λ e. absurd (cc (ap (λ (o : Option TypeName). is_some o) e))
      | Some base ↦ λ e. to_base bases (names.Anonymous m) (names.Builtin AnyType) base e (declared_to_top bases n base based (ends base e) (based (names.Anonymous m) base e))
    ] refl

-- a declared type is known: no built-in type is declared in its place
known_if_declared : (bases : Bases) (t : TypeName) → is_declared bases t ≡ true → is_known bases t ≡ true
known_if_declared bases (names.Builtin b) h = refl
known_if_declared bases (names.Named n) h = h
known_if_declared bases (names.Anonymous n) h = h

pub all_types_are_derived_from_any_type : AllTypesAreDerivedFromAnyType
all_types_are_derived_from_any_type = record {
  builtin = λ s b. leads_to_top (bases_of s) (suc (builtin_number b)) b (omega arith);
  declared = λ s t g h. declared_to_top (bases_of s) (length (bases_of s)) t g.based (g.ends t) (known_if_declared (bases_of s) t h);
}
