-- The test for derivation tells exactly whether a chain of bases leads from one type to another.
use Rattle.std.proofs.Common.{◌≡◌, ℕ, zero, suc, ◌+◌, ◌<◌, ◌≤◌, Bool, true, false, ◌||◌, length, Option, Some, None, refl, sym, ◌∙◌, ap, subst, arith, ◌↔◌}
use Rattle.std.specs.Bool.{IsTrue}
use Rattle.std.specs.Option.{option_map}
use Rattle.gx_base.specs.declared.type_name.Builtin.{Builtin}
use Rattle.gx_base.specs.declared.type_name.Builtin.TheVariants.{AnyType, Untyped, AnySimple, AnyAtomic, UntypedAtomic, Str, NormalizedStr, Token, Boolean, Decimal, Integer, NonPositive, Negative, Long, Int, Short, Byte, NonNegative, UnsignedLong, UnsignedInt, UnsignedShort, UnsignedByte, Positive}
use Rattle.gx_base.specs.declared.type_name.TypeName.{TypeName}
use Rattle.gx_base.specs.declared.type_name.TypeName.TheVariants as names
use Rattle.gx_types.specs.BuiltinBase.{builtin_base_of}
use Rattle.gx_types.specs.BuiltinOrder.{builtin_number}
use Rattle.gx_types.specs.SameItemType.{same_type_name}
use Rattle.gx_types.specs.SchemaSet.{SchemaSet}
use Rattle.gx_types.specs.Derivation.{bases_of, Bases, base_of, Leads, LeadsTo, of_base, leads_within, is_derived, DerivesFrom}
use Rattle.gx_types.specs.Grounded.{EndsWithin, Grounded}
use Rattle.gx_types.proofs.DerivationLemmas.{rank_of, rank_at_most}

or_true : (a b : Bool) → b ≡ true → (a || b) ≡ true
or_true true b h = refl
or_true false b h = h

-- a chain is found within at least as many steps as it has
chain_is_found : (bases : Bases) (m n : ℕ) (t u : TypeName) → n ≤ m → Leads bases n t u → leads_within bases m t u ≡ true
chain_is_found bases zero zero t u h same = same
chain_is_found bases zero (suc n) t u h r = absurd (omega arith)
chain_is_found bases (suc m) zero t u h same = ap (λ (s : Bool). s || of_base (base_of bases t) (λ base. leads_within bases m base u)) same
chain_is_found bases (suc m) (suc n) t u h (base, e, r) =
    or_true (same_type_name t u) (of_base (base_of bases t) (λ b. leads_within bases m b u))
    (ap (λ (b : Option TypeName). of_base b (λ x. leads_within bases m x u)) e ∙ chain_is_found bases m n base u (omega arith) r)

-- what is found is a chain
found_is_chain : (bases : Bases) (m : ℕ) (t u : TypeName) → leads_within bases m t u ≡ true → LeadsTo bases t u
found_is_chain bases zero t u h = (zero, h)
found_is_chain bases (suc m) t u h =
    elim (same_type_name t u) as (λ (s : Bool). same_type_name t u ≡ s → (s || of_base (base_of bases t) (λ b. leads_within bases m b u)) ≡ true → LeadsTo bases t u) [
      | true ↦ λ e _. (zero, e)
      | false ↦ λ _ k. elim (base_of bases t) as (λ (b : Option TypeName). base_of bases t ≡ b → of_base b (λ x. leads_within bases m x u) ≡ true → LeadsTo bases t u) [
        | None ↦ λ _ f. absurd (cc)
        | Some base ↦ λ e f. let r = found_is_chain bases m base u f in (suc r.0, (base, e, r.1))
      ] refl k
    ] refl h

base_comes_before : (a b : Builtin) → builtin_base_of a ≡ Some b → builtin_number b < builtin_number a
base_comes_before AnyType b e = absurd (cc)
base_comes_before Untyped b e = let same : AnyType ≡ b = cc in subst (λ (x : Builtin). builtin_number x < 1) same (omega arith)
base_comes_before AnySimple b e = let same : AnyType ≡ b = cc in subst (λ (x : Builtin). builtin_number x < 2) same (omega arith)
base_comes_before AnyAtomic b e = let same : AnySimple ≡ b = cc in subst (λ (x : Builtin). builtin_number x < 3) same (omega arith)
base_comes_before UntypedAtomic b e = let same : AnyAtomic ≡ b = cc in subst (λ (x : Builtin). builtin_number x < 4) same (omega arith)
base_comes_before Str b e = let same : AnyAtomic ≡ b = cc in subst (λ (x : Builtin). builtin_number x < 5) same (omega arith)
base_comes_before NormalizedStr b e = let same : Str ≡ b = cc in subst (λ (x : Builtin). builtin_number x < 6) same (omega arith)
base_comes_before Token b e = let same : NormalizedStr ≡ b = cc in subst (λ (x : Builtin). builtin_number x < 7) same (omega arith)
base_comes_before Boolean b e = let same : AnyAtomic ≡ b = cc in subst (λ (x : Builtin). builtin_number x < 8) same (omega arith)
base_comes_before Decimal b e = let same : AnyAtomic ≡ b = cc in subst (λ (x : Builtin). builtin_number x < 9) same (omega arith)
base_comes_before Integer b e = let same : Decimal ≡ b = cc in subst (λ (x : Builtin). builtin_number x < 10) same (omega arith)
base_comes_before NonPositive b e = let same : Integer ≡ b = cc in subst (λ (x : Builtin). builtin_number x < 11) same (omega arith)
base_comes_before Negative b e = let same : NonPositive ≡ b = cc in subst (λ (x : Builtin). builtin_number x < 12) same (omega arith)
base_comes_before Long b e = let same : Integer ≡ b = cc in subst (λ (x : Builtin). builtin_number x < 13) same (omega arith)
base_comes_before Int b e = let same : Long ≡ b = cc in subst (λ (x : Builtin). builtin_number x < 14) same (omega arith)
base_comes_before Short b e = let same : Int ≡ b = cc in subst (λ (x : Builtin). builtin_number x < 15) same (omega arith)
base_comes_before Byte b e = let same : Short ≡ b = cc in subst (λ (x : Builtin). builtin_number x < 16) same (omega arith)
base_comes_before NonNegative b e = let same : Integer ≡ b = cc in subst (λ (x : Builtin). builtin_number x < 17) same (omega arith)
base_comes_before UnsignedLong b e = let same : NonNegative ≡ b = cc in subst (λ (x : Builtin). builtin_number x < 18) same (omega arith)
base_comes_before UnsignedInt b e = let same : UnsignedLong ≡ b = cc in subst (λ (x : Builtin). builtin_number x < 19) same (omega arith)
base_comes_before UnsignedShort b e = let same : UnsignedInt ≡ b = cc in subst (λ (x : Builtin). builtin_number x < 20) same (omega arith)
base_comes_before UnsignedByte b e = let same : UnsignedShort ≡ b = cc in subst (λ (x : Builtin). builtin_number x < 21) same (omega arith)
base_comes_before Positive b e = let same : NonNegative ≡ b = cc in subst (λ (x : Builtin). builtin_number x < 22) same (omega arith)

builtin_base_is : (b : Builtin) (found : Option Builtin) (base : TypeName) → builtin_base_of b ≡ found → option_map names.Builtin found ≡ Some base → (c : Builtin) × (builtin_base_of b ≡ Some c) × (base ≡ names.Builtin c)
builtin_base_is b None base f e = absurd (cc)
builtin_base_is b (Some c) base f e = (c, f, cc)

-- a chain has no more bases than there are types
chain_is_short : (bases : Bases) (steps n : ℕ) (t u : TypeName) → EndsWithin bases steps t → Leads bases n t u → n ≤ steps + rank_of t
chain_is_short bases steps zero t u h r = omega arith
chain_is_short bases steps (suc n) (names.Builtin b) u h (base, e, r) =
    let q = builtin_base_is b (builtin_base_of b) base refl e in
    let i = chain_is_short bases steps n (names.Builtin q.0) u tt (subst (λ (x : TypeName). Leads bases n x u) q.2 r) in
    omega (arith, i, base_comes_before b q.0 q.1)
chain_is_short bases zero (suc n) (names.Named m) u h (base, e, r) = absurd (cc)
chain_is_short bases zero (suc n) (names.Anonymous m) u h (base, e, r) = absurd (cc)
chain_is_short bases (suc k) (suc n) (names.Named m) u h (base, e, r) = omega (arith, chain_is_short bases k n base u (h base e) r, rank_at_most base)
chain_is_short bases (suc k) (suc n) (names.Anonymous m) u h (base, e, r) = omega (arith, chain_is_short bases k n base u (h base e) r, rank_at_most base)

-- where the bases of declared types end, the test is exact
pub derives_when_tested : (schemas : SchemaSet) (t u : TypeName) → is_derived schemas t u ≡ true → DerivesFrom schemas t u
derives_when_tested schemas t u h = found_is_chain (bases_of schemas) (length (bases_of schemas) + 23) t u h

pub tested_when_derives : (schemas : SchemaSet) (t u : TypeName) → Grounded (bases_of schemas) → DerivesFrom schemas t u → is_derived schemas t u ≡ true
tested_when_derives schemas t u g d =
    chain_is_found (bases_of schemas) (length (bases_of schemas) + 23) d.0 t u (omega (arith, chain_is_short (bases_of schemas) (length (bases_of schemas)) d.0 t u (g.ends t) d.1, rank_at_most t)) d.1

pub test_is_exact : (schemas : SchemaSet) (t u : TypeName) (answer : Bool) → Grounded (bases_of schemas) → (IsTrue answer ↔ DerivesFrom schemas t u) → answer ≡ is_derived schemas t u
test_is_exact schemas t u true g a = sym (tested_when_derives schemas t u g (a.0 refl))
test_is_exact schemas t u false g a =
    elim (is_derived schemas t u) as (λ (b : Bool). is_derived schemas t u ≡ b → false ≡ b) [
      | true ↦ λ e. a.1 (derives_when_tested schemas t u e)
      | false ↦ λ _. refl
    ] refl
