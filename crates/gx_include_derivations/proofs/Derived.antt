-- A declared type is derived from a type where it is that type or its base is derived from it.
use Rattle.std.proofs.Common.{◌≡◌, ℕ, zero, suc, ◌<◌, ◌≤◌, Bool, true, false, ◌||◌, List, [], ◌∷◌, ◌++◌, ◌+◌, ◌⊎◌, inl, inr, Option, None, Some, refl, sym, ◌∙◌, ap, subst, get_or, length, slice_get, cond, arith, if◌then◌else◌}
use Rattle.std.specs.Prelude.{IfSome, IsSome, Vec, slice_set}
use Rattle.std.specs.List.{list_any}
use Rattle.std.proofs.Math.ListN.{replicate}
use Rattle.std.proofs.lemmas.Bool.{cases_lt}
use Rattle.std.proofs.lemmas.Option.{slice_get_within}
use Rattle.indexmap.specs.IndexMap.{IndexMap, get}
use Rattle.gx_base.specs.declared.type_name.TypeName.{TypeName}
use Rattle.gx_base.specs.declared.type_name.TypeName.TheVariants as names
use Rattle.gx_types.specs.declared.declaration.Declared.{Declared}
use Rattle.gx_types.specs.SameItemType.{same_type_name}
use Rattle.gx_types.specs.SchemaInvariant.{IsSchemaSet, IsDeclarationOf, HoldsOfEach, AreDistinctBy, is_built_in}
use Rattle.gx_types.specs.SchemaSet.{SchemaSet, names_declared}
use Rattle.gx_types.specs.Derivation.{Bases, bases_among, bases_of, declared_base_of, base_of, of_base, leads_within, is_derived}
use Rattle.gx_types.proofs.EqualNames.{same_tests, type_names_are_equivalent}
use Rattle.gx_types.proofs.DerivationLemmas.{from_base, to_base}
use Rattle.gx_types.proofs.DerivationTest.{derives_when_tested, tested_when_derives}
use Rattle.gx_types.specs.TypeIndex.{equal_kinds}
use Rattle.gx_include_derivations.specs.Derivations.{is_derived_at, is_derived_declared, IsColumn, IsNumberOf, AreNumbers, AllAreNumbered, AreKnown, AreColumnsByKind, AreDerivations}
use Rattle.gx_include_positions.proofs.EqualTypes.{equal_kinds_are, derived_equally}

-- each declared type is found by its name

holds_of : {A : Type 0} (Fact : A → Type 0) (xs : List A) → HoldsOfEach Fact xs → (i : ℕ) (x : A) → slice_get xs i ≡ Some x → Fact x
holds_of Fact [] h i x e = absurd (cc)
holds_of Fact (y ∷ xs) h zero x e = let same : y ≡ x = cc in subst Fact same h.0
holds_of Fact (y ∷ xs) h (suc i) x e = holds_of Fact xs h.1 i x e

or_none : (x y : Bool) → x || y ≡ false → (x ≡ false) × (y ≡ false)
or_none true y h = absurd (cc)
or_none false y h = (refl, h)

unlike_others : (t : TypeName) (types : List Declared) → list_any (same_type_name t) (names_declared types) ≡ false → (i : ℕ) (d : Declared) → slice_get types i ≡ Some d → same_type_name t d.name ≡ false
unlike_others t [] h i d e = absurd (cc)
unlike_others t (x ∷ types) h zero d e =
    let same : x ≡ d = cc in
    subst (λ (y : Declared). same_type_name t y.name ≡ false) same (or_none (same_type_name t x.name) (list_any (same_type_name t) (names_declared types)) h).0
unlike_others t (x ∷ types) h (suc i) d e = unlike_others t types (or_none (same_type_name t x.name) (list_any (same_type_name t) (names_declared types)) h).1 i d e

found_base : (types : List Declared) → AreDistinctBy same_type_name (names_declared types) → (i : ℕ) (d : Declared) → slice_get types i ≡ Some d → declared_base_of (bases_among types) d.name ≡ Some d.base
found_base [] distinct i d e = absurd (cc)
found_base (x ∷ types) distinct zero d e =
    let same : x ≡ d = cc in
    ap (λ (y : Declared). if same_type_name x.name y.name then Some x.base else declared_base_of (bases_among types) y.name) (sym same)
    ∙ ap (λ (b : Bool). if b then Some x.base else declared_base_of (bases_among types) x.name) (type_names_are_equivalent.refl x.name)
    ∙ ap (λ (y : Declared). Some y.base) same
found_base (x ∷ types) distinct (suc i) d e =
    ap (λ (b : Bool). if b then Some x.base else declared_base_of (bases_among types) d.name) (unlike_others x.name types distinct.0 i d e) ∙ found_base types distinct.1 i d e

base_is : (s : SchemaSet) → IsSchemaSet s → (t base : TypeName) → is_built_in t ≡ false → declared_base_of (bases_of s) t ≡ Some base → base_of (bases_of s) t ≡ Some base
base_is s is (names.Builtin b) base h e = absurd (cc)
base_is s is (names.Named n) base h e = e
base_is s is (names.Anonymous n) base h e = e

module _ (s : SchemaSet) (is : IsSchemaSet s) where
  own_base : (i : ℕ) (d : Declared) → slice_get s.types i ≡ Some d → base_of (bases_of s) d.name ≡ Some d.base
  own_base i d e = base_is s is d.name d.base (holds_of (IsDeclarationOf s) s.types is.types i d e).named (found_base s.types is.distinct i d e)

  pub derived_as_base : (i : ℕ) (d : Declared) (kind : TypeName) → slice_get s.types i ≡ Some d → equal_kinds d.name kind ≡ false → is_derived s d.name kind ≡ is_derived s d.base kind
  derived_as_base i d kind e differ =
      let b = own_base i d e in
      same_tests (is_derived s d.name kind) (is_derived s d.base kind)
      (λ h. tested_when_derives s d.base kind is.grounded (from_base (bases_of s) d.name kind d.base (sym (equal_kinds_are d.name kind) ∙ differ) b (derives_when_tested s d.name kind h)))
      (λ h. tested_when_derives s d.name kind is.grounded (to_base (bases_of s) d.name kind d.base b (derives_when_tested s d.base kind h)))

module _ (s : SchemaSet) (kind : TypeName) where
  pub derived_by_number : (t : TypeName) (number : ℕ) → IsNumberOf s t number → is_derived s t kind ≡ is_derived_at s kind number
  derived_by_number t number is = sym (ap (is_derived_declared s kind) is.here ∙ derived_equally s is.declared.name t kind is.same)

  -- an answer that is put down
  pub known_more : (known more : List (Option Bool)) (number : ℕ) (answer : Bool) → more ≡ slice_set known number (Some answer) → answer ≡ is_derived_at s kind number → AreKnown s kind known → AreKnown s kind more
  known_more known more number answer e right all = subst (AreKnown s kind) (sym e) (by known number answer (λ i. is_derived_at s kind i) right all)
    where
      by : (known : List (Option Bool)) (number : ℕ) (answer : Bool) (derived : ℕ → Bool) → answer ≡ derived number
          → ((i : ℕ) (a : Bool) → slice_get known i ≡ Some (Some a) → a ≡ derived i) → (i : ℕ) (a : Bool) → slice_get (slice_set known number (Some answer)) i ≡ Some (Some a) → a ≡ derived i
      by [] number answer derived right all i a h = all i a h
      by (k ∷ known) zero answer derived right all zero a h = let same : answer ≡ a = cc in sym same ∙ right
      by (k ∷ known) zero answer derived right all (suc i) a h = all (suc i) a h
      by (k ∷ known) (suc number) answer derived right all zero a h = all zero a h
      by (k ∷ known) (suc number) answer derived right all (suc i) a h = by known number answer (λ j. derived (suc j)) right (λ j b g. all (suc j) b g) i a h

-- numbers

at_push : {X : Type 0} (xs : List X) (y : X) (i : ℕ) (x : X) → slice_get (xs ++ y ∷ []) i ≡ Some x → (slice_get xs i ≡ Some x) ⊎ ((i ≡ length xs) × (y ≡ x))
at_push [] y zero x h = inr (refl, cc)
at_push [] y (suc i) x h = absurd (cc)
at_push (z ∷ xs) y zero x h = inl h
at_push (z ∷ xs) y (suc i) x h = elim (at_push xs y i x h) [ inl k ↦ inl k | inr k ↦ inr (ap (λ n. suc n) k.0, k.1) ]

module _ {S : Type 0} (s : SchemaSet) where
  pub numbers_more : (old new : IndexMap TypeName ℕ S) (d : Declared) (number : ℕ) → slice_get s.types number ≡ Some d → AreNumbers s old
      → ((other : TypeName) → get equal_kinds new other ≡ cond (equal_kinds d.name other) (Some number) (get equal_kinds old other)) → AreNumbers s new
  numbers_more old new d number here all updates other = subst (λ o. IfSome o (IsNumberOf s other)) (sym (updates other)) (by (equal_kinds d.name other) refl)
    where
      by : (b : Bool) → equal_kinds d.name other ≡ b → IfSome (cond b (Some number) (get equal_kinds old other)) (IsNumberOf s other)
      by true e = record { declared = d; here = here; same = e }
      by false e = all other

  -- the declared types below a bound have numbers
  abbrev pub AreNumberedBelow : IndexMap TypeName ℕ S → ℕ → Type 0
  AreNumberedBelow numbers bound = (n : ℕ) (d : Declared) → n < bound → slice_get s.types n ≡ Some d → IsSome (get equal_kinds numbers d.name)

  pub numbered_more : (old new : IndexMap TypeName ℕ S) (d : Declared) (number : ℕ) → slice_get s.types number ≡ Some d → AreNumberedBelow old number
      → ((other : TypeName) → get equal_kinds new other ≡ cond (equal_kinds d.name other) (Some number) (get equal_kinds old other)) → AreNumberedBelow new (number + 1)
  numbered_more old new d number here all updates n e below at =
      elim (cases_lt n number) [
        | inl l ↦ subst (λ o. IsSome o) (sym (updates e.name)) (by (equal_kinds d.name e.name) (get equal_kinds old e.name) (all n e l at))
        | inr l ↦
            let last : n ≡ number = omega arith in
            let same : d ≡ e = some_is d e (sym here ∙ ap (λ i. slice_get s.types i) (sym last) ∙ at) in
            let itself : equal_kinds d.name e.name ≡ true =
            ap (λ (x : Declared). equal_kinds d.name x.name) (sym same) ∙ equal_kinds_are d.name d.name ∙ type_names_are_equivalent.refl d.name in
            subst (λ o. IsSome o) (sym (updates e.name ∙ ap (λ b. cond b (Some number) (get equal_kinds old e.name)) itself)) refl
      ]
    where
      by : (b : Bool) (found : Option ℕ) → IsSome found → IsSome (cond b (Some number) found)
      by true found h = refl
      by false found h = h

      some_is : (x y : Declared) → Some x ≡ Some y → x ≡ y
      some_is x y h = cc

  pub all_numbered : (numbers : IndexMap TypeName ℕ S) (bound : ℕ) → length s.types ≤ bound → AreNumberedBelow numbers bound → AllAreNumbered s numbers
  all_numbered numbers bound past all n d at = all n d (let k = slice_get_within s.types n d at in omega arith) at

-- the bases of the first declared types
abbrev pub AreBasesSoFar : SchemaSet → List (Option ℕ) → Type 0
AreBasesSoFar s bases = (number base : ℕ) (declared : Declared) → slice_get s.types number ≡ Some declared → slice_get bases number ≡ Some (Some base) → IsNumberOf s declared.base base

module _ {S : Type 0} (s : SchemaSet) where
  pub bases_more : (numbers : IndexMap TypeName ℕ S) (bases more : List (Option ℕ)) (found : Option ℕ) (here : Declared) (index : ℕ) → AreNumbers s numbers → found ≡ get equal_kinds numbers here.base
      → more ≡ bases ++ found ∷ [] → length bases ≡ index → slice_get s.types index ≡ Some here → AreBasesSoFar s bases → AreBasesSoFar s more
  bases_more numbers bases more found here index all f e count at are number base d got h =
      elim (at_push bases found number (Some base) (ap (λ bs. slice_get bs number) (sym e) ∙ h)) [
        | inl k ↦ are number base d got k
        | inr k ↦
            let same : here ≡ d = some_is here d (sym at ∙ ap (λ i. slice_get s.types i) (sym count ∙ sym k.0) ∙ got) in
            let is : IsNumberOf s here.base base = subst (λ o. IfSome o (IsNumberOf s here.base)) (sym f ∙ k.1) (all here.base) in
            subst (λ (x : Declared). IsNumberOf s x.base base) same is
      ]
    where
      some_is : (x y : Declared) → Some x ≡ Some y → x ≡ y
      some_is x y h = cc

-- columns

get_past : (xs : List Bool) (i : ℕ) → length xs ≤ i → get_or xs i false ≡ false
get_past [] i h = refl
get_past (x ∷ xs) zero h = absurd (omega arith)
get_past (x ∷ xs) (suc i) h = get_past xs i (omega arith)

none_past : {X : Type 0} (xs : List X) (i : ℕ) → length xs ≤ i → slice_get xs i ≡ None
none_past [] i h = refl
none_past (x ∷ xs) zero h = absurd (omega arith)
none_past (x ∷ xs) (suc i) h = none_past xs i (omega arith)

get_before : (xs : List Bool) (y : Bool) (i : ℕ) → i < length xs → get_or (xs ++ y ∷ []) i false ≡ get_or xs i false
get_before [] y i h = absurd (omega arith)
get_before (x ∷ xs) y zero h = refl
get_before (x ∷ xs) y (suc i) h = get_before xs y i (omega arith)

get_last : (xs : List Bool) (y : Bool) → get_or (xs ++ y ∷ []) (length xs) false ≡ y
get_last [] y = refl
get_last (x ∷ xs) y = get_last xs y

module _ (s : SchemaSet) (kind : TypeName) where
  -- the flags of the declared types below a bound
  abbrev pub AreFlagsBelow : List Bool → ℕ → Type 0
  AreFlagsBelow flags bound = (n : ℕ) → n < bound → get_or flags n false ≡ is_derived_at s kind n

  pub column_is : (flags : List Bool) (bound : ℕ) → length flags ≡ bound → bound ≡ length s.types → AreFlagsBelow flags bound → IsColumn s kind flags
  column_is flags bound count all are = record {
    count_is = count ∙ all;
    are = λ n. elim (cases_lt n bound) [
      | inl l ↦ are n l
      | inr l ↦ get_past flags n (omega (arith, count)) ∙ sym (ap (is_derived_declared s kind) (none_past s.types n (omega (arith, all))))
    ];
  }

nothing_there : (count : ℕ) (i : ℕ) (a : Bool) → slice_get (replicate count None) i ≡ Some (Some a) → ⊥
nothing_there zero i a h = cc
nothing_there (suc count) zero a h = cc
nothing_there (suc count) (suc i) a h = nothing_there count i a h

pub nothing_known : (s : SchemaSet) (kind : TypeName) (count : ℕ) (known : List (Option Bool)) → known ≡ replicate count None → AreKnown s kind known
nothing_known s kind count known e i a h = absurd (nothing_there count i a (ap (λ ks. slice_get ks i) (sym e) ∙ h))

-- equal types have one column

same_right : (t u v : TypeName) → same_type_name u v ≡ true → same_type_name t u ≡ same_type_name t v
same_right t u v e = type_names_are_equivalent.symm t u ∙ type_names_are_equivalent.congr u v t e ∙ type_names_are_equivalent.symm v t

base_alike : (o : Option TypeName) (one other : TypeName → Bool) → ((base : TypeName) → one base ≡ other base) → of_base o one ≡ of_base o other
base_alike None one other f = refl
base_alike (Some base) one other f = f base

right_alike : (bases : Bases) (steps : ℕ) (t u v : TypeName) → same_type_name u v ≡ true → leads_within bases steps t u ≡ leads_within bases steps t v
right_alike bases zero t u v e = same_right t u v e
right_alike bases (suc n) t u v e =
    ap (λ b. b || of_base (base_of bases t) (λ base. leads_within bases n base u)) (same_right t u v e)
    ∙ ap (λ b. same_type_name t v || b) (base_alike (base_of bases t) (λ base. leads_within bases n base u) (λ base. leads_within bases n base v) (λ base. right_alike bases n base u v e))

derived_at_alike : (s : SchemaSet) (u v : TypeName) → equal_kinds u v ≡ true → (o : Option Declared) → is_derived_declared s u o ≡ is_derived_declared s v o
derived_at_alike s u v e None = refl
derived_at_alike s u v e (Some d) = right_alike (bases_of s) (length (bases_of s) + 23) d.name u v (sym (equal_kinds_are u v) ∙ e)

module _ {A S : Type 0} (s : SchemaSet) where
  pub columns_more : (old new : IndexMap TypeName (Vec Bool A) S) (kind : TypeName) (column : Vec Bool A) → IsColumn s kind column.items → AreColumnsByKind s old
      → ((other : TypeName) → get equal_kinds new other ≡ cond (equal_kinds kind other) (Some column) (get equal_kinds old other)) → AreColumnsByKind s new
  columns_more old new kind column is all updates other =
      subst (λ o. IfSome o (λ (c : Vec Bool A). IsColumn s other c.items)) (sym (updates other)) (by (equal_kinds kind other) refl)
    where
      by : (b : Bool) → equal_kinds kind other ≡ b → IfSome (cond b (Some column) (get equal_kinds old other)) (λ (c : Vec Bool A). IsColumn s other c.items)
      by true e = record { count_is = is.count_is; are = λ n. is.are n ∙ derived_at_alike s kind other e (slice_get s.types n) }
      by false e = all other

module _ {A S Z : Type 0} (s : SchemaSet) where
  pub looked_up : (numbers : IndexMap TypeName ℕ S) (bases : List (Option ℕ)) (columns : IndexMap TypeName (Vec Bool A) Z) → AreDerivations s numbers bases columns → (t kind : TypeName) (number : ℕ) (column : Vec Bool A)
      → get equal_kinds numbers t ≡ Some number → get equal_kinds columns kind ≡ Some column → get_or column.items number false ≡ is_derived s t kind
  looked_up numbers bases columns are t kind number column e f =
      let is = subst (λ o. IfSome o (IsNumberOf s t)) e (are.numbered t) in
      let flags = subst (λ o. IfSome o (λ (c : Vec Bool A). IsColumn s kind c.items)) f (are.by_kind kind) in
      flags.are number ∙ sym (derived_by_number s kind t number is)
