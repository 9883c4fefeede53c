-- The declarations of types whose names are distinct.
use Rattle.std.proofs.Common.{◌≡◌, ℕ, zero, suc, ◌<◌, ◌⊎◌, inl, inr, Bool, true, false, List, [], ◌∷◌, length, Option, None, Some, is_some, slice_get, refl, sym, ◌∙◌, ap, arith, if◌then◌else◌}
use Rattle.std.specs.List.{list_any}
use Rattle.std.proofs.lemmas.Bool.{true≢false, cases_Bool, or_parts}
use Rattle.gx_base.specs.declared.type_name.TypeName.{TypeName}
use Rattle.gx_types.specs.SameItemType.{same_type_name}
use Rattle.gx_types.specs.SchemaInvariant.{AreDistinctBy, HoldsOfEach}
use Rattle.gx_types.specs.SchemaSet.{declaration_among, names_declared}
use Rattle.gx_types.specs.declared.declaration.Declared.{Declared}
use Rattle.gx_types.proofs.EqualNames.{type_name_symm, type_name_trans}
use Rattle.gx_schema.specs.TypeNumbers.{type_number_from}

pub element_at : {A : Type 0} (xs : List A) (number : ℕ) → number < length xs → (x : A) × (slice_get xs number ≡ Some x)
element_at [] number within = absurd (omega arith)
element_at (x ∷ xs) zero within = (x, refl)
element_at (x ∷ xs) (suc number) within = element_at xs number (omega arith)

pub holds_of_each : {A : Type 0} (Fact : A → Type 0) (xs : List A) → ((number : ℕ) (x : A) → slice_get xs number ≡ Some x → Fact x) → HoldsOfEach Fact xs
holds_of_each Fact [] each = tt
holds_of_each Fact (x ∷ xs) each = (each zero x refl, holds_of_each Fact xs (λ number y here. each (suc number) y here))

-- a name that is none of these differs from that of each declaration
differs : (types : List Declared) (number : ℕ) (declared : Declared) (name : TypeName) → list_any (same_type_name name) (names_declared types) ≡ false → slice_get types number ≡ Some declared →
    same_type_name name declared.name ≡ false
differs [] number declared name fails here = absurd (cc)
differs (other ∷ types) zero declared name fails here =
    let it : other ≡ declared = cc in
    let (first, rest) = or_parts (same_type_name name other.name) (list_any (same_type_name name) (names_declared types)) fails in
    sym (ap (λ (d : Declared). same_type_name name d.name) it) ∙ first
differs (other ∷ types) (suc number) declared name fails here =
    let (first, rest) = or_parts (same_type_name name other.name) (list_any (same_type_name name) (names_declared types)) fails in
    differs types number declared name rest here

-- what differs from one of two equal names differs from the other
differs_from_both : (a b t : TypeName) → same_type_name a b ≡ false → same_type_name b t ≡ true → same_type_name a t ≡ false
differs_from_both a b t differ same = elim (cases_Bool (same_type_name a t)) [
  | inl is_so ↦ absurd (true≢false (sym (type_name_trans a t b is_so (type_name_symm b t same)) ∙ differ))
  | inr is_not ↦ is_not
]

-- a type is declared where its name stands
pub declared_there : (types : List Declared) (number : ℕ) (declared : Declared) (t : TypeName) → AreDistinctBy same_type_name (names_declared types) → slice_get types number ≡ Some declared → same_type_name declared.name t ≡ true →
    declaration_among types t ≡ Some declared
declared_there [] number declared t distinct here same = absurd (cc)
declared_there (other ∷ types) zero declared t distinct here same =
    let it : other ≡ declared = cc in
    let is_so : same_type_name other.name t ≡ true = ap (λ (d : Declared). same_type_name d.name t) it ∙ same in
    ap (λ (b : Bool). if b then Some other else declaration_among types t) is_so ∙ ap Some it
declared_there (other ∷ types) (suc number) declared t distinct here same =
    let differ = differs_from_both other.name declared.name t (differs types number declared other.name distinct.0 here) same in
    ap (λ (b : Bool). if b then Some other else declaration_among types t) differ ∙ declared_there types number declared t distinct.1 here same

chosen : (b : Bool) (one found : Declared) (rest : Option Declared) {P : Type 0} → (if b then Some one else rest) ≡ Some found → (b ≡ true → one ≡ found → P) → (b ≡ false → rest ≡ Some found → P) → P
chosen true one found rest e this other = this refl (cc)
chosen false one found rest e this other = other refl e

-- a declaration has a number
pub number_of_declaration : (types : List Declared) (t : TypeName) (declared : Declared) → declaration_among types t ≡ Some declared →
    (number : ℕ) × (slice_get types number ≡ Some declared) × (same_type_name declared.name t ≡ true)
number_of_declaration [] t declared e = absurd (cc)
number_of_declaration (other ∷ types) t declared e =
    chosen (same_type_name other.name t) other declared (declaration_among types t) e
    (λ is_so it. (zero, ap Some it, sym (ap (λ (d : Declared). same_type_name d.name t) it) ∙ is_so))
    (λ is_not later. let (number, here, same) = number_of_declaration types t declared later in (suc number, here, same))

-- a name has a number where it is declared
pub numbered_is_declared : (types : List Declared) (number : ℕ) (t : TypeName) → is_some (type_number_from number (names_declared types) t) ≡ is_some (declaration_among types t)
numbered_is_declared [] number t = refl
numbered_is_declared (declared ∷ types) number t =
    elim (same_type_name declared.name t) as (λ (same : Bool). is_some (if same then Some number else type_number_from (suc number) (names_declared types) t)
    ≡ is_some (if same then Some declared else declaration_among types t)) [ true ↦ refl | false ↦ numbered_is_declared types (suc number) t ]

pub none_or_some : {A : Type 0} (found : Option A) → (found ≡ None) ⊎ ((x : A) × (found ≡ Some x))
none_or_some None = inl refl
none_or_some (Some x) = inr (x, refl)
