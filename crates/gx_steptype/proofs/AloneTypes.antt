-- A declared type that is the base of none stands alone among those that are derived from it.
use Rattle.std.proofs.Common.{◌≡◌, ℕ, zero, suc, Bool, true, false, ◌||◌, List, [], ◌∷◌, filter, cond, Option, None, Some, IfSome, refl, sym, ◌∙◌, ap, subst, if◌then◌else◌}
use Rattle.std.specs.List.{list_any}
use Rattle.std.specs.Option.{option_map}
use Rattle.std.specs.Set.{is_member}
use Rattle.std.proofs.lemmas.Bool.{true≢false}
use Rattle.std.proofs.lemmas.List.Elements.{filter_agree}
use Rattle.gx_base.specs.declared.type_name.Builtin.{Builtin}
use Rattle.gx_base.specs.declared.type_name.TypeName.{TypeName}
use Rattle.gx_base.specs.declared.type_name.TypeName.TheVariants as names
use Rattle.gx_closure.proofs.Growing.{all_are_put, member_of_all}
use Rattle.indexmap.specs.IndexSet.{insert_all}
use Rattle.gx_include_derivations.specs.Derivations.{derived_types}
use Rattle.gx_types.specs.declared.declaration.Declared.{Declared}
use Rattle.gx_types.specs.BuiltinBase.{builtin_base_of}
use Rattle.gx_types.specs.SameItemType.{same_type_name}
use Rattle.gx_types.specs.TypeIndex.{equal_kinds}
use Rattle.gx_types.specs.SchemaSet.{SchemaSet, names_declared, declared_types, declaration_among, declaration_of}
use Rattle.gx_types.specs.SchemaInvariant.{IsSchemaSet, AreDistinctBy, is_built_in}
use Rattle.gx_types.specs.Derivation.{Bases, bases_among, bases_of, declared_base_of, Leads, is_derived}
use Rattle.gx_types.specs.EqualNames.{same_tests}
use Rattle.gx_types.proofs.PublicLaws.{equality_is_an_equivalence}
use Rattle.gx_types.proofs.DerivationTest.{derives_when_tested, tested_when_derives}
use Rattle.gx_steptype.specs.DeclaredBases.{declared_bases, HasBases}
use Rattle.gx_steptype.proofs.Declarations.{builtin_is_undeclared}
use Rattle.gx_steptype.proofs.AskedTypes.{kinds_are_equal}

-- a chain from a built-in type comes to no declared type

some_builtin : (o : Option Builtin) (base : TypeName) (P : TypeName → Type 0) → option_map names.Builtin o ≡ Some base → P base → ((c : Builtin) → P (names.Builtin c) → ⊥) → ⊥
some_builtin None base P e p h = absurd (cc)
some_builtin (Some c) base P e p h = let same : names.Builtin c ≡ base = cc in h c (subst P (sym same) p)

builtin_is_other : (b : Builtin) (kind : TypeName) → is_built_in kind ≡ false → same_type_name (names.Builtin b) kind ≡ false
builtin_is_other b (names.Builtin c) p = absurd (true≢false p)
builtin_is_other b (names.Named n) p = refl
builtin_is_other b (names.Anonymous n) p = refl

pub builtins_lead_nowhere : (bases : Bases) (steps : ℕ) (b : Builtin) (kind : TypeName) → is_built_in kind ≡ false → Leads bases steps (names.Builtin b) kind → ⊥
builtins_lead_nowhere bases zero b kind p h = true≢false (sym h ∙ builtin_is_other b kind p)
builtins_lead_nowhere bases (suc steps) b kind p (base, e, r) =
    some_builtin (builtin_base_of b) base (λ t. Leads bases steps t kind) e r (λ c k. builtins_lead_nowhere bases steps c kind p k)

-- a chain of a step or more to a declared type ends at the base of a declared type

or_true : (b : Bool) → b || true ≡ true
or_true true = refl
or_true false = refl

base_is_among : (types : List Declared) (t base kind : TypeName) → declared_base_of (bases_among types) t ≡ Some base → same_type_name base kind ≡ true
    → list_any (same_type_name kind) (declared_bases types) ≡ true
base_is_among [] t base kind e h = absurd (cc)
base_is_among (d ∷ types) t base kind e h = by (base_is_among types t base kind) (same_type_name d.name t) e
  where
    by : (declared_base_of (bases_among types) t ≡ Some base → same_type_name base kind ≡ true → list_any (same_type_name kind) (declared_bases types) ≡ true) → (b : Bool)
        → (if b then Some d.base else declared_base_of (bases_among types) t) ≡ Some base → same_type_name kind d.base || list_any (same_type_name kind) (declared_bases types) ≡ true
    by rest true k =
        let same : d.base ≡ base = cc in
        ap (λ (b : Bool). b || list_any (same_type_name kind) (declared_bases types)) (ap (same_type_name kind) same ∙ equality_is_an_equivalence.type_names.symm kind base ∙ h)
    by rest false k = ap (λ (b : Bool). same_type_name kind d.base || b) (rest k h) ∙ or_true (same_type_name kind d.base)

last_base : (s : SchemaSet) (steps : ℕ) (t kind : TypeName) → is_built_in kind ≡ false → Leads (bases_of s) (suc steps) t kind → list_any (same_type_name kind) (declared_bases s.types) ≡ true
last_base s steps (names.Builtin b) kind p h = absurd (builtins_lead_nowhere (bases_of s) (suc steps) b kind p h)
last_base s zero (names.Named n) kind p (base, e, r) = base_is_among s.types (names.Named n) base kind e r
last_base s zero (names.Anonymous n) kind p (base, e, r) = base_is_among s.types (names.Anonymous n) base kind e r
last_base s (suc steps) (names.Named n) kind p (base, e, r) = last_base s steps base kind p r
last_base s (suc steps) (names.Anonymous n) kind p (base, e, r) = last_base s steps base kind p r

-- so no other type is derived from a declared type that is no base

alone_by_chain : (s : SchemaSet) (steps : ℕ) (t kind : TypeName) → is_built_in kind ≡ false → list_any (same_type_name kind) (declared_bases s.types) ≡ false → Leads (bases_of s) steps t kind
    → same_type_name t kind ≡ true
alone_by_chain s zero t kind p none h = h
alone_by_chain s (suc steps) t kind p none h = absurd (true≢false (sym (last_base s steps t kind p h) ∙ none))

derived_is_same : (s : SchemaSet) → IsSchemaSet s → (t kind : TypeName) → is_built_in kind ≡ false → list_any (same_type_name kind) (declared_bases s.types) ≡ false
    → is_derived s t kind ≡ same_type_name t kind
derived_is_same s is t kind p none =
    same_tests (is_derived s t kind) (same_type_name t kind) (λ h. let d = derives_when_tested s t kind h in alone_by_chain s d.0 t kind p none d.1) (λ h. tested_when_derives s t kind is.grounded (0, h))

none_equal : (a kind : TypeName) (ts : List TypeName) → same_type_name a kind ≡ true → list_any (same_type_name a) ts ≡ false → filter (λ t. same_type_name t kind) ts ≡ []
none_equal a kind [] h e = refl
none_equal a kind (t ∷ ts) h e =
    let laws = equality_is_an_equivalence.type_names in
    let k = neither (same_type_name a t) (list_any (same_type_name a) ts) e in
    let other : same_type_name t kind ≡ false = laws.symm t kind ∙ sym (laws.congr a kind t h) ∙ k.0 in
    ap (λ (b : Bool). cond b (t ∷ filter (λ u. same_type_name u kind) ts) (filter (λ u. same_type_name u kind) ts)) other ∙ none_equal a kind ts h k.1
  where
    neither : (x y : Bool) → x || y ≡ false → (x ≡ false) × (y ≡ false)
    neither true y f = absurd (true≢false f)
    neither false y f = (refl, f)

one_equal : (types : List Declared) (kind : TypeName) (d : Declared) → AreDistinctBy same_type_name (names_declared types) → declaration_among types kind ≡ Some d
    → filter (λ t. same_type_name t kind) (names_declared types) ≡ d.name ∷ []
one_equal [] kind d a e = absurd (cc)
one_equal (x ∷ types) kind d a e = by (one_equal types kind d a.1) (same_type_name x.name kind) refl e
  where
    by : (declaration_among types kind ≡ Some d → filter (λ t. same_type_name t kind) (names_declared types) ≡ d.name ∷ []) → (b : Bool) → same_type_name x.name kind ≡ b
        → (if b then Some x else declaration_among types kind) ≡ Some d
        → cond b (x.name ∷ filter (λ t. same_type_name t kind) (names_declared types)) (filter (λ t. same_type_name t kind) (names_declared types)) ≡ d.name ∷ []
    by rest true f k =
        let same : x ≡ d = cc in
        ap (λ ts. x.name ∷ ts) (none_equal x.name kind (names_declared types) f a.0) ∙ ap (λ (y : Declared). y.name ∷ []) same
    by rest false f k = rest k

-- no built-in type is declared

pub declared_is_not_built_in : (s : SchemaSet) (kind : TypeName) (d : Declared) → IsSchemaSet s → declaration_of s kind ≡ Some d → is_built_in kind ≡ false
declared_is_not_built_in s (names.Builtin b) d is e = let none = builtin_is_undeclared s b is in cc
declared_is_not_built_in s (names.Named n) d is e = refl
declared_is_not_built_in s (names.Anonymous n) d is e = refl

-- the bases that are put

pub not_true : (b : Bool) → (b ≡ true → ⊥) → b ≡ false
not_true true h = absurd (h refl)
not_true false h = refl

no_base : (s : SchemaSet) (bases : List TypeName) (kind : TypeName) → HasBases s bases → is_member same_type_name bases kind ≡ false → list_any (same_type_name kind) (declared_bases s.types) ≡ false
no_base s bases kind h e =
    not_true (list_any (same_type_name kind) (declared_bases s.types)) (λ k. true≢false (sym (member_of_all same_type_name equality_is_an_equivalence.type_names bases (declared_bases s.types) h kind k) ∙ e))

pub bases_are_had : (s : SchemaSet) (bases : List TypeName) → bases ≡ insert_all equal_kinds [] (declared_bases s.types) → HasBases s bases
bases_are_had s bases e =
    subst (HasBases s) (sym (e ∙ ap (λ (equal : TypeName → TypeName → Bool). insert_all equal [] (declared_bases s.types)) kinds_are_equal))
    (all_are_put same_type_name equality_is_an_equivalence.type_names (declared_bases s.types) [])

stands_alone : (s : SchemaSet) → IsSchemaSet s → (bases : List TypeName) → HasBases s bases → (kind : TypeName) (d : Declared) → is_member same_type_name bases kind ≡ false → declaration_of s kind ≡ Some d
    → derived_types s kind ≡ d.name ∷ []
stands_alone s is bases has kind d m e =
    filter_agree (λ t. is_derived s t kind) (λ t. same_type_name t kind) (λ t. derived_is_same s is t kind (declared_is_not_built_in s kind d is e) (no_base s bases kind has m)) (declared_types s)
    ∙ one_equal s.types kind d is.distinct e

pub found_alone : (s : SchemaSet) → IsSchemaSet s → (bases : List TypeName) → HasBases s bases → (kind : TypeName) (found : Option Declared) → is_member same_type_name bases kind ≡ false → found ≡ declaration_of s kind
    → IfSome found (λ d. derived_types s kind ≡ d.name ∷ [])
found_alone s is bases has kind None m e = tt
found_alone s is bases has kind (Some d) m e = stands_alone s is bases has kind d m (sym e)
