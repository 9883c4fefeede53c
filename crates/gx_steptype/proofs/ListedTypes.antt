-- Lists of the declared types that are derived from each declared type.
use Rattle.std.proofs.Common.{◌≡◌, ℕ, zero, suc, Bool, true, false, List, [], ◌∷◌, ◌++◌, filter, cond, Option, None, Some, IfSome, append_assoc, refl, sym, ◌∙◌, ap, if◌then◌else◌}
use mathlib.Core.Path.{fun_ext}
use Rattle.std.specs.Prelude.{Vec}
use Rattle.std.proofs.lemmas.Bool.{true≢false}
use Rattle.indexmap.specs.IndexMap.{IndexMap, get, get_by}
use Rattle.gx_base.specs.declared.type_name.TypeName.{TypeName}
use Rattle.gx_base.specs.declared.type_name.TypeName.TheVariants as names
use Rattle.gx_types.specs.declared.declaration.Declared.{Declared}
use Rattle.gx_types.specs.EqualNames.{same_tests}
use Rattle.gx_types.specs.SameItemType.{same_type_name}
use Rattle.gx_types.specs.TypeIndex.{equal_kinds}
use Rattle.gx_types.specs.SchemaSet.{SchemaSet, names_declared, declaration_of}
use Rattle.gx_types.specs.SchemaInvariant.{IsSchemaSet, is_built_in}
use Rattle.gx_types.specs.Grounded.{EndsWithin}
use Rattle.gx_types.specs.Derivation.{Bases, bases_of, base_of, Leads, is_derived}
use Rattle.gx_types.proofs.TypeIndexes.{equal_kinds_are}
use Rattle.gx_types.proofs.PublicLaws.{equality_is_an_equivalence, derivation_looks_at_no_prefix, equal_types_have_one_base}
use Rattle.gx_types.proofs.DerivationLemmas.{baseless, from_base, to_base}
use Rattle.gx_types.proofs.DerivationTest.{derives_when_tested, tested_when_derives}
use Rattle.gx_types.proofs.SchemaLemmas.{base_is, no_base}
use Rattle.gx_include_derivations.specs.Derivations.{derived_types}
use Rattle.gx_steptype.specs.ListedTypes.{alone_if_derived, types_listed, listed_types_of, OfDeclared, AreDerivedLists}
use Rattle.gx_steptype.proofs.Declarations.{builtin_is_undeclared, declaration_agrees}
use Rattle.gx_steptype.proofs.AloneTypes.{builtins_lead_nowhere, declared_is_not_built_in, not_true}

append_nil : (ts : List TypeName) → ts ++ [] ≡ ts
append_nil [] = refl
append_nil (t ∷ ts) = ap (λ us. t ∷ us) (append_nil ts)

-- no chain of bases comes back

longer_by_base : (bases : Bases) (n : ℕ) (t u base : TypeName) → Leads bases n t u → base_of bases u ≡ Some base → Leads bases (suc n) t base
longer_by_base bases zero t u base h e = (base, equal_types_have_one_base bases t u h ∙ e, equality_is_an_equivalence.type_names.refl base)
longer_by_base bases (suc n) t u base (b, f, r) e = (b, f, longer_by_base bases n b u base r e)

from_its_base : (bases : Bases) (t base : TypeName) (n : ℕ) → base_of bases t ≡ Some base → Leads bases n base t
    → ((m : ℕ) (other : TypeName) → base_of bases base ≡ Some other → Leads bases m other base → ⊥) → ⊥
from_its_base bases t base zero e h rest = rest 0 base (equal_types_have_one_base bases base t h ∙ e) (equality_is_an_equivalence.type_names.refl base)
from_its_base bases t base (suc n) e (other, f, r) rest = rest (suc n) other f (longer_by_base bases n other t base r e)

back_from : (bases : Bases) (t base : TypeName) (n : ℕ) → is_built_in t ≡ false → base_of bases t ≡ Some base → Leads bases n base t
    → (is_built_in base ≡ false → (m : ℕ) (other : TypeName) → base_of bases base ≡ Some other → Leads bases m other base → ⊥) → ⊥
back_from bases t (names.Builtin b) n p e h rest = builtins_lead_nowhere bases n b t p h
back_from bases t (names.Named k) n p e h rest = from_its_base bases t (names.Named k) n e h (rest refl)
back_from bases t (names.Anonymous k) n p e h rest = from_its_base bases t (names.Anonymous k) n e h (rest refl)

no_way_back : (bases : Bases) (steps : ℕ) (t : TypeName) → EndsWithin bases steps t → is_built_in t ≡ false → (n : ℕ) (base : TypeName) → base_of bases t ≡ Some base → Leads bases n base t → ⊥
no_way_back bases steps (names.Builtin b) ends p n base e h = true≢false p
no_way_back bases zero (names.Named k) ends p n base e h = absurd (cc)
no_way_back bases zero (names.Anonymous k) ends p n base e h = absurd (cc)
no_way_back bases (suc steps) (names.Named k) ends p n base e h =
    back_from bases (names.Named k) base n p e h (no_way_back bases steps base (ends base e))
no_way_back bases (suc steps) (names.Anonymous k) ends p n base e h =
    back_from bases (names.Anonymous k) base n p e h (no_way_back bases steps base (ends base e))

-- the base of a declared type

module _ (s : SchemaSet) (is : IsSchemaSet s) where
  base_declared : (t : TypeName) (d : Declared) → declaration_of s t ≡ Some d → base_of (bases_of s) t ≡ Some d.base
  base_declared (names.Builtin b) d e = let none = builtin_is_undeclared s b is in absurd (cc)
  base_declared (names.Named n) d e = base_is s.types (names.Named n) d e
  base_declared (names.Anonymous n) d e = base_is s.types (names.Anonymous n) d e

  -- it is not derived from the type
  base_is_not_derived : (t kind : TypeName) (d : Declared) → declaration_of s t ≡ Some d → same_type_name t kind ≡ true → is_derived s d.base kind ≡ false
  base_is_not_derived t kind d e same =
      not_true (is_derived s d.base kind)
      (λ h.
      let laws = equality_is_an_equivalence.type_names in
      let back = derivation_looks_at_no_prefix s d.base d.base kind t (laws.refl d.base) (laws.symm kind t ∙ same) (derives_when_tested s d.base kind h) in
      no_way_back (bases_of s) _ t (is.grounded.ends t) (declared_is_not_built_in s t d is e) back.0 d.base (base_declared t d e) back.1)

  -- a type is derived from itself
  derived_from_same : (t kind : TypeName) → same_type_name t kind ≡ true → is_derived s t kind ≡ true
  derived_from_same t kind same = tested_when_derives s t kind is.grounded (0, same)

  -- and from another one exactly where its base is
  derived_as_its_base : (t kind : TypeName) (d : Declared) → declaration_of s t ≡ Some d → same_type_name t kind ≡ false → is_derived s t kind ≡ is_derived s d.base kind
  derived_as_its_base t kind d e differ =
      same_tests (is_derived s t kind) (is_derived s d.base kind)
      (λ h. tested_when_derives s d.base kind is.grounded (from_base (bases_of s) t kind d.base differ (base_declared t d e) (derives_when_tested s t kind h)))
      (λ h. tested_when_derives s t kind is.grounded (to_base (bases_of s) t kind d.base (base_declared t d e) (derives_when_tested s d.base kind h)))

  -- where a chain ends that comes to no declared type
  undeclared_is_underived : (t kind : TypeName) (d : Declared) → declaration_of s t ≡ None → declaration_of s kind ≡ Some d → is_derived s t kind ≡ false
  undeclared_is_underived t kind d e f = not_true (is_derived s t kind) (λ h. by t e (derives_when_tested s t kind h).0 (derives_when_tested s t kind h).1)
    where
      other : (t : TypeName) → declaration_of s t ≡ None → same_type_name t kind ≡ false
      other t e = not_true (same_type_name t kind) (λ h. let same = declaration_agrees s.types t kind h in cc)

      by : (t : TypeName) → declaration_of s t ≡ None → (n : ℕ) → Leads (bases_of s) n t kind → ⊥
      by (names.Builtin b) e n h = builtins_lead_nowhere (bases_of s) n b kind (declared_is_not_built_in s kind d is f) h
      by (names.Named k) e n h = baseless (bases_of s) (names.Named k) kind (other (names.Named k) e) (no_base s.types (names.Named k) e) (n, h)
      by (names.Anonymous k) e n h = baseless (bases_of s) (names.Anonymous k) kind (other (names.Anonymous k) e) (no_base s.types (names.Anonymous k) e) (n, h)

  -- a type that is listed for one of its bases, and is to be listed for the bases behind it

  pub one_base_more : (t at kind : TypeName) (d : Declared) (listed more : List TypeName) → declaration_of s at ≡ Some d → more ≡ listed ++ (if equal_kinds at kind then t ∷ [] else [])
      → more ++ alone_if_derived s t d.base kind ≡ listed ++ alone_if_derived s t at kind
  one_base_more t at kind d listed more e put =
      ap (λ (ts : List TypeName). ts ++ alone_if_derived s t d.base kind) (put ∙ ap (λ (b : Bool). listed ++ (if b then t ∷ [] else [])) (equal_kinds_are at kind))
      ∙ by (same_type_name at kind) refl
    where
      by : (b : Bool) → same_type_name at kind ≡ b → (listed ++ (if b then t ∷ [] else [])) ++ alone_if_derived s t d.base kind ≡ listed ++ alone_if_derived s t at kind
      by true h =
          append_assoc listed (t ∷ []) (alone_if_derived s t d.base kind)
          ∙ ap (λ (b : Bool). listed ++ (t ∷ (if b then t ∷ [] else []))) (base_is_not_derived at kind d e h)
          ∙ sym (ap (λ (b : Bool). listed ++ (if b then t ∷ [] else [])) (derived_from_same at kind h))
      by false h =
          append_assoc listed [] (alone_if_derived s t d.base kind) ∙ sym (ap (λ (b : Bool). listed ++ (if b then t ∷ [] else [])) (derived_as_its_base at kind d e h))

  pub no_base_more : (t at kind : TypeName) (d : Declared) (listed : List TypeName) → declaration_of s at ≡ None → declaration_of s kind ≡ Some d → listed ++ alone_if_derived s t at kind ≡ listed
  no_base_more t at kind d listed e f = ap (λ (b : Bool). listed ++ (if b then t ∷ [] else [])) (undeclared_is_underived at kind d e f) ∙ append_nil listed

-- one more of the types that are listed for a type

module _ {A S : Type 0} where
  found_alike : (lists : IndexMap TypeName (Vec TypeName A) S) (t u : TypeName) → equal_kinds t u ≡ true → get equal_kinds lists t ≡ get equal_kinds lists u
  found_alike lists t u h =
      ap (λ (test : TypeName → Bool). get_by test lists)
      (fun_ext (λ v. equal_kinds_are t v ∙ equality_is_an_equivalence.type_names.congr t u v (sym (equal_kinds_are t u) ∙ h) ∙ sym (equal_kinds_are u v)))

  pub one_listed_more : (old new : IndexMap TypeName (Vec TypeName A) S) (base t : TypeName) (found more : Vec TypeName A) → Some found ≡ get equal_kinds old base → more.items ≡ found.items ++ t ∷ []
      → ((kind : TypeName) → get equal_kinds new kind ≡ cond (equal_kinds base kind) (Some more) (get equal_kinds old kind))
      → (kind : TypeName) → types_listed new kind ≡ types_listed old kind ++ (if equal_kinds base kind then t ∷ [] else [])
  one_listed_more old new base t found more e put updates kind = ap listed_types_of (updates kind) ∙ by (equal_kinds base kind) refl
    where
      by : (b : Bool) → equal_kinds base kind ≡ b → listed_types_of (cond b (Some more) (get equal_kinds old kind)) ≡ types_listed old kind ++ (if b then t ∷ [] else [])
      by true h = put ∙ ap (λ (o : Option (Vec TypeName A)). listed_types_of o ++ t ∷ []) (e ∙ found_alike old base kind h)
      by false h = sym (append_nil (types_listed old kind))

-- the next of the declared types

pub one_type_more : (s : SchemaSet) (d : Declared) (rest : List Declared) (kind : TypeName) (listed more : List TypeName) → more ≡ listed ++ alone_if_derived s d.name d.name kind
    → more ++ filter (λ t. is_derived s t kind) (names_declared rest) ≡ listed ++ filter (λ t. is_derived s t kind) (names_declared (d ∷ rest))
one_type_more s d rest kind listed more e =
    ap (λ (ts : List TypeName). ts ++ filter (λ t. is_derived s t kind) (names_declared rest)) e ∙ append_assoc listed (alone_if_derived s d.name d.name kind) (filter (λ t. is_derived s t kind) (names_declared rest)) ∙ ap (λ (ts : List TypeName). listed ++ ts) (by (is_derived s d.name kind))
  where
    by : (b : Bool) → (if b then d.name ∷ [] else []) ++ filter (λ t. is_derived s t kind) (names_declared rest) ≡ cond b (d.name ∷ filter (λ t. is_derived s t kind) (names_declared rest)) (filter (λ t. is_derived s t kind) (names_declared rest))
    by true = refl
    by false = refl

pub no_type_more : (s : SchemaSet) (kind : TypeName) (listed first : List TypeName) (types rest : List Declared) → rest ≡ [] → types ≡ s.types
    → listed ++ filter (λ t. is_derived s t kind) (names_declared rest) ≡ first ++ filter (λ t. is_derived s t kind) (names_declared types) → listed ≡ first ++ derived_types s kind
no_type_more s kind listed first types rest none same e =
    sym (ap (λ (ds : List Declared). listed ++ filter (λ t. is_derived s t kind) (names_declared ds)) none ∙ append_nil listed)
    ∙ e ∙ ap (λ (ds : List Declared). first ++ filter (λ t. is_derived s t kind) (names_declared ds)) same

-- whole lists

module _ {A S : Type 0} (s : SchemaSet) where
  pub all_are_listed : (lists : IndexMap TypeName (Vec TypeName A) S) → OfDeclared s (λ kind. types_listed lists kind ≡ derived_types s kind) → AreDerivedLists s lists
  all_are_listed lists all kind d e = by (get equal_kinds lists kind) (all kind d e)
    where
      by : (o : Option (Vec TypeName A)) → listed_types_of o ≡ derived_types s kind → IfSome o (λ types. types.items ≡ derived_types s kind)
      by None h = tt
      by (Some types) h = h
