-- The choice over a type and all types that are derived from it takes what stands for each of these.
use Rattle.std.proofs.Common.{◌≡◌, Bool, true, false, ◌||◌, ◌&&◌, List, [], ◌∷◌, map, cond, Some, is_some, inl, inr, refl, sym, ◌∙◌, ap, subst, if◌then◌else◌}
use Rattle.std.specs.List.{list_any, list_all}
use Rattle.std.proofs.lemmas.Bool.{true≢false}
use Rattle.gx_base.specs.declared.type_name.Builtin.{Builtin}
use Rattle.gx_base.specs.declared.type_name.Builtin.TheVariants.{AnyType}
use Rattle.gx_base.specs.declared.type_name.TypeName.{TypeName}
use Rattle.gx_base.specs.declared.type_name.TypeName.TheVariants as names
use Rattle.gx_types.specs.declared.declaration.Declared.{Declared}
use Rattle.gx_types.specs.declared.shape.Shape.{Shape}
use Rattle.gx_types.specs.SameItemType.{same_type_name}
use Rattle.gx_types.specs.SchemaSet.{SchemaSet, names_declared, declaration_among}
use Rattle.gx_types.specs.SchemaInvariant.{is_named_type}
use Rattle.gx_types.specs.Derivation.{bases_of, is_derived, DerivesFrom}
use Rattle.gx_types.specs.Grounded.{Grounded}
use Rattle.gx_types.specs.SequenceType.{SequenceType}
use Rattle.gx_types.specs.Takes.{Takes, SomeTakes}
use Rattle.gx_types.proofs.PublicLaws.{choice_takes_some, derivation_looks_at_no_prefix, equality_is_an_equivalence}
use Rattle.gx_types.proofs.DerivationTest.{tested_when_derives}
use Rattle.gx_steptype.specs.DerivedTypes.{listed_types, derived_among, over_derived}
use Rattle.gx_steptype.specs.StepType.{content_of, declared_content, attributes_of_type, declared_attributes}
use Rattle.gx_steptype.proofs.Declarations.{declaration_agrees}

-- what stands for equal types takes the same
abbrev pub LooksAtNoPrefix : SchemaSet → (TypeName → SequenceType) → Type 0
LooksAtNoPrefix s f = (t u : TypeName) → same_type_name t u ≡ true → (ss : List Shape) → Takes s (f t) ss → Takes s (f u) ss

same_contents : (s : SchemaSet) (t u : TypeName) → same_type_name t u ≡ true → content_of s t ≡ content_of s u
same_contents s (names.Builtin a) (names.Builtin b) h = ap (λ (c : Builtin). content_of s (names.Builtin c)) (equality_is_an_equivalence.builtins_are_one a b h)
same_contents s (names.Named m) (names.Named n) h = ap declared_content (declaration_agrees s.types (names.Named m) (names.Named n) h)
same_contents s (names.Anonymous m) (names.Anonymous n) h = ap declared_content (declaration_agrees s.types (names.Anonymous m) (names.Anonymous n) h)
same_contents s _ _ h = absurd (cc)

pub contents_agree : (s : SchemaSet) → LooksAtNoPrefix s (content_of s)
contents_agree s t u h ss took = subst (λ (a : SequenceType). Takes s a ss) (same_contents s t u h) took

same_attributes : (s : SchemaSet) (t u : TypeName) → same_type_name t u ≡ true → attributes_of_type s t ≡ attributes_of_type s u
same_attributes s (names.Builtin a) (names.Builtin b) h = refl
same_attributes s (names.Named m) (names.Named n) h = ap declared_attributes (declaration_agrees s.types (names.Named m) (names.Named n) h)
same_attributes s (names.Anonymous m) (names.Anonymous n) h = ap declared_attributes (declaration_agrees s.types (names.Anonymous m) (names.Anonymous n) h)
same_attributes s _ _ h = absurd (cc)

pub attributes_agree : (s : SchemaSet) → LooksAtNoPrefix s (attributes_of_type s)
attributes_agree s t u h ss took = subst (λ (a : SequenceType). Takes s a ss) (same_attributes s t u h) took

-- a type that declarations may name is listed

abbrev pub IsListed : SchemaSet → TypeName → Type 0
IsListed s t = list_any (same_type_name t) (listed_types s) ≡ true

pub declared_is_listed : (types : List Declared) (t : TypeName) → is_some (declaration_among types t) ≡ true → list_any (same_type_name t) (names_declared types) ≡ true
declared_is_listed [] t h = absurd (cc)
declared_is_listed (d ∷ ds) t h =
    elim (same_type_name d.name t) as (λ (b : Bool). same_type_name d.name t ≡ b → is_some (if b then Some d else declaration_among ds t) ≡ true
    → (same_type_name t d.name || list_any (same_type_name t) (names_declared ds)) ≡ true) [
      | true ↦ λ e k. ap (λ (b : Bool). b || list_any (same_type_name t) (names_declared ds)) (equality_is_an_equivalence.type_names.symm t d.name ∙ e)
      | false ↦ λ e k. ap (λ (b : Bool). b || list_any (same_type_name t) (names_declared ds)) (equality_is_an_equivalence.type_names.symm t d.name ∙ e) ∙ declared_is_listed ds t k
    ] refl h

pub named_is_listed : (s : SchemaSet) (t : TypeName) → is_named_type s t ≡ true → IsListed s t
named_is_listed s (names.Builtin AnyType) h = absurd (cc)
named_is_listed s (names.Builtin _) h = refl
named_is_listed s (names.Named n) h = declared_is_listed s.types (names.Named n) h
named_is_listed s (names.Anonymous n) h = declared_is_listed s.types (names.Anonymous n) h

-- the first and the others of a list with a first member that may be left out

head_takes : (s : SchemaSet) (f : TypeName → SequenceType) (b : Bool) (u : TypeName) (us : List TypeName) (ss : List Shape) → b ≡ true → Takes s (f u) ss → SomeTakes s (map f (cond b (u ∷ us) us)) ss
head_takes s f true u us ss e h = inl h
head_takes s f false u us ss e h = absurd (cc)

tail_takes : (s : SchemaSet) (f : TypeName → SequenceType) (b : Bool) (u : TypeName) (us : List TypeName) (ss : List Shape) → SomeTakes s (map f us) ss → SomeTakes s (map f (cond b (u ∷ us) us)) ss
tail_takes s f true u us ss h = inr h
tail_takes s f false u us ss h = h

pub first_of : (a b : Bool) → (a && b) ≡ true → a ≡ true
first_of true b h = refl
first_of false b h = h

pub second_of : (a b : Bool) → (a && b) ≡ true → b ≡ true
second_of true b h = h
second_of false b h = absurd (true≢false (sym h))

head_has : (has : TypeName → Bool) (b : Bool) (u : TypeName) (us : List TypeName) → b ≡ true → list_all has (cond b (u ∷ us) us) ≡ true → has u ≡ true
head_has has true u us e h = first_of (has u) (list_all has us) h
head_has has false u us e h = absurd (cc)

tail_has : (has : TypeName → Bool) (b : Bool) (u : TypeName) (us : List TypeName) → list_all has (cond b (u ∷ us) us) ≡ true → list_all has us ≡ true
tail_has has true u us h = second_of (has u) (list_all has us) h
tail_has has false u us h = h

module _ (s : SchemaSet) (grounded : Grounded (bases_of s)) (kind t : TypeName) (derived : DerivesFrom s t kind) where
  equal_is_derived : (u : TypeName) → same_type_name t u ≡ true → is_derived s u kind ≡ true
  equal_is_derived u e =
      tested_when_derives s u kind grounded (derivation_looks_at_no_prefix s t u kind kind e (equality_is_an_equivalence.type_names.refl kind) derived)

  some_takes : (f : TypeName → SequenceType) → LooksAtNoPrefix s f → (ss : List Shape) → Takes s (f t) ss → (us : List TypeName) → list_any (same_type_name t) us ≡ true
      → SomeTakes s (map f (derived_among s kind us)) ss
  some_takes f alike ss h [] e = absurd (cc)
  some_takes f alike ss h (u ∷ us) e =
      elim (same_type_name t u) as (λ (b : Bool). same_type_name t u ≡ b → (b || list_any (same_type_name t) us) ≡ true → SomeTakes s (map f (derived_among s kind (u ∷ us))) ss) [
        | true ↦ λ same _. head_takes s f (is_derived s u kind) u (derived_among s kind us) ss (equal_is_derived u same) (alike t u same ss h)
        | false ↦ λ _ k. tail_takes s f (is_derived s u kind) u (derived_among s kind us) ss (some_takes f alike ss h us k)
      ] refl e

  -- the choice takes what stands for one of the types
  pub choice_covers : (f : TypeName → SequenceType) → LooksAtNoPrefix s f → IsListed s t → (ss : List Shape) → Takes s (f t) ss → Takes s (over_derived s f kind) ss
  choice_covers f alike listed ss h = (choice_takes_some s (map f (derived_among s kind (listed_types s))) ss).0 (some_takes f alike ss h (listed_types s) listed)

  -- what all the types have, one of them has
  has_among : (has : TypeName → Bool) → ((u : TypeName) → same_type_name t u ≡ true → has u ≡ true → has t ≡ true) → (us : List TypeName) → list_any (same_type_name t) us ≡ true
      → list_all has (derived_among s kind us) ≡ true → has t ≡ true
  has_among has alike [] e h = absurd (cc)
  has_among has alike (u ∷ us) e h =
      elim (same_type_name t u) as (λ (b : Bool). same_type_name t u ≡ b → (b || list_any (same_type_name t) us) ≡ true → has t ≡ true) [
        | true ↦ λ same _. alike u same (head_has has (is_derived s u kind) u (derived_among s kind us) (equal_is_derived u same) h)
        | false ↦ λ _ k. has_among has alike us k (tail_has has (is_derived s u kind) u (derived_among s kind us) h)
      ] refl e

  pub one_of_them_has : (has : TypeName → Bool) → ((u : TypeName) → same_type_name t u ≡ true → has u ≡ true → has t ≡ true) → IsListed s t
      → list_all has (derived_among s kind (listed_types s)) ≡ true → has t ≡ true
  one_of_them_has has alike listed h = has_among has alike (listed_types s) listed h
