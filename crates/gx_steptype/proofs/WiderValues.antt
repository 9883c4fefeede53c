-- Types of typed values, of types that are equal and of types that are derived from others.
use Rattle.std.proofs.Common.{◌≡◌, ℕ, zero, suc, Bool, true, false, List, [], ◌∷◌, ◌⊎◌, inl, inr, refl, sym, ◌∙◌, ap, subst, Option, Some, None, length}
use Rattle.std.proofs.lemmas.Bool.{true≢false}
use Rattle.std.specs.Prelude.{unwrap_or}
use Rattle.std.specs.List.{list_all}
use Rattle.std.specs.Option.{option_map}
use Rattle.gx_base.specs.declared.type_name.Builtin.{Builtin}
use Rattle.gx_base.specs.declared.type_name.Builtin.TheVariants as types
use Rattle.gx_base.specs.declared.type_name.TypeName.{TypeName}
use Rattle.gx_base.specs.declared.type_name.TypeName.TheVariants as names
use Rattle.gx_types.specs.BuiltinBase.{builtin_base_of}
use Rattle.gx_types.specs.SameItemType.{same_type_name}
use Rattle.gx_types.specs.SchemaSet.{SchemaSet, declaration_of}
use Rattle.gx_types.specs.SchemaInvariant.{IsSchemaSet, BaseFits, ContentFits, is_nameable, is_atomic_type, is_atomic_content, is_simple_type, is_simple_content, item_of_list, content_is}
use Rattle.gx_types.specs.Derivation.{bases_of, base_of, Leads, DerivesFrom}
use Rattle.gx_types.specs.Grounded.{Grounded}
use Rattle.gx_types.specs.ItemTakes.{ItemTakes}
use Rattle.gx_types.specs.SequenceType.{SequenceType}
use Rattle.gx_types.specs.Takes.{Takes, Each}
use Rattle.gx_types.specs.declared.declaration.Content.{Content}
use Rattle.gx_types.specs.declared.declaration.Content.TheVariants as contents
use Rattle.gx_types.specs.declared.declaration.Declared.{Declared}
use Rattle.gx_types.specs.declared.item_type.ItemType.TheVariants as items
use Rattle.gx_types.specs.declared.shape.Shape.{Shape}
use Rattle.gx_types.specs.declared.shape.Shape.TheVariants as shapes
use Rattle.gx_types.proofs.SchemaLemmas.{base_of_declaration}
use Rattle.gx_types.proofs.DerivationLemmas.{to_base}
use Rattle.gx_types.proofs.BaseChains.{along_chain}
use Rattle.gx_types.proofs.PublicLaws.{derivation_is_a_preorder, derivation_looks_at_no_prefix, equality_is_an_equivalence}
use Rattle.gx_steptype.specs.DataType.{NodeValues, atomic_item, list_of_items, content_values, values_declared, values_of_type, has_value, value_type, value_type_of}
use Rattle.gx_steptype.specs.DerivedTypes.{listed_types, derived_among}
use Rattle.gx_steptype.proofs.Replacing.{append_nil}
use Rattle.gx_steptype.proofs.CoveredTypes.{LooksAtNoPrefix, IsListed, one_of_them_has}
use Rattle.gx_steptype.proofs.Declarations.{declaration_agrees, declared_is, builtin_is_undeclared}
use Rattle.gx_steptype.proofs.SimpleKinds.{atomic_content_is_simple}
use Rattle.gx_steptype.proofs.ReadValues.{builtin_chain, atomic_bottom}

-- ---- wider item types

abbrev WiderKinds : SchemaSet → TypeName → TypeName → Type 0
WiderKinds s t u = (k : TypeName) → DerivesFrom s k t → DerivesFrom s k u

atom_wider : (s : SchemaSet) (t u : TypeName) → WiderKinds s t u → (x : Shape) → ItemTakes s (items.Atom t) x → ItemTakes s (items.Atom u) x
atom_wider s t u w (shapes.Atom k) h = w k h
atom_wider s t u w (shapes.Elem n k) h = absurd h
atom_wider s t u w (shapes.Attr n k) h = absurd h
atom_wider s t u w shapes.Text h = absurd h
atom_wider s t u w (shapes.Doc c) h = absurd h

item_wider : (s : SchemaSet) (t u : TypeName) → WiderKinds s t u → (ss : List Shape) → Takes s (atomic_item t) ss → Takes s (atomic_item u) ss
item_wider s t u w ss (x, is, h) = (x, is, atom_wider s t u w x h)

each_wider : (s : SchemaSet) (t u : TypeName) → WiderKinds s t u → (parts : List (List Shape)) → Each (Takes s (atomic_item t)) parts → Each (Takes s (atomic_item u)) parts
each_wider s t u w [] h = tt
each_wider s t u w (part ∷ parts) h = (item_wider s t u w part h.0, each_wider s t u w parts h.1)

list_wider : (s : SchemaSet) (t u : TypeName) → WiderKinds s t u → (ss : List Shape) → Takes s (list_of_items t) ss → Takes s (list_of_items u) ss
list_wider s t u w ss (parts, is, h) = (parts, is, each_wider s t u w parts h)

by_derivation : (s : SchemaSet) (t u : TypeName) → DerivesFrom s t u → WiderKinds s t u
by_derivation s t u d k h = derivation_is_a_preorder.transitive s k t u h d

by_equality : (s : SchemaSet) (t u : TypeName) → same_type_name t u ≡ true → WiderKinds s t u
by_equality s t u e k h = derivation_looks_at_no_prefix s k k t u (equality_is_an_equivalence.type_names.refl k) e h

-- ---- equal types have the same typed values

record Agree (s : SchemaSet) (v w : NodeValues) : Type 0 where
  has : has_value w ≡ true → has_value v ≡ true
  takes : (ss : List Shape) → Takes s (value_type v) ss → Takes s (value_type w) ss

agree_itself : (s : SchemaSet) (v : NodeValues) → Agree s v v
agree_itself s v = record { has = λ e. e; takes = λ ss h. h }

content_agrees : (s : SchemaSet) (t u : TypeName) → same_type_name t u ≡ true → (content : Content) → Agree s (content_values s t content) (content_values s u content)
content_agrees s t u e (contents.Atomic facets) = record { has = λ f. refl; takes = item_wider s t u (by_equality s t u e) }
content_agrees s t u e (contents.List other facets) = agree_itself s (content_values s t (contents.List other facets))
content_agrees s t u e (contents.Simple other facets) = agree_itself s (content_values s t (contents.Simple other facets))
content_agrees s t u e (contents.Complex mixed model) = agree_itself s (content_values s t (contents.Complex mixed model))

declared_agrees : (s : SchemaSet) (t u : TypeName) → same_type_name t u ≡ true → (o : Option Declared) → Agree s (values_declared s t o) (values_declared s u o)
declared_agrees s t u e None = agree_itself s (values_declared s t None)
declared_agrees s t u e (Some d) = content_agrees s t u e d.content

types_agree : (s : SchemaSet) (t u : TypeName) → same_type_name t u ≡ true → Agree s (values_of_type s t) (values_of_type s u)
types_agree s (names.Builtin a) (names.Builtin b) e =
    subst (λ (c : Builtin). Agree s (values_of_type s (names.Builtin a)) (values_of_type s (names.Builtin c))) (equality_is_an_equivalence.builtins_are_one a b e)
    (agree_itself s (values_of_type s (names.Builtin a)))
types_agree s (names.Named m) (names.Named n) e =
    subst (λ (o : Option Declared). Agree s (values_of_type s (names.Named m)) (values_declared s (names.Named n) o)) (declaration_agrees s.types (names.Named m) (names.Named n) e)
    (declared_agrees s (names.Named m) (names.Named n) e (declaration_of s (names.Named m)))
types_agree s (names.Anonymous m) (names.Anonymous n) e =
    subst (λ (o : Option Declared). Agree s (values_of_type s (names.Anonymous m)) (values_declared s (names.Anonymous n) o)) (declaration_agrees s.types (names.Anonymous m) (names.Anonymous n) e)
    (declared_agrees s (names.Anonymous m) (names.Anonymous n) e (declaration_of s (names.Anonymous m)))
types_agree s _ _ e = absurd (cc)

-- ---- typed values of the types that are derived from a type

abbrev gives : SchemaSet → TypeName → Bool
gives s t = has_value (values_of_type s t)

pub values_agree : (s : SchemaSet) → LooksAtNoPrefix s (value_type_of s)
values_agree s t u e = let agreed = types_agree s t u e in agreed.takes

pub each_gives : (s : SchemaSet) → Grounded (bases_of s) → (kind t : TypeName) → DerivesFrom s t kind → IsListed s t → list_all (gives s) (derived_among s kind (listed_types s)) ≡ true → gives s t ≡ true
each_gives s g kind t d listed h = one_of_them_has s g kind t d (gives s) (λ u e k. let agreed = types_agree s t u e in agreed.has k) listed h

-- ---- the values of a simple type are among those of the types that it is derived from

abbrev is_simple_builtin : Builtin → Bool
is_simple_builtin types.AnyType = false
is_simple_builtin types.Untyped = false
is_simple_builtin _ = true

abbrev pub IsSimpleKind : SchemaSet → TypeName → Type 0
IsSimpleKind s (names.Builtin b) = is_simple_builtin b ≡ true
IsSimpleKind s (names.Named n) = is_simple_type s (names.Named n) ≡ true
IsSimpleKind s (names.Anonymous n) = is_simple_type s (names.Anonymous n) ≡ true

abbrev pub WiderValues : SchemaSet → TypeName → TypeName → Type 0
WiderValues s t u = (ss : List Shape) → Takes s (value_type_of s t) ss → Takes s (value_type_of s u) ss

abbrev Step : SchemaSet → TypeName → TypeName → Type 0
Step s t base = (IsSimpleKind s base × WiderValues s t base) ⊎ (base ≡ names.Builtin types.AnyType)

abbrev IsOneValue : SchemaSet → TypeName → Type 0
IsOneValue s t = IsSimpleKind s t × (value_type_of s t ≡ atomic_item t)

inside : {A : Type 0} (x y : A) → Some x ≡ Some y → x ≡ y
inside x y e = cc

one_step : (s : SchemaSet) (t base : TypeName) → value_type_of s t ≡ atomic_item t → IsOneValue s base → base_of (bases_of s) t ≡ Some base → Step s t base
one_step s t base one o e =
    inl (
      o.0,
      λ ss h. subst (λ (v : SequenceType). Takes s v ss) (sym o.1)
          (item_wider s t base (by_derivation s t base (to_base (bases_of s) t base base e (derivation_is_a_preorder.reflexive s base))) ss (subst (λ (v : SequenceType). Takes s v ss) one h)),
    )

builtin_step : (s : SchemaSet) (b : Builtin) → is_simple_builtin b ≡ true → (base : TypeName) → base_of (bases_of s) (names.Builtin b) ≡ Some base → Step s (names.Builtin b) base
builtin_step s types.AnyType h base e = absurd (cc)
builtin_step s types.Untyped h base e = absurd (cc)
builtin_step s types.AnySimple h base e = inr (sym (inside (names.Builtin types.AnyType) base e))
builtin_step s types.AnyAtomic h base e =
    subst (Step s (names.Builtin types.AnyAtomic)) (inside (names.Builtin types.AnySimple) base e) (inl (refl, λ ss k. (ss ∷ [], sym (append_nil ss), (k, tt))))
builtin_step s b h base e =
    one_step s (names.Builtin b) base refl (subst (IsOneValue s) (inside (names.Builtin (unwrap_or (builtin_base_of b) types.AnyType)) base e) (refl, refl)) e

-- declared types

nameable_is_one : (s : SchemaSet) (b : Builtin) → is_nameable b ≡ true → IsOneValue s (names.Builtin b)
nameable_is_one s types.AnyType h = absurd (cc)
nameable_is_one s types.Untyped h = absurd (cc)
nameable_is_one s types.AnySimple h = absurd (cc)
nameable_is_one s types.AnyAtomic h = absurd (cc)
nameable_is_one s types.UntypedAtomic h = absurd (cc)
nameable_is_one s _ h = (refl, refl)

atomic_gives_one : (s : SchemaSet) (t : TypeName) (content : Content) → is_atomic_content content ≡ true → value_type (content_values s t content) ≡ atomic_item t
atomic_gives_one s t (contents.Atomic facets) h = refl
atomic_gives_one s t (contents.List item facets) h = absurd (cc)
atomic_gives_one s t (contents.Simple kind facets) h = absurd (cc)
atomic_gives_one s t (contents.Complex mixed model) h = absurd (cc)

declared_is_one : (s : SchemaSet) (t : TypeName) (o : Option Declared) → content_is o is_atomic_content ≡ true → (content_is o is_simple_content ≡ true) × (value_type (values_declared s t o) ≡ atomic_item t)
declared_is_one s t None h = absurd (cc)
declared_is_one s t (Some d) h = (atomic_content_is_simple d.content h, atomic_gives_one s t d.content h)

atomic_is_one : (s : SchemaSet) (t : TypeName) → is_atomic_type s t ≡ true → IsOneValue s t
atomic_is_one s (names.Builtin b) h = nameable_is_one s b h
atomic_is_one s (names.Named n) h = declared_is_one s (names.Named n) (declaration_of s (names.Named n)) h
atomic_is_one s (names.Anonymous n) h = declared_is_one s (names.Anonymous n) (declaration_of s (names.Anonymous n)) h

-- an atomic type is derived from xs:anyAtomicType

nameable_is_atomic : (s : SchemaSet) (b : Builtin) → is_nameable b ≡ true → DerivesFrom s (names.Builtin b) (names.Builtin types.AnyAtomic)
nameable_is_atomic s types.AnyType h = absurd (cc)
nameable_is_atomic s types.Untyped h = absurd (cc)
nameable_is_atomic s types.AnySimple h = absurd (cc)
nameable_is_atomic s types.AnyAtomic h = absurd (cc)
nameable_is_atomic s types.UntypedAtomic h = absurd (cc)
nameable_is_atomic s b h = builtin_chain s b types.AnyAtomic refl

atomic_is_atomic : (s : SchemaSet) → IsSchemaSet s → (t : TypeName) → is_atomic_type s t ≡ true → DerivesFrom s t (names.Builtin types.AnyAtomic)
atomic_is_atomic s i t h =
    let r = atomic_bottom s i t h in
    along_chain s.types (λ u. DerivesFrom s u (names.Builtin types.AnyAtomic)) (λ u base differ e d. to_base (bases_of s) u (names.Builtin types.AnyAtomic) base e d)
    (length s.types) t r.0 r.1 (nameable_is_atomic s r.0 r.2)

-- lists

abbrev IsListOf : SchemaSet → TypeName → TypeName → Type 0
IsListOf s t other = IsSimpleKind s t × (value_type_of s t ≡ list_of_items other)

list_content : (s : SchemaSet) (t other : TypeName) (content : Content) → item_of_list content ≡ Some other → (is_simple_content content ≡ true) × (value_type (content_values s t content) ≡ list_of_items other)
list_content s t other (contents.List item facets) e = (refl, ap list_of_items (inside item other e))
list_content s t other (contents.Atomic facets) e = absurd (cc)
list_content s t other (contents.Simple kind facets) e = absurd (cc)
list_content s t other (contents.Complex mixed model) e = absurd (cc)

declared_list : (s : SchemaSet) (t other : TypeName) (o : Option Declared) (d : Declared) → o ≡ Some d → item_of_list d.content ≡ Some other
    → (content_is o is_simple_content ≡ true) × (value_type (values_declared s t o) ≡ list_of_items other)
declared_list s t other o d e f =
    let r = list_content s t other d.content f in
    (ap (λ (x : Option Declared). content_is x is_simple_content) e ∙ r.0, ap (λ (x : Option Declared). value_type (values_declared s t x)) e ∙ r.1)

is_list_of : (s : SchemaSet) → IsSchemaSet s → (t other : TypeName) (d : Declared) → declaration_of s t ≡ Some d → item_of_list d.content ≡ Some other → IsListOf s t other
is_list_of s i (names.Builtin b) other d e f = let none = builtin_is_undeclared s b i in absurd (cc)
is_list_of s i (names.Named n) other d e f = declared_list s (names.Named n) other (declaration_of s (names.Named n)) d e f
is_list_of s i (names.Anonymous n) other d e f = declared_list s (names.Anonymous n) other (declaration_of s (names.Anonymous n)) d e f

list_step : (s : SchemaSet) (t base item other : TypeName) → value_type_of s t ≡ list_of_items item → WiderKinds s item other → IsSimpleKind s base → value_type_of s base ≡ list_of_items other → Step s t base
list_step s t base item other e w k f =
    inl (k, λ ss h. subst (λ (v : SequenceType). Takes s v ss) (sym f) (list_wider s item other w ss (subst (λ (v : SequenceType). Takes s v ss) e h)))

content_step : (s : SchemaSet) → IsSchemaSet s → (t base : TypeName) (content : Content) → value_type_of s t ≡ value_type (content_values s t content) → is_simple_content content ≡ true
    → ContentFits s content → BaseFits s content base → base_of (bases_of s) t ≡ Some base → Step s t base
content_step s i t base (contents.Atomic facets) v h f b e = one_step s t base v (atomic_is_one s base b) e
content_step s i t base (contents.List item facets) v h f (inl b) e =
    subst (Step s t) (sym b) (list_step s t (names.Builtin types.AnySimple) item (names.Builtin types.AnyAtomic) v (by_derivation s item (names.Builtin types.AnyAtomic) (atomic_is_atomic s i item f)) refl refl)
content_step s i t base (contents.List item facets) v h f (inr (d, other, g, k, w)) e =
    let l = is_list_of s i base other d g k in list_step s t base item other v (by_derivation s item other w) l.0 l.1
content_step s i t base (contents.Simple kind facets) v h f b e = absurd (cc)
content_step s i t base (contents.Complex mixed model) v h f b e = absurd (cc)

declared_step : (s : SchemaSet) → IsSchemaSet s → (t base : TypeName) (o : Option Declared) → declaration_of s t ≡ o → value_type_of s t ≡ value_type (values_declared s t o) → content_is o is_simple_content ≡ true
    → base_of (bases_of s) t ≡ option_map (λ (d : Declared). d.base) o → base_of (bases_of s) t ≡ Some base → Step s t base
declared_step s i t base None e v h f g = absurd (cc)
declared_step s i t base (Some d) e v h f g =
    let is = declared_is s t d i e in
    subst (Step s t) (inside d.base base (sym f ∙ g)) (content_step s i t d.base d.content v h is.content is.base f)

step_of : (s : SchemaSet) → IsSchemaSet s → (t base : TypeName) → IsSimpleKind s t → base_of (bases_of s) t ≡ Some base → Step s t base
step_of s i (names.Builtin b) base k e = builtin_step s b k base e
step_of s i (names.Named n) base k e =
    declared_step s i (names.Named n) base (declaration_of s (names.Named n)) refl refl k (base_of_declaration s.types (names.Named n)) e
step_of s i (names.Anonymous n) base k e =
    declared_step s i (names.Anonymous n) base (declaration_of s (names.Anonymous n)) refl refl k (base_of_declaration s.types (names.Anonymous n)) e

-- nothing above xs:anyType has values
none_above : (s : SchemaSet) (n : ℕ) (u : TypeName) → Leads (bases_of s) n (names.Builtin types.AnyType) u → gives s u ≡ true → ⊥
none_above s zero u same h = let agreed = types_agree s (names.Builtin types.AnyType) u same in true≢false (sym (agreed.has h))
none_above s (suc n) u (base, e, r) h = absurd (cc)

goes_on : (s : SchemaSet) → IsSchemaSet s → (n : ℕ) (t u : TypeName) → IsSimpleKind s t → Leads (bases_of s) n t u → gives s u ≡ true → WiderValues s t u
goes_on s i zero t u k same h = let agreed = types_agree s t u same in agreed.takes
goes_on s i (suc n) t u k (base, e, r) h = elim (step_of s i t base k e) [
  | inl step ↦ λ ss took. goes_on s i n base u step.0 r h ss (step.1 ss took)
  | inr is ↦ λ ss took. absurd (none_above s n u (subst (λ (b : TypeName). Leads (bases_of s) n b u) is r) h)
]

pub values_are_wider : (s : SchemaSet) → IsSchemaSet s → (t u : TypeName) → IsSimpleKind s t → DerivesFrom s t u → gives s u ≡ true → WiderValues s t u
values_are_wider s i t u k d h = goes_on s i d.0 t u k d.1 h
