-- The type of atomized values.
use Rattle.std.proofs.Common.{◌≡◌, ℕ, zero, suc, Bool, true, false, Option, None, Some, length, map, refl, sym, ◌∙◌, ap, if◌then◌else◌}
use Rattle.std.proofs.lemmas.Bool.{true≢false}
use Rattle.gx_base.specs.declared.type_name.Builtin.{Builtin}
use Rattle.gx_base.specs.declared.type_name.Builtin.TheVariants.{AnyType, Untyped, AnySimple, AnyAtomic, UntypedAtomic}
use Rattle.gx_base.specs.declared.type_name.TypeName.{TypeName}
use Rattle.gx_base.specs.declared.type_name.TypeName.TheVariants as names
use Rattle.gx_types.specs.declared.declaration.Content.{Content}
use Rattle.gx_types.specs.declared.declaration.Content.TheVariants as contents
use Rattle.gx_types.specs.declared.declaration.Declared.{Declared}
use Rattle.gx_types.specs.declared.item_type.ItemType.{ItemType}
use Rattle.gx_types.specs.declared.item_type.ItemType.TheVariants as items
use Rattle.gx_types.specs.SchemaSet.{SchemaSet, declaration_of}
use Rattle.gx_types.specs.SchemaInvariant.{is_atomic_content, content_is, is_atomic_type, is_simple_type, BaseFits, ContentFits, IsSchemaSet}
use Rattle.gx_types.specs.SequenceType.{SequenceType, nothing}
use Rattle.gx_types.specs.Prime.{items_of}
use Rattle.gx_types.specs.Derivation.{bases_of, declared_base_of}
use Rattle.gx_types.specs.Grounded.{EndsWithin}
use Rattle.gx_types.proofs.DerivationLemmas.{to_base}
use Rattle.gx_types.proofs.SchemaLemmas.{base_is}
use Rattle.gx_steptype.specs.DataType.{has_values, has_no_value, values_by_content, declared_values, simple_values, is_empty_model, model_values, content_values, values_declared, value_type, value_type_of, item_data, type_of_data}
use Rattle.gx_steptype.specs.DerivedTypes.{listed_types, derived_among}
use Rattle.gx_steptype.specs.Replaced.{replaced_items}
use Rattle.gx_steptype.proofs.Declarations.{declared_is}
use Rattle.gx_static.specs.NormalTypes.{IsOfKnownType, IsNormalType}
use Rattle.gx_static.proofs.AtomicTypes.{IsAtomic, top, untyped_is_atomic, nameable_is_atomic}
use Rattle.gx_static.proofs.DemandLaws.{normal_kinds}
use Rattle.gx_static.proofs.NormalTypes.{limited_is_normal, choice_of_normal}
use Rattle.gx_static.proofs.NormalParts.{each_so, each_made, replaced_is_normal}

-- ---- declared atomic types are derived from xs:anyAtomicType

-- the base of one
record AtomicBase (s : SchemaSet) (t : TypeName) : Type 0 where
  pub base : TypeName
  pub is : declared_base_of (bases_of s) t ≡ Some base
  pub atomic : is_atomic_type s base ≡ true

base_is_atomic : (s : SchemaSet) (c : Content) (base : TypeName) → is_atomic_content c ≡ true → BaseFits s c base → is_atomic_type s base ≡ true
base_is_atomic s (contents.Atomic facets) base h fits = fits
base_is_atomic s (contents.List item facets) base h fits = absurd (true≢false (sym h))
base_is_atomic s (contents.Simple kind facets) base h fits = absurd (true≢false (sym h))
base_is_atomic s (contents.Complex mixed model) base h fits = absurd (true≢false (sym h))

atomic_base : (s : SchemaSet) (t : TypeName) → IsSchemaSet s → (o : Option Declared) → declaration_of s t ≡ o → content_is o is_atomic_content ≡ true → AtomicBase s t
atomic_base s t is None e h = absurd (true≢false (sym h))
atomic_base s t is (Some d) e h = record { base = d.base; is = base_is s.types t d e; atomic = base_is_atomic s d.content d.base h (declared_is s t d is e).base }

atomic_within : (s : SchemaSet) → IsSchemaSet s → (n : ℕ) (t : TypeName) → EndsWithin (bases_of s) n t → is_atomic_type s t ≡ true → IsAtomic s t
atomic_within s is n (names.Builtin b) ends h = nameable_is_atomic s b h
atomic_within s is zero (names.Named m) ends h = let b = atomic_base s (names.Named m) is (declaration_of s (names.Named m)) refl h in absurd (cc)
atomic_within s is zero (names.Anonymous m) ends h = let b = atomic_base s (names.Anonymous m) is (declaration_of s (names.Anonymous m)) refl h in absurd (cc)
atomic_within s is (suc n) (names.Named m) ends h =
    let b = atomic_base s (names.Named m) is (declaration_of s (names.Named m)) refl h in
    to_base (bases_of s) (names.Named m) (names.Builtin AnyAtomic) b.base b.is (atomic_within s is n b.base (ends b.base b.is) b.atomic)
atomic_within s is (suc n) (names.Anonymous m) ends h =
    let b = atomic_base s (names.Anonymous m) is (declaration_of s (names.Anonymous m)) refl h in
    to_base (bases_of s) (names.Anonymous m) (names.Builtin AnyAtomic) b.base b.is (atomic_within s is n b.base (ends b.base b.is) b.atomic)

pub atomic_is_derived : (s : SchemaSet) (t : TypeName) → IsSchemaSet s → is_atomic_type s t ≡ true → IsAtomic s t
atomic_is_derived s t is h = atomic_within s is (length (bases_of s)) t (is.grounded.ends t) h

-- ---- the values of a type

values_are_normal : (s : SchemaSet) (t : TypeName) → IsSchemaSet s → (c : Content) → (is_atomic_content c ≡ true → IsAtomic s t) → ContentFits s c → IsNormalType s (values_by_content t c)
values_are_normal s t is (contents.Atomic facets) atomic fits = atomic refl
values_are_normal s t is (contents.List other facets) atomic fits = atomic_is_derived s other is fits
values_are_normal s t is (contents.Simple other facets) atomic fits = tt
values_are_normal s t is (contents.Complex mixed model) atomic fits = tt

-- a type that is declared with atomic content
named_atomic : (s : SchemaSet) (m : TypeName) → IsSchemaSet s → (d : Declared) → declaration_of s m ≡ Some d → (content_is (declaration_of s m) is_atomic_content ≡ true → is_atomic_type s m ≡ true)
    → is_atomic_content d.content ≡ true → IsAtomic s m
named_atomic s m is d e same h = atomic_is_derived s m is (same (ap (λ (o : Option Declared). content_is o is_atomic_content) e ∙ h))

declared_are_normal : (s : SchemaSet) (m : TypeName) → IsSchemaSet s → (content_is (declaration_of s m) is_atomic_content ≡ true → is_atomic_type s m ≡ true)
    → (o : Option Declared) → declaration_of s m ≡ o → IsNormalType s (declared_values m o)
declared_are_normal s m is same None e = tt
declared_are_normal s m is same (Some d) e = values_are_normal s m is d.content (named_atomic s m is d e same) (declared_is s m d is e).content

simple_are_normal : (s : SchemaSet) (t : TypeName) → IsSchemaSet s → is_simple_type s t ≡ true → IsNormalType s (simple_values s t)
simple_are_normal s (names.Builtin AnySimple) is h = top s
simple_are_normal s (names.Builtin b) is h = nameable_is_atomic s b h
simple_are_normal s (names.Named m) is h = declared_are_normal s (names.Named m) is (λ k. k) (declaration_of s (names.Named m)) refl
simple_are_normal s (names.Anonymous m) is h = declared_are_normal s (names.Anonymous m) is (λ k. k) (declaration_of s (names.Anonymous m)) refl

if_empty : (s : SchemaSet) (is_empty : Bool) → IsNormalType s (value_type (if is_empty then has_values nothing else has_no_value))
if_empty s true = tt
if_empty s false = tt

model_is_normal : (s : SchemaSet) (mixed : Bool) (model : SequenceType) → IsNormalType s (value_type (model_values mixed model))
model_is_normal s true model = untyped_is_atomic s
model_is_normal s false model = if_empty s (is_empty_model model)

content_is_normal : (s : SchemaSet) (t : TypeName) → IsSchemaSet s → (c : Content) → (is_atomic_content c ≡ true → IsAtomic s t) → ContentFits s c → IsNormalType s (value_type (content_values s t c))
content_is_normal s t is (contents.Atomic facets) atomic fits = atomic refl
content_is_normal s t is (contents.List other facets) atomic fits = atomic_is_derived s other is fits
content_is_normal s t is (contents.Simple other facets) atomic fits = simple_are_normal s other is fits
content_is_normal s t is (contents.Complex mixed model) atomic fits = model_is_normal s mixed model

typed_are_normal : (s : SchemaSet) (m : TypeName) → IsSchemaSet s → (content_is (declaration_of s m) is_atomic_content ≡ true → is_atomic_type s m ≡ true)
    → (o : Option Declared) → declaration_of s m ≡ o → IsNormalType s (value_type (values_declared s m o))
typed_are_normal s m is same None e = tt
typed_are_normal s m is same (Some d) e = content_is_normal s m is d.content (named_atomic s m is d e same) (declared_is s m d is e).content

builtin_is_normal : (s : SchemaSet) (b : Builtin) → IsNormalType s (value_type_of s (names.Builtin b))
builtin_is_normal s AnyType = tt
builtin_is_normal s Untyped = untyped_is_atomic s
builtin_is_normal s AnySimple = top s
builtin_is_normal s AnyAtomic = top s
builtin_is_normal s UntypedAtomic = untyped_is_atomic s
builtin_is_normal s b = nameable_is_atomic s b refl

value_is_normal : (s : SchemaSet) (t : TypeName) → IsSchemaSet s → IsNormalType s (value_type_of s t)
value_is_normal s (names.Builtin b) is = builtin_is_normal s b
value_is_normal s (names.Named m) is = typed_are_normal s (names.Named m) is (λ k. k) (declaration_of s (names.Named m)) refl
value_is_normal s (names.Anonymous m) is = typed_are_normal s (names.Anonymous m) is (λ k. k) (declaration_of s (names.Anonymous m)) refl

-- ---- the data of a type

item_is_normal : (s : SchemaSet) (kind : ItemType) → IsSchemaSet s → IsOfKnownType s kind → IsNormalType s (item_data s kind)
item_is_normal s (items.Element name t) is k =
    choice_of_normal s (map (value_type_of s) (derived_among s t (listed_types s))) (each_made (value_type_of s) (IsNormalType s) (derived_among s t (listed_types s)) (λ u. value_is_normal s u is))
item_is_normal s (items.Attribute name t) is k = value_is_normal s t is
item_is_normal s items.Text is k = untyped_is_atomic s
item_is_normal s (items.Document element) is k = untyped_is_atomic s
item_is_normal s (items.Atom t) is k = k

pub data_is_normal : (s : SchemaSet) (t : SequenceType) → IsSchemaSet s → IsNormalType s t → IsNormalType s (type_of_data s t)
data_is_normal s t is n =
    limited_is_normal s (replaced_items (item_data s) t)
    (replaced_is_normal s (item_data s) t (each_so (IsOfKnownType s) (λ kind. IsNormalType s (item_data s kind)) (items_of t) (λ kind k. item_is_normal s kind is k) (normal_kinds s t n)))
