-- Simple types are derived from xs:anySimpleType, and no type but xs:untyped is derived from xs:untyped.
use Rattle.std.proofs.Common.{◌≡◌, ℕ, zero, suc, true, Option, None, Some, is_some, length, inl, inr, refl, sym, ◌∙◌, ap, subst}
use Rattle.std.specs.Option.{option_map}
use Rattle.std.proofs.lemmas.Bool.{true≢false}
use Rattle.gx_base.specs.declared.type_name.Builtin.{Builtin}
use Rattle.gx_base.specs.declared.type_name.Builtin.TheVariants.{AnyType, Untyped, AnySimple, AnyAtomic, UntypedAtomic}
use Rattle.gx_base.specs.declared.type_name.TypeName.{TypeName}
use Rattle.gx_base.specs.declared.type_name.TypeName.TheVariants as names
use Rattle.gx_types.specs.declared.declaration.Content.{Content}
use Rattle.gx_types.specs.declared.declaration.Content.TheVariants as contents
use Rattle.gx_types.specs.declared.declaration.Declared.{Declared}
use Rattle.gx_types.specs.BuiltinBase.{builtin_base_of}
use Rattle.gx_types.specs.SameItemType.{same_type_name}
use Rattle.gx_types.specs.SchemaSet.{SchemaSet, declaration_of}
use Rattle.gx_types.specs.SchemaInvariant.{is_nameable, is_atomic_content, item_of_list, is_simple_content, content_is, is_atomic_type, is_simple_type, is_named_type, IsListOver, BaseFits, IsSchemaSet}
use Rattle.gx_types.specs.Derivation.{bases_of, declared_base_of, base_of, is_declared, Leads, DerivesFrom}
use Rattle.gx_types.specs.Grounded.{Grounded, EndsWithin}
use Rattle.gx_types.proofs.PublicLaws.{all_types_are_derived_from_any_type}
use Rattle.gx_types.proofs.EqualNames.{builtins_are_one}
use Rattle.gx_types.proofs.DerivationLemmas.{to_base}
use Rattle.gx_types.proofs.SchemaLemmas.{base_is, base_of_declaration}
use Rattle.gx_steptype.proofs.Declarations.{declared_is, builtin_is_undeclared}
use Rattle.gx_steptype.proofs.ReadValues.{builtin_chain}

-- a built-in type has no declaration
no_builtin_is_declared : (s : SchemaSet) (b : Builtin) (d : Declared) → IsSchemaSet s → declaration_of s (names.Builtin b) ≡ Some d → ⊥
no_builtin_is_declared s b d is e = let none = builtin_is_undeclared s b is in cc

-- types that declarations may name are derived from xs:anyType

pub is_declared_too : (s : SchemaSet) (t : TypeName) (o : Option Declared) → declaration_of s t ≡ o → is_some o ≡ true → is_declared (bases_of s) t ≡ true
is_declared_too s t None e h = absurd (true≢false (sym h))
is_declared_too s t (Some d) e h = ap is_some (base_is s.types t d e)

pub named_is_any : (s : SchemaSet) (t : TypeName) → Grounded (bases_of s) → is_named_type s t ≡ true → DerivesFrom s t (names.Builtin AnyType)
named_is_any s (names.Builtin b) g h = all_types_are_derived_from_any_type.builtin s b
named_is_any s (names.Named n) g h = all_types_are_derived_from_any_type.declared s (names.Named n) g (is_declared_too s (names.Named n) (declaration_of s (names.Named n)) refl h)
named_is_any s (names.Anonymous n) g h = all_types_are_derived_from_any_type.declared s (names.Anonymous n) g (is_declared_too s (names.Anonymous n) (declaration_of s (names.Anonymous n)) refl h)

-- built-in types from xs:string on are derived from xs:anySimpleType
nameable_is_simple : (s : SchemaSet) (b : Builtin) → is_nameable b ≡ true → DerivesFrom s (names.Builtin b) (names.Builtin AnySimple)
nameable_is_simple s AnyType h = absurd (cc)
nameable_is_simple s Untyped h = absurd (cc)
nameable_is_simple s AnySimple h = absurd (cc)
nameable_is_simple s AnyAtomic h = absurd (cc)
nameable_is_simple s UntypedAtomic h = absurd (cc)
nameable_is_simple s b h = builtin_chain s b AnySimple refl

-- so are declared simple types

pub atomic_content_is_simple : (c : Content) → is_atomic_content c ≡ true → is_simple_content c ≡ true
atomic_content_is_simple (contents.Atomic facets) h = refl
atomic_content_is_simple (contents.List item facets) h = refl
atomic_content_is_simple (contents.Simple kind facets) h = absurd (true≢false (sym h))
atomic_content_is_simple (contents.Complex mixed model) h = absurd (true≢false (sym h))

simple_if_atomic : (o : Option Declared) → content_is o is_atomic_content ≡ true → content_is o is_simple_content ≡ true
simple_if_atomic None h = h
simple_if_atomic (Some d) h = atomic_content_is_simple d.content h

atomic_is_simple : (s : SchemaSet) (t : TypeName) → is_atomic_type s t ≡ true → is_simple_type s t ≡ true
atomic_is_simple s (names.Builtin b) h = h
atomic_is_simple s (names.Named n) h = simple_if_atomic (declaration_of s (names.Named n)) h
atomic_is_simple s (names.Anonymous n) h = simple_if_atomic (declaration_of s (names.Anonymous n)) h

list_is_simple : (c : Content) (other : TypeName) → item_of_list c ≡ Some other → is_simple_content c ≡ true
list_is_simple (contents.List item facets) other e = refl
list_is_simple (contents.Atomic facets) other e = absurd (cc)
list_is_simple (contents.Simple kind facets) other e = absurd (cc)
list_is_simple (contents.Complex mixed model) other e = absurd (cc)

list_base_is_simple : (s : SchemaSet) (item base : TypeName) → IsSchemaSet s → IsListOver s item base → is_simple_type s base ≡ true
list_base_is_simple s item (names.Builtin b) is h = absurd (no_builtin_is_declared s b h.0 is h.2)
list_base_is_simple s item (names.Named n) is h = ap (λ (o : Option Declared). content_is o is_simple_content) h.2 ∙ list_is_simple h.0.content h.1 h.3
list_base_is_simple s item (names.Anonymous n) is h = ap (λ (o : Option Declared). content_is o is_simple_content) h.2 ∙ list_is_simple h.0.content h.1 h.3

-- the base of a simple type is xs:anySimpleType, or simple again
base_is_simple : (s : SchemaSet) (base : TypeName) → IsSchemaSet s → (c : Content) → is_simple_content c ≡ true → BaseFits s c base
    → (is_simple_type s base ≡ true → DerivesFrom s base (names.Builtin AnySimple)) → DerivesFrom s base (names.Builtin AnySimple)
base_is_simple s base is (contents.Atomic facets) h fits next = next (atomic_is_simple s base fits)
base_is_simple s base is (contents.List item facets) h (inl e) next = subst (λ (t : TypeName). DerivesFrom s t (names.Builtin AnySimple)) (sym e) (0, refl)
base_is_simple s base is (contents.List item facets) h (inr over) next = next (list_base_is_simple s item base is over)
base_is_simple s base is (contents.Simple kind facets) h fits next = absurd (true≢false (sym h))
base_is_simple s base is (contents.Complex mixed model) h fits next = absurd (true≢false (sym h))

-- the base of a declared simple type
record SimpleBase (s : SchemaSet) (t : TypeName) : Type 0 where
  pub base : TypeName
  pub is : declared_base_of (bases_of s) t ≡ Some base
  pub goes_on : (is_simple_type s base ≡ true → DerivesFrom s base (names.Builtin AnySimple)) → DerivesFrom s base (names.Builtin AnySimple)

simple_base : (s : SchemaSet) (t : TypeName) → IsSchemaSet s → (o : Option Declared) → declaration_of s t ≡ o → content_is o is_simple_content ≡ true → SimpleBase s t
simple_base s t is None e h = absurd (true≢false (sym h))
simple_base s t is (Some d) e h =
    record { base = d.base; is = base_is s.types t d e; goes_on = base_is_simple s d.base is d.content h (declared_is s t d is e).base }

simple_within : (s : SchemaSet) → IsSchemaSet s → (n : ℕ) (t : TypeName) → EndsWithin (bases_of s) n t → is_simple_type s t ≡ true → DerivesFrom s t (names.Builtin AnySimple)
simple_within s is n (names.Builtin b) ends h = nameable_is_simple s b h
simple_within s is zero (names.Named m) ends h =
    let b = simple_base s (names.Named m) is (declaration_of s (names.Named m)) refl h in absurd (cc)
simple_within s is zero (names.Anonymous m) ends h =
    let b = simple_base s (names.Anonymous m) is (declaration_of s (names.Anonymous m)) refl h in absurd (cc)
simple_within s is (suc n) (names.Named m) ends h =
    let b = simple_base s (names.Named m) is (declaration_of s (names.Named m)) refl h in
    to_base (bases_of s) (names.Named m) (names.Builtin AnySimple) b.base b.is (b.goes_on (λ k. simple_within s is n b.base (ends b.base b.is) k))
simple_within s is (suc n) (names.Anonymous m) ends h =
    let b = simple_base s (names.Anonymous m) is (declaration_of s (names.Anonymous m)) refl h in
    to_base (bases_of s) (names.Anonymous m) (names.Builtin AnySimple) b.base b.is (b.goes_on (λ k. simple_within s is n b.base (ends b.base b.is) k))

pub simple_is_derived : (s : SchemaSet) (t : TypeName) → IsSchemaSet s → is_simple_type s t ≡ true → DerivesFrom s t (names.Builtin AnySimple)
simple_is_derived s t is h = simple_within s is (length (bases_of s)) t (is.grounded.ends t) h

-- no type has the base xs:untyped

untyped_fits_no_content : (s : SchemaSet) (c : Content) → IsSchemaSet s → BaseFits s c (names.Builtin Untyped) → ⊥
untyped_fits_no_content s (contents.Atomic facets) is h = true≢false (sym h)
untyped_fits_no_content s (contents.List item facets) is (inl e) = absurd (cc)
untyped_fits_no_content s (contents.List item facets) is (inr over) = no_builtin_is_declared s Untyped over.0 is over.2
untyped_fits_no_content s (contents.Simple kind facets) is (inl e) = absurd (cc)
untyped_fits_no_content s (contents.Simple kind facets) is (inr h) = true≢false (sym h)
untyped_fits_no_content s (contents.Complex mixed model) is (inl e) = absurd (cc)
untyped_fits_no_content s (contents.Complex mixed model) is (inr h) = true≢false (sym h)

untyped_is_no_declared_base : (s : SchemaSet) (t : TypeName) → IsSchemaSet s → (o : Option Declared) → declaration_of s t ≡ o → option_map (λ (d : Declared). d.base) o ≡ Some (names.Builtin Untyped) → ⊥
untyped_is_no_declared_base s t is None e f = absurd (cc)
untyped_is_no_declared_base s t is (Some d) e f =
    let base : d.base ≡ names.Builtin Untyped = cc in
    untyped_fits_no_content s d.content is (subst (BaseFits s d.content) base (declared_is s t d is e).base)

untyped_is_no_builtin_base : (b : Builtin) → builtin_base_of b ≡ Some Untyped → ⊥
untyped_is_no_builtin_base AnyType e = absurd (cc)
untyped_is_no_builtin_base _ e = absurd (cc)

found_builtin : (b : Builtin) (o : Option Builtin) → builtin_base_of b ≡ o → option_map names.Builtin o ≡ Some (names.Builtin Untyped) → ⊥
found_builtin b None e f = absurd (cc)
found_builtin b (Some c) e f = untyped_is_no_builtin_base b (e ∙ cc)

untyped_is_no_base : (s : SchemaSet) (t : TypeName) → IsSchemaSet s → base_of (bases_of s) t ≡ Some (names.Builtin Untyped) → ⊥
untyped_is_no_base s (names.Builtin b) is e = found_builtin b (builtin_base_of b) refl e
untyped_is_no_base s (names.Named n) is e =
    untyped_is_no_declared_base s (names.Named n) is (declaration_of s (names.Named n)) refl (sym (base_of_declaration s.types (names.Named n)) ∙ e)
untyped_is_no_base s (names.Anonymous n) is e =
    untyped_is_no_declared_base s (names.Anonymous n) is (declaration_of s (names.Anonymous n)) refl (sym (base_of_declaration s.types (names.Anonymous n)) ∙ e)

-- so a chain that ends at xs:untyped has no step

is_untyped_itself : (t : TypeName) → same_type_name t (names.Builtin Untyped) ≡ true → t ≡ names.Builtin Untyped
is_untyped_itself (names.Builtin b) h = ap names.Builtin (builtins_are_one b Untyped h)
is_untyped_itself (names.Named n) h = absurd (true≢false (sym h))
is_untyped_itself (names.Anonymous n) h = absurd (true≢false (sym h))

leads_to_untyped : (s : SchemaSet) → IsSchemaSet s → (n : ℕ) (t : TypeName) → Leads (bases_of s) n t (names.Builtin Untyped) → t ≡ names.Builtin Untyped
leads_to_untyped s is zero t h = is_untyped_itself t h
leads_to_untyped s is (suc n) t (base, e, h) =
    absurd (untyped_is_no_base s t is (subst (λ (b : TypeName). base_of (bases_of s) t ≡ Some b) (leads_to_untyped s is n base h) e))

pub only_untyped_is_untyped : (s : SchemaSet) (t : TypeName) → IsSchemaSet s → DerivesFrom s t (names.Builtin Untyped) → t ≡ names.Builtin Untyped
only_untyped_is_untyped s t is d = leads_to_untyped s is d.0 t d.1
