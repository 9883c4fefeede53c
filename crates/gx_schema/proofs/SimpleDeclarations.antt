-- The declarations of types keep to what one declaration keeps to.
use Rattle.std.proofs.Common.{◌≡◌, ℕ, inl, inr, true, false, List, length, Option, None, Some, is_some, slice_get, refl, sym, ◌∙◌, subst, ap, arith}
use Rattle.std.specs.Bool.{IsTrue}
use Rattle.std.proofs.lemmas.Bool.{true≢false}
use Rattle.std.proofs.lemmas.Option.{slice_get_within}
use Rattle.gx_base.specs.declared.type_name.Builtin.{Builtin as BuiltinType}
use Rattle.gx_base.specs.declared.type_name.TypeName.{TypeName}
use Rattle.gx_base.specs.declared.type_name.TypeName.TheVariants as names
use Rattle.gx_facets.specs.declared.restriction.Facets.{Facets}
use Rattle.gx_base.specs.declared.type_name.Builtin.TheVariants.{AnySimple}
use Rattle.gx_types.specs.SameItemType.{same_type_name}
use Rattle.gx_types.specs.SchemaInvariant.{BaseFits, ContentFits, HoldsOfEach, IsDeclarationOf, IsListOver, content_is, is_atomic_content, is_atomic_type, is_built_in, is_named_type, is_simple_content, is_simple_type, item_of_list}
use Rattle.gx_types.specs.declared.declaration.Content.{Content}
use Rattle.gx_types.specs.SchemaSet.{SchemaSet, declaration_of}
use Rattle.gx_types.specs.declared.declaration.Declared.{Declared as DeclaredType}
use Rattle.gx_types.specs.declared.declaration.GlobalElement.{GlobalElement}
use Rattle.gx_types.proofs.EqualNames.{type_name_itself}
use Rattle.gx_schema_components.specs.declared.component.Base.{Base}
use Rattle.gx_schema_components.specs.declared.component.Base.TheVariants.{Builtin, Declared}
use Rattle.gx_schema_simple.specs.Faults.{is_list}
use Rattle.gx_schema_simple.specs.Laws.{VarietiesSolve}
use Rattle.gx_schema_simple.specs.Meanings.{own_facets_over}
use Rattle.gx_schema_simple.specs.Varieties.{variety_of, variety_of_base}
use Rattle.gx_schema_simple.specs.declared.type_form.TypeForm.{TypeForm}
use Rattle.gx_schema_simple.specs.declared.type_form.TypeForm.TheVariants as forms
use Rattle.gx_schema_simple.specs.declared.variety.TypeVariety.{TypeVariety}
use Rattle.gx_schema_simple.specs.declared.variety.TypeVariety.TheVariants as varieties
use Rattle.gx_schema.specs.DerivationFaults.{has_complex_content}
use Rattle.gx_schema.specs.SimpleBases.{simple_base}
use Rattle.gx_schema.specs.SchemaTypes.{TypeMeanings, base_name, content_declared, derived_from_name, simple_content}
use Rattle.gx_schema.proofs.Declarations.{element_at, holds_of_each}
use Rattle.gx_schema.proofs.SimpleForms.{AreReadTypes, HeldByTypes, HoldWhatFits, IsReadBase, meanings_with, schemas_with, types_with, is_simple_form}
use Rattle.gx_schema.proofs.NumberedDeclarations.{declaration_by_number, declared_type, form_at, name_of_number}
use Rattle.gx_schema.proofs.SimpleVarieties.{IsNotComplex, IsSimpleBase, IsSimpleVariety, not_complex, plain_form, plain_has_none, simple_base_is_simple, simple_content_base, variety_of_base_is_simple}

-- ---- bases

atomic_if_declared_so : (schemas : SchemaSet) (t : TypeName) → is_built_in t ≡ false → is_atomic_type schemas t ≡ content_is (declaration_of schemas t) is_atomic_content
atomic_if_declared_so schemas (names.Builtin builtin) fails = absurd (true≢false fails)
atomic_if_declared_so schemas (names.Named name) fails = refl
atomic_if_declared_so schemas (names.Anonymous number) fails = refl

-- the content of a type without complex content, whose variety is known
plain_content : {A : Type 0} (declared : List TypeName) (types : List TypeForm) (held : HeldByTypes) (number : ℕ) (form : TypeForm) (variety : TypeVariety) (test : Content → A) → is_simple_form (Some form) ≡ true → variety_of types number ≡ variety →
    test (content_declared declared types (meanings_with types held) number form) ≡ test (simple_content declared variety (own_facets_over (variety_of types) form))
plain_content declared types held number (forms.Restriction place base facets) variety test simple e =
    ap (λ (v : TypeVariety). test (simple_content declared v (own_facets_over (variety_of types) (forms.Restriction place base facets)))) e
plain_content declared types held number (forms.List place item) variety test simple e =
    ap (λ (v : TypeVariety). test (simple_content declared v (own_facets_over (variety_of types) (forms.List place item)))) e
plain_content declared types held number (forms.SimpleContent base facets) variety test simple e = absurd (true≢false (sym simple))
plain_content declared types held number (forms.ComplexContent base) variety test simple e = absurd (true≢false (sym simple))

-- a base with single values is an atomic type
atomic_base : (declared : List TypeName) (types : List TypeForm) (held : HeldByTypes) → AreReadTypes declared types → (elements : List GlobalElement) (targets : List (List ℕ)) (base : Base) (bottom : BuiltinType) →
    IsReadBase (length declared) base → IsNotComplex types base → variety_of_base (variety_of types) base ≡ varieties.Atomic bottom → IsTrue (is_atomic_type (schemas_with declared types held elements targets) (base_name declared base))
atomic_base declared types held are elements targets (Builtin builtin) bottom read plain e = read
atomic_base declared types held are elements targets (Declared number) bottom read plain e =
    let (name, named) = element_at declared number read in
    let size = are.sized in
    let (form, formed) = element_at types number (omega arith) in
    let found = declaration_by_number declared types held are number name form named formed name (type_name_itself name) in
    subst (λ (t : TypeName). IsTrue (is_atomic_type (schemas_with declared types held elements targets) t)) (sym (name_of_number declared number name named))
    (atomic_if_declared_so (schemas_with declared types held elements targets) name (are.named number name named)
    ∙ ap (λ (d : Option DeclaredType). content_is d is_atomic_content) found
    ∙ plain_content declared types held number form (varieties.Atomic bottom) is_atomic_content (plain_form types number form formed plain) e)

-- a base with lists is a list of the same items
list_base : (declared : List TypeName) (types : List TypeForm) (held : HeldByTypes) → AreReadTypes declared types → (elements : List GlobalElement) (targets : List (List ℕ)) (base item : Base) →
    IsReadBase (length declared) base → IsNotComplex types base → variety_of_base (variety_of types) base ≡ varieties.List item →
    IsListOver (schemas_with declared types held elements targets) (base_name declared item) (base_name declared base)
list_base declared types held are elements targets (Builtin builtin) item read plain e = absurd (cc)
list_base declared types held are elements targets (Declared number) item read plain e =
    let (name, named) = element_at declared number read in
    let size = are.sized in
    let (form, formed) = element_at types number (omega arith) in
    let found = declaration_by_number declared types held are number name form named formed name (type_name_itself name) in
    subst (λ (t : TypeName). IsListOver (schemas_with declared types held elements targets) (base_name declared item) t) (sym (name_of_number declared number name named)) (
      declared_type declared types held number name form,
      base_name declared item,
      found,
      plain_content declared types held number form (varieties.List item) item_of_list (plain_form types number form formed plain) e,
      (0, type_name_itself (base_name declared item)),
    )

-- the items of a list are atomic
item_is_atomic : VarietiesSolve → (declared : List TypeName) (types : List TypeForm) (held : HeldByTypes) → AreReadTypes declared types → (elements : List GlobalElement) (targets : List (List ℕ)) (number place : ℕ) (item : Base) →
    slice_get types number ≡ Some (forms.List place item) → IsTrue (is_atomic_type (schemas_with declared types held elements targets) (base_name declared item))
item_is_atomic solve declared types held are elements targets number place item here =
    let read = are.read number (forms.List place item) here in
    let plain = not_complex types are.circles item (are.faults.items number place item here).0 in
    elim (variety_of_base_is_simple solve declared types are item read (plain_has_none types item plain)) [
      | inl (bottom, e) ↦ atomic_base declared types held are elements targets item bottom read plain e
      | inr (other, at, items, e, there) ↦ absurd (true≢false (sym (ap is_list e) ∙ (are.faults.items number place item here).1))
    ]

-- a base is named
named_if_declared_so : (schemas : SchemaSet) (t : TypeName) → is_built_in t ≡ false → is_named_type schemas t ≡ is_some (declaration_of schemas t)
named_if_declared_so schemas (names.Builtin builtin) fails = absurd (true≢false fails)
named_if_declared_so schemas (names.Named name) fails = refl
named_if_declared_so schemas (names.Anonymous number) fails = refl

named_base : (declared : List TypeName) (types : List TypeForm) (held : HeldByTypes) → AreReadTypes declared types → (elements : List GlobalElement) (targets : List (List ℕ)) (base : Base) →
    IsReadBase (length declared) base → IsTrue (is_named_type (schemas_with declared types held elements targets) (base_name declared base))
named_base declared types held are elements targets (Builtin builtin) read = read
named_base declared types held are elements targets (Declared number) read =
    let (name, named) = element_at declared number read in
    let size = are.sized in
    let (form, formed) = element_at types number (omega arith) in
    let found = declaration_by_number declared types held are number name form named formed name (type_name_itself name) in
    subst (λ (t : TypeName). IsTrue (is_named_type (schemas_with declared types held elements targets) t)) (sym (name_of_number declared number name named))
    (named_if_declared_so (schemas_with declared types held elements targets) name (are.named number name named) ∙ ap is_some found)

-- a type of a simple form is simple
simple_if_declared_so : (schemas : SchemaSet) (t : TypeName) → is_built_in t ≡ false → is_simple_type schemas t ≡ content_is (declaration_of schemas t) is_simple_content
simple_if_declared_so schemas (names.Builtin builtin) fails = absurd (true≢false fails)
simple_if_declared_so schemas (names.Named name) fails = refl
simple_if_declared_so schemas (names.Anonymous number) fails = refl

holds_simply : (declared : List TypeName) (variety : TypeVariety) (own : Facets) → is_simple_content (simple_content declared variety own) ≡ true
holds_simply declared varieties.Hidden own = refl
holds_simply declared varieties.NoValues own = refl
holds_simply declared (varieties.Atomic bottom) own = refl
holds_simply declared (varieties.List item) own = refl

simple_form_holds : (declared : List TypeName) (types : List TypeForm) (meanings : TypeMeanings) (number : ℕ) (form : TypeForm) → is_simple_form (Some form) ≡ true →
    is_simple_content (content_declared declared types meanings number form) ≡ true
simple_form_holds declared types meanings number (forms.Restriction place base facets) e = holds_simply declared (meanings.variety number) (own_facets_over meanings.variety (forms.Restriction place base facets))
simple_form_holds declared types meanings number (forms.List place item) e = holds_simply declared (meanings.variety number) (own_facets_over meanings.variety (forms.List place item))
simple_form_holds declared types meanings number (forms.SimpleContent base facets) e = absurd (true≢false (sym e))
simple_form_holds declared types meanings number (forms.ComplexContent base) e = absurd (true≢false (sym e))

pub simple_by_number : (declared : List TypeName) (types : List TypeForm) (held : HeldByTypes) → AreReadTypes declared types → (elements : List GlobalElement) (targets : List (List ℕ)) (number : ℕ) (name t : TypeName) →
    slice_get declared number ≡ Some name → same_type_name name t ≡ true → is_built_in t ≡ false → is_simple_form (slice_get types number) ≡ true → is_simple_type (schemas_with declared types held elements targets) t ≡ true
simple_by_number declared types held are elements targets number name t named same own simple =
    let within = slice_get_within declared number name named in
    let size = are.sized in
    let (form, formed) = element_at types number (omega arith) in
    let found = declaration_by_number declared types held are number name form named formed t same in
    simple_if_declared_so (schemas_with declared types held elements targets) t own
    ∙ ap (λ (d : Option DeclaredType). content_is d is_simple_content) found
    ∙ simple_form_holds declared types (meanings_with types held) number form (sym (ap is_simple_form formed) ∙ simple)

simple_type_of_base : (declared : List TypeName) (types : List TypeForm) (held : HeldByTypes) → AreReadTypes declared types → (elements : List GlobalElement) (targets : List (List ℕ)) (base : Base) →
    IsSimpleBase (length declared) types base → IsTrue (is_simple_type (schemas_with declared types held elements targets) (base_name declared base))
simple_type_of_base declared types held are elements targets (Builtin builtin) simple = simple
simple_type_of_base declared types held are elements targets (Declared number) simple =
    let (name, named) = element_at declared number simple.0 in
    subst (λ (t : TypeName). IsTrue (is_simple_type (schemas_with declared types held elements targets) t)) (sym (name_of_number declared number name named))
    (simple_by_number declared types held are elements targets number name name named (type_name_itself name) (are.named number name named) simple.1)

-- ---- one declaration

simple_content_fits : VarietiesSolve → (declared : List TypeName) (types : List TypeForm) (held : HeldByTypes) → AreReadTypes declared types → (elements : List GlobalElement) (targets : List (List ℕ)) (variety : TypeVariety) (own : Facets) →
    IsSimpleVariety types variety → ContentFits (schemas_with declared types held elements targets) (simple_content declared variety own)
simple_content_fits solve declared types held are elements targets variety own simple = elim simple [
  | inl (bottom, e) ↦ subst (λ (v : TypeVariety). ContentFits (schemas_with declared types held elements targets) (simple_content declared v own)) (sym e) tt
  | inr (number, place, item, e, here) ↦
      subst (λ (v : TypeVariety). ContentFits (schemas_with declared types held elements targets) (simple_content declared v own)) (sym e)
      (item_is_atomic solve declared types held are elements targets number place item here)
]

variety_at : VarietiesSolve → (declared : List TypeName) (types : List TypeForm) → AreReadTypes declared types → (number : ℕ) (form : TypeForm) → slice_get types number ≡ Some form → has_complex_content (Some form) ≡ false →
    IsSimpleVariety types (variety_of types number)
variety_at solve declared types are number form formed simple =
    let within = slice_get_within types number form formed in
    let size = are.sized in
    variety_of_base_is_simple solve declared types are (Declared number) (omega arith) (ap has_complex_content formed ∙ simple)

content_fits : VarietiesSolve → (declared : List TypeName) (types : List TypeForm) (held : HeldByTypes) → AreReadTypes declared types → (elements : List GlobalElement) (targets : List (List ℕ)) →
    HoldWhatFits (schemas_with declared types held elements targets) held → (number : ℕ) (form : TypeForm) → slice_get types number ≡ Some form →
    ContentFits (schemas_with declared types held elements targets) (content_declared declared types (meanings_with types held) number form)
content_fits solve declared types held are elements targets fit number (forms.Restriction place base facets) formed =
    simple_content_fits solve declared types held are elements targets (variety_of types number) (own_facets_over (variety_of types) (forms.Restriction place base facets))
    (variety_at solve declared types are number (forms.Restriction place base facets) formed refl)
content_fits solve declared types held are elements targets fit number (forms.List place item) formed =
    simple_content_fits solve declared types held are elements targets (variety_of types number) (own_facets_over (variety_of types) (forms.List place item))
    (variety_at solve declared types are number (forms.List place item) formed refl)
content_fits solve declared types held are elements targets fit number (forms.SimpleContent base facets) formed =
    simple_type_of_base declared types held are elements targets (simple_base types base)
    (simple_base_is_simple declared types are base (are.read number (forms.SimpleContent base facets) formed) (simple_content_base declared types are number base facets formed))
content_fits solve declared types held are elements targets fit number (forms.ComplexContent base) formed = fit.content number

restricted_base_fits : VarietiesSolve → (declared : List TypeName) (types : List TypeForm) (held : HeldByTypes) → AreReadTypes declared types → (elements : List GlobalElement) (targets : List (List ℕ)) (base : Base) (own : Facets) →
    IsReadBase (length declared) base → IsNotComplex types base →
    BaseFits (schemas_with declared types held elements targets) (simple_content declared (variety_of_base (variety_of types) base) own) (base_name declared base)
restricted_base_fits solve declared types held are elements targets base own read plain = elim (variety_of_base_is_simple solve declared types are base read (plain_has_none types base plain)) [
  | inl (bottom, e) ↦
      subst (λ (v : TypeVariety). BaseFits (schemas_with declared types held elements targets) (simple_content declared v own) (base_name declared base)) (sym e)
      (atomic_base declared types held are elements targets base bottom read plain e)
  | inr (number, place, item, e, here) ↦
      subst (λ (v : TypeVariety). BaseFits (schemas_with declared types held elements targets) (simple_content declared v own) (base_name declared base)) (sym e)
      (inr (list_base declared types held are elements targets base item read plain e))
]

base_fits : VarietiesSolve → (declared : List TypeName) (types : List TypeForm) (held : HeldByTypes) → AreReadTypes declared types → (elements : List GlobalElement) (targets : List (List ℕ)) (number : ℕ) (form : TypeForm) →
    slice_get types number ≡ Some form → BaseFits (schemas_with declared types held elements targets) (content_declared declared types (meanings_with types held) number form) (derived_from_name declared form)
base_fits solve declared types held are elements targets number (forms.Restriction place base facets) formed =
    let own = own_facets_over (variety_of types) (forms.Restriction place base facets) in
    subst (λ (v : TypeVariety). BaseFits (schemas_with declared types held elements targets) (simple_content declared v own) (base_name declared base)) (sym (solve types number (forms.Restriction place base facets) formed (are.circles number)))
    (restricted_base_fits solve declared types held are elements targets base own (are.read number (forms.Restriction place base facets) formed) (not_complex types are.circles base (are.faults.bases number place base facets formed)))
base_fits solve declared types held are elements targets number (forms.List place item) formed =
    let own = own_facets_over (variety_of types) (forms.List place item) in
    subst (λ (v : TypeVariety). BaseFits (schemas_with declared types held elements targets) (simple_content declared v own) (names.Builtin AnySimple)) (sym (solve types number (forms.List place item) formed (are.circles number)))
    (inl refl)
base_fits solve declared types held are elements targets number (forms.SimpleContent base facets) formed =
    inr (named_base declared types held are elements targets base (are.read number (forms.SimpleContent base facets) formed))
base_fits solve declared types held are elements targets number (forms.ComplexContent None) formed = inl refl
base_fits solve declared types held are elements targets number (forms.ComplexContent (Some base)) formed =
    inr (named_base declared types held are elements targets base (are.read number (forms.ComplexContent (Some base)) formed))

is_declaration : VarietiesSolve → (declared : List TypeName) (types : List TypeForm) (held : HeldByTypes) → AreReadTypes declared types → (elements : List GlobalElement) (targets : List (List ℕ)) →
    HoldWhatFits (schemas_with declared types held elements targets) held → (number : ℕ) (name : TypeName) (form : TypeForm) →
    slice_get declared number ≡ Some name → slice_get types number ≡ Some form → IsDeclarationOf (schemas_with declared types held elements targets) (declared_type declared types held number name form)
is_declaration solve declared types held are elements targets fit number name form named formed = record {
  named = are.named number name named;
  base = base_fits solve declared types held are elements targets number form formed;
  content = content_fits solve declared types held are elements targets fit number form formed;
  attributes = fit.attributes number;
  distinct = fit.distinct number;
}

pub all_are_declarations : VarietiesSolve → (declared : List TypeName) (types : List TypeForm) (held : HeldByTypes) → AreReadTypes declared types → (elements : List GlobalElement) (targets : List (List ℕ)) →
    HoldWhatFits (schemas_with declared types held elements targets) held → HoldsOfEach (IsDeclarationOf (schemas_with declared types held elements targets)) (types_with declared types held)
all_are_declarations solve declared types held are elements targets fit =
    holds_of_each (IsDeclarationOf (schemas_with declared types held elements targets)) (types_with declared types held)
    (λ number found here.
    let (name, form, named, formed, it) = form_at declared types held number found here in
    subst (IsDeclarationOf (schemas_with declared types held elements targets)) (sym it) (is_declaration solve declared types held are elements targets fit number name form named formed))
