-- The types of elements are known.
use Rattle.std.proofs.Common.{◌≡◌, ℕ, Bool, true, false, List, [], ◌∷◌, inl, inr, refl, sym, ◌∙◌, ap, subst, Option, Some, None, if◌then◌else◌}
use Rattle.std.specs.Prelude.{codes, is_some, bytes_eq, unwrap_or, IsSome}
use Rattle.std.specs.Option.{option_map}
use Rattle.gx_base.specs.Name.{same_name}
use Rattle.gx_base.specs.declared.name.Name.{Name}
use Rattle.gx_base.specs.declared.type_name.Builtin.{Builtin}
use Rattle.gx_base.specs.declared.type_name.Builtin.TheVariants as builtins
use Rattle.gx_base.specs.declared.type_name.TypeName.{TypeName}
use Rattle.gx_base.specs.declared.type_name.TypeName.TheVariants as names
use Rattle.gx_types.specs.SameItemType.{same_type_name}
use Rattle.gx_types.specs.SchemaSet.{SchemaSet, declaration_among, declaration_of, global_type, type_of_element}
use Rattle.gx_types.specs.SchemaInvariant.{IsSchemaSet, HoldsOfEach, is_named_type, is_nameable}
use Rattle.gx_types.specs.Derivation.{bases_of, is_derived, DerivesFrom}
use Rattle.gx_types.specs.Grounded.{Grounded}
use Rattle.gx_types.specs.declared.declaration.Declared.{Declared}
use Rattle.gx_types.specs.declared.declaration.GlobalElement.{GlobalElement}
use Rattle.gx_types.proofs.PublicLaws.{equality_is_an_equivalence}
use Rattle.gx_types.proofs.DerivationTest.{derives_when_tested, tested_when_derives}
use Rattle.gx_xml.specs.declared.source.Declaration.{Declaration}
use Rattle.gx_xml.specs.declared.source.SourceAttribute.{SourceAttribute}
use Rattle.gx_qnames.specs.Builtins.{BuiltinRows, builtin_among, nameable_builtin, named_builtin}
use Rattle.gx_qnames.specs.Lexical.{is_qname}
use Rattle.gx_qnames.specs.Scope.{reference_in}
use Rattle.gx_qnames.specs.Words.{is_schema_uri}
use Rattle.gx_qnames.specs.declared.reference.Reference.{Reference}
use Rattle.gx_validate.specs.InstanceAttributes.{given_type}
use Rattle.gx_validate.specs.Annotation.{annotation, annotation_given, where_derived, type_named_in, bound_type, built_in_type, or_declared_type, known_type, without_space_around}
use Rattle.gx_validate.specs.Outcome.{root_type}
use Rattle.gx_validate.specs.Valid.{IsAnnotation}

-- ---- declarations

-- equal types have one declaration
declaration_agrees : (types : List Declared) (t u : TypeName) → same_type_name t u ≡ true → declaration_among types t ≡ declaration_among types u
declaration_agrees [] t u h = refl
declaration_agrees (d ∷ ds) t u h =
    let laws = equality_is_an_equivalence.type_names in
    let e : same_type_name d.name t ≡ same_type_name d.name u = laws.symm d.name t ∙ laws.congr t u d.name h ∙ laws.symm u d.name in
    ap (λ (b : Bool). if b then Some d else declaration_among ds t) e
    ∙ ap (λ (o : Option Declared). if same_type_name d.name u then Some d else o) (declaration_agrees ds t u h)

found_step : (x d : Declared) (t : TypeName) (others : Option Declared) (b : Bool) → same_type_name x.name t ≡ b → (if b then Some x else others) ≡ Some d
    → (others ≡ Some d → same_type_name d.name t ≡ true) → same_type_name d.name t ≡ true
found_step x d t others true e h k = let one : x ≡ d = cc in subst (λ (y : Declared). same_type_name y.name t ≡ true) one e
found_step x d t others false e h k = k h

-- a declaration that is found has the name
found_is_named : (types : List Declared) (t : TypeName) (d : Declared) → declaration_among types t ≡ Some d → same_type_name d.name t ≡ true
found_is_named [] t d h = absurd (cc)
found_is_named (x ∷ xs) t d h = found_step x d t (declaration_among xs t) (same_type_name x.name t) refl h (found_is_named xs t d)

each_step : (P : Declared → Type 0) (x d : Declared) (others : Option Declared) (b : Bool) → P x → (if b then Some x else others) ≡ Some d → (others ≡ Some d → P d) → P d
each_step P x d others true p h k = let one : x ≡ d = cc in subst P one p
each_step P x d others false p h k = k h

-- what holds of each declaration
pub holds_of_found : (P : Declared → Type 0) (types : List Declared) (t : TypeName) (d : Declared) → HoldsOfEach P types → declaration_among types t ≡ Some d → P d
holds_of_found P [] t d p h = absurd (cc)
holds_of_found P (x ∷ xs) t d p h = each_step P x d (declaration_among xs t) (same_type_name x.name t) p.0 h (holds_of_found P xs t d p.1)

-- ---- known types

known_by_name : (s : SchemaSet) (t : TypeName) (n : Name) (d : Declared) → same_type_name t (names.Named n) ≡ true → declaration_of s (names.Named n) ≡ Some d → is_named_type s t ≡ true
known_by_name s (names.Builtin b) n d h e = absurd (cc)
known_by_name s (names.Named m) n d h e = ap is_some (declaration_agrees s.types (names.Named m) (names.Named n) h ∙ e)
known_by_name s (names.Anonymous k) n d h e = absurd (cc)

declared_is_known : (s : SchemaSet) (n : Name) (t : TypeName) (o : Option Declared) → declaration_of s (names.Named n) ≡ o → option_map (λ (d : Declared). d.name) o ≡ Some t → is_named_type s t ≡ true
declared_is_known s n t None e h = absurd (cc)
declared_is_known s n t (Some d) e h =
    let one : d.name ≡ t = cc in
    subst (λ (u : TypeName). is_named_type s u ≡ true) one (known_by_name s d.name n d (found_is_named s.types (names.Named n) d e) e)

row_step : (rest : Option Builtin) (one found : Builtin) (b : Bool) → (if b then Some one else rest) ≡ Some found → is_nameable one ≡ true → (rest ≡ Some found → is_nameable found ≡ true) → is_nameable found ≡ true
row_step rest one found true h k l = let e : one ≡ found = cc in subst (λ (x : Builtin). is_nameable x ≡ true) e k
row_step rest one found false h k l = l h

row_is_nameable : (rows : BuiltinRows) (local : List ℕ) (found : Builtin) → HoldsOfEach (λ (row : List ℕ × Builtin). is_nameable row.1 ≡ true) rows → builtin_among rows local ≡ Some found → is_nameable found ≡ true
row_is_nameable [] local found p h = absurd (cc)
row_is_nameable (row ∷ rows) local found p h =
    row_step (builtin_among rows local) row.1 found (bytes_eq row.0 local) h p.0 (row_is_nameable rows local found p.1)

-- the built-in types that have a name
abbrev rows_of_builtins : BuiltinRows
rows_of_builtins =
    (codes "string", builtins.Str) ∷ (codes "normalizedString", builtins.NormalizedStr) ∷ (codes "token", builtins.Token) ∷ (codes "boolean", builtins.Boolean) ∷ (codes "decimal", builtins.Decimal)
    ∷ (codes "integer", builtins.Integer) ∷ (codes "nonPositiveInteger", builtins.NonPositive) ∷ (codes "negativeInteger", builtins.Negative) ∷ (codes "long", builtins.Long) ∷ (codes "int", builtins.Int)
    ∷ (codes "short", builtins.Short) ∷ (codes "byte", builtins.Byte) ∷ (codes "nonNegativeInteger", builtins.NonNegative) ∷ (codes "unsignedLong", builtins.UnsignedLong) ∷ (codes "unsignedInt", builtins.UnsignedInt)
    ∷ (codes "unsignedShort", builtins.UnsignedShort) ∷ (codes "unsignedByte", builtins.UnsignedByte) ∷ (codes "positiveInteger", builtins.Positive) ∷ []

rows_are_nameable : HoldsOfEach (λ (row : List ℕ × Builtin). is_nameable row.1 ≡ true) rows_of_builtins
rows_are_nameable = (refl, (refl, (refl, (refl, (refl, (refl, (refl, (refl, (refl, (refl, (refl, (refl, (refl, (refl, (refl, (refl, (refl, (refl, tt))))))))))))))))))

nameable : (local : List ℕ) (found : Builtin) → nameable_builtin local ≡ Some found → is_nameable found ≡ true
unfolding nameable_builtin
nameable local found h = row_is_nameable rows_of_builtins local found rows_are_nameable h

built_in_is_nameable : (reference : Reference) (builtin : Builtin) (b : Bool) → (if b then (named_builtin reference) else None) ≡ Some builtin → is_nameable builtin ≡ true
built_in_is_nameable reference builtin true h = nameable _ builtin h
built_in_is_nameable reference builtin false h = absurd (cc)

known_is_known : (s : SchemaSet) (reference : Reference) (t : TypeName) (o : Option Builtin) → built_in_type reference ≡ o → or_declared_type s reference.name o ≡ Some t → is_named_type s t ≡ true
known_is_known s reference t None e h = declared_is_known s reference.name t (declaration_of s (names.Named reference.name)) refl h
known_is_known s reference t (Some builtin) e h =
    let one : names.Builtin builtin ≡ t = cc in
    subst (λ (u : TypeName). is_named_type s u ≡ true) one (built_in_is_nameable reference builtin (is_schema_uri reference.name.uri) e)

bound_is_known : (s : SchemaSet) (reference : Reference) (t : TypeName) (b : Bool) → (if b then (known_type s reference) else None) ≡ Some t → is_named_type s t ≡ true
bound_is_known s reference t true h = known_is_known s reference t (built_in_type reference) refl h
bound_is_known s reference t false h = absurd (cc)

qname_is_known : (s : SchemaSet) (reference : Reference) (t : TypeName) (b : Bool) → (if b then (bound_type s reference) else None) ≡ Some t → is_named_type s t ≡ true
qname_is_known s reference t true h = bound_is_known s reference t reference.is_bound h
qname_is_known s reference t false h = absurd (cc)

-- the type that a text names
type_named_is_known : (s : SchemaSet) (scope : List Declaration) (value : List ℕ) (t : TypeName) → type_named_in s scope value ≡ Some t → is_named_type s t ≡ true
type_named_is_known s scope value t h = qname_is_known s (reference_in scope value) t (is_qname value) h

-- ---- annotations

-- the annotation is what validation finds
pub annotation_is : (s : SchemaSet) (scope : List Declaration) (declared : TypeName) (attributes : List SourceAttribute) (kind : TypeName) → Grounded (bases_of s)
    → IsAnnotation s scope declared attributes kind → annotation s scope declared attributes ≡ Some kind
annotation_is s scope declared attributes kind g (inl h) = ap (annotation_given s scope declared) h.0 ∙ ap Some (sym h.1)
annotation_is s scope declared attributes kind g (inr h) =
    ap (annotation_given s scope declared) h.1 ∙ ap (where_derived s declared) h.2
    ∙ ap (λ (b : Bool). if b then Some kind else None) (tested_when_derives s kind declared g h.3)

derived_step : (s : SchemaSet) (declared t kind : TypeName) (b : Bool) → is_derived s t declared ≡ b → (if b then Some t else None) ≡ Some kind → (t ≡ kind) × DerivesFrom s kind declared
derived_step s declared t kind true e h = let one : t ≡ kind = cc in (one, subst (λ (u : TypeName). DerivesFrom s u declared) one (derives_when_tested s t declared e))
derived_step s declared t kind false e h = absurd (cc)

named_step : (s : SchemaSet) (declared kind : TypeName) (named o : Option TypeName) → named ≡ o → where_derived s declared o ≡ Some kind → (named ≡ Some kind) × DerivesFrom s kind declared
named_step s declared kind named None e h = absurd (cc)
named_step s declared kind named (Some t) e h =
    let q = derived_step s declared t kind (is_derived s t declared) refl h in (e ∙ ap Some q.0, q.1)

given_step : (s : SchemaSet) (scope : List Declaration) (declared : TypeName) (attributes : List SourceAttribute) (kind : TypeName) (o : Option (List ℕ))
    → given_type attributes ≡ o → annotation_given s scope declared o ≡ Some kind → IsAnnotation s scope declared attributes kind
given_step s scope declared attributes kind None e h = let one : kind ≡ declared = cc in inl (e, one)
given_step s scope declared attributes kind (Some value) e h =
    let q = named_step s declared kind (type_named_in s scope (without_space_around value)) (type_named_in s scope (without_space_around value)) refl h in inr (value, e, q.0, q.1)

pub is_annotation : (s : SchemaSet) (scope : List Declaration) (declared : TypeName) (attributes : List SourceAttribute) (kind : TypeName)
    → annotation s scope declared attributes ≡ Some kind → IsAnnotation s scope declared attributes kind
is_annotation s scope declared attributes kind h = given_step s scope declared attributes kind (given_type attributes) refl h

-- it is known where the declared type is
pub annotation_is_known : (s : SchemaSet) (scope : List Declaration) (declared : TypeName) (attributes : List SourceAttribute) (kind : TypeName)
    → is_named_type s declared ≡ true → IsAnnotation s scope declared attributes kind → is_named_type s kind ≡ true
annotation_is_known s scope declared attributes kind k (inl h) = subst (λ (t : TypeName). is_named_type s t ≡ true) (sym h.1) k
annotation_is_known s scope declared attributes kind k (inr h) = type_named_is_known s scope (without_space_around h.0) kind h.2

-- ---- roots

element_step : (s : SchemaSet) (x : GlobalElement) (rest : Option TypeName) (b : Bool) → is_named_type s x.kind ≡ true → IsSome (if b then Some x.kind else rest)
    → (IsSome rest → is_named_type s (unwrap_or rest (names.Builtin builtins.Untyped)) ≡ true)
    → is_named_type s (unwrap_or (if b then Some x.kind else rest) (names.Builtin builtins.Untyped)) ≡ true
element_step s x rest true k h l = k
element_step s x rest false k h l = l h

elements_are_known : (s : SchemaSet) (elements : List GlobalElement) (root : Name) → HoldsOfEach (λ (element : GlobalElement). is_named_type s element.kind ≡ true) elements
    → IsSome (type_of_element elements root) → is_named_type s (unwrap_or (type_of_element elements root) (names.Builtin builtins.Untyped)) ≡ true
elements_are_known s [] root p h = absurd (cc)
elements_are_known s (x ∷ xs) root p h =
    element_step s x (type_of_element xs root) (same_name x.name root) p.0 h (elements_are_known s xs root p.1)

pub root_is_known : (s : SchemaSet) (root : Name) → IsSchemaSet s → IsSome (global_type s root) → is_named_type s (root_type s root) ≡ true
root_is_known s root i h = elements_are_known s s.elements root i.elements h
