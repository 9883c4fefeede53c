-- Nodes of types that have typed values: their values fit, and the type's values take them.
use Rattle.std.proofs.Common.{◌≡◌, ℕ, Bool, true, false, List, [], ◌∷◌, map, refl, sym, ◌∙◌, ap, subst, Option, Some, None, Result, Ok, Err, if◌then◌else◌}
use Rattle.std.specs.Prelude.{is_ok, is_none, is_some}
use Rattle.std.specs.List.{list_all}
use Rattle.std.specs.Option.{option_map}
use Rattle.std.specs.Result.{result_ok}
use Rattle.gx_base.specs.declared.type_name.Builtin.{Builtin}
use Rattle.gx_base.specs.declared.type_name.Builtin.TheVariants as types
use Rattle.gx_base.specs.declared.type_name.TypeName.{TypeName}
use Rattle.gx_base.specs.declared.type_name.TypeName.TheVariants as names
use Rattle.gx_facets.specs.declared.Atomic.{Atomic}
use Rattle.gx_facets.specs.declared.ValueRead.{ValueRead}
use Rattle.gx_facets.specs.declared.ValueRead.TheVariants.{NotLexical}
use Rattle.gx_types.specs.BaseChain.{own_content}
use Rattle.gx_types.specs.SchemaSet.{SchemaSet, declaration_of}
use Rattle.gx_types.specs.SchemaInvariant.{IsSchemaSet, HoldsOfEach, ContentFits, is_nameable, is_atomic_type, is_simple_type, is_named_type, is_simple_content, is_atomic_content, content_is}
use Rattle.gx_types.specs.SimpleType.{AtomicMeaning, SimpleMeaning, simple_meaning, meaning_of_content, simple_meaning_of}
use Rattle.gx_types.specs.SimpleValue.{atomic_value, with_first, each_value, item_texts, value_texts, admits_values, admitted_values, values_at}
use Rattle.gx_types.specs.SequenceType.{SequenceType, nothing}
use Rattle.gx_types.specs.Derivation.{DerivesFrom}
use Rattle.gx_types.specs.Takes.{Takes}
use Rattle.gx_types.specs.declared.declaration.Content.{Content}
use Rattle.gx_types.specs.declared.declaration.Content.TheVariants as contents
use Rattle.gx_types.specs.declared.declaration.Declared.{Declared}
use Rattle.gx_types.specs.declared.shape.Shape.{Shape}
use Rattle.gx_types.specs.declared.shape.Shape.TheVariants as shapes
use Rattle.gx_types.specs.declared.simple_type.Variety.{Variety}
use Rattle.gx_types.specs.declared.simple_type.Variety.TheVariants as varieties
use Rattle.gx_types.proofs.PublicLaws.{derivation_is_a_preorder}
use Rattle.gx_model.specs.Belongs.{ValueFits}
use Rattle.gx_model.specs.DeclaredContent.{is_valued, model_in}
use Rattle.gx_model.specs.DeclaredContent as declarations
use Rattle.gx_model.specs.TypedValue.{untyped_atomic, untyped_value, simple_value, value_by_content, declared_value, value_at_type}
use Rattle.gx_steptype.specs.DataType.{atomic_item, list_of_items, untyped_atomic_type as untyped_item, simple_values, values_by_content, declared_values, content_values, values_declared, values_of_type, has_value, value_type, value_type_of}
use Rattle.gx_steptype.proofs.Declarations.{declared_is, builtin_is_undeclared}
use Rattle.gx_steptype.proofs.Replacing.{star_next}
use Rattle.gx_steptype.proofs.ReadValues.{ReadsFit, atomic_type_reads}

-- ---- the values that a text is read as

abbrev pub atom_shape : Atomic → Shape
atom_shape a = shapes.Atom a.kind

abbrev pub FitsItsType : SchemaSet → Atomic → Type 0
FitsItsType s a = ValueFits s a.value a.kind

-- values that fit their types, and whose shapes a type takes
pub record AreOfType (s : SchemaSet) (T : SequenceType) (values : List Atomic) : Type 0 where
  pub fit : HoldsOfEach (FitsItsType s) values
  pub taken : Takes s T (map atom_shape values)

-- one value of an atomic type, or any number of them
abbrev variety_type : Variety → TypeName → SequenceType
variety_type varieties.Atomic kind = atomic_item kind
variety_type varieties.List kind = list_of_items kind

takes_its_kind : (s : SchemaSet) (kind : TypeName) (a : Atomic) → a.kind ≡ kind → Takes s (atomic_item kind) (atom_shape a ∷ [])
takes_its_kind s kind a e =
    (atom_shape a, refl, subst (λ (k : TypeName). DerivesFrom s a.kind k) e (derivation_is_a_preorder.reflexive s a.kind))

with_first_is : (first : Result Atomic ValueRead) (others : Result (List Atomic) ValueRead) (values : List Atomic) → with_first first others ≡ Ok values
    → (a : Atomic) × (rest : List Atomic) × (first ≡ Ok a) × (others ≡ Ok rest) × (values ≡ a ∷ rest)
with_first_is (Ok a) (Ok rest) values e = (a, rest, refl, refl, cc)
with_first_is (Ok a) (Err fault) values e = absurd (cc)
with_first_is (Err fault) others values e = absurd (cc)

-- the items of a list
items_are : (s : SchemaSet) (m : AtomicMeaning) → ReadsFit s m → (texts : List (List ℕ)) (values : List Atomic) → each_value m texts ≡ Ok values → AreOfType s (list_of_items m.kind) values
items_are s m reads [] values e =
    let none : [] ≡ values = cc in
    subst (AreOfType s (list_of_items m.kind)) none (record { fit = tt; taken = ([], refl, tt) })
items_are s m reads (text ∷ texts) values e =
    let r = with_first_is (atomic_value m text) (each_value m texts) values e in
    let q = items_are s m reads texts r.1 r.3 in
    let a = reads text r.0 r.2 in
    subst (AreOfType s (list_of_items m.kind)) (sym r.4)
    (record { fit = (a.1, q.fit); taken = star_next s (atomic_item m.kind) (atom_shape r.0) (map atom_shape r.1) (takes_its_kind s m.kind r.0 a.0) q.taken })

one_is : (s : SchemaSet) (m : AtomicMeaning) → ReadsFit s m → (text : List ℕ) (values : List Atomic) → each_value m (text ∷ []) ≡ Ok values → AreOfType s (atomic_item m.kind) values
one_is s m reads text values e =
    let r = with_first_is (atomic_value m text) (Ok []) values e in
    let a = reads text r.0 r.2 in
    let none : [] ≡ r.1 = cc in
    let is : r.0 ∷ [] ≡ values = ap (λ l. r.0 ∷ l) none ∙ sym r.4 in
    subst (AreOfType s (atomic_item m.kind)) is (record { fit = (a.1, tt); taken = takes_its_kind s m.kind r.0 a.0 })

texts_are : (s : SchemaSet) (variety : Variety) (m : AtomicMeaning) → ReadsFit s m → (text : List ℕ) (values : List Atomic) → each_value m (value_texts variety text) ≡ Ok values
    → AreOfType s (variety_type variety m.kind) values
texts_are s varieties.Atomic m reads text values e = one_is s m reads text values e
texts_are s varieties.List m reads text values e = items_are s m reads (item_texts text) values e

passed : (values all : List Atomic) (b : Bool) → (if b then Ok values else Err NotLexical) ≡ Ok all → values ≡ all
passed values all true e = cc
passed values all false e = absurd (cc)

admitted_are : (m : SimpleMeaning) (read : Result (List Atomic) ValueRead) (values : List Atomic) → admitted_values m read ≡ Ok values → read ≡ Ok values
admitted_are m (Ok values) all e = ap (λ vs. Ok vs) (passed values all (list_all (λ f. admits_values m.variety f values) m.facets) e)
admitted_are m (Err fault) all e = absurd (cc)

-- a type with this meaning has values of a type
record MeansType (s : SchemaSet) (m : SimpleMeaning) (T : SequenceType) : Type 0 where
  reads : ReadsFit s m.item
  type : variety_type m.variety m.item.kind ≡ T

values_are : (s : SchemaSet) (m : SimpleMeaning) (T : SequenceType) → MeansType s m T → (text : List ℕ) (values : List Atomic) → values_at m text ≡ Ok values → AreOfType s T values
values_are s m T means text values e =
    subst (λ (t : SequenceType). AreOfType s t values) means.type
    (texts_are s m.variety m.item means.reads text values (admitted_are m (each_value m.item (value_texts m.variety text)) values e))

-- ---- types with simple values

-- what a built-in type that declarations may name gives its nodes
pub record NameableRules (s : SchemaSet) (b : Builtin) : Type 0 where
  pub simple : simple_values s (names.Builtin b) ≡ atomic_item (names.Builtin b)
  pub type : value_type_of s (names.Builtin b) ≡ atomic_item (names.Builtin b)
  pub value : (text : List ℕ) → value_at_type s (names.Builtin b) text ≡ simple_value s (names.Builtin b) text
  pub has : has_value (values_of_type s (names.Builtin b)) ≡ true

pub nameable_rules : (s : SchemaSet) (b : Builtin) → is_nameable b ≡ true → NameableRules s b
nameable_rules s types.AnyType h = absurd (cc)
nameable_rules s types.Untyped h = absurd (cc)
nameable_rules s types.AnySimple h = absurd (cc)
nameable_rules s types.AnyAtomic h = absurd (cc)
nameable_rules s types.UntypedAtomic h = absurd (cc)
nameable_rules s _ h = record { simple = refl; type = refl; value = λ text. refl; has = refl }

simple_content_means : (s : SchemaSet) → IsSchemaSet s → (t : TypeName) (content : Content) → (is_atomic_content content ≡ true → is_atomic_type s t ≡ true) → is_simple_content content ≡ true
    → ContentFits s content → MeansType s (simple_meaning s.types t (Some content)) (values_by_content t content)
simple_content_means s i t (contents.Atomic facets) at h f = record { reads = atomic_type_reads s i t (at refl); type = refl }
simple_content_means s i t (contents.List other facets) at h f = record { reads = atomic_type_reads s i other f; type = refl }
simple_content_means s i t (contents.Simple kind facets) at h f = absurd (cc)
simple_content_means s i t (contents.Complex mixed model) at h f = absurd (cc)

declared_means : (s : SchemaSet) → IsSchemaSet s → (t : TypeName) (o : Option Declared) → declaration_of s t ≡ o → (content_is o is_atomic_content ≡ true → is_atomic_type s t ≡ true)
    → content_is o is_simple_content ≡ true → MeansType s (simple_meaning s.types t (option_map (λ (d : Declared). d.content) o)) (declared_values t o)
declared_means s i t None e at h = absurd (cc)
declared_means s i t (Some d) e at h = let is = declared_is s t d i e in simple_content_means s i t d.content at h is.content

simple_type_means : (s : SchemaSet) → IsSchemaSet s → (t : TypeName) → is_simple_type s t ≡ true → MeansType s (simple_meaning s.types t (own_content s.types t)) (simple_values s t)
simple_type_means s i (names.Builtin b) h =
    let r = nameable_rules s b h in record { reads = atomic_type_reads s i (names.Builtin b) h; type = sym r.simple }
simple_type_means s i (names.Named n) h = declared_means s i (names.Named n) (declaration_of s (names.Named n)) refl (λ e. e) h
simple_type_means s i (names.Anonymous n) h = declared_means s i (names.Anonymous n) (declaration_of s (names.Anonymous n)) refl (λ e. e) h

-- ---- nodes

-- there is a typed value, of a type
pub record HasValue (s : SchemaSet) (value : Option (List Atomic)) (T : SequenceType) : Type 0 where
  pub values : List Atomic
  pub are : value ≡ Some values
  pub fitting : AreOfType s T values

read_step : (s : SchemaSet) (m : SimpleMeaning) (T : SequenceType) → MeansType s m T → (text : List ℕ) (read : Result (List Atomic) ValueRead) → values_at m text ≡ read → is_ok read ≡ true
    → HasValue s (result_ok read) T
read_step s m T means text (Ok values) e h = record { values = values; are = refl; fitting = values_are s m T means text values e }
read_step s m T means text (Err fault) e h = absurd (cc)

read_has : (s : SchemaSet) (m : SimpleMeaning) (T : SequenceType) → MeansType s m T → (text : List ℕ) → is_ok (values_at m text) ≡ true → HasValue s (result_ok (values_at m text)) T
read_has s m T means text h = read_step s m T means text (values_at m text) refl h

pub untyped_has : (s : SchemaSet) (text : List ℕ) → HasValue s (untyped_value text) untyped_item
untyped_has s text = record {
  values = untyped_atomic text ∷ [];
  are = refl;
  fitting = record { fit = (refl, tt); taken = takes_its_kind s (names.Builtin types.UntypedAtomic) (untyped_atomic text) refl };
}

-- what a declaration gives the nodes of its type

abbrev means_of : SchemaSet → TypeName → SequenceType → Option Content → Type 0
means_of s t T content = MeansType s (meaning_of_content s.types t content) T

content_has : (s : SchemaSet) → IsSchemaSet s → (t : TypeName) (content : Content) → own_content s.types t ≡ Some content → (is_atomic_content content ≡ true → is_atomic_type s t ≡ true)
    → ContentFits s content → has_value (content_values s t content) ≡ true → (text : List ℕ) → (is_none (model_in content) ≡ true → is_valued s t text ≡ true)
    → HasValue s (value_by_content s t content text) (value_type (content_values s t content))
content_has s i t (contents.Atomic facets) e at f h text valued =
    read_has s (simple_meaning_of s t) (atomic_item t) (subst (means_of s t (atomic_item t)) (sym e) (simple_content_means s i t (contents.Atomic facets) at refl f)) text (valued refl)
content_has s i t (contents.List other facets) e at f h text valued =
    read_has s (simple_meaning_of s t) (list_of_items other) (subst (means_of s t (list_of_items other)) (sym e) (simple_content_means s i t (contents.List other facets) at refl f)) text (valued refl)
content_has s i t (contents.Simple kind facets) e at f h text valued =
    let m = simple_type_means s i kind f in
    read_has s (simple_meaning_of s t) (simple_values s kind) (subst (means_of s t (simple_values s kind)) (sym e) (record { reads = m.reads; type = m.type })) text (valued refl)
content_has s i t (contents.Complex true model) e at f h text valued = untyped_has s text
content_has s i t (contents.Complex false nothing) e at f h text valued = record { values = []; are = refl; fitting = record { fit = tt; taken = refl } }
content_has s i t (contents.Complex false _) e at f h text valued = absurd (cc)

declared_has : (s : SchemaSet) → IsSchemaSet s → (t : TypeName) (o : Option Declared) → declaration_of s t ≡ o → own_content s.types t ≡ option_map (λ (d : Declared). d.content) o
    → (content_is o is_atomic_content ≡ true → is_atomic_type s t ≡ true) → has_value (values_declared s t o) ≡ true → (text : List ℕ) → (declarations.has_values o ≡ true → is_valued s t text ≡ true)
    → HasValue s (declared_value s t o text) (value_type (values_declared s t o))
declared_has s i t None e f at h text valued = absurd (cc)
declared_has s i t (Some d) e f at h text valued = let is = declared_is s t d i e in content_has s i t d.content f at is.content h text valued

-- a node of a type that declarations may name has a typed value where the type's nodes have
pub type_has : (s : SchemaSet) → IsSchemaSet s → (t : TypeName) → is_named_type s t ≡ true → has_value (values_of_type s t) ≡ true → (text : List ℕ)
    → (declarations.has_values (declaration_of s t) ≡ true → is_valued s t text ≡ true) → HasValue s (value_at_type s t text) (value_type_of s t)
type_has s i (names.Builtin b) n h text valued =
    let r = nameable_rules s b n in
    let e = builtin_is_undeclared s b i in
    let means : MeansType s (simple_meaning_of s (names.Builtin b)) (value_type_of s (names.Builtin b)) = record { reads = atomic_type_reads s i (names.Builtin b) n; type = sym r.type } in
    subst (λ (v : Option (List Atomic)). HasValue s v (value_type_of s (names.Builtin b))) (sym (r.value text))
    (read_has s (simple_meaning_of s (names.Builtin b)) (value_type_of s (names.Builtin b)) means text (valued (ap declarations.has_values e)))
type_has s i (names.Named m) n h text valued = declared_has s i (names.Named m) (declaration_of s (names.Named m)) refl refl (λ e. e) h text valued
type_has s i (names.Anonymous m) n h text valued = declared_has s i (names.Anonymous m) (declaration_of s (names.Anonymous m)) refl refl (λ e. e) h text valued

-- ---- simple types

simple_is_known : (o : Option Declared) → content_is o is_simple_content ≡ true → is_some o ≡ true
simple_is_known None h = absurd (cc)
simple_is_known (Some d) h = refl

pub simple_is_named : (s : SchemaSet) (t : TypeName) → is_simple_type s t ≡ true → is_named_type s t ≡ true
simple_is_named s (names.Builtin b) h = h
simple_is_named s (names.Named m) h = simple_is_known (declaration_of s (names.Named m)) h
simple_is_named s (names.Anonymous m) h = simple_is_known (declaration_of s (names.Anonymous m)) h

content_gives : (s : SchemaSet) (t : TypeName) (content : Content) → is_simple_content content ≡ true → has_value (content_values s t content) ≡ true
content_gives s t (contents.Atomic facets) h = refl
content_gives s t (contents.List other facets) h = refl
content_gives s t (contents.Simple kind facets) h = absurd (cc)
content_gives s t (contents.Complex mixed model) h = absurd (cc)

declared_gives : (s : SchemaSet) (t : TypeName) (o : Option Declared) → content_is o is_simple_content ≡ true → has_value (values_declared s t o) ≡ true
declared_gives s t None h = absurd (cc)
declared_gives s t (Some d) h = content_gives s t d.content h

pub simple_gives : (s : SchemaSet) (t : TypeName) → is_simple_type s t ≡ true → has_value (values_of_type s t) ≡ true
simple_gives s (names.Builtin b) h = let r = nameable_rules s b h in r.has
simple_gives s (names.Named m) h = declared_gives s (names.Named m) (declaration_of s (names.Named m)) h
simple_gives s (names.Anonymous m) h = declared_gives s (names.Anonymous m) (declaration_of s (names.Anonymous m)) h
