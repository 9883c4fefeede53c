-- Types that are derived from a type.
use Rattle.std.proofs.Common.{◌≡◌, ℕ, Bool, true, false, ◌&&◌, ◌||◌, List, [], ◌∷◌, ◌++◌, map, filter, cond, None, refl, sym, ◌∙◌, ap, subst, if◌then◌else◌}
use Rattle.std.specs.List.{list_all, flat_map}
use Rattle.std.proofs.lemmas.List.{map-append}
use Rattle.std.proofs.lemmas.List.Elements.{filter-append}
use Rattle.std.proofs.lemmas.List.Folds.{list_all-append}
use Rattle.gx_base.specs.declared.name.Name.{Name}
use Rattle.gx_base.specs.declared.type_name.Builtin.{Builtin}
use Rattle.gx_base.specs.declared.type_name.Builtin.TheVariants.{AnyType, Untyped, AnySimple, AnyAtomic, UntypedAtomic, Str, NormalizedStr, Token, Boolean, Decimal, Integer, NonPositive, Negative, Long, Int, Short, Byte, NonNegative, UnsignedLong, UnsignedInt, UnsignedShort, UnsignedByte, Positive}
use Rattle.gx_base.specs.declared.type_name.TypeName.{TypeName}
use Rattle.gx_base.specs.declared.type_name.TypeName.TheVariants as names
use Rattle.gx_types.specs.declared.declaration.Declared.{Declared}
use Rattle.gx_types.specs.declared.item_type.ItemType.{ItemType}
use Rattle.gx_types.specs.declared.item_type.ItemType.TheVariants as items
use Rattle.gx_types.specs.SchemaSet.{SchemaSet, declared_types, names_declared}
use Rattle.gx_types.specs.Derivation.{is_derived}
use Rattle.gx_types.specs.SequenceType.{SequenceType}
use Rattle.gx_types.specs.Indicator.{star_of}
use Rattle.gx_types.specs.TypeRules.{factored}
use Rattle.gx_model.specs.NodeTest.{KindTest}
use Rattle.gx_include_derivations.specs.Asked.{is_asked, types_asked}
use Rattle.gx_include_derivations.specs.Derivations.{derived_types}
use Rattle.gx_steptype.specs.Replaced.{replaced_items}
use Rattle.gx_steptype.specs.DerivedTypes.{listed_builtins, listed_names, derived_among, over_derived}
use Rattle.gx_steptype.specs.TestedType.{tested_item}
use Rattle.gx_steptype.specs.StepType.{attributes_of_type, has_one_name, any_attributes, attributes_behind, attribute_content}
use Rattle.gx_steptype.specs.DataType.{has_value, values_of_type, have_values}

-- what stands for the types of two lists stands for all of them
pub derived_all : (s : SchemaSet) (kind : TypeName) (f : TypeName → SequenceType) (first second : List TypeName)
    → map f (derived_among s kind first) ++ map f (derived_among s kind second) ≡ map f (derived_among s kind (first ++ second))
derived_all s kind f first second =
    sym (map-append f (derived_among s kind first) (derived_among s kind second)) ∙ ap (map f) (sym (filter-append (λ u. is_derived s u kind) first second))

-- the declared types of which an element of a type may have one are those that are derived from it

asked_among : (s : SchemaSet) (kind : TypeName) (types : List Declared)
    → flat_map (λ (declared : Declared). if is_asked s (items.Element None kind ∷ []) declared.name then declared.name ∷ [] else []) types ≡ filter (λ t. is_derived s t kind) (names_declared types)
asked_among s kind [] = refl
asked_among s kind (declared ∷ types) = by (is_derived s declared.name kind) (asked_among s kind types)
  where
    asked : List TypeName
    asked = flat_map (λ (d : Declared). if is_asked s (items.Element None kind ∷ []) d.name then d.name ∷ [] else []) types

    derived : List TypeName
    derived = filter (λ t. is_derived s t kind) (names_declared types)

    by : (b : Bool) → asked ≡ derived → (if b || false then declared.name ∷ [] else []) ++ asked ≡ cond b (declared.name ∷ derived) derived
    by true e = ap (λ (ts : List TypeName). declared.name ∷ ts) e
    by false e = e

pub asked_are_derived : (s : SchemaSet) (kind : TypeName) → types_asked s (items.Element None kind ∷ []) ≡ derived_types s kind
asked_are_derived s kind = asked_among s kind s.types

-- typed values of all derived types

abbrev all_have : SchemaSet → TypeName → List TypeName → Bool
all_have s kind types = list_all (λ t. has_value (values_of_type s t)) (derived_among s kind types)

both_have : (s : SchemaSet) (kind : TypeName) → have_values s kind ≡ (all_have s kind (listed_names listed_builtins) && all_have s kind (declared_types s))
both_have s kind =
    ap (list_all (λ t. has_value (values_of_type s t))) (filter-append (λ u. is_derived s u kind) (listed_names listed_builtins) (declared_types s))
    ∙ list_all-append (λ t. has_value (values_of_type s t)) (derived_among s kind (listed_names listed_builtins)) (derived_among s kind (declared_types s))

pub all_if_both : (s : SchemaSet) (kind : TypeName) (first second : Bool) → first ≡ all_have s kind (listed_names listed_builtins) → first ≡ true → second ≡ all_have s kind (declared_types s)
    → second ≡ have_values s kind
all_if_both s kind first second e f g = g ∙ sym (both_have s kind ∙ ap (λ b. b && all_have s kind (declared_types s)) (sym e ∙ f))

pub none_if_first : (s : SchemaSet) (kind : TypeName) (first : Bool) → first ≡ all_have s kind (listed_names listed_builtins) → first ≡ false → first ≡ have_values s kind
none_if_first s kind first e f = f ∙ sym (both_have s kind ∙ ap (λ b. b && all_have s kind (declared_types s)) (sym e ∙ f))

-- attributes under another test than one name

pub many_attributes : (s : SchemaSet) (test : KindTest) (kind : ItemType) (one many : SequenceType) → false ≡ has_one_name test → one ≡ tested_item s test kind → many ≡ star_of one
    → factored many ≡ any_attributes s test kind
many_attributes s test kind one many e f g =
    ap factored (g ∙ ap star_of f) ∙ ap (λ (b : Bool). if b then tested_item s test kind else factored (star_of (tested_item s test kind))) e

pub attributes_are_behind : (s : SchemaSet) (test : KindTest) (kind : TypeName) (all kept : SequenceType) → false ≡ has_one_name test → all ≡ over_derived s (attributes_of_type s) kind → kept ≡ replaced_items (tested_item s test) all
    → factored kept ≡ attributes_behind s test kind
attributes_are_behind s test kind all kept e f g =
    ap factored (g ∙ ap (replaced_items (tested_item s test)) f)
    ∙ ap (λ (b : Bool). if b then replaced_items (tested_item s test) (over_derived s (attributes_of_type s) kind) else factored (replaced_items (tested_item s test) (over_derived s (attributes_of_type s) kind))) e

-- attributes of the built-in types but xs:anyType and xs:untyped
pub other_attributes : (s : SchemaSet) (test : KindTest) (b : Builtin) → (b ≡ AnyType → ⊥) → (b ≡ Untyped → ⊥) → attributes_behind s test (names.Builtin b) ≡ attribute_content s test (names.Builtin b)
other_attributes s test AnyType h k = absurd (h refl)
other_attributes s test Untyped h k = absurd (k refl)
other_attributes s test AnySimple h k = refl
other_attributes s test AnyAtomic h k = refl
other_attributes s test UntypedAtomic h k = refl
other_attributes s test Str h k = refl
other_attributes s test NormalizedStr h k = refl
other_attributes s test Token h k = refl
other_attributes s test Boolean h k = refl
other_attributes s test Decimal h k = refl
other_attributes s test Integer h k = refl
other_attributes s test NonPositive h k = refl
other_attributes s test Negative h k = refl
other_attributes s test Long h k = refl
other_attributes s test Int h k = refl
other_attributes s test Short h k = refl
other_attributes s test Byte h k = refl
other_attributes s test NonNegative h k = refl
other_attributes s test UnsignedLong h k = refl
other_attributes s test UnsignedInt h k = refl
other_attributes s test UnsignedShort h k = refl
other_attributes s test UnsignedByte h k = refl
other_attributes s test Positive h k = refl

-- attributes of declared types
of_named : (s : SchemaSet) (test : KindTest) (n : Name) → attributes_behind s test (names.Named n) ≡ attribute_content s test (names.Named n)
of_named s test n = refl

of_anonymous : (s : SchemaSet) (test : KindTest) (n : ℕ) → attributes_behind s test (names.Anonymous n) ≡ attribute_content s test (names.Anonymous n)
of_anonymous s test n = refl

pub named_attributes : (s : SchemaSet) (test : KindTest) (kind : TypeName) (n : Name) → kind ≡ names.Named n → attributes_behind s test kind ≡ attribute_content s test kind
named_attributes s test kind n e = subst (λ (k : TypeName). attributes_behind s test k ≡ attribute_content s test k) (sym e) (of_named s test n)

pub anonymous_attributes : (s : SchemaSet) (test : KindTest) (kind : TypeName) (n : ℕ) → kind ≡ names.Anonymous n → attributes_behind s test kind ≡ attribute_content s test kind
anonymous_attributes s test kind n e = subst (λ (k : TypeName). attributes_behind s test k ≡ attribute_content s test k) (sym e) (of_anonymous s test n)
