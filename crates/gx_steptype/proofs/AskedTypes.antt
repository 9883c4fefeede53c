-- Types whose children were put.
use Rattle.std.proofs.Common.{◌≡◌, Bool, true, false, ◌||◌, List, [], ◌∷◌, ◌++◌, map, refl, sym, ◌∙◌, ap, subst, if◌then◌else◌}
use mathlib.Core.Path.{fun_ext}
use Rattle.std.specs.List.{list_all, list_any}
use Rattle.std.specs.Set.{is_member}
use Rattle.std.proofs.lemmas.Bool.{true≢false}
use Rattle.std.proofs.lemmas.List.Elements.{filter_agree}
use Rattle.indexmap.specs.IndexSet.{insert_key, insert_all}
use Rattle.gx_base.specs.declared.type_name.TypeName.{TypeName}
use Rattle.gx_base.specs.declared.type_name.TypeName.TheVariants as names
use Rattle.gx_closure.specs.Closure.{AreAmong}
use Rattle.gx_closure.proofs.Growing.{among_stay, all_are_put, all_more_hold}
use Rattle.gx_types.specs.declared.item_type.ItemType.{ItemType}
use Rattle.gx_types.specs.EqualNames.{same_tests}
use Rattle.gx_types.specs.SameItemType.{same_type_name, same_item_type}
use Rattle.gx_types.specs.TypeIndex.{equal_kinds}
use Rattle.gx_types.proofs.TypeIndexes.{equal_kinds_are}
use Rattle.gx_types.specs.SchemaSet.{SchemaSet}
use Rattle.gx_types.specs.SchemaInvariant.{IsSchemaSet}
use Rattle.gx_types.specs.Derivation.{is_derived}
use Rattle.gx_types.specs.Prime.{items_of}
use Rattle.gx_types.specs.Choice.{choice_among}
use Rattle.gx_types.specs.SequenceType.{SequenceType}
use Rattle.gx_model.specs.NodeTest.{KindTest}
use Rattle.gx_types.proofs.PublicLaws.{equality_is_an_equivalence, derivation_looks_at_no_prefix}
use Rattle.gx_types.proofs.DerivationTest.{derives_when_tested, tested_when_derives}
use Rattle.gx_steptype.specs.DerivedTypes.{listed_types, over_derived}
use Rattle.gx_steptype.specs.DataType.{has_value, values_of_type, value_type_of, have_values}
use Rattle.gx_steptype.specs.KeptSteps.{tested_children}
use Rattle.gx_steptype.specs.Replaced.{replaced_items}
use Rattle.gx_steptype.specs.StepType.{content_of, child_content, unordered, attributes_of_type, attributes_behind, attribute_content}
use Rattle.gx_steptype.specs.TestedType.{tested_item}
use Rattle.gx_steptype.specs.Descent.{ArePut}

-- the contents of equal types are equal

equally_derived : (s : SchemaSet) → IsSchemaSet s → (u t v : TypeName) → same_type_name t v ≡ true → is_derived s u t ≡ true → is_derived s u v ≡ true
equally_derived s is u t v h e =
    tested_when_derives s u v is.grounded (derivation_looks_at_no_prefix s u u t v (equality_is_an_equivalence.type_names.refl u) h (derives_when_tested s u t e))

same_over_derived : (s : SchemaSet) → IsSchemaSet s → (of : TypeName → SequenceType) (t v : TypeName) → same_type_name t v ≡ true → over_derived s of t ≡ over_derived s of v
same_over_derived s is of t v h =
    ap (λ ts. choice_among (map of ts))
    (filter_agree (λ u. is_derived s u t) (λ u. is_derived s u v)
    (λ u. same_tests (is_derived s u t) (is_derived s u v) (equally_derived s is u t v h) (equally_derived s is u v t (equality_is_an_equivalence.type_names.symm v t ∙ h))) (listed_types s))

pub same_child_contents : (s : SchemaSet) → IsSchemaSet s → (t v : TypeName) → same_type_name t v ≡ true → child_content s t ≡ child_content s v
same_child_contents s is (names.Builtin a) (names.Builtin b) h = ap (λ c. child_content s (names.Builtin c)) (equality_is_an_equivalence.builtins_are_one a b h)
same_child_contents s is (names.Named m) (names.Named n) h = same_over_derived s is (content_of s) (names.Named m) (names.Named n) h
same_child_contents s is (names.Anonymous m) (names.Anonymous n) h = same_over_derived s is (content_of s) (names.Anonymous m) (names.Anonymous n) h
same_child_contents s is _ _ h = absurd (cc)

pub same_tested_children : (s : SchemaSet) → IsSchemaSet s → (test : KindTest) (t v : TypeName) → same_type_name t v ≡ true → tested_children s test t ≡ tested_children s test v
same_tested_children s is test t v h = ap (replaced_items (tested_item s test)) (same_child_contents s is t v h)

-- and so are their attributes

same_behind : (s : SchemaSet) → IsSchemaSet s → (test : KindTest) (t v : TypeName) → same_type_name t v ≡ true → attributes_behind s test t ≡ attributes_behind s test v
same_behind s is test t v h = ap (λ (all : SequenceType). unordered test (replaced_items (tested_item s test) all)) (same_over_derived s is (attributes_of_type s) t v h)

pub same_attribute_contents : (s : SchemaSet) → IsSchemaSet s → (test : KindTest) (t v : TypeName) → same_type_name t v ≡ true → attribute_content s test t ≡ attribute_content s test v
same_attribute_contents s is test (names.Builtin a) (names.Builtin b) h = ap (λ c. attribute_content s test (names.Builtin c)) (equality_is_an_equivalence.builtins_are_one a b h)
same_attribute_contents s is test (names.Named m) (names.Named n) h = same_behind s is test (names.Named m) (names.Named n) h
same_attribute_contents s is test (names.Anonymous m) (names.Anonymous n) h = same_behind s is test (names.Anonymous m) (names.Anonymous n) h
same_attribute_contents s is test _ _ h = absurd (cc)

-- and their typed values

pub same_data : (s : SchemaSet) → IsSchemaSet s → (t v : TypeName) → same_type_name t v ≡ true → over_derived s (value_type_of s) t ≡ over_derived s (value_type_of s) v
same_data s is t v h = same_over_derived s is (value_type_of s) t v h

pub same_have_values : (s : SchemaSet) → IsSchemaSet s → (t v : TypeName) → same_type_name t v ≡ true → have_values s t ≡ have_values s v
same_have_values s is t v h =
    ap (list_all (λ u. has_value (values_of_type s u)))
    (filter_agree (λ u. is_derived s u t) (λ u. is_derived s u v)
    (λ u. same_tests (is_derived s u t) (is_derived s u v) (equally_derived s is u t v h) (equally_derived s is u v t (equality_is_an_equivalence.type_names.symm v t ∙ h))) (listed_types s))

-- where a type was asked, its children are there

pub asked_are_there : (s : SchemaSet) → IsSchemaSet s → (asked : List TypeName) (found : List ItemType) (kind : TypeName) → ArePut s asked found → is_member same_type_name asked kind ≡ true
    → AreAmong same_item_type found (items_of (child_content s kind))
asked_are_there s is [] found kind p m = absurd (true≢false (sym m))
asked_are_there s is (t ∷ asked) found kind p m = by (asked_are_there s is asked found kind p.1) (same_type_name kind t) refl m
  where
    by : (is_member same_type_name asked kind ≡ true → AreAmong same_item_type found (items_of (child_content s kind))) → (b : Bool) → same_type_name kind t ≡ b → b || list_any (same_type_name kind) asked ≡ true
        → AreAmong same_item_type found (items_of (child_content s kind))
    by rest true e k = subst (λ (c : SequenceType). AreAmong same_item_type found (items_of c)) (sym (same_child_contents s is kind t e)) p.0
    by rest false e k = rest k

-- so that putting them changes nothing

nothing_put : (xs found : List ItemType) → AreAmong same_item_type found xs → insert_all same_item_type found xs ≡ found
nothing_put [] found h = refl
nothing_put (x ∷ xs) found h =
    ap (λ (b : Bool). insert_all same_item_type (if b then found else found ++ x ∷ []) xs) h.0 ∙ nothing_put xs found h.1

pub asked_before : (s : SchemaSet) → IsSchemaSet s → (asked : List TypeName) (found : List ItemType) (kind : TypeName) → ArePut s asked found → is_member same_type_name asked kind ≡ true
    → found ≡ insert_all same_item_type found (items_of (child_content s kind))
asked_before s is asked found kind p m = sym (nothing_put (items_of (child_content s kind)) found (asked_are_there s is asked found kind p m))

-- and one type more

put_stay : (s : SchemaSet) (asked : List TypeName) (found xs : List ItemType) → ArePut s asked found → ArePut s asked (insert_all same_item_type found xs)
put_stay s [] found xs p = tt
put_stay s (t ∷ asked) found xs p = (among_stay same_item_type xs found (items_of (child_content s t)) p.0, put_stay s asked found xs p.1)

pub one_more_asked : (s : SchemaSet) (asked : List TypeName) (found : List ItemType) (kind : TypeName) → ArePut s asked found
    → ArePut s (insert_key same_type_name asked kind) (insert_all same_item_type found (items_of (child_content s kind)))
one_more_asked s asked found kind p =
    all_more_hold same_type_name (λ t. AreAmong same_item_type (insert_all same_item_type found (items_of (child_content s kind))) (items_of (child_content s t))) (kind ∷ []) asked
    (put_stay s asked found (items_of (child_content s kind)) p) (all_are_put same_item_type equality_is_an_equivalence.item_types (items_of (child_content s kind)) found, tt)

-- whether a type was asked, and that it is now, as sets of names of types tell

pub kinds_are_equal : equal_kinds ≡ same_type_name
kinds_are_equal = fun_ext (λ t. fun_ext (λ u. equal_kinds_are t u))

pub member_as_asked : (asked : List TypeName) (kind : TypeName) → list_any (equal_kinds kind) asked ≡ is_member same_type_name asked kind
member_as_asked asked kind = ap (λ (equal : TypeName → TypeName → Bool). list_any (equal kind) asked) kinds_are_equal

pub put_as_asked : (asked : List TypeName) (kind : TypeName) → insert_key equal_kinds asked kind ≡ insert_key same_type_name asked kind
put_as_asked asked kind = ap (λ (equal : TypeName → TypeName → Bool). insert_key equal asked kind) kinds_are_equal
