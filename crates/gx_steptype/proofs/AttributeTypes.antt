-- Types of attributes take their shapes.
use Rattle.std.proofs.Common.{◌≡◌, ◌≤◌, Bool, true, false, ◌&&◌, ◌||◌, List, [], ◌∷◌, ◌++◌, map, length, None, Some, inl, inr, refl, sym, ◌∙◌, ap, subst, arith}
use Rattle.std.specs.List.{flat_map}
use Rattle.std.proofs.lemmas.Bool.{true≢false}
use Rattle.gx_base.specs.Name.{same_name}
use Rattle.gx_base.specs.declared.name.Name.{Name}
use Rattle.gx_base.specs.declared.type_name.Builtin.{Builtin}
use Rattle.gx_base.specs.declared.type_name.Builtin.TheVariants as builtins
use Rattle.gx_base.specs.declared.type_name.TypeName.{TypeName}
use Rattle.gx_base.specs.declared.type_name.TypeName.TheVariants as names
use Rattle.gx_types.specs.declared.item_type.ItemType.{ItemType}
use Rattle.gx_types.specs.declared.item_type.ItemType.TheVariants as items
use Rattle.gx_types.specs.declared.shape.Shape.{Shape}
use Rattle.gx_types.specs.declared.step.NameTest.TheVariants as tests
use Rattle.gx_types.specs.BuiltinOrder.{same_builtin}
use Rattle.gx_types.specs.SchemaSet.{SchemaSet}
use Rattle.gx_types.specs.SchemaInvariant.{IsSchemaSet, is_named_type}
use Rattle.gx_types.specs.Derivation.{bases_of, DerivesFrom}
use Rattle.gx_types.specs.Grounded.{Grounded}
use Rattle.gx_types.specs.Indicator.{star_of}
use Rattle.gx_types.specs.ItemTakes.{ItemTakes}
use Rattle.gx_types.specs.SequenceType.{SequenceType}
use Rattle.gx_types.specs.Takes.{Takes, Each, EachShape, all_joined}
use Rattle.gx_types.specs.TypeRules.{factored}
use Rattle.gx_types.proofs.PublicLaws.{indicators_are_exact, factored_takes_type, derivation_is_a_preorder}
use Rattle.gx_types.proofs.EqualNames.{builtins_are_one}
use Rattle.gx_tree.specs.declared.attribute.Attribute.{Attribute}
use Rattle.gx_tree.specs.PlainTree.{PlainTree, PlainTrees, document, element, attribute, text}
use Rattle.gx_tree.specs.OwnNames.{has_attribute, HaveOwnNames}
use Rattle.gx_tree.specs.Erasure.{AreUntypedAtomic}
use Rattle.gx_model.specs.Forest.{own_attributes}
use Rattle.gx_model.specs.Belongs.{shape_of}
use Rattle.gx_model.specs.Honest.{IsHonestTree}
use Rattle.gx_model.specs.NodeTest.{TypeTest, KindTest, an_attribute, passes_type, meets}
use Rattle.gx_steptype.specs.declared.tested.Meeting.{Meeting}
use Rattle.gx_steptype.specs.declared.tested.Meeting.TheVariants.{Never, Always, Possibly}
use Rattle.gx_steptype.specs.Replaced.{replaced_items}
use Rattle.gx_steptype.specs.DerivedTypes.{over_derived}
use Rattle.gx_steptype.specs.TestedType.{type_met, both_met, where_met, narrowed_type, tested_item}
use Rattle.gx_steptype.specs.StepType.{attributes_of_type, unordered, any_attributes, attributes_behind, attribute_content, attribute_type}
use Rattle.gx_steptype.proofs.Replacing.{append_nil}
use Rattle.gx_steptype.proofs.Testing.{kept, tested_takes}
use Rattle.gx_steptype.proofs.UntypedKinds.{untyped_kinds, untyped_atomic_is_simple}
use Rattle.gx_steptype.proofs.CoveredTypes.{attributes_agree, named_is_listed, choice_covers}
use Rattle.gx_steptype.proofs.DerivedLemmas.{other_attributes}
use Rattle.gx_steptype.proofs.SimpleKinds.{only_untyped_is_untyped}
use Rattle.gx_steptype.proofs.FormedShapes.{IsFormed}
use Rattle.gx_steptype.proofs.PassingShapes.{passing, all_tested}
use Rattle.gx_steptype.proofs.Arrangements.{Rearranged, mapped, passing_rearranged, each_arranged, short_is_arranged, factored_takes_any_order}
use Rattle.gx_steptype.proofs.OwnAttributes.{attribute_shape, has_name, same_owner, own_in_order, AreDerived, untyped_are_derived, own_are_simple}
use Rattle.gx_steptype.proofs.HonestNodes.{IsTypedElement, IsHonestElement, element_is_honest, attributes_are_formed}

-- an item type without a name that takes each attribute of a type which is derived from its own
pub record TakesAttributes (s : SchemaSet) (kind : TypeName) : Type 0 where
  pub grounded : Grounded (bases_of s)
  pub simple : DerivesFrom s kind (names.Builtin builtins.AnySimple)

abbrev all_passing : SchemaSet → KindTest → List Attribute → List Shape
all_passing s test l = flat_map (passing s test) (map attribute_shape l)

one_passing : (s : SchemaSet) (test : KindTest) (kind : TypeName) → TakesAttributes s kind → (a : Attribute) → DerivesFrom s a.kind kind
    → Takes s (tested_item s test (items.Attribute None kind)) (passing s test (attribute_shape a))
one_passing s test kind h a d =
    tested_takes s h.grounded test (items.Attribute None kind) (attribute_shape a) (derivation_is_a_preorder.transitive s a.kind kind (names.Builtin builtins.AnySimple) d h.simple) (refl, d)

-- any number of them

parts_joined : (g : Shape → List Shape) (xs : List Shape) → flat_map g xs ≡ all_joined (map g xs)
parts_joined g [] = refl
parts_joined g (x ∷ xs) = ap (λ ys. g x ++ ys) (parts_joined g xs)

each_passing : (s : SchemaSet) (test : KindTest) (kind : TypeName) → TakesAttributes s kind → (l : List Attribute) → AreDerived s kind l
    → Each (Takes s (tested_item s test (items.Attribute None kind))) (map (passing s test) (map attribute_shape l))
each_passing s test kind h [] u = tt
each_passing s test kind h (a ∷ l) u = (one_passing s test kind h a u.0, each_passing s test kind h l u.1)

many_take : (s : SchemaSet) (test : KindTest) (kind : TypeName) → TakesAttributes s kind → (l : List Attribute) → AreDerived s kind l
    → Takes s (factored (star_of (tested_item s test (items.Attribute None kind)))) (all_passing s test l)
many_take s test kind h l u =
    factored_takes_type s (star_of (tested_item s test (items.Attribute None kind))) (all_passing s test l)
    ((indicators_are_exact.star s (tested_item s test (items.Attribute None kind)) (all_passing s test l)).0
    (map (passing s test) (map attribute_shape l), parts_joined (passing s test) (map attribute_shape l), each_passing s test kind h l u))

-- of one name at most one

none_behind : (s : SchemaSet) (w : Name) (test : TypeTest) (a : Attribute) (l : List Attribute) → (has_name w l ≡ false → all_passing s (an_attribute (tests.Name w) test) l ≡ [])
    → (b : Bool) → same_name w a.name ≡ b → (b || has_name w l) ≡ false → all_passing s (an_attribute (tests.Name w) test) (a ∷ l) ≡ []
none_behind s w test a l next true e k = absurd (true≢false k)
none_behind s w test a l next false e k = ap (λ c. kept (c && passes_type s test a.kind) (attribute_shape a) ++ all_passing s (an_attribute (tests.Name w) test) l) e ∙ next k

none_passes : (s : SchemaSet) (w : Name) (test : TypeTest) (l : List Attribute) → has_name w l ≡ false → all_passing s (an_attribute (tests.Name w) test) l ≡ []
none_passes s w test [] h = refl
none_passes s w test (a ∷ l) h = none_behind s w test a l (none_passes s w test l) (same_name w a.name) refl h

none_of_none : (s : SchemaSet) (m : Meeting) (whole narrow : ItemType) → Takes s (where_met (both_met Possibly m) whole narrow) []
none_of_none s Never whole narrow = refl
none_of_none s Always whole narrow = inl refl
none_of_none s Possibly whole narrow = inl refl

abbrev with_name : Name → TypeTest → KindTest
with_name w test = an_attribute (tests.Name w) test

one_of : (s : SchemaSet) (w : Name) (test : TypeTest) (kind : TypeName) → TakesAttributes s kind → (a : Attribute) (l : List Attribute) → DerivesFrom s a.kind kind → has_attribute l a ≡ false
    → Takes s (tested_item s (with_name w test) (items.Attribute None kind)) (all_passing s (with_name w test) l) → (b : Bool) → same_name w a.name ≡ b
    → Takes s (tested_item s (with_name w test) (items.Attribute None kind)) (all_passing s (with_name w test) (a ∷ l))
one_of s w test kind h a l u o rest true e =
    subst (Takes s (tested_item s (with_name w test) (items.Attribute None kind)))
    (sym (ap (λ xs. passing s (with_name w test) (attribute_shape a) ++ xs) (none_passes s w test l (same_owner w a l e ∙ o)) ∙ append_nil (passing s (with_name w test) (attribute_shape a))))
    (one_passing s (with_name w test) kind h a u)
one_of s w test kind h a l u o rest false e =
    subst (Takes s (tested_item s (with_name w test) (items.Attribute None kind)))
    (sym (ap (λ c. kept (c && passes_type s test a.kind) (attribute_shape a) ++ all_passing s (with_name w test) l) e)) rest

one_takes : (s : SchemaSet) (w : Name) (test : TypeTest) (kind : TypeName) → TakesAttributes s kind → (l : List Attribute) → AreDerived s kind l → HaveOwnNames l
    → Takes s (tested_item s (an_attribute (tests.Name w) test) (items.Attribute None kind)) (all_passing s (an_attribute (tests.Name w) test) l)
one_takes s w test kind h [] u o = none_of_none s (type_met s test kind) (items.Attribute None kind) (items.Attribute (Some w) (narrowed_type s test kind))
one_takes s w test kind h (a ∷ l) u o = one_of s w test kind h a l u.0 o.0 (one_takes s w test kind h l u.1 o.1) (same_name w a.name) refl

any_take : (s : SchemaSet) (test : KindTest) (kind : TypeName) → TakesAttributes s kind → (l : List Attribute) → AreDerived s kind l → HaveOwnNames l
    → Takes s (any_attributes s test (items.Attribute None kind)) (all_passing s test l)
any_take s (an_attribute (tests.Name w) t) kind h l u o = one_takes s w t kind h l u o
any_take s test kind h l u o = many_take s test kind h l u

-- all attributes, under a type that allows any

any_simple : (s : SchemaSet) → Grounded (bases_of s) → TakesAttributes s (names.Builtin builtins.AnySimple)
any_simple s g = record { grounded = g; simple = derivation_is_a_preorder.reflexive s (names.Builtin builtins.AnySimple) }

untyped_content_takes : (s : SchemaSet) (test : KindTest) (kind : TypeName) → Grounded (bases_of s) → DerivesFrom s (names.Builtin builtins.Untyped) kind → (l : List Attribute) → AreUntypedAtomic l → HaveOwnNames l
    → Takes s (attribute_content s test kind) (all_passing s test l)
untyped_content_takes s test kind g d l u o = elim (untyped_kinds s kind d) [
  | inl e ↦ subst (λ (k : TypeName). Takes s (attribute_content s test k) (all_passing s test l)) (sym e)
      (any_take s test (names.Builtin builtins.UntypedAtomic) (record { grounded = g; simple = untyped_atomic_is_simple s }) l
      (untyped_are_derived s (names.Builtin builtins.UntypedAtomic) l (derivation_is_a_preorder.reflexive s (names.Builtin builtins.UntypedAtomic)) u) o)
  | inr e ↦ subst (λ (k : TypeName). Takes s (attribute_content s test k) (all_passing s test l)) (sym e)
      (any_take s test (names.Builtin builtins.AnySimple) (any_simple s g) l (untyped_are_derived s (names.Builtin builtins.AnySimple) l (untyped_atomic_is_simple s) u) o)
]

-- declared attributes, in any order

kept_length : (b : Bool) (x : Shape) → length (kept b x) ≤ 1
kept_length true x = omega arith
kept_length false x = omega arith

one_at_most : (s : SchemaSet) (w : Name) (test : TypeTest) (a : Attribute) (l : List Attribute) → has_attribute l a ≡ false → length (all_passing s (with_name w test) l) ≤ 1 → (b : Bool) → same_name w a.name ≡ b
    → length (all_passing s (with_name w test) (a ∷ l)) ≤ 1
one_at_most s w test a l o rest true e =
    subst (λ (xs : List Shape). length xs ≤ 1)
    (sym (ap (λ xs. passing s (with_name w test) (attribute_shape a) ++ xs) (none_passes s w test l (same_owner w a l e ∙ o)) ∙ append_nil (passing s (with_name w test) (attribute_shape a))))
    (kept_length (same_name w a.name && passes_type s test a.kind) (attribute_shape a))
one_at_most s w test a l o rest false e =
    subst (λ (xs : List Shape). length xs ≤ 1) (sym (ap (λ c. kept (c && passes_type s test a.kind) (attribute_shape a) ++ all_passing s (with_name w test) l) e)) rest

at_most_one : (s : SchemaSet) (w : Name) (test : TypeTest) (l : List Attribute) → HaveOwnNames l → length (all_passing s (with_name w test) l) ≤ 1
at_most_one s w test [] o = omega arith
at_most_one s w test (a ∷ l) o = one_at_most s w test a l o.0 (at_most_one s w test l o.1) (same_name w a.name) refl

unordered_takes : (s : SchemaSet) (test : KindTest) (t : SequenceType) (l : List Attribute) (xs : List Shape) → HaveOwnNames l → Rearranged xs (all_passing s test l) → Takes s t xs
    → Takes s (unordered test t) (all_passing s test l)
unordered_takes s (an_attribute (tests.Name w) k) t l xs o r h = subst (Takes s t) (short_is_arranged xs (all_passing s (with_name w k) l) (at_most_one s w k l o) r) h
unordered_takes s test t l xs o r h = factored_takes_any_order s t xs (all_passing s test l) r h

behind_takes : (s : SchemaSet) (test : KindTest) → IsSchemaSet s → (kind t : TypeName) (l : List Attribute) (ts : PlainTrees) → DerivesFrom s t kind → IsTypedElement s t l ts
    → Takes s (attributes_behind s test kind) (all_passing s test l)
behind_takes s test is kind t l ts d k =
    let own = own_in_order s t l ts is k.keeps in
    let shapes : List Shape = map attribute_shape own.list in
    let moved : Rearranged shapes (map attribute_shape l) = mapped attribute_shape own.list l own.rearranged in
    let formed : EachShape (IsFormed s) (map attribute_shape l) = attributes_are_formed s l (own_are_simple s t l ts is k.keeps) in
    let declared = over_derived s (attributes_of_type s) kind in
    unordered_takes s test (replaced_items (tested_item s test) declared) l (flat_map (passing s test) shapes) k.keeps.distinct
    (passing_rearranged (meets s test) shapes (map attribute_shape l) moved)
    (all_tested s is.grounded test declared shapes (each_arranged (IsFormed s) shapes (map attribute_shape l) moved formed)
    (choice_covers s is.grounded kind t d (attributes_of_type s) (attributes_agree s) (named_is_listed s t k.keeps.known) shapes own.taken))

-- by the type of the item

builtin_apart : (b c : Builtin) → same_builtin c c ≡ true → same_builtin b c ≡ false → b ≡ c → ⊥
builtin_apart b c itself apart e = true≢false (sym itself ∙ ap (λ (d : Builtin). same_builtin d c) (sym e) ∙ apart)

under_builtin : (s : SchemaSet) (test : KindTest) → IsSchemaSet s → (b : Builtin) (t : TypeName) (l : List Attribute) (ts : PlainTrees) → DerivesFrom s t (names.Builtin b) → IsTypedElement s t l ts
    → (any untyped : Bool) → same_builtin b builtins.AnyType ≡ any → same_builtin b builtins.Untyped ≡ untyped → Takes s (attribute_content s test (names.Builtin b)) (all_passing s test l)
under_builtin s test is b t l ts d k true untyped e f =
    subst (λ (c : Builtin). Takes s (attribute_content s test (names.Builtin c)) (all_passing s test l)) (sym (builtins_are_one b builtins.AnyType e))
    (any_take s test (names.Builtin builtins.AnySimple) (any_simple s is.grounded) l (own_are_simple s t l ts is k.keeps) k.keeps.distinct)
under_builtin s test is b t l ts d k false true e f =
    let same : t ≡ names.Builtin builtins.Untyped =
    only_untyped_is_untyped s t is (subst (λ (c : Builtin). DerivesFrom s t (names.Builtin c)) (builtins_are_one b builtins.Untyped f) d)
    in absurd (true≢false (sym (subst (λ (u : TypeName). is_named_type s u ≡ true) same k.keeps.known)))
under_builtin s test is b t l ts d k false false e f =
    subst (λ (u : SequenceType). Takes s u (all_passing s test l))
    (other_attributes s test b (builtin_apart b builtins.AnyType refl e) (builtin_apart b builtins.Untyped refl f)) (behind_takes s test is (names.Builtin b) t l ts d k)

typed_content_takes : (s : SchemaSet) (test : KindTest) → IsSchemaSet s → (kind t : TypeName) (l : List Attribute) (ts : PlainTrees) → DerivesFrom s t kind → IsTypedElement s t l ts
    → Takes s (attribute_content s test kind) (all_passing s test l)
typed_content_takes s test is (names.Builtin b) t l ts d k = under_builtin s test is b t l ts d k (same_builtin b builtins.AnyType) (same_builtin b builtins.Untyped) refl refl
typed_content_takes s test is (names.Named n) t l ts d k = behind_takes s test is (names.Named n) t l ts d k
typed_content_takes s test is (names.Anonymous n) t l ts d k = behind_takes s test is (names.Anonymous n) t l ts d k

element_attributes : (s : SchemaSet) (test : KindTest) → IsSchemaSet s → (kind t : TypeName) (l : List Attribute) (ts : PlainTrees) → DerivesFrom s t kind → IsHonestElement s t l ts → HaveOwnNames l
    → Takes s (attribute_content s test kind) (all_passing s test l)
element_attributes s test is kind t l ts d (inl u) o = untyped_content_takes s test kind is.grounded (subst (λ (v : TypeName). DerivesFrom s v kind) u.kind_is d) l u.attributes o
element_attributes s test is kind t l ts d (inr k) o = typed_content_takes s test is kind t l ts d k

pub attributes_take : (s : SchemaSet) (test : KindTest) → IsSchemaSet s → (u : PlainTree) → IsHonestTree s u → (kind : ItemType) → ItemTakes s kind (shape_of u)
    → Takes s (attribute_type s test kind) (all_passing s test (own_attributes u))
attributes_take s test is (element n k l ts) h (items.Element w t) i =
    element_attributes s test is t k l ts i.1 (element_is_honest s n k l ts h.typed) h.names.0
attributes_take s test is (element n k l ts) h (items.Attribute w t) i = absurd i
attributes_take s test is (element n k l ts) h items.Text i = absurd i
attributes_take s test is (element n k l ts) h (items.Document None) i = absurd i
attributes_take s test is (element n k l ts) h (items.Document (Some e)) i = absurd i
attributes_take s test is (element n k l ts) h (items.Atom t) i = absurd i
attributes_take s test is (document ts) h (items.Document e) i = refl
attributes_take s test is (document ts) h (items.Element w t) i = absurd i
attributes_take s test is (document ts) h (items.Attribute w t) i = refl
attributes_take s test is (document ts) h items.Text i = refl
attributes_take s test is (document ts) h (items.Atom t) i = refl
attributes_take s test is (attribute a) h (items.Element w t) i = absurd i
attributes_take s test is (attribute a) h (items.Attribute w t) i = refl
attributes_take s test is (attribute a) h items.Text i = refl
attributes_take s test is (attribute a) h (items.Document e) i = refl
attributes_take s test is (attribute a) h (items.Atom t) i = refl
attributes_take s test is (text x) h (items.Element w t) i = absurd i
attributes_take s test is (text x) h (items.Attribute w t) i = refl
attributes_take s test is (text x) h items.Text i = refl
attributes_take s test is (text x) h (items.Document e) i = refl
attributes_take s test is (text x) h (items.Atom t) i = refl
