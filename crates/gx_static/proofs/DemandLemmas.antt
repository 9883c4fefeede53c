-- The test of an item type that a demand makes is that each shape that the item type takes is one of the demanded type.
use Rattle.std.proofs.Common.{◌≡◌, true, false, [], ◌∷◌, ◌⊎◌, inl, inr, None, Some, refl, sym, subst}
use Rattle.std.specs.Bool.{IsTrue}
use Rattle.std.proofs.lemmas.Bool.{or_cases, or_left, or_right}
use Rattle.gx_base.specs.declared.type_name.Builtin.{Builtin}
use Rattle.gx_base.specs.declared.type_name.Builtin.TheVariants.{AnyType, AnySimple, AnyAtomic, UntypedAtomic, Boolean, Decimal}
use Rattle.gx_base.specs.declared.type_name.Builtin.TheVariants as builtins
use Rattle.gx_base.specs.declared.type_name.TypeName.{TypeName}
use Rattle.gx_base.specs.declared.type_name.TypeName.TheVariants as names
use Rattle.gx_types.specs.declared.item_type.ItemType.{ItemType}
use Rattle.gx_types.specs.declared.item_type.ItemType.TheVariants as items
use Rattle.gx_types.specs.declared.shape.Shape.{Shape}
use Rattle.gx_types.specs.declared.shape.Shape.TheVariants as shapes
use Rattle.gx_types.specs.SameItemType.{same_type_name}
use Rattle.gx_types.specs.SchemaSet.{SchemaSet}
use Rattle.gx_types.specs.Derivation.{bases_of, DerivesFrom}
use Rattle.gx_types.specs.Grounded.{is_known, Grounded}
use Rattle.gx_types.specs.ItemTakes.{ItemTakes}
use Rattle.gx_types.specs.Takes.{SomeItemTakes}
use Rattle.gx_types.specs.Prime.{items_of}
use Rattle.gx_types.proofs.PublicLaws.{derivation_is_a_preorder, all_types_are_derived_from_any_type}
use Rattle.gx_types.proofs.DerivationTest.{derives_when_tested, tested_when_derives}
use Rattle.gx_include_letters.specs.WellFormed.{plain_types, IsAmongTypes, IsWellFormedShape}
use Rattle.gx_static.specs.declared.comparison.Family.{Family}
use Rattle.gx_static.specs.declared.comparison.Family.TheVariants as families
use Rattle.gx_static.specs.Rule.{is_atomic, is_atomic_in}
use Rattle.gx_static.specs.NormalTypes.{IsOfKnownType}
use Rattle.gx_static.specs.Demands.{Demand, of_type, of_family, of_atomic, of_any, meets_demand, demanded_type}
use Rattle.gx_static.proofs.AtomicTypes.{IsAtomic, untyped_is_atomic, boolean_is_atomic}
use Rattle.gx_static.proofs.SomeItems.{IsOfNode, SomeNode, element_shape, attribute_shape, document_shape, atomic_is_plain, above_untyped, above_boolean}

-- an item type of the demanded type takes a shape
abbrev pub IsDemanded : SchemaSet → Demand → Shape → Type 0
IsDemanded s demand shape = SomeItemTakes s (items_of (demanded_type demand)) shape

-- ---- a type that passes

taken_in : (s : SchemaSet) (b : Builtin) (kind : ItemType) (shape : Shape) → is_atomic_in s b kind ≡ true → ItemTakes s kind shape → ItemTakes s (items.Atom (names.Builtin b)) shape
taken_in s b (items.Atom k) (shapes.Atom t) e h = derivation_is_a_preorder.transitive s t k (names.Builtin b) h (derives_when_tested s k (names.Builtin b) e)
taken_in s b (items.Atom k) _ e h = absurd h
taken_in s b _ _ e h = absurd (cc)

-- the shapes of an item type that passes are demanded: of a built-in type
pub type_demanded : (s : SchemaSet) (b : Builtin) (kind : ItemType) (shape : Shape) → meets_demand s (of_type b) kind ≡ true → ItemTakes s kind shape → IsDemanded s (of_type b) shape
type_demanded s b kind shape e h = inl (taken_in s b kind shape e h)

-- of a family
pub family_demanded : (s : SchemaSet) (f : Family) (kind : ItemType) (shape : Shape) → meets_demand s (of_family f) kind ≡ true → ItemTakes s kind shape → IsDemanded s (of_family f) shape
family_demanded s families.Number kind shape e h = inl (taken_in s Decimal kind shape e h)
family_demanded s families.Text kind shape e h =
    elim (or_cases (is_atomic_in s builtins.Str kind) (is_atomic_in s UntypedAtomic kind) e) as (λ _. IsDemanded s (of_family families.Text) shape) [
      | inl p ↦ inl (taken_in s builtins.Str kind shape p h)
      | inr p ↦ inr (inl (taken_in s UntypedAtomic kind shape p h))
    ]
family_demanded s families.Truth kind shape e h = inl (taken_in s Boolean kind shape e h)

-- of atomic values
atomic_demanded : (s : SchemaSet) (kind : ItemType) (shape : Shape) → IsOfKnownType s kind → meets_demand s of_atomic kind ≡ true → ItemTakes s kind shape → IsDemanded s of_atomic shape
atomic_demanded s (items.Atom k) (shapes.Atom t) known e h = inl (derivation_is_a_preorder.transitive s t k (names.Builtin AnyAtomic) h known)
atomic_demanded s (items.Atom k) _ known e h = absurd h
atomic_demanded s _ _ known e h = absurd (cc)

-- of any items
known_to_any : (s : SchemaSet) (t : TypeName) → Grounded (bases_of s) → IsTrue (is_known (bases_of s) t) → DerivesFrom s t (names.Builtin AnyType)
known_to_any s (names.Builtin b) g k = all_types_are_derived_from_any_type.builtin s b
known_to_any s (names.Named name) g k = all_types_are_derived_from_any_type.declared s (names.Named name) g k
known_to_any s (names.Anonymous number) g k = all_types_are_derived_from_any_type.declared s (names.Anonymous number) g k

any_demanded : (s : SchemaSet) (kind : ItemType) (shape : Shape) → Grounded (bases_of s) → IsOfKnownType s kind → ItemTakes s kind shape → IsDemanded s of_any shape
any_demanded s (items.Element wanted k) (shapes.Elem name t) g known h = inr (inl (refl, derivation_is_a_preorder.transitive s t k (names.Builtin AnyType) h.1 (known_to_any s k g known)))
any_demanded s (items.Element wanted k) _ g known h = absurd h
any_demanded s (items.Attribute wanted k) (shapes.Attr name t) g known h = inr (inr (inl (refl, derivation_is_a_preorder.transitive s t k (names.Builtin AnySimple) h.1 known)))
any_demanded s (items.Attribute wanted k) _ g known h = absurd h
any_demanded s items.Text shapes.Text g known h = inr (inr (inr (inl tt)))
any_demanded s items.Text _ g known h = absurd h
any_demanded s (items.Document element) (shapes.Doc child) g known h = inl tt
any_demanded s (items.Document None) _ g known h = absurd h
any_demanded s (items.Document (Some element)) _ g known h = absurd h
any_demanded s (items.Atom k) (shapes.Atom t) g known h = inr (inr (inr (inr (inl (derivation_is_a_preorder.transitive s t k (names.Builtin AnyAtomic) h known)))))
any_demanded s (items.Atom k) _ g known h = absurd h

pub taken_is_demanded : (s : SchemaSet) (demand : Demand) (kind : ItemType) (shape : Shape) → Grounded (bases_of s) → IsOfKnownType s kind → meets_demand s demand kind ≡ true → ItemTakes s kind shape → IsDemanded s demand shape
taken_is_demanded s (of_type b) kind shape g known e h = type_demanded s b kind shape e h
taken_is_demanded s (of_family f) kind shape g known e h = family_demanded s f kind shape e h
taken_is_demanded s of_atomic kind shape g known e h = atomic_demanded s kind shape known e h
taken_is_demanded s of_any kind shape g known e h = any_demanded s kind shape g known h

-- ---- a type of which each shape is demanded

-- a fact holds of each shape that an item type takes
abbrev pub OfAll : SchemaSet → (Shape → Type 0) → ItemType → Type 0
OfAll s Fact kind = (shape : Shape) → IsWellFormedShape s shape → ItemTakes s kind shape → Fact shape

-- a fact that holds of no node does not hold of all items of an item type of nodes
of_a_node : (s : SchemaSet) (Fact : Shape → Type 0) (kind : ItemType) → ((shape : Shape) → IsOfNode shape → Fact shape → ⊥) → SomeNode s kind → OfAll s Fact kind → ⊥
of_a_node s Fact kind refuted n f = refuted n.some.shape n.node (f n.some.shape n.some.well_formed n.some.taken)

only_atoms : (s : SchemaSet) (Fact : Shape → Type 0) (kind : ItemType) → ((shape : Shape) → IsOfNode shape → Fact shape → ⊥) → IsOfKnownType s kind → OfAll s Fact kind → is_atomic kind ≡ true
only_atoms s Fact (items.Element name k) refuted known f = absurd (of_a_node s Fact (items.Element name k) refuted (element_shape s name k known) f)
only_atoms s Fact (items.Attribute name k) refuted known f = absurd (of_a_node s Fact (items.Attribute name k) refuted (attribute_shape s name k known) f)
only_atoms s Fact items.Text refuted known f = absurd (refuted shapes.Text tt (f shapes.Text tt tt))
only_atoms s Fact (items.Document None) refuted known f = absurd (refuted (shapes.Doc None) tt (f (shapes.Doc None) tt tt))
only_atoms s Fact (items.Document (Some element)) refuted known f = absurd (of_a_node s Fact (items.Document (Some element)) refuted (document_shape s element known) f)
only_atoms s Fact (items.Atom k) refuted known f = refl

no_node_in : (s : SchemaSet) (k : TypeName) (shape : Shape) → IsOfNode shape → ItemTakes s (items.Atom k) shape → ⊥
no_node_in s k (shapes.Atom t) n h = n
no_node_in s k _ n h = h

no_node_of : (s : SchemaSet) (k : TypeName) (shape : Shape) → IsOfNode shape → SomeItemTakes s (items.Atom k ∷ []) shape → ⊥
no_node_of s k shape n (inl h) = no_node_in s k shape n h
no_node_of s k shape n (inr h) = h

no_node_of_two : (s : SchemaSet) (k l : TypeName) (shape : Shape) → IsOfNode shape → SomeItemTakes s (items.Atom k ∷ items.Atom l ∷ []) shape → ⊥
no_node_of_two s k l shape n (inl h) = no_node_in s k shape n h
no_node_of_two s k l shape n (inr (inl h)) = no_node_in s l shape n h
no_node_of_two s k l shape n (inr (inr h)) = h

no_node_demanded : (s : SchemaSet) (f : Family) (shape : Shape) → IsOfNode shape → IsDemanded s (of_family f) shape → ⊥
no_node_demanded s families.Number shape n h = no_node_of s (names.Builtin Decimal) shape n h
no_node_demanded s families.Text shape n h = no_node_of_two s (names.Builtin builtins.Str) (names.Builtin UntypedAtomic) shape n h
no_node_demanded s families.Truth shape n h = no_node_of s (names.Builtin Boolean) shape n h

-- derivation of the types of all shapes is that of the item type

one_taken : (s : SchemaSet) (k l : TypeName) → SomeItemTakes s (items.Atom k ∷ []) (shapes.Atom l) → DerivesFrom s l k
one_taken s k l (inl h) = h
one_taken s k l (inr h) = absurd h

-- xs:untypedAtomic and xs:boolean have no common type below xs:anyAtomicType
atomic_above : (s : SchemaSet) (b : Builtin) → DerivesFrom s (names.Builtin UntypedAtomic) (names.Builtin b) → DerivesFrom s (names.Builtin Boolean) (names.Builtin b) → DerivesFrom s (names.Builtin AnyAtomic) (names.Builtin b)
atomic_above s b u v =
    elim (above_untyped s (names.Builtin b) u) as (λ _. DerivesFrom s (names.Builtin AnyAtomic) (names.Builtin b)) [
      | inl p ↦ elim (above_boolean s (names.Builtin b) v) as (λ _. DerivesFrom s (names.Builtin AnyAtomic) (names.Builtin b)) [
        | inl q ↦ absurd (not_both b p q)
        | inr q ↦ q
      ]
      | inr p ↦ p
    ]
  where
    not_both : (b : Builtin) → IsTrue (same_type_name (names.Builtin UntypedAtomic) (names.Builtin b)) → IsTrue (same_type_name (names.Builtin Boolean) (names.Builtin b)) → ⊥
    not_both UntypedAtomic p q = cc
    not_both _ p q = cc

in_builtin : (s : SchemaSet) (b : Builtin) (k : TypeName) → IsAmongTypes k (plain_types s) ⊎ (k ≡ names.Builtin AnyAtomic)
    → ((t : TypeName) → IsAmongTypes t (plain_types s) → DerivesFrom s t k → DerivesFrom s t (names.Builtin b)) → DerivesFrom s k (names.Builtin b)
in_builtin s b k (inl among) f = f k among (derivation_is_a_preorder.reflexive s k)
in_builtin s b k (inr e) f =
    let below : (c : Builtin) → IsAtomic s (names.Builtin c) → DerivesFrom s (names.Builtin c) k = λ c h. subst (λ (t : TypeName). DerivesFrom s (names.Builtin c) t) (sym e) h in
    subst (λ (t : TypeName). DerivesFrom s t (names.Builtin b)) (sym e)
    (atomic_above s b (f (names.Builtin UntypedAtomic) refl (below UntypedAtomic (untyped_is_atomic s))) (f (names.Builtin Boolean) refl (below Boolean (boolean_is_atomic s))))

in_type : (s : SchemaSet) (b : Builtin) (kind : ItemType) → Grounded (bases_of s) → IsOfKnownType s kind → is_atomic kind ≡ true → OfAll s (IsDemanded s (of_type b)) kind → is_atomic_in s b kind ≡ true
in_type s b (items.Atom k) g known e f =
    tested_when_derives s k (names.Builtin b) g (in_builtin s b k (atomic_is_plain s k known) (λ t among d. one_taken s (names.Builtin b) t (f (shapes.Atom t) among d)))
in_type s b _ g known e f = absurd (cc)

type_met : (s : SchemaSet) (b : Builtin) (kind : ItemType) → Grounded (bases_of s) → IsOfKnownType s kind → OfAll s (IsDemanded s (of_type b)) kind → is_atomic_in s b kind ≡ true
type_met s b kind g known f = in_type s b kind g known (only_atoms s (IsDemanded s (of_type b)) kind (no_node_of s (names.Builtin b)) known f) f

-- strings and untyped values
boolean_no_text : (s : SchemaSet) (b : Builtin) → same_type_name (names.Builtin Boolean) (names.Builtin b) ≡ false → DerivesFrom s (names.Builtin Boolean) (names.Builtin b) → DerivesFrom s (names.Builtin AnyAtomic) (names.Builtin b)
boolean_no_text s b differs d = elim (above_boolean s (names.Builtin b) d) as (λ _. DerivesFrom s (names.Builtin AnyAtomic) (names.Builtin b)) [ inl same ↦ absurd (cc) | inr r ↦ r ]

abbrev IsText : SchemaSet → TypeName → Type 0
IsText s t = DerivesFrom s t (names.Builtin builtins.Str) ⊎ DerivesFrom s t (names.Builtin UntypedAtomic)

text_taken : (s : SchemaSet) (t : TypeName) → IsDemanded s (of_family families.Text) (shapes.Atom t) → IsText s t
text_taken s t (inl h) = inl h
text_taken s t (inr (inl h)) = inr h
text_taken s t (inr (inr h)) = absurd h

all_text : (s : SchemaSet) → IsText s (names.Builtin Boolean) → IsText s (names.Builtin AnyAtomic)
all_text s (inl d) = inl (boolean_no_text s builtins.Str refl d)
all_text s (inr d) = inr (boolean_no_text s UntypedAtomic refl d)

in_text : (s : SchemaSet) (k : TypeName) → IsAmongTypes k (plain_types s) ⊎ (k ≡ names.Builtin AnyAtomic)
    → ((t : TypeName) → IsAmongTypes t (plain_types s) → DerivesFrom s t k → IsText s t) → IsText s k
in_text s k (inl among) f = f k among (derivation_is_a_preorder.reflexive s k)
in_text s k (inr e) f =
    let d : DerivesFrom s (names.Builtin Boolean) k = subst (λ (t : TypeName). DerivesFrom s (names.Builtin Boolean) t) (sym e) (boolean_is_atomic s) in
    subst (IsText s) (sym e) (all_text s (f (names.Builtin Boolean) refl d))

text_tested : (s : SchemaSet) (k : TypeName) → Grounded (bases_of s) → IsText s k → meets_demand s (of_family families.Text) (items.Atom k) ≡ true
text_tested s k g (inl d) = or_left (is_atomic_in s builtins.Str (items.Atom k)) (is_atomic_in s UntypedAtomic (items.Atom k)) (tested_when_derives s k (names.Builtin builtins.Str) g d)
text_tested s k g (inr d) = or_right (is_atomic_in s builtins.Str (items.Atom k)) (is_atomic_in s UntypedAtomic (items.Atom k)) (tested_when_derives s k (names.Builtin UntypedAtomic) g d)

text_met : (s : SchemaSet) (kind : ItemType) → Grounded (bases_of s) → IsOfKnownType s kind → is_atomic kind ≡ true → OfAll s (IsDemanded s (of_family families.Text)) kind → meets_demand s (of_family families.Text) kind ≡ true
text_met s (items.Atom k) g known e f = text_tested s k g (in_text s k (atomic_is_plain s k known) (λ t among d. text_taken s t (f (shapes.Atom t) among d)))
text_met s _ g known e f = absurd (cc)

pub demand_is_met : (s : SchemaSet) (demand : Demand) (kind : ItemType) → Grounded (bases_of s) → IsOfKnownType s kind → OfAll s (IsDemanded s demand) kind → meets_demand s demand kind ≡ true
demand_is_met s (of_type b) kind g known f = type_met s b kind g known f
demand_is_met s (of_family families.Number) kind g known f = type_met s Decimal kind g known f
demand_is_met s (of_family families.Text) kind g known f =
    text_met s kind g known (only_atoms s (IsDemanded s (of_family families.Text)) kind (no_node_demanded s families.Text) known f) f
demand_is_met s (of_family families.Truth) kind g known f = type_met s Boolean kind g known f
demand_is_met s of_atomic kind g known f = only_atoms s (IsDemanded s of_atomic) kind (no_node_of s (names.Builtin AnyAtomic)) known f
demand_is_met s of_any kind g known f = refl
