-- Values of the boolean types.
use Rattle.std.proofs.Common.{◌≡◌, true, ◌||◌, inl, inr, List, [], ◌∷◌, ◌++◌, refl, sym, ap, subst}
use Rattle.gx_base.specs.declared.type_name.Builtin.{Builtin}
use Rattle.gx_base.specs.declared.type_name.Builtin.TheVariants.{UntypedAtomic, Str, Boolean, Decimal}
use Rattle.gx_base.specs.declared.type_name.TypeName.TheVariants as names
use Rattle.gx_facets.specs.declared.Atomic.{Atomic}
use Rattle.gx_types.specs.declared.item_type.ItemType.{ItemType}
use Rattle.gx_types.specs.declared.item_type.ItemType.TheVariants as items
use Rattle.gx_types.specs.declared.shape.Shape.{Shape}
use Rattle.gx_types.specs.SchemaSet.{SchemaSet}
use Rattle.gx_types.specs.Derivation.{bases_of}
use Rattle.gx_types.specs.Grounded.{Grounded}
use Rattle.gx_types.specs.SequenceType.{SequenceType, nothing, item, both, optional, star}
use Rattle.gx_types.specs.ItemTakes.{ItemTakes}
use Rattle.gx_types.specs.Takes.{Takes, SomeTakes}
use Rattle.gx_types.proofs.PublicLaws.{choice_takes_some}
use Rattle.gx_include.specs.Decision.{is_included}
use Rattle.gx_include.proofs.Deciding.{inclusion_is_decided}
use Rattle.gx_steptype.specs.StepType.{node_type, any_item}
use Rattle.gx_model.specs.Forest.{Forest, PlainNode}
use Rattle.gx_model.specs.Honest.{IsHonest}
use Rattle.gx_model.specs.Item.{Item, atom, node, Items}
use Rattle.gx_model.specs.Belongs.{HaveShapes, Belongs}
use Rattle.gx_static.specs.declared.comparison.Family.TheVariants as families
use Rattle.gx_static.specs.Rule.{atomic, is_atomic_in, is_of_family, has_effective_boolean, boolean_types}
use Rattle.gx_static.proofs.ItemLemmas.{derived_taken, items_are_nodes}
use Rattle.gx_static.proofs.HonestValues.{included_belongs}
use Rattle.gx_static.proofs.Families.{either_true}

-- the members of the choice
abbrev members : List SequenceType
members = nothing ∷ both node_type (star any_item) ∷ atomic Boolean ∷ atomic Str ∷ atomic UntypedAtomic ∷ atomic Decimal ∷ []

-- ---- types of one atomic value

in_builtin : (s : SchemaSet) (b : Builtin) (kind : ItemType) (shape : Shape) → is_atomic_in s b kind ≡ true → ItemTakes s kind shape → Takes s (atomic b) (shape ∷ [])
in_builtin s b kind shape e h = let k = derived_taken s b kind shape e h in (shape, refl, subst (ItemTakes s (items.Atom (names.Builtin b))) (sym k.1) k.2)

truth_taken : (s : SchemaSet) (kind : ItemType) (shape : Shape) → has_effective_boolean s kind ≡ true → ItemTakes s kind shape → SomeTakes s members (shape ∷ [])
truth_taken s kind shape e h =
    elim (either_true (is_of_family s families.Truth kind || is_of_family s families.Text kind) (is_of_family s families.Number kind) e) as (λ _. SomeTakes s members (shape ∷ [])) [
      | inl f ↦ elim (either_true (is_of_family s families.Truth kind) (is_of_family s families.Text kind) f) as (λ _. SomeTakes s members (shape ∷ [])) [
        | inl g ↦ inr (inr (inl (in_builtin s Boolean kind shape g h)))
        | inr g ↦ elim (either_true (is_atomic_in s Str kind) (is_atomic_in s UntypedAtomic kind) g) as (λ _. SomeTakes s members (shape ∷ [])) [
          | inl i ↦ inr (inr (inr (inl (in_builtin s Str kind shape i h))))
          | inr i ↦ inr (inr (inr (inr (inl (in_builtin s UntypedAtomic kind shape i h)))))
        ]
      ]
      | inr f ↦ inr (inr (inr (inr (inr (inl (in_builtin s Decimal kind shape f h))))))
    ]

one_taken : (s : SchemaSet) (kind : ItemType) (ss : List Shape) → has_effective_boolean s kind ≡ true → Takes s (item kind) ss → SomeTakes s members ss
one_taken s kind ss e (shape, is, h) = subst (SomeTakes s members) (sym is) (truth_taken s kind shape e h)

pub item_is_boolean : (s : SchemaSet) (kind : ItemType) → Grounded (bases_of s) → has_effective_boolean s kind ≡ true → is_included s (item kind) boolean_types ≡ true
unfolding boolean_types
item_is_boolean s kind g e =
    (inclusion_is_decided s (item kind) boolean_types g).1 (λ list formed takes. (choice_takes_some s members list).0 (one_taken s kind list e takes))

optional_taken : (s : SchemaSet) (kind : ItemType) (ss : List Shape) → has_effective_boolean s kind ≡ true → Takes s (optional (item kind)) ss → SomeTakes s members ss
optional_taken s kind ss e (inl none) = inl none
optional_taken s kind ss e (inr h) = one_taken s kind ss e h

pub optional_is_boolean : (s : SchemaSet) (kind : ItemType) → Grounded (bases_of s) → has_effective_boolean s kind ≡ true → is_included s (optional (item kind)) boolean_types ≡ true
unfolding boolean_types
optional_is_boolean s kind g e =
    (inclusion_is_decided s (optional (item kind)) boolean_types g).1 (λ list formed takes. (choice_takes_some s members list).0 (optional_taken s kind list e takes))

-- ---- values

-- a value has an effective boolean value: it is empty, or its first item is a node, or it is one atomic value
pub data HasTruth : Items → Type 0 where
  is_empty : HasTruth []
  begins_with_node : (place : PlainNode) (rest : Items) → HasTruth (node place ∷ rest)
  is_one_atom : (value : Atomic) → HasTruth (atom value ∷ [])

one_atom_shown : (s : SchemaSet) (forest : Forest) (b : Builtin) (xs : Items) (ss : List Shape) → HaveShapes s forest xs ss → Takes s (atomic b) ss → HasTruth xs
one_atom_shown s forest b [] ss h (shape, is, k) = is_empty
one_atom_shown s forest b (x ∷ xs) [] h (shape, is, k) = absurd h
one_atom_shown s forest b (atom a ∷ []) (t ∷ ss) h (shape, is, k) = is_one_atom a
one_atom_shown s forest b (node place ∷ xs) (t ∷ ss) h (shape, is, k) = begins_with_node place xs
one_atom_shown s forest b (atom a ∷ y ∷ xs) (t ∷ []) h (shape, is, k) = absurd h.2
one_atom_shown s forest b (atom a ∷ y ∷ xs) (t ∷ u ∷ ss) h (shape, is, k) = absurd (cc)

-- what begins with the shape of a node begins with a node

front_is : (front rest ss : List Shape) (t shape : Shape) → t ∷ ss ≡ front ++ rest → front ≡ shape ∷ [] → front ≡ t ∷ []
front_is front rest ss t shape e f = one_shape shape t (cc (ap (λ (g : List Shape). g ++ rest) f)) f
  where
    one_shape : (shape t : Shape) → shape ≡ t → front ≡ shape ∷ [] → front ≡ t ∷ []
    one_shape shape t same f = subst (λ (x : Shape). front ≡ x ∷ []) same f

one_node_shape : (s : SchemaSet) (front : List Shape) → Takes s node_type front → (shape : Shape) × (front ≡ shape ∷ [])
one_node_shape s front (inl (inl (inl (shape, is, i)))) = (shape, is)
one_node_shape s front (inl (inl (inr (shape, is, i)))) = (shape, is)
one_node_shape s front (inl (inr (shape, is, i))) = (shape, is)
one_node_shape s front (inr (shape, is, i)) = (shape, is)

first_is_node : (s : SchemaSet) (forest : Forest) (xs : Items) (ss front rest : List Shape) → HaveShapes s forest xs ss → ss ≡ front ++ rest → Takes s node_type front → HasTruth xs
first_is_node s forest [] ss front rest h e k = is_empty
first_is_node s forest (x ∷ xs) [] front rest h e k = absurd h
first_is_node s forest (x ∷ xs) (t ∷ ss) front rest h e k =
    let n = one_node_shape s front k in
    let b : Belongs s forest (x ∷ []) node_type = record { seen = t ∷ []; shaped = (h.0, h.1, tt); taken = subst (λ (f : List Shape). Takes s node_type f) (front_is front rest ss t n.0 e n.1) k } in
    let m = (items_are_nodes s forest (x ∷ []) node_type refl b).0 in
    subst (λ (y : Item). HasTruth (y ∷ xs)) (sym m.1) (begins_with_node m.0 xs)

some_truth : (s : SchemaSet) (forest : Forest) (xs : Items) (ss : List Shape) → HaveShapes s forest xs ss → SomeTakes s members ss → HasTruth xs
some_truth s forest [] ss h k = is_empty
some_truth s forest (x ∷ xs) ss h (inl none) = absurd (subst (HaveShapes s forest (x ∷ xs)) none h)
some_truth s forest (x ∷ xs) ss h (inr (inl (front, rest, is, k, l))) = first_is_node s forest (x ∷ xs) ss front rest h is k
some_truth s forest (x ∷ xs) ss h (inr (inr (inl k))) = one_atom_shown s forest Boolean (x ∷ xs) ss h k
some_truth s forest (x ∷ xs) ss h (inr (inr (inr (inl k)))) = one_atom_shown s forest Str (x ∷ xs) ss h k
some_truth s forest (x ∷ xs) ss h (inr (inr (inr (inr (inl k))))) = one_atom_shown s forest UntypedAtomic (x ∷ xs) ss h k
some_truth s forest (x ∷ xs) ss h (inr (inr (inr (inr (inr (inl k)))))) = one_atom_shown s forest Decimal (x ∷ xs) ss h k
some_truth s forest (x ∷ xs) ss h (inr (inr (inr (inr (inr (inr k)))))) = absurd k

pub has_truth : (s : SchemaSet) (forest : Forest) (xs : Items) (t : SequenceType) → Grounded (bases_of s) → IsHonest s forest → is_included s t boolean_types ≡ true → Belongs s forest xs t → HasTruth xs
unfolding boolean_types
has_truth s forest xs t g honest e b =
    let c = included_belongs s forest xs t boolean_types g honest e b in some_truth s forest xs c.seen c.shaped ((choice_takes_some s members c.seen).1 c.taken)
