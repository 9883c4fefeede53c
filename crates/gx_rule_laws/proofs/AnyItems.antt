-- Values of an honest forest are of items, whatever they are.
use Rattle.std.proofs.Common.{◌≡◌, inl, inr, ℕ, List, [], ◌∷◌, Option, None, Some, refl, sym, ap, subst}
use Rattle.std.specs.List.{slice_get}
use Rattle.std.specs.Option.{option_map}
use Rattle.gx_base.specs.declared.type_name.Builtin.TheVariants.{AnyAtomic, Str, Boolean, Integer, Decimal}
use Rattle.gx_base.specs.declared.type_name.TypeName.{TypeName}
use Rattle.gx_base.specs.declared.type_name.TypeName.TheVariants as names
use Rattle.gx_num.specs.declared.Number.TheVariants.{Int, Dec}
use Rattle.gx_facets.specs.declared.AtomValue.{AtomValue}
use Rattle.gx_facets.specs.declared.AtomValue.TheVariants as values
use Rattle.gx_types.specs.declared.shape.Shape.{Shape}
use Rattle.gx_types.specs.declared.shape.Shape.TheVariants as shapes
use Rattle.gx_types.specs.Derivation.{DerivesFrom}
use Rattle.gx_types.specs.SchemaSet.{SchemaSet}
use Rattle.gx_types.specs.SchemaInvariant.{IsSchemaSet}
use Rattle.gx_types.specs.SequenceType.{SequenceType, star}
use Rattle.gx_types.specs.Takes.{Takes}
use Rattle.gx_types.proofs.PublicLaws.{derivation_is_a_preorder}
use Rattle.gx_tree.specs.declared.attribute.Attribute.{Attribute}
use Rattle.gx_tree.specs.PlainTree.{PlainTree, document, element, attribute, text}
use Rattle.gx_steptype.specs.StepType.{any_item}
use Rattle.gx_steptype.proofs.FormedShapes.{IsFormed}
use Rattle.gx_steptype.proofs.HonestNodes.{shape_is_formed, attribute_is_formed, tree_is_honest, honest_at}
use Rattle.gx_model.specs.Belongs.{shape_of, item_shape, ValueFits, ItemFits, HaveShapes, Belongs}
use Rattle.gx_model.specs.Forest.{Forest, PlainNode, then_found, own_attributes, tree_at, attribute_at, node_in}
use Rattle.gx_model.specs.Honest.{IsHonest, IsHonestTree}
use Rattle.gx_model.specs.Item.{Item, atom, node, Items}
use Rattle.gx_core.specs.Outcome.{Outcome, gives, raises, wrong}
use Rattle.gx_core.specs.Soundness.{Setting, Keeps}
use Rattle.gx_static.specs.Rule.{Ruling, has_type, has_none}
use Rattle.gx_static.proofs.AtomicTypes.{untyped_is_atomic, boolean_is_atomic, nameable_is_atomic, integer_is_atomic}
use Rattle.gx_rules.specs.Rules.{kind_ruled}

-- ---- nodes

attribute_formed : (s : SchemaSet) → IsSchemaSet s → (u v : PlainTree) (n : ℕ) → IsHonestTree s u → (found : Option Attribute) → slice_get (own_attributes u) n ≡ found
    → option_map attribute found ≡ Some v → IsFormed s (shape_of v)
attribute_formed s is u v n honest None e f = absurd (cc)
attribute_formed s is u v n honest (Some a) e f =
    let same : attribute a ≡ v = cc in subst (λ (w : PlainTree). IsFormed s (shape_of w)) same (attribute_is_formed s is u n a honest.typed e)

place_formed : (s : SchemaSet) → IsSchemaSet s → (t v : PlainTree) (path : List ℕ) (own : Option ℕ) → IsHonestTree s t → (found : Option PlainTree) → tree_at t path ≡ found
    → then_found found (attribute_at own) ≡ Some v → IsFormed s (shape_of v)
place_formed s is t v path own honest None e f = absurd (cc)
place_formed s is t v path None honest (Some u) e f =
    let same : u ≡ v = cc in subst (λ (w : PlainTree). IsFormed s (shape_of w)) same (shape_is_formed s is u (honest_at s path t u honest e).typed)
place_formed s is t v path (Some n) honest (Some u) e f =
    attribute_formed s is u v n (honest_at s path t u honest e) (slice_get (own_attributes u) n) refl f

node_formed : (s : SchemaSet) → IsSchemaSet s → (forest : Forest) (place : PlainNode) (v : PlainTree) → IsHonest s forest → (found : Option PlainTree)
    → slice_get forest place.tree ≡ found → then_found found (λ t. then_found (tree_at t place.path) (attribute_at place.attribute)) ≡ Some v → IsFormed s (shape_of v)
node_formed s is forest place v honest None e f = absurd (cc)
node_formed s is forest place v honest (Some t) e f =
    place_formed s is t v place.path place.attribute (tree_is_honest s forest place.tree t honest e) (tree_at t place.path) refl f

abbrev IsOfNode : Shape → Type 0
IsOfNode (shapes.Atom t) = ⊥
IsOfNode _ = Unit {0}

-- the shape of a node is one of `item()`
node_takes : (s : SchemaSet) (shape : Shape) → IsFormed s shape → IsOfNode shape → Takes s any_item (shape ∷ [])
node_takes s (shapes.Elem name t) h n = inl (inl (inl (inr (shapes.Elem name t, refl, (refl, h)))))
node_takes s (shapes.Attr name t) h n = inl (inl (inr (shapes.Attr name t, refl, (refl, h))))
node_takes s shapes.Text h n = inl (inr (shapes.Text, refl, tt))
node_takes s (shapes.Doc child) h n = inl (inl (inl (inl (shapes.Doc child, refl, tt))))
node_takes s (shapes.Atom t) h n = absurd n

of_a_tree : (t : PlainTree) → IsOfNode (shape_of t)
of_a_tree (document ts) = tt
of_a_tree (element name kind l ts) = tt
of_a_tree (attribute a) = tt
of_a_tree (text x) = tt

-- ---- atomic values

value_is_atomic : (s : SchemaSet) (v : AtomValue) (kind : TypeName) → ValueFits s v kind → DerivesFrom s kind (names.Builtin AnyAtomic)
value_is_atomic s (values.Untyped t) kind f = subst (λ (k : TypeName). DerivesFrom s k (names.Builtin AnyAtomic)) (sym f) (untyped_is_atomic s)
value_is_atomic s (values.Str t) kind f =
    derivation_is_a_preorder.transitive s kind (names.Builtin Str) (names.Builtin AnyAtomic) f (nameable_is_atomic s Str refl)
value_is_atomic s (values.Truth b) kind f =
    derivation_is_a_preorder.transitive s kind (names.Builtin Boolean) (names.Builtin AnyAtomic) f (boolean_is_atomic s)
value_is_atomic s (values.Num (Int i)) kind f =
    derivation_is_a_preorder.transitive s kind (names.Builtin Integer) (names.Builtin AnyAtomic) f (integer_is_atomic s)
value_is_atomic s (values.Num (Dec d)) kind f =
    derivation_is_a_preorder.transitive s kind (names.Builtin Decimal) (names.Builtin AnyAtomic) f.0 (nameable_is_atomic s Decimal refl)

-- ---- values

item_takes : (s : SchemaSet) → IsSchemaSet s → (forest : Forest) (x : Item) (shape : Shape) → IsHonest s forest → item_shape forest x ≡ Some shape → ItemFits s x
    → Takes s any_item (shape ∷ [])
item_takes s is forest (atom a) shape honest e f =
    let same : shapes.Atom a.kind ≡ shape = cc in
    subst (λ (t : Shape). Takes s any_item (t ∷ [])) same (inr (shapes.Atom a.kind, refl, value_is_atomic s a.value a.kind f))
item_takes s is forest (node place) shape honest e f = by_found (node_in forest place) refl e
  where
    by_found : (found : Option PlainTree) → node_in forest place ≡ found → option_map shape_of found ≡ Some shape → Takes s any_item (shape ∷ [])
    by_found None g h = absurd (cc)
    by_found (Some v) g h =
        let same : shape_of v ≡ shape = cc in
        subst (λ (t : Shape). Takes s any_item (t ∷ [])) same
        (node_takes s (shape_of v) (node_formed s is forest place v honest (slice_get forest place.tree) refl g) (of_a_tree v))

pub all_take : (s : SchemaSet) → IsSchemaSet s → (forest : Forest) (xs : Items) (seen : List Shape) → IsHonest s forest → HaveShapes s forest xs seen
    → Takes s (star any_item) seen
all_take s is forest [] [] honest h = ([], refl, tt)
all_take s is forest [] (shape ∷ seen) honest h = absurd h
all_take s is forest (x ∷ xs) [] honest h = absurd h
all_take s is forest (x ∷ xs) (shape ∷ seen) honest h =
    let rest = all_take s is forest xs seen honest h.2 in
    ((shape ∷ []) ∷ rest.0, ap (λ (ss : List Shape). shape ∷ ss) rest.1, (item_takes s is forest x shape honest h.0 h.1, rest.2))

pub of_any_items : (s : SchemaSet) → IsSchemaSet s → (forest : Forest) (xs : Items) (t : SequenceType) → IsHonest s forest → Belongs s forest xs t
    → Belongs s forest xs (star any_item)
of_any_items s is forest xs t honest b = record { seen = b.seen; shaped = b.shaped; taken = all_take s is forest xs b.seen honest b.shaped }

pub keeps_any_items : (setting : Setting) → IsSchemaSet setting.schemas → (before : Forest) (t : SequenceType) (outcome : Outcome Items) → Keeps setting before t outcome
    → Keeps setting before (star any_item) outcome
keeps_any_items setting is before t (gives xs left) h =
    record { grown = h.grown; honest = h.honest; fact = of_any_items setting.schemas is left xs t h.honest h.fact }
keeps_any_items setting is before t (raises code) h = tt
keeps_any_items setting is before t wrong h = absurd h

-- an outcome that keeps some type keeps the one that a rule gives, if it keeps that where the rule gives it
pub keeps_ruled : (setting : Setting) → IsSchemaSet setting.schemas → (before : Forest) (t : SequenceType) (outcome : Outcome Items) (ruling : Ruling)
    → Keeps setting before t outcome → ((u : SequenceType) → ruling ≡ has_type u → Keeps setting before u outcome)
    → Keeps setting before (kind_ruled ruling) outcome
keeps_ruled setting is before t outcome (has_type u) h k = k u refl
keeps_ruled setting is before t outcome (has_none code part) h k = keeps_any_items setting is before t outcome h
