-- Nodes of honest trees.
use Rattle.std.proofs.Common.{◌≡◌, ℕ, zero, suc, List, [], ◌∷◌, map, Option, None, Some, ◌⊎◌, inl, inr, refl, subst}
use Rattle.std.specs.List.{slice_get}
use Rattle.gx_base.specs.declared.name.Name.{Name}
use Rattle.gx_base.specs.declared.type_name.Builtin.TheVariants.{AnyType, AnySimple, Untyped, UntypedAtomic}
use Rattle.gx_base.specs.declared.type_name.TypeName.{TypeName}
use Rattle.gx_base.specs.declared.type_name.TypeName.TheVariants as names
use Rattle.gx_types.specs.SchemaSet.{SchemaSet}
use Rattle.gx_types.specs.SchemaInvariant.{IsSchemaSet}
use Rattle.gx_types.specs.Derivation.{bases_of, DerivesFrom}
use Rattle.gx_types.specs.Grounded.{Grounded}
use Rattle.gx_types.specs.Takes.{EachShape}
use Rattle.gx_tree.specs.declared.attribute.Attribute.{Attribute}
use Rattle.gx_tree.specs.PlainTree.{PlainTree, PlainTrees, document, element, attribute, text, no_trees, a_tree, list_of, IsProper, IsContent, AreContent}
use Rattle.gx_tree.specs.Erasure.{AreUntypedAtomic, AreUntyped}
use Rattle.gx_tree.specs.OwnNames.{AllHaveOwnNames}
use Rattle.gx_model.specs.Forest.{Forest, then_found, children_of, own_attributes, tree_at}
use Rattle.gx_model.specs.Belongs.{shape_of}
use Rattle.gx_model.specs.SeparateTexts.{AllHaveSeparateTexts}
use Rattle.gx_model.specs.TypedTree.{KeepsToType, IsTyped, AreTyped}
use Rattle.gx_model.specs.Honest.{IsHonestTree, IsHonest}
use Rattle.gx_model.proofs.UntypedTrees.{untyped_are_typed}
use Rattle.gx_steptype.proofs.FormedShapes.{IsFormed, derives_along, untyped_under_any}
use Rattle.gx_steptype.proofs.OwnAttributes.{AreDerived, attribute_shape, untyped_are_derived, own_are_simple}
use Rattle.gx_steptype.proofs.SimpleKinds.{named_is_any, simple_is_derived}
use Rattle.gx_steptype.proofs.UntypedKinds.{untyped_atomic_is_simple}

-- an element

pub record IsUntypedElement (kind : TypeName) (l : List Attribute) (ts : PlainTrees) : Type 0 where
  pub kind_is : kind ≡ names.Builtin Untyped
  pub attributes : AreUntypedAtomic l
  pub below : AreUntyped ts

pub record IsTypedElement (s : SchemaSet) (kind : TypeName) (l : List Attribute) (ts : PlainTrees) : Type 0 where
  pub keeps : KeepsToType s kind l ts
  pub below : AreTyped s ts

abbrev pub IsHonestElement : SchemaSet → TypeName → List Attribute → PlainTrees → Type 0
IsHonestElement s kind l ts = IsUntypedElement kind l ts ⊎ IsTypedElement s kind l ts

pub element_is_honest : (s : SchemaSet) (name : Name) (kind : TypeName) (l : List Attribute) (ts : PlainTrees) → IsTyped s (element name kind l ts) → IsHonestElement s kind l ts
element_is_honest s name kind l ts (inl u) = inl (record { kind_is = u.0; attributes = u.1; below = u.2 })
element_is_honest s name kind l ts (inr k) = inr (record { keeps = k.0; below = k.1 })

below_is_typed : (s : SchemaSet) (kind : TypeName) (l : List Attribute) (ts : PlainTrees) → IsHonestElement s kind l ts → AreTyped s ts
below_is_typed s kind l ts (inl u) = untyped_are_typed s ts u.below
below_is_typed s kind l ts (inr k) = k.below

pub element_is_any : (s : SchemaSet) (kind : TypeName) (l : List Attribute) (ts : PlainTrees) → Grounded (bases_of s) → IsHonestElement s kind l ts → DerivesFrom s kind (names.Builtin AnyType)
element_is_any s kind l ts g (inl u) = derives_along s kind (names.Builtin Untyped) (names.Builtin AnyType) u.kind_is (untyped_under_any s)
element_is_any s kind l ts g (inr k) = named_is_any s kind g k.keeps.known

attributes_are_simple : (s : SchemaSet) (kind : TypeName) (l : List Attribute) (ts : PlainTrees) → IsSchemaSet s → IsHonestElement s kind l ts → AreDerived s (names.Builtin AnySimple) l
attributes_are_simple s kind l ts is (inl u) = untyped_are_derived s (names.Builtin AnySimple) l (untyped_atomic_is_simple s) u.attributes
attributes_are_simple s kind l ts is (inr k) = own_are_simple s kind l ts is k.keeps

-- shapes are formed

document_is_formed : (s : SchemaSet) → Grounded (bases_of s) → (ts : PlainTrees) → AreTyped s ts → IsFormed s (shape_of (document ts))
document_is_formed s g no_trees h = tt
document_is_formed s g (a_tree (document us) no_trees) h = tt
document_is_formed s g (a_tree (document us) (a_tree t ts)) h = tt
document_is_formed s g (a_tree (element n k l us) no_trees) h = element_is_any s k l us g (element_is_honest s n k l us h.0)
document_is_formed s g (a_tree (element n k l us) (a_tree t ts)) h = tt
document_is_formed s g (a_tree (attribute a) no_trees) h = tt
document_is_formed s g (a_tree (attribute a) (a_tree t ts)) h = tt
document_is_formed s g (a_tree (text x) no_trees) h = tt
document_is_formed s g (a_tree (text x) (a_tree t ts)) h = tt

pub shape_is_formed : (s : SchemaSet) → IsSchemaSet s → (t : PlainTree) → IsTyped s t → IsFormed s (shape_of t)
shape_is_formed s is (document ts) h = document_is_formed s is.grounded ts h
shape_is_formed s is (element n k l ts) h = element_is_any s k l ts is.grounded (element_is_honest s n k l ts h)
shape_is_formed s is (attribute a) (inl e) = derives_along s a.kind (names.Builtin UntypedAtomic) (names.Builtin AnySimple) e (untyped_atomic_is_simple s)
shape_is_formed s is (attribute a) (inr typed) = simple_is_derived s a.kind is typed.simple
shape_is_formed s is (text x) h = tt

pub children_are_formed : (s : SchemaSet) → IsSchemaSet s → (ts : PlainTrees) → AreTyped s ts → EachShape (IsFormed s) (map shape_of (list_of ts))
children_are_formed s is no_trees h = tt
children_are_formed s is (a_tree t ts) h = (shape_is_formed s is t h.0, children_are_formed s is ts h.1)

pub all_children_are_formed : (s : SchemaSet) → IsSchemaSet s → (t : PlainTree) → IsTyped s t → EachShape (IsFormed s) (map shape_of (children_of t))
all_children_are_formed s is (document ts) h = children_are_formed s is ts h
all_children_are_formed s is (element n k l ts) h = children_are_formed s is ts (below_is_typed s k l ts (element_is_honest s n k l ts h))
all_children_are_formed s is (attribute a) h = tt
all_children_are_formed s is (text x) h = tt

pub attributes_are_formed : (s : SchemaSet) (l : List Attribute) → AreDerived s (names.Builtin AnySimple) l → EachShape (IsFormed s) (map attribute_shape l)
attributes_are_formed s [] h = tt
attributes_are_formed s (a ∷ l) h = (h.0, attributes_are_formed s l h.1)

derived_among : (s : SchemaSet) (kind : TypeName) (l : List Attribute) (n : ℕ) (a : Attribute) → AreDerived s kind l → slice_get l n ≡ Some a → DerivesFrom s a.kind kind
derived_among s kind [] n a h e = absurd (cc)
derived_among s kind (b ∷ l) zero a h e = let same : b ≡ a = cc in subst (λ (c : Attribute). DerivesFrom s c.kind kind) same h.0
derived_among s kind (b ∷ l) (suc n) a h e = derived_among s kind l n a h.1 e

pub attribute_is_formed : (s : SchemaSet) → IsSchemaSet s → (u : PlainTree) (n : ℕ) (a : Attribute) → IsTyped s u → slice_get (own_attributes u) n ≡ Some a → IsFormed s (attribute_shape a)
attribute_is_formed s is (document ts) n a h e = absurd (cc)
attribute_is_formed s is (element m k l ts) n a h e = derived_among s (names.Builtin AnySimple) l n a (attributes_are_simple s k l ts is (element_is_honest s m k l ts h)) e
attribute_is_formed s is (attribute b) n a h e = absurd (cc)
attribute_is_formed s is (text x) n a h e = absurd (cc)

-- a node of an honest tree, with what is below it, is honest as well

pub tree_is_honest : (s : SchemaSet) (forest : Forest) (n : ℕ) (t : PlainTree) → IsHonest s forest → slice_get forest n ≡ Some t → IsHonestTree s t
tree_is_honest s [] n t h e = absurd (cc)
tree_is_honest s (u ∷ forest) zero t h e = let same : u ≡ t = cc in subst (IsHonestTree s) same h.0
tree_is_honest s (u ∷ forest) (suc n) t h e = tree_is_honest s forest n t h.1 e

-- a child is an element or a text, and honest
pub record IsHonestChild (s : SchemaSet) (t : PlainTree) : Type 0 where
  pub content : IsContent t
  pub honest : IsHonestTree s t

content_is_proper : (t : PlainTree) → IsContent t → IsProper t
content_is_proper (document ts) h = absurd h
content_is_proper (element n k l ts) h = h
content_is_proper (attribute a) h = absurd h
content_is_proper (text x) h = tt

child_among : (s : SchemaSet) (ts : PlainTrees) (n : ℕ) (c : PlainTree) → AreContent ts → AreTyped s ts → AllHaveSeparateTexts ts → AllHaveOwnNames ts → slice_get (list_of ts) n ≡ Some c → IsHonestChild s c
child_among s no_trees n c p k x o e = absurd (cc)
child_among s (a_tree t ts) zero c p k x o e =
    let same : t ≡ c = cc in
    subst (IsHonestChild s) same (record { content = p.0; honest = record { proper = content_is_proper t p.0; typed = k.0; texts = x.0; names = o.0 } })
child_among s (a_tree t ts) (suc n) c p k x o e = child_among s ts n c p.1 k.1 x.1 o.1 e

pub child_is_honest : (s : SchemaSet) (t : PlainTree) (n : ℕ) (c : PlainTree) → IsHonestTree s t → slice_get (children_of t) n ≡ Some c → IsHonestChild s c
child_is_honest s (document ts) n c h e = child_among s ts n c h.proper h.typed h.texts.1 h.names e
child_is_honest s (element m k l ts) n c h e = child_among s ts n c h.proper (below_is_typed s k l ts (element_is_honest s m k l ts h.typed)) h.texts.1 h.names.1 e
child_is_honest s (attribute a) n c h e = absurd (cc)
child_is_honest s (text x) n c h e = absurd (cc)

through_child : (s : SchemaSet) (path : List ℕ) (n : ℕ) (t u : PlainTree) → IsHonestTree s t → ((c : PlainTree) → IsHonestTree s c → tree_at c path ≡ Some u → IsHonestTree s u)
    → (o : Option PlainTree) → slice_get (children_of t) n ≡ o → then_found o (λ c. tree_at c path) ≡ Some u → IsHonestTree s u
through_child s path n t u h next None f g = absurd (cc)
through_child s path n t u h next (Some c) f g = next c (child_is_honest s t n c h f).honest g

pub honest_at : (s : SchemaSet) (path : List ℕ) (t u : PlainTree) → IsHonestTree s t → tree_at t path ≡ Some u → IsHonestTree s u
honest_at s [] t u h e = let same : t ≡ u = cc in subst (IsHonestTree s) same h
honest_at s (n ∷ path) t u h e = through_child s path n t u h (λ c i f. honest_at s path c u i f) (slice_get (children_of t) n) refl e
