-- Types of children and parents take their shapes.
use Rattle.std.proofs.Common.{◌≡◌, ℕ, Bool, true, false, List, [], ◌∷◌, map, Option, None, Some, inl, inr, refl, sym, subst, if◌then◌else◌}
use Rattle.std.specs.List.{slice_get}
use Rattle.gx_base.specs.declared.name.Name.{Name}
use Rattle.gx_base.specs.declared.type_name.Builtin.TheVariants as builtins
use Rattle.gx_base.specs.declared.type_name.TypeName.{TypeName}
use Rattle.gx_base.specs.declared.type_name.TypeName.TheVariants as names
use Rattle.gx_types.specs.declared.item_type.ItemType.{ItemType}
use Rattle.gx_types.specs.declared.item_type.ItemType.TheVariants as items
use Rattle.gx_types.specs.declared.shape.Shape.{Shape}
use Rattle.gx_types.specs.declared.shape.Shape.TheVariants as shapes
use Rattle.gx_types.specs.SchemaSet.{SchemaSet}
use Rattle.gx_types.specs.SchemaInvariant.{IsSchemaSet}
use Rattle.gx_types.specs.Derivation.{bases_of, DerivesFrom}
use Rattle.gx_types.specs.Grounded.{Grounded}
use Rattle.gx_types.specs.SequenceType.{item, either}
use Rattle.gx_types.specs.ItemTakes.{ItemTakes}
use Rattle.gx_types.specs.Takes.{Takes, EachShape}
use Rattle.gx_tree.specs.PlainTree.{PlainTree, PlainTrees, document, element, attribute, text, no_trees, a_tree, list_of, IsContent, AreContent}
use Rattle.gx_tree.specs.Erasure.{AreUntyped}
use Rattle.gx_tree.specs.declared.attribute.Attribute.{Attribute}
use Rattle.gx_model.specs.Forest.{children_of, own_attributes}
use Rattle.gx_model.specs.Belongs.{shape_of}
use Rattle.gx_model.specs.TypedTree.{AreTyped}
use Rattle.gx_model.specs.Honest.{IsHonestTree}
use Rattle.gx_steptype.specs.DerivedTypes.{over_derived}
use Rattle.gx_steptype.specs.StepType.{mixed_with, content_of, is_ur_type, child_content, child_type, parent_type}
use Rattle.gx_steptype.proofs.Replacing.{star_next}
use Rattle.gx_steptype.proofs.UntypedKinds.{untyped_kinds}
use Rattle.gx_steptype.proofs.CoveredTypes.{contents_agree, named_is_listed, choice_covers}
use Rattle.gx_steptype.proofs.OwnContent.{own_content_takes}
use Rattle.gx_steptype.proofs.FormedShapes.{IsFormed, derives_along, untyped_under_any}
use Rattle.gx_steptype.proofs.HonestNodes.{IsTypedElement, IsHonestElement, element_is_honest, element_is_any, children_are_formed}

-- content

-- elements of one type, and texts
abbrev IsMixedShape : SchemaSet → TypeName → Shape → Type 0
IsMixedShape s kind (shapes.Elem n t) = DerivesFrom s t kind
IsMixedShape s kind shapes.Text = Unit {0}
IsMixedShape s kind (shapes.Attr n t) = ⊥
IsMixedShape s kind (shapes.Doc child) = ⊥
IsMixedShape s kind (shapes.Atom t) = ⊥

mixed_takes : (s : SchemaSet) (kind : TypeName) (ss : List Shape) → EachShape (IsMixedShape s kind) ss → Takes s (mixed_with kind) ss
mixed_takes s kind [] h = ([], refl, tt)
mixed_takes s kind (shapes.Elem n t ∷ ss) h =
    star_next s (either (item (items.Element None kind)) (item items.Text)) (shapes.Elem n t) ss (inl (shapes.Elem n t, refl, (refl, h.0))) (mixed_takes s kind ss h.1)
mixed_takes s kind (shapes.Text ∷ ss) h =
    star_next s (either (item (items.Element None kind)) (item items.Text)) shapes.Text ss (inr (shapes.Text, refl, tt)) (mixed_takes s kind ss h.1)
mixed_takes s kind (shapes.Attr n t ∷ ss) h = absurd h.0
mixed_takes s kind (shapes.Doc child ∷ ss) h = absurd h.0
mixed_takes s kind (shapes.Atom t ∷ ss) h = absurd h.0

untyped_is_mixed : (s : SchemaSet) (kind : TypeName) (ts : PlainTrees) → DerivesFrom s (names.Builtin builtins.Untyped) kind → AreContent ts → AreUntyped ts
    → EachShape (IsMixedShape s kind) (map shape_of (list_of ts))
untyped_is_mixed s kind no_trees d p u = tt
untyped_is_mixed s kind (a_tree (document us) ts) d p u = absurd p.0
untyped_is_mixed s kind (a_tree (attribute a) ts) d p u = absurd p.0
untyped_is_mixed s kind (a_tree (element n k l us) ts) d p u = (derives_along s k (names.Builtin builtins.Untyped) kind u.0.0 d, untyped_is_mixed s kind ts d p.1 u.1)
untyped_is_mixed s kind (a_tree (text x) ts) d p u = (tt, untyped_is_mixed s kind ts d p.1 u.1)

formed_is_mixed : (s : SchemaSet) (ts : PlainTrees) → AreContent ts → EachShape (IsFormed s) (map shape_of (list_of ts)) → EachShape (IsMixedShape s (names.Builtin builtins.AnyType)) (map shape_of (list_of ts))
formed_is_mixed s no_trees p h = tt
formed_is_mixed s (a_tree (document us) ts) p h = absurd p.0
formed_is_mixed s (a_tree (attribute a) ts) p h = absurd p.0
formed_is_mixed s (a_tree (element n k l us) ts) p h = (h.0, formed_is_mixed s ts p.1 h.1)
formed_is_mixed s (a_tree (text x) ts) p h = (tt, formed_is_mixed s ts p.1 h.1)

any_content_takes : (s : SchemaSet) → IsSchemaSet s → (ts : PlainTrees) → AreContent ts → AreTyped s ts → Takes s (mixed_with (names.Builtin builtins.AnyType)) (map shape_of (list_of ts))
any_content_takes s is ts p h = mixed_takes s (names.Builtin builtins.AnyType) (map shape_of (list_of ts)) (formed_is_mixed s ts p (children_are_formed s is ts h))

-- of an element without a type
untyped_children : (s : SchemaSet) → Grounded (bases_of s) → (kind : TypeName) (ts : PlainTrees) → DerivesFrom s (names.Builtin builtins.Untyped) kind → AreContent ts → AreUntyped ts
    → Takes s (child_content s kind) (map shape_of (list_of ts))
untyped_children s g kind ts d p u = elim (untyped_kinds s kind d) [
  | inl e ↦ subst (λ (k : TypeName). Takes s (child_content s k) (map shape_of (list_of ts))) (sym e)
      (choice_covers s g (names.Builtin builtins.Untyped) (names.Builtin builtins.Untyped) (0, refl) (content_of s) (contents_agree s) refl (map shape_of (list_of ts))
      (mixed_takes s (names.Builtin builtins.Untyped) (map shape_of (list_of ts)) (untyped_is_mixed s (names.Builtin builtins.Untyped) ts (0, refl) p u)))
  | inr e ↦ subst (λ (k : TypeName). Takes s (child_content s k) (map shape_of (list_of ts))) (sym e)
      (mixed_takes s (names.Builtin builtins.AnyType) (map shape_of (list_of ts)) (untyped_is_mixed s (names.Builtin builtins.AnyType) ts (untyped_under_any s) p u))
]

-- of an element that keeps to its type

pub ur_type_is : (t : TypeName) → is_ur_type t ≡ true → t ≡ names.Builtin builtins.AnyType
ur_type_is (names.Builtin builtins.AnyType) h = refl
ur_type_is _ h = absurd (cc)

typed_children : (s : SchemaSet) → IsSchemaSet s → (kind t : TypeName) (l : List Attribute) (ts : PlainTrees) → DerivesFrom s t kind → AreContent ts → IsTypedElement s t l ts
    → (ur : Bool) → is_ur_type kind ≡ ur → Takes s (if ur then content_of s kind else over_derived s (content_of s) kind) (map shape_of (list_of ts))
typed_children s is kind t l ts d p k true e =
    subst (λ (u : TypeName). Takes s (content_of s u) (map shape_of (list_of ts))) (sym (ur_type_is kind e)) (any_content_takes s is ts p k.below)
typed_children s is kind t l ts d p k false e =
    choice_covers s is.grounded kind t d (content_of s) (contents_agree s) (named_is_listed s t k.keeps.known) (map shape_of (list_of ts)) (own_content_takes s t l ts is k.keeps)

element_children : (s : SchemaSet) → IsSchemaSet s → (kind t : TypeName) (l : List Attribute) (ts : PlainTrees) → DerivesFrom s t kind → AreContent ts → IsHonestElement s t l ts
    → Takes s (child_content s kind) (map shape_of (list_of ts))
element_children s is kind t l ts d p (inl u) = untyped_children s is.grounded kind ts (subst (λ (v : TypeName). DerivesFrom s v kind) u.kind_is d) p u.below
element_children s is kind t l ts d p (inr k) = typed_children s is kind t l ts d p k (is_ur_type kind) refl

only_child_takes : (s : SchemaSet) (e : Option Name × TypeName) (ts : PlainTrees) → ItemTakes s (items.Document (Some e)) (shape_of (document ts)) → Takes s (item (items.Element e.0 e.1)) (map shape_of (list_of ts))
only_child_takes s e no_trees h = absurd h
only_child_takes s e (a_tree (document us) no_trees) h = absurd h
only_child_takes s e (a_tree (document us) (a_tree t ts)) h = absurd h
only_child_takes s e (a_tree (element n k l us) no_trees) h = (shapes.Elem n k, refl, h)
only_child_takes s e (a_tree (element n k l us) (a_tree t ts)) h = absurd h
only_child_takes s e (a_tree (attribute a) no_trees) h = absurd h
only_child_takes s e (a_tree (attribute a) (a_tree t ts)) h = absurd h
only_child_takes s e (a_tree (text x) no_trees) h = absurd h
only_child_takes s e (a_tree (text x) (a_tree t ts)) h = absurd h

pub child_takes : (s : SchemaSet) → IsSchemaSet s → (u : PlainTree) → IsHonestTree s u → (kind : ItemType) → ItemTakes s kind (shape_of u) → Takes s (child_type s kind) (map shape_of (children_of u))
child_takes s is (document ts) h (items.Document None) k = any_content_takes s is ts h.proper h.typed
child_takes s is (document ts) h (items.Document (Some e)) k = only_child_takes s e ts k
child_takes s is (document ts) h (items.Element w t) k = absurd k
child_takes s is (document ts) h (items.Attribute w t) k = absurd k
child_takes s is (document ts) h items.Text k = absurd k
child_takes s is (document ts) h (items.Atom t) k = absurd k
child_takes s is (element n kind l ts) h (items.Element w t) k =
    element_children s is t kind l ts k.1 h.proper (element_is_honest s n kind l ts h.typed)
child_takes s is (element n kind l ts) h (items.Document None) k = absurd k
child_takes s is (element n kind l ts) h (items.Document (Some e)) k = absurd k
child_takes s is (element n kind l ts) h (items.Attribute w t) k = absurd k
child_takes s is (element n kind l ts) h items.Text k = absurd k
child_takes s is (element n kind l ts) h (items.Atom t) k = absurd k
child_takes s is (attribute a) h (items.Attribute w t) k = refl
child_takes s is (attribute a) h (items.Element w t) k = absurd k
child_takes s is (attribute a) h (items.Document None) k = absurd k
child_takes s is (attribute a) h (items.Document (Some e)) k = absurd k
child_takes s is (attribute a) h items.Text k = absurd k
child_takes s is (attribute a) h (items.Atom t) k = absurd k
child_takes s is (text x) h items.Text k = refl
child_takes s is (text x) h (items.Element w t) k = absurd k
child_takes s is (text x) h (items.Attribute w t) k = absurd k
child_takes s is (text x) h (items.Document None) k = absurd k
child_takes s is (text x) h (items.Document (Some e)) k = absurd k
child_takes s is (text x) h (items.Atom t) k = absurd k

-- parents

-- no node has to have a parent
pub no_parent : (s : SchemaSet) (kind : ItemType) → Takes s (parent_type kind) []
no_parent s (items.Element w t) = inl refl
no_parent s (items.Attribute w t) = inl refl
no_parent s items.Text = inl refl
no_parent s (items.Document e) = refl
no_parent s (items.Atom t) = refl

-- a node that has a child is an element or a document
either_takes : (s : SchemaSet) → Grounded (bases_of s) → (w c : PlainTree) (n : ℕ) → IsHonestTree s w → slice_get (children_of w) n ≡ Some c
    → Takes s (either (item (items.Element None (names.Builtin builtins.AnyType))) (item (items.Document None))) (shape_of w ∷ [])
either_takes s g (document ts) c n h e = inr (shape_of (document ts), refl, tt)
either_takes s g (element m k l ts) c n h e = inl (shapes.Elem m k, refl, (refl, element_is_any s k l ts g (element_is_honest s m k l ts h.typed)))
either_takes s g (attribute a) c n h e = absurd (cc)
either_takes s g (text x) c n h e = absurd (cc)

pub parent_takes : (s : SchemaSet) → Grounded (bases_of s) → (w c : PlainTree) (n : ℕ) → IsHonestTree s w → slice_get (children_of w) n ≡ Some c → IsContent c
    → (kind : ItemType) → ItemTakes s kind (shape_of c) → Takes s (parent_type kind) (shape_of w ∷ [])
parent_takes s g w (element m k l ts) n h e p (items.Element v t) i = inr (either_takes s g w (element m k l ts) n h e)
parent_takes s g w (element m k l ts) n h e p (items.Attribute v t) i = absurd i
parent_takes s g w (element m k l ts) n h e p items.Text i = absurd i
parent_takes s g w (element m k l ts) n h e p (items.Document None) i = absurd i
parent_takes s g w (element m k l ts) n h e p (items.Document (Some d)) i = absurd i
parent_takes s g w (element m k l ts) n h e p (items.Atom t) i = absurd i
parent_takes s g w (text x) n h e p items.Text i = inr (either_takes s g w (text x) n h e)
parent_takes s g w (text x) n h e p (items.Element v t) i = absurd i
parent_takes s g w (text x) n h e p (items.Attribute v t) i = absurd i
parent_takes s g w (text x) n h e p (items.Document None) i = absurd i
parent_takes s g w (text x) n h e p (items.Document (Some d)) i = absurd i
parent_takes s g w (text x) n h e p (items.Atom t) i = absurd i
parent_takes s g w (document ts) n h e p kind i = absurd p
parent_takes s g w (attribute a) n h e p kind i = absurd p

-- and one that has an attribute is an element
pub owner_takes : (s : SchemaSet) → Grounded (bases_of s) → (u : PlainTree) (a : Attribute) (n : ℕ) → IsHonestTree s u → slice_get (own_attributes u) n ≡ Some a
    → (kind : ItemType) → ItemTakes s kind (shapes.Attr a.name a.kind) → Takes s (parent_type kind) (shape_of u ∷ [])
owner_takes s g (element m k l ts) a n h e (items.Attribute w t) i =
    inr (shapes.Elem m k, refl, (refl, element_is_any s k l ts g (element_is_honest s m k l ts h.typed)))
owner_takes s g (element m k l ts) a n h e (items.Element w t) i = absurd i
owner_takes s g (element m k l ts) a n h e items.Text i = absurd i
owner_takes s g (element m k l ts) a n h e (items.Document None) i = absurd i
owner_takes s g (element m k l ts) a n h e (items.Document (Some d)) i = absurd i
owner_takes s g (element m k l ts) a n h e (items.Atom t) i = absurd i
owner_takes s g (document ts) a n h e kind i = absurd (cc)
owner_takes s g (attribute b) a n h e kind i = absurd (cc)
owner_takes s g (text x) a n h e kind i = absurd (cc)
