-- Copies of nodes in the making.
use Rattle.std.proofs.Common.{◌≡◌, ℕ, suc, ◌+◌, ◌*◌, ◌<◌, ◌≤◌, List, [], ◌∷◌, ◌++◌, map, Some, refl, sym, ap, ◌∙◌, arith, subst}
use Rattle.std.proofs.lemmas.List.{map-id}
use Rattle.gx_base.specs.declared.name.Name.{Name}
use Rattle.gx_base.specs.declared.type_name.Builtin.TheVariants.{Untyped}
use Rattle.gx_base.specs.declared.type_name.TypeName.{TypeName}
use Rattle.gx_tree.specs.declared.attribute.Attribute.{Attribute}
use Rattle.gx_tree.specs.Erasure.{erased, erased_all}
use Rattle.gx_tree.specs.PlainTree.{PlainTree, PlainTrees, document, element, attribute, text, no_trees, a_tree, trees_of, list_of}
use Rattle.gx_model.specs.Forest.{Forest, own_attributes}
use Rattle.gx_model.proofs.ListLemmas.{append_none}
use Rattle.gx_nodes.specs.Entries.{count_of_all, count_in, entry_in}
use Rattle.gx_nodes.specs.Near.{inner_trees}
use Rattle.gx_nodes.specs.Rows.{attributes_among}
use Rattle.gx_nodes.proofs.EntryLemmas.{below_parts}
use Rattle.gx_store.specs.declared.labels.Label.{Label}
use Rattle.gx_store.specs.declared.number.NodeId.{NodeId}
use Rattle.gx_store.specs.declared.row.Form.TheVariants as forms
use Rattle.gx_store.specs.declared.to_tree.Annotations.{Annotations}
use Rattle.gx_store.specs.declared.to_tree.Annotations.TheVariants.{Kept, Erased}
use Rattle.gx_store.specs.declared.to_tree.Copying.{Copying}
use Rattle.gx_store.specs.Copied.{tree_as, attribute_as, kind_as, copy_of, trees_to_copy, IsCopying, AreRound, AreCopying, weight, left_to_copy}
use Rattle.gx_store.specs.Left.{children_left, trees_numbered}
use Rattle.gx_store.specs.Stored.{below_in, attributes_at, label_of, FitsForm}
use Rattle.gx_store.proofs.StoreLemmas.{left_more, left_end}
use Rattle.gx_store.proofs.TreeLemmas.{children_trees}

-- copies of trees

trees_back : (ts : PlainTrees) → trees_of (list_of ts) ≡ ts
trees_back no_trees = refl
trees_back (a_tree t ts) = ap (a_tree t) (trees_back ts)

all_erased : (ts : PlainTrees) → trees_of (map erased (list_of ts)) ≡ erased_all ts
all_erased no_trees = refl
all_erased (a_tree t ts) = ap (a_tree (erased t)) (all_erased ts)

document_as : (a : Annotations) (ts : PlainTrees) → document (trees_of (map (tree_as a) (list_of ts))) ≡ tree_as a (document ts)
document_as Kept ts = ap (λ (us : List PlainTree). document (trees_of us)) (map-id (list_of ts)) ∙ ap document (trees_back ts)
document_as Erased ts = ap document (all_erased ts)

element_as : (a : Annotations) (name : Name) (kind : TypeName) (l : List Attribute) (ts : PlainTrees)
    → element name (kind_as a Untyped kind) (map (attribute_as a) l) (trees_of (map (tree_as a) (list_of ts))) ≡ tree_as a (element name kind l ts)
element_as Kept name kind l ts =
    ap (λ (m : List Attribute). element name kind m (trees_of (map (tree_as Kept) (list_of ts)))) (map-id l)
    ∙ ap (λ (us : List PlainTree). element name kind l (trees_of us)) (map-id (list_of ts))
    ∙ ap (element name kind l) (trees_back ts)
element_as Erased name kind l ts = ap (element name (kind_as Erased Untyped kind) (map (attribute_as Erased) l)) (all_erased ts)

attribute_tree_as : (a : Annotations) (x : Attribute) → attribute (attribute_as a x) ≡ tree_as a (attribute x)
attribute_tree_as Kept x = refl
attribute_tree_as Erased x = refl

text_as : (a : Annotations) (x : List ℕ) → text x ≡ tree_as a (text x)
text_as Kept x = refl
text_as Erased x = refl

pub document_done : (a : Annotations) (t : PlainTree) (us : List PlainTree) → FitsForm forms.Document t → us ≡ map (tree_as a) (list_of (inner_trees t)) → document (trees_of us) ≡ tree_as a t
document_done a (document ts) us h e = ap (λ (vs : List PlainTree). document (trees_of vs)) e ∙ document_as a ts
document_done a (element name kind l ts) us h e = absurd h
document_done a (attribute x) us h e = absurd h
document_done a (text x) us h e = absurd h

pub element_done : (a : Annotations) (n k : ℕ) (label : Label) (t : PlainTree) (name : Name) (kind : TypeName) (list : List Attribute) (us : List PlainTree) → FitsForm (forms.Element n k) t → label_of t ≡ Some label
    → name ≡ label.name → kind ≡ kind_as a Untyped label.kind → list ≡ map (attribute_as a) (own_attributes t) → us ≡ map (tree_as a) (list_of (inner_trees t)) → element name kind list (trees_of us) ≡ tree_as a t
element_done a n k label (document ts) name kind list us h e p q f g = absurd h
element_done a n k label (element own_name own_kind own ts) name kind list us h e p q f g =
    let whole : record { name = own_name; kind = own_kind } ≡ label = cc in
    ap (λ (x : Name). element x kind list (trees_of us)) (p ∙ ap (λ (m : Label). m.name) (sym whole))
    ∙ ap (λ (x : TypeName). element own_name x list (trees_of us)) (q ∙ ap (λ (m : Label). kind_as a Untyped m.kind) (sym whole))
    ∙ ap (λ (x : List Attribute). element own_name (kind_as a Untyped own_kind) x (trees_of us)) f
    ∙ ap (λ (vs : List PlainTree). element own_name (kind_as a Untyped own_kind) (map (attribute_as a) own) (trees_of vs)) g
    ∙ element_as a own_name own_kind own ts
element_done a n k label (attribute x) name kind list us h e p q f g = absurd h
element_done a n k label (text x) name kind list us h e p q f g = absurd h

attribute_is : (a : Annotations) (v : List ℕ) (label : Label) (own x : Attribute) → v ≡ own.value → Some (record { name = own.name; kind = own.kind }) ≡ Some label
    → x ≡ attribute_as a (record { name = label.name; kind = label.kind; value = v }) → x ≡ attribute_as a own
attribute_is a v label own x h e f =
    let whole : record { name = own.name; kind = own.kind } ≡ label = cc in
    f
    ∙ ap (λ (m : Label). attribute_as a (record { name = m.name; kind = m.kind; value = v })) (sym whole)
    ∙ ap (λ (w : List ℕ). attribute_as a (record { name = own.name; kind = own.kind; value = w })) h

pub attribute_done : (a : Annotations) (n : ℕ) (v : List ℕ) (label : Label) (t : PlainTree) (x : Attribute) → FitsForm (forms.Attribute n v) t → label_of t ≡ Some label
    → x ≡ attribute_as a (record { name = label.name; kind = label.kind; value = v }) → attribute x ≡ tree_as a t
attribute_done a n v label (document ts) x h e f = absurd h
attribute_done a n v label (element name kind l ts) x h e f = absurd h
attribute_done a n v label (attribute own) x h e f = ap attribute (attribute_is a v label own x h e f) ∙ attribute_tree_as a own
attribute_done a n v label (text y) x h e f = absurd h

pub attribute_among : (a : Annotations) (n : ℕ) (v : List ℕ) (label : Label) (t : PlainTree) (x : Attribute) → FitsForm (forms.Attribute n v) t → label_of t ≡ Some label
    → x ≡ attribute_as a (record { name = label.name; kind = label.kind; value = v }) → x ∷ [] ≡ map (attribute_as a) (attributes_among (t ∷ []))
attribute_among a n v label (document ts) x h e f = absurd h
attribute_among a n v label (element name kind l ts) x h e f = absurd h
attribute_among a n v label (attribute own) x h e f = ap (λ (y : Attribute). y ∷ []) (attribute_is a v label own x h e f)
attribute_among a n v label (text y) x h e f = absurd h

pub text_done : (a : Annotations) (x y : List ℕ) (t : PlainTree) → FitsForm (forms.Text x) t → y ≡ x → text y ≡ tree_as a t
text_done a x y (document ts) h e = absurd h
text_done a x y (element name kind l ts) h e = absurd h
text_done a x y (attribute own) h e = absurd h
text_done a x y (text z) h e = ap text (e ∙ h) ∙ text_as a z

-- ---- what is left

-- the children of a node of which nothing is copied
begun_left : (forest : Forest) (n next end : ℕ) → n < count_in forest → next ≡ suc (n + attributes_at forest n) → end ≡ suc (n + below_in forest n)
    → trees_numbered forest (children_left forest next end) ≡ list_of (inner_trees (entry_in forest n).tree)
begun_left forest n next end h a b =
    ap (λ (k : ℕ). trees_numbered forest (children_left forest k end)) a
    ∙ ap (λ (k : ℕ). trees_numbered forest (children_left forest (suc (n + attributes_at forest n)) k)) b
    ∙ children_trees forest n h

pub begun : (forest : Forest) (c : Copying) → c.node.number < count_in forest → c.end ≤ count_in forest → c.copied.items ≡ [] → c.next ≡ suc (c.node.number + attributes_at forest c.node.number)
    → c.end ≡ suc (c.node.number + below_in forest c.node.number) → (a : Annotations) → IsCopying a forest [] c
begun forest c h w e n b a = record {
  there = h;
  within = w;
  whole = ap (λ (ts : List PlainTree). ts ++ map (tree_as a) (trees_to_copy forest c)) e ∙ ap (map (tree_as a)) (begun_left forest c.node.number c.next c.end h n b);
}

-- the next child, and the others
next_left : (forest : Forest) (here rest : Copying) → here.next < here.end → rest.next ≡ suc (here.next + below_in forest here.next) → rest.end ≡ here.end
    → trees_to_copy forest here ≡ (entry_in forest here.next).tree ∷ trees_to_copy forest rest
next_left forest here rest h n b =
    ap (trees_numbered forest) (left_more (below_in forest) here.next rest.next here.end h n)
    ∙ ap (λ (k : ℕ). (entry_in forest here.next).tree ∷ trees_numbered forest (children_left forest rest.next k)) (sym b)

pub next_begun : (a : Annotations) (forest : Forest) (root : ℕ) (here rest child : Copying) (outer now : List Copying) → here.next < here.end → rest.next ≡ suc (here.next + below_in forest here.next) → rest.end ≡ here.end
    → rest.node ≡ here.node → rest.copied.items ≡ here.copied.items → child.node.number ≡ here.next → IsCopying a forest [] child → now ≡ child ∷ rest ∷ outer → IsCopying a forest [] here → AreRound a forest root here.node.number outer
    → AreCopying a forest root now
next_begun a forest root here rest child outer now h n b m d e x w i r = subst (AreCopying a forest root) (sym w) (
  x,
  (
    record {
      there = subst (λ (k : NodeId). k.number < count_in forest) (sym m) i.there;
      within = subst (λ (k : ℕ). k ≤ count_in forest) (sym b) i.within;
      whole = ap (λ (k : ℕ). rest.copied.items ++ (copy_of a forest k ∷ map (tree_as a) (trees_to_copy forest rest))) e
          ∙ ap (λ (ts : List PlainTree). rest.copied.items ++ map (tree_as a) ts) (sym (next_left forest here rest h n b))
          ∙ ap (λ (ts : List PlainTree). ts ++ map (tree_as a) (trees_to_copy forest here)) d
          ∙ i.whole
          ∙ ap (λ (k : NodeId). map (tree_as a) (list_of (inner_trees (entry_in forest k.number).tree))) (sym m);
    },
    subst (λ (k : NodeId). AreRound a forest root k.number outer) (sym m) r,
  ),
)

-- less is left behind a child that is begun

weight_inner : (ts : PlainTrees) → weight (list_of ts) ≡ 2 * count_of_all ts
weight_inner no_trees = refl
weight_inner (a_tree t ts) = omega (arith, weight_inner ts)

pub begun_less : (forest : Forest) (here rest child : Copying) (outer now : List Copying) → here.next < here.end → rest.next ≡ suc (here.next + below_in forest here.next) → rest.end ≡ here.end → here.next < count_in forest
    → child.next ≡ suc (here.next + attributes_at forest here.next) → child.end ≡ suc (here.next + below_in forest here.next) → now ≡ child ∷ rest ∷ outer → left_to_copy forest now < left_to_copy forest (here ∷ outer)
begun_less forest here rest child outer now h n b there cn ce w =
    let t : PlainTree = (entry_in forest here.next).tree in
    omega (
      arith,
      ap (left_to_copy forest) w,
      ap weight (next_left forest here rest h n b),
      ap weight (begun_left forest here.next child.next child.end there cn ce) ∙ weight_inner (inner_trees t),
      below_parts t,
    )

-- a node of which all is copied
pub all_copied : (a : Annotations) (forest : Forest) (c : Copying) → IsCopying a forest [] c → c.end ≤ c.next → c.copied.items ≡ map (tree_as a) (list_of (inner_trees (entry_in forest c.node.number).tree))
all_copied a forest c i h =
    sym (append_none c.copied.items)
    ∙ ap (λ (ms : List NodeId). c.copied.items ++ map (tree_as a) (trees_numbered forest ms)) (sym (left_end (below_in forest) c.next c.end h))
    ∙ i.whole
