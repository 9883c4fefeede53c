-- What stands behind each node in the list of all nodes.
use Rattle.std.proofs.Common.{◌≡◌, ℕ, zero, suc, ◌+◌, ◌-◌, ◌<◌, ◌≤◌, List, [], ◌∷◌, ◌++◌, length, None, Some, refl, sym, ap, ◌∙◌, arith, subst, append_assoc, length-append, length-drop}
use Rattle.std.specs.List.{slice_get}
use Rattle.gx_tree.specs.declared.attribute.Attribute.{Attribute}
use Rattle.gx_tree.specs.PlainTree.{PlainTree, PlainTrees, document, element, attribute, text, no_trees, a_tree}
use Rattle.gx_model.specs.Forest.{Forest, own_attributes}
use Rattle.gx_model.proofs.ListLemmas.{append_none}
use Rattle.gx_nodes.specs.Entries.{NodeEntry, entry_at, count_below, count_of_all, attribute_entries, entries_of, child_entries, entries_from, node_entries, count_in, beyond, entry_in}
use Rattle.gx_nodes.specs.Near.{inner_trees}
use Rattle.gx_nodes.proofs.Standing.{Stands, got_within}

-- what stands below a node: its attributes, and its children with all that they hold
abbrev pub inner_entries : ℕ → List ℕ → PlainTree → List NodeEntry
inner_entries number path t = child_entries number path 0 (suc (length (own_attributes t))) (inner_trees t)

abbrev pub below_of : ℕ → List ℕ → PlainTree → List NodeEntry
below_of number path t = attribute_entries number path 0 (own_attributes t) ++ inner_entries number path t

abbrev pub entry_below : NodeEntry → List NodeEntry
entry_below e = below_of e.place.tree e.place.path e.tree

pub entries_parts : (number : ℕ) (path : List ℕ) (up : ℕ) (t : PlainTree) → entries_of number path up t ≡ entry_at number path None up t ∷ below_of number path t
entries_parts number path up (document ts) = refl
entries_parts number path up (element name kind l ts) = refl
entries_parts number path up (attribute a) = refl
entries_parts number path up (text x) = refl

pub below_parts : (t : PlainTree) → count_below t ≡ length (own_attributes t) + count_of_all (inner_trees t)
below_parts (document ts) = omega arith
below_parts (element name kind l ts) = refl
below_parts (attribute a) = omega arith
below_parts (text x) = omega arith

-- how many there are

pub length_attributes : (number : ℕ) (path : List ℕ) (position : ℕ) (l : List Attribute) → length (attribute_entries number path position l) ≡ length l
length_attributes number path position [] = refl
length_attributes number path position (a ∷ l) = ap suc (length_attributes number path (suc position) l)

mutual
  pub length_tree : (number : ℕ) (path : List ℕ) (up : ℕ) (t : PlainTree) → length (entries_of number path up t) ≡ suc (count_below t)
  length_tree number path up (document ts) = ap suc (length_children number path 0 1 ts)
  length_tree number path up (element name kind l ts) =
      omega (arith, length-append (attribute_entries number path 0 l) (child_entries number path 0 (suc (length l)) ts), length_attributes number path 0 l, length_children number path 0 (suc (length l)) ts)
  length_tree number path up (attribute a) = refl
  length_tree number path up (text x) = refl

  pub length_children : (number : ℕ) (path : List ℕ) (position up : ℕ) (ts : PlainTrees) → length (child_entries number path position up ts) ≡ count_of_all ts
  length_children number path position up no_trees = refl
  length_children number path position up (a_tree t ts) =
      omega (
        arith,
        length-append (entries_of number (path ++ position ∷ []) up t) (child_entries number path (suc position) (up + suc (count_below t)) ts),
        length_tree number (path ++ position ∷ []) up t,
        length_children number path (suc position) (up + suc (count_below t)) ts,
      )

-- behind each node stands what is below it

abbrev pub Nests : List NodeEntry → Type 0
Nests [] = Unit {0}
Nests (e ∷ es) = ((more : List NodeEntry) × (es ≡ entry_below e ++ more)) × Nests es

nests_append : (xs ys : List NodeEntry) → Nests xs → Nests ys → Nests (xs ++ ys)
nests_append [] ys h g = g
nests_append (e ∷ xs) ys h g =
    ((h.0.0 ++ ys, ap (λ (l : List NodeEntry). l ++ ys) h.0.1 ∙ append_assoc (entry_below e) h.0.0 ys), nests_append xs ys h.1 g)

attributes_nest : (number : ℕ) (path : List ℕ) (position : ℕ) (l : List Attribute) → Nests (attribute_entries number path position l)
attributes_nest number path position [] = tt
attributes_nest number path position (a ∷ l) = ((attribute_entries number path (suc position) l, refl), attributes_nest number path (suc position) l)

mutual
  tree_nests : (number : ℕ) (path : List ℕ) (up : ℕ) (t : PlainTree) → Nests (entries_of number path up t)
  tree_nests number path up (document ts) = (([], sym (append_none (child_entries number path 0 1 ts))), children_nest number path 0 1 ts)
  tree_nests number path up (element name kind l ts) = (
    ([], sym (append_none (attribute_entries number path 0 l ++ child_entries number path 0 (suc (length l)) ts))),
    nests_append (attribute_entries number path 0 l) (child_entries number path 0 (suc (length l)) ts) (attributes_nest number path 0 l) (children_nest number path 0 (suc (length l)) ts),
  )
  tree_nests number path up (attribute a) = (([], refl), tt)
  tree_nests number path up (text x) = (([], refl), tt)

  children_nest : (number : ℕ) (path : List ℕ) (position up : ℕ) (ts : PlainTrees) → Nests (child_entries number path position up ts)
  children_nest number path position up no_trees = tt
  children_nest number path position up (a_tree t ts) =
      nests_append (entries_of number (path ++ position ∷ []) up t) (child_entries number path (suc position) (up + suc (count_below t)) ts)
      (tree_nests number (path ++ position ∷ []) up t) (children_nest number path (suc position) (up + suc (count_below t)) ts)

trees_nest : (number : ℕ) (forest : Forest) → Nests (entries_from number forest)
trees_nest number [] = tt
trees_nest number (t ∷ forest) = nests_append (entries_of number [] 0 t) (entries_from (suc number) forest) (tree_nests number [] 0 t) (trees_nest (suc number) forest)

nested_in : (all : List NodeEntry) → Nests all → (n : ℕ) (e : NodeEntry) → slice_get all n ≡ Some e → Stands all n (e ∷ entry_below e)
nested_in [] h n e g = absurd (cc)
nested_in (x ∷ all) h zero e g =
    let same : x ≡ e = cc in
    subst (λ (y : NodeEntry). Stands (x ∷ all) 0 (y ∷ entry_below y)) same (record { more = h.0.0; is = ap (λ (l : List NodeEntry). x ∷ l) h.0.1 })
nested_in (x ∷ all) h (suc n) e g = let s = nested_in all h.1 n e g in record { more = s.more; is = s.is }

pub got_entry : (forest : Forest) (n : ℕ) → n < count_in forest → slice_get (node_entries forest) n ≡ Some (entry_in forest n)
got_entry forest n h = got_within (node_entries forest) n (beyond forest n) h

pub forest_nests : (forest : Forest) (n : ℕ) → n < count_in forest → Stands (node_entries forest) n (entry_in forest n ∷ entry_below (entry_in forest n))
forest_nests forest n h = nested_in (node_entries forest) (trees_nest 0 forest) n (entry_in forest n) (got_entry forest n h)

-- what is below a node has its numbers
pub below_within : (forest : Forest) (n : ℕ) → n < count_in forest → n + count_below (entry_in forest n).tree < count_in forest
below_within forest n h =
    let e : NodeEntry = entry_in forest n in
    let s = forest_nests forest n h in
    omega (arith, stood_length (node_entries forest) n (e ∷ entry_below e) s, length_below e)
  where
    stood_length : (all : List NodeEntry) (c : ℕ) (part : List NodeEntry) → Stands all c part → length part ≤ length all - c
    stood_length all c part s = omega (arith, ap length s.is, length-append part s.more, length-drop c all)

    length_below : (e : NodeEntry) → length (entry_below e) ≡ count_below e.tree
    length_below e =
        omega (
          arith,
          length-append (attribute_entries e.place.tree e.place.path 0 (own_attributes e.tree)) (inner_entries e.place.tree e.place.path e.tree),
          length_attributes e.place.tree e.place.path 0 (own_attributes e.tree),
          length_children e.place.tree e.place.path 0 (suc (length (own_attributes e.tree))) (inner_trees e.tree),
          below_parts e.tree,
        )
