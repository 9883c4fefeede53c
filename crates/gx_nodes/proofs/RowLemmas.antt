-- The rows of a forest are those of that forest alone.
use Rattle.std.proofs.Common.{◌≡◌, ℕ, suc, ◌+◌, ◌-◌, Bool, List, [], ◌∷◌, ◌++◌, map, drop, length, Some, refl, sym, ap, ◌∙◌, arith, append_assoc, if◌then◌else◌}
use Rattle.std.proofs.lemmas.List.{take_at, drop_at, length-map}
use Rattle.gx_tree.specs.declared.attribute.Attribute.{Attribute}
use Rattle.gx_tree.specs.PlainTree.{PlainTree, PlainTrees, document, element, attribute, text, no_trees, a_tree, trees_of, list_of}
use Rattle.gx_model.specs.Forest.{Forest}
use Rattle.gx_model.proofs.ListLemmas.{map_appended, append_none}
use Rattle.gx_model.proofs.LocationLemmas.{nat_differs}
use Rattle.gx_nodes.specs.Entries.{count_below, count_of_all, attribute_entries, entries_of, child_entries, entries_from}
use Rattle.gx_nodes.specs.Rows.{PlainRow, a_document, an_element, row_of, tree_rows, rows_of, first_trees, last_trees, attributes_among, tree_from, forest_of}

-- rows do not depend on where a tree stands

attribute_rows_are : (number m : ℕ) (path q : List ℕ) (position : ℕ) (l : List Attribute)
    → map row_of (attribute_entries number path position l) ≡ map row_of (attribute_entries m q position l)
attribute_rows_are number m path q position [] = refl
attribute_rows_are number m path q position (a ∷ l) =
    ap (λ (rows : List PlainRow). row_of (record { place = record { tree = m; path = q; attribute = Some position }; up = suc position; tree = attribute a }) ∷ rows) (attribute_rows_are number m path q (suc position) l)

mutual
  pub rows_are : (number m : ℕ) (path q : List ℕ) (up : ℕ) (t : PlainTree) → map row_of (entries_of number path up t) ≡ map row_of (entries_of m q up t)
  rows_are number m path q up (document ts) =
      ap (λ (rows : List PlainRow). record { form = a_document; up = up; below = count_of_all ts } ∷ rows) (child_rows_are number m path q 0 1 ts)
  rows_are number m path q up (element name kind l ts) =
      ap (λ (rows : List PlainRow). record { form = an_element name kind (length l); up = up; below = length l + count_of_all ts } ∷ rows) (
      map_appended row_of (attribute_entries number path 0 l) (child_entries number path 0 (suc (length l)) ts)
      ∙ ap (λ (rows : List PlainRow). rows ++ map row_of (child_entries number path 0 (suc (length l)) ts)) (attribute_rows_are number m path q 0 l)
      ∙ ap (λ (rows : List PlainRow). map row_of (attribute_entries m q 0 l) ++ rows) (child_rows_are number m path q 0 (suc (length l)) ts)
      ∙ sym (map_appended row_of (attribute_entries m q 0 l) (child_entries m q 0 (suc (length l)) ts))
      )
  rows_are number m path q up (attribute a) = refl
  rows_are number m path q up (text x) = refl

  pub child_rows_are : (number m : ℕ) (path q : List ℕ) (position up : ℕ) (ts : PlainTrees)
      → map row_of (child_entries number path position up ts) ≡ map row_of (child_entries m q position up ts)
  child_rows_are number m path q position up no_trees = refl
  child_rows_are number m path q position up (a_tree t ts) =
      map_appended row_of (entries_of number (path ++ position ∷ []) up t) (child_entries number path (suc position) (up + suc (count_below t)) ts)
      ∙ ap (λ (rows : List PlainRow). rows ++ map row_of (child_entries number path (suc position) (up + suc (count_below t)) ts)) (rows_are number m (path ++ position ∷ []) (q ++ position ∷ []) up t)
      ∙ ap (λ (rows : List PlainRow). map row_of (entries_of m (q ++ position ∷ []) up t) ++ rows) (child_rows_are number m path q (suc position) (up + suc (count_below t)) ts)
      ∙ sym (map_appended row_of (entries_of m (q ++ position ∷ []) up t) (child_entries m q (suc position) (up + suc (count_below t)) ts))

-- the forest of the rows of a forest

abbrev nodes_in_all : List PlainTree → ℕ
nodes_in_all [] = 0
nodes_in_all (t ∷ us) = suc (count_below t + nodes_in_all us)

first_are : (us more : List PlainTree) → first_trees (nodes_in_all us) (us ++ more) ≡ us
first_are [] [] = refl
first_are [] (t ∷ more) = refl
first_are (t ∷ us) more =
    let n : ℕ = suc (count_below t + nodes_in_all us) in
    let rest : n - 1 - count_below t ≡ nodes_in_all us = omega arith in
    ap (λ (b : Bool). if b then [] else t ∷ first_trees (n - 1 - count_below t) (us ++ more)) (nat_differs n 0 (λ e. absurd (omega (arith, e))))
    ∙ ap (λ (k : ℕ). t ∷ first_trees k (us ++ more)) rest
    ∙ ap (λ (vs : List PlainTree). t ∷ vs) (first_are us more)

last_are : (us more : List PlainTree) → last_trees (nodes_in_all us) (us ++ more) ≡ more
last_are [] [] = refl
last_are [] (t ∷ more) = refl
last_are (t ∷ us) more =
    let n : ℕ = suc (count_below t + nodes_in_all us) in
    let rest : n - 1 - count_below t ≡ nodes_in_all us = omega arith in
    ap (λ (b : Bool). if b then t ∷ (us ++ more) else last_trees (n - 1 - count_below t) (us ++ more)) (nat_differs n 0 (λ e. absurd (omega (arith, e))))
    ∙ ap (λ (k : ℕ). last_trees k (us ++ more)) rest
    ∙ last_are us more

nodes_in_children : (ts : PlainTrees) → count_of_all ts ≡ nodes_in_all (list_of ts)
nodes_in_children no_trees = refl
nodes_in_children (a_tree t ts) = ap (λ n. suc (count_below t + n)) (nodes_in_children ts)

nodes_in_parts : (l : List Attribute) (ts : PlainTrees) → length l + count_of_all ts ≡ nodes_in_all (map attribute l ++ list_of ts)
nodes_in_parts [] ts = omega (arith, nodes_in_children ts)
nodes_in_parts (a ∷ l) ts = omega (arith, nodes_in_parts l ts)

trees_back : (ts : PlainTrees) → trees_of (list_of ts) ≡ ts
trees_back no_trees = refl
trees_back (a_tree t ts) = ap (a_tree t) (trees_back ts)

among_back : (l : List Attribute) → attributes_among (map attribute l) ≡ l
among_back [] = refl
among_back (a ∷ l) = ap (λ ls. a ∷ ls) (among_back l)

attributes_back : (number : ℕ) (path : List ℕ) (position : ℕ) (l : List Attribute) (rest : List PlainRow)
    → forest_of (map row_of (attribute_entries number path position l) ++ rest) ≡ map attribute l ++ forest_of rest
attributes_back number path position [] rest = refl
attributes_back number path position (a ∷ l) rest =
    let more : List PlainRow = map row_of (attribute_entries number path (suc position) l) ++ rest in
    ap (λ (us : Forest). attribute a ∷ us) (last_are [] (forest_of more) ∙ attributes_back number path (suc position) l rest)

mutual
  tree_back : (number : ℕ) (path : List ℕ) (up : ℕ) (t : PlainTree) (rest : List PlainRow) → forest_of (map row_of (entries_of number path up t) ++ rest) ≡ t ∷ forest_of rest
  tree_back number path up (document ts) rest =
      ap (λ (us : Forest). tree_from a_document (first_trees (count_of_all ts) us) ∷ last_trees (count_of_all ts) us) (children_back number path 0 1 ts rest)
      ∙ ap (λ (n : ℕ). document (trees_of (first_trees n (list_of ts ++ forest_of rest))) ∷ last_trees n (list_of ts ++ forest_of rest)) (nodes_in_children ts)
      ∙ ap (λ (us : Forest). document (trees_of us) ∷ last_trees (nodes_in_all (list_of ts)) (list_of ts ++ forest_of rest)) (first_are (list_of ts) (forest_of rest))
      ∙ ap (λ (us : Forest). document (trees_of (list_of ts)) ∷ us) (last_are (list_of ts) (forest_of rest))
      ∙ ap (λ (us : PlainTrees). document us ∷ forest_of rest) (trees_back ts)
  tree_back number path up (element name kind l ts) rest =
      let A = attribute_entries number path 0 l in
      let C = child_entries number path 0 (suc (length l)) ts in
      let n : ℕ = length l + count_of_all ts in
      let below : Forest = map attribute l ++ list_of ts in
      let whole : forest_of (map row_of (A ++ C) ++ rest) ≡ below ++ forest_of rest =
      ap (λ (rows : List PlainRow). forest_of (rows ++ rest)) (map_appended row_of A C)
      ∙ ap forest_of (append_assoc (map row_of A) (map row_of C) rest)
      ∙ attributes_back number path 0 l (map row_of C ++ rest)
      ∙ ap (λ (us : Forest). map attribute l ++ us) (children_back number path 0 (suc (length l)) ts rest)
      ∙ sym (append_assoc (map attribute l) (list_of ts) (forest_of rest)) in
      ap (λ (us : Forest). tree_from (an_element name kind (length l)) (first_trees n us) ∷ last_trees n us) whole
      ∙ ap (λ (k : ℕ). tree_from (an_element name kind (length l)) (first_trees k (below ++ forest_of rest)) ∷ last_trees k (below ++ forest_of rest)) (nodes_in_parts l ts)
      ∙ ap (λ (us : Forest). tree_from (an_element name kind (length l)) us ∷ last_trees (nodes_in_all below) (below ++ forest_of rest)) (first_are below (forest_of rest))
      ∙ ap (λ (us : Forest). tree_from (an_element name kind (length l)) below ∷ us) (last_are below (forest_of rest))
      ∙ ap (λ (us : Forest). element name kind (attributes_among us) (trees_of (drop (length l) below)) ∷ forest_of rest) (take_at (map attribute l) (list_of ts) (length l) (length-map l attribute))
      ∙ ap (λ (us : Forest). element name kind (attributes_among (map attribute l)) (trees_of us) ∷ forest_of rest) (drop_at (map attribute l) (list_of ts) (length l) (length-map l attribute))
      ∙ ap (λ (ls : List Attribute). element name kind ls (trees_of (list_of ts)) ∷ forest_of rest) (among_back l)
      ∙ ap (λ (us : PlainTrees). element name kind l us ∷ forest_of rest) (trees_back ts)
  tree_back number path up (attribute a) rest = ap (λ (us : Forest). attribute a ∷ us) (last_are [] (forest_of rest))
  tree_back number path up (text x) rest = ap (λ (us : Forest). text x ∷ us) (last_are [] (forest_of rest))

  children_back : (number : ℕ) (path : List ℕ) (position up : ℕ) (ts : PlainTrees) (rest : List PlainRow)
      → forest_of (map row_of (child_entries number path position up ts) ++ rest) ≡ list_of ts ++ forest_of rest
  children_back number path position up no_trees rest = refl
  children_back number path position up (a_tree t ts) rest =
      let T = entries_of number (path ++ position ∷ []) up t in
      let C = child_entries number path (suc position) (up + suc (count_below t)) ts in
      ap (λ (rows : List PlainRow). forest_of (rows ++ rest)) (map_appended row_of T C)
      ∙ ap forest_of (append_assoc (map row_of T) (map row_of C) rest)
      ∙ tree_back number (path ++ position ∷ []) up t (map row_of C ++ rest)
      ∙ ap (λ (us : Forest). t ∷ us) (children_back number path (suc position) (up + suc (count_below t)) ts rest)

back_from : (number : ℕ) (forest : Forest) → forest_of (map row_of (entries_from number forest)) ≡ forest
back_from number [] = refl
back_from number (t ∷ forest) =
    ap forest_of (map_appended row_of (entries_of number [] 0 t) (entries_from (suc number) forest))
    ∙ tree_back number [] 0 t (map row_of (entries_from (suc number) forest))
    ∙ ap (λ (us : Forest). t ∷ us) (back_from (suc number) forest)

pub rows_back : (forest : Forest) → forest_of (rows_of forest) ≡ forest
rows_back forest = back_from 0 forest

-- a tree more

rows_appended : (number : ℕ) (forest : Forest) (t : PlainTree) → map row_of (entries_from number (forest ++ t ∷ [])) ≡ map row_of (entries_from number forest) ++ tree_rows 0 t
rows_appended number [] t = ap (map row_of) (append_none (entries_of number [] 0 t)) ∙ rows_are number 0 [] [] 0 t
rows_appended number (u ∷ forest) t =
    map_appended row_of (entries_of number [] 0 u) (entries_from (suc number) (forest ++ t ∷ []))
    ∙ ap (λ (rows : List PlainRow). map row_of (entries_of number [] 0 u) ++ rows) (rows_appended (suc number) forest t)
    ∙ sym (append_assoc (map row_of (entries_of number [] 0 u)) (map row_of (entries_from (suc number) forest)) (tree_rows 0 t))
    ∙ ap (λ (rows : List PlainRow). rows ++ tree_rows 0 t) (sym (map_appended row_of (entries_of number [] 0 u) (entries_from (suc number) forest)))

pub rows_of_more : (forest : Forest) (t : PlainTree) → rows_of (forest ++ t ∷ []) ≡ rows_of forest ++ tree_rows 0 t
rows_of_more forest t = rows_appended 0 forest t
