-- The root of the tree that a node is in, from the parents of nodes.
use Rattle.std.proofs.Common.{◌≡◌, ℕ, ◌<◌, ◌≤◌, List, [], ◌∷◌, Option, None, Some, refl, sym, ap, ◌∙◌}
use Rattle.std.specs.Option.{option_map}
use Rattle.gx_tree.specs.PlainTree.{PlainTree}
use Rattle.gx_model.specs.Forest.{Forest, PlainNode, node_in, then_found}
use Rattle.gx_model.specs.Growth.{Extends}
use Rattle.gx_model.specs.Location.{along, node_of_tree}
use Rattle.gx_model.specs.Roots.{root_of, root_in}
use Rattle.gx_model.specs.Stepping.{behind_step, path_up}
use Rattle.gx_nodes.specs.Entries.{count_in, entry_in, place_of_number}
use Rattle.gx_nodes.specs.Near.{place_up, parent_in}
use Rattle.gx_store.proofs.StoreLemmas.{found_later, not_found_later}

-- where there is nothing above a place, it is that of a root

goes_up : (n : ℕ) (path : List ℕ) → (above : List ℕ) × (path_up (n ∷ path) ≡ Some above)
goes_up n [] = ([], refl)
goes_up n (m ∷ path) = let rest = goes_up m path in (n ∷ rest.0, ap (behind_step n) rest.1)

abbrev place_at : ℕ → List ℕ → Option ℕ → PlainNode
place_at number path position = record { tree = number; path = path; attribute = position }

at_root : (number : ℕ) (path : List ℕ) (position : Option ℕ) → place_up (place_at number path position) ≡ None → root_of (place_at number path position) ≡ place_at number path position
at_root number [] None e = refl
at_root number (n ∷ path) None e =
    let above = goes_up n path in
    let never : Some (node_of_tree number (along above.0)) ≡ None = sym (ap (option_map (λ p. node_of_tree number (along p))) above.1) ∙ e in absurd (cc)
at_root number [] (Some position) e = absurd (cc)
at_root number (n ∷ path) (Some position) e = absurd (cc)

root_itself : (place : PlainNode) → place_up place ≡ None → root_of place ≡ place
root_itself place e = at_root place.tree place.path place.attribute e

-- a parent is in the same tree

tree_up : (place parent : PlainNode) (above : Option (List ℕ)) → Some parent ≡ option_map (λ path. node_of_tree place.tree (along path)) above → parent.tree ≡ place.tree
tree_up place parent None e = absurd (cc)
tree_up place parent (Some path) e = let same : parent ≡ node_of_tree place.tree (along path) = cc in ap (λ (p : PlainNode). p.tree) same

pub tree_of_parent : (forest : Forest) (place parent : PlainNode) → Some parent ≡ parent_in forest place → parent.tree ≡ place.tree
tree_of_parent forest place parent e = by_found (node_in forest place) e
  where
    by_found : (found : Option PlainTree) → Some parent ≡ then_found found (λ t. place_up place) → parent.tree ≡ place.tree
    by_found None h = absurd (cc)
    by_found (Some t) h = tree_up place parent _ h

pub root_found : (forest later : Forest) (n root : ℕ) → n < count_in forest → root < count_in forest → (place_of_number later root).tree ≡ (place_of_number later n).tree → None ≡ parent_in forest (place_of_number later root)
    → Extends forest later → Some (place_of_number later root) ≡ root_in forest (place_of_number later n)
root_found forest later n root h g s e x =
    let place : PlainNode = place_of_number later n in
    let top : PlainNode = place_of_number later root in
    let nothing_above : place_up top ≡ None = ap (λ (o : Option PlainTree). then_found o (λ t. place_up top)) (sym (found_later forest later root g x)) ∙ sym e in
    ap (λ (p : PlainNode). Some p) (sym (root_itself top nothing_above))
    ∙ ap (λ (number : ℕ). Some (record { tree = number; path = []; attribute = None })) s
    ∙ ap (option_map (λ t. root_of place)) (sym (found_later forest later n h x))

pub no_root : (forest later : Forest) (n : ℕ) → count_in forest ≤ n → Extends forest later → None ≡ root_in forest (place_of_number later n)
no_root forest later n h x = ap (option_map (λ t. root_of (place_of_number later n))) (sym (not_found_later forest later n h x))
