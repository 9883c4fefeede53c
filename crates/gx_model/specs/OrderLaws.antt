-- Document order is total, and the nodes of a forest are listed in it (XQuery 1.0 and XPath 2.0 Data Model, section 2.4).
use Rattle.std.specs.Prelude.{◌≡◌, ◌⊎◌, Bool, true, false, List, [], ◌∷◌}
use Rattle.gx_model.specs.Forest.{Forest, PlainNode}
use Rattle.gx_model.specs.DocumentOrder.{comes_before, nodes_from, in_document_order}

-- a test holds of all of a list
abbrev pub Every : {A : Type 0} → (A → Type 0) → List A → Type 0
Every P [] = Unit {0}
Every P (x ∷ xs) = P x × Every P xs

-- each of a list comes before all that follow it
abbrev pub Ascends : {A : Type 0} → (A → A → Bool) → List A → Type 0
Ascends before [] = Unit {0}
Ascends before (x ∷ xs) = Every (λ y. before x y ≡ true) xs × Ascends before xs

pub record DocumentOrderIsTotal : Type 0 where
  pub irreflexive : (a : PlainNode) → comes_before a a ≡ false
  pub transitive : (a b c : PlainNode) → comes_before a b ≡ true → comes_before b c ≡ true → comes_before a c ≡ true
  pub total : (a b : PlainNode) → (comes_before a b ≡ true) ⊎ ((a ≡ b) ⊎ (comes_before b a ≡ true))

-- all nodes of a forest, and so those that are put in order
abbrev pub NodesAscend : Type 0
NodesAscend = (forest : Forest) → Ascends comes_before (nodes_from 0 forest)

abbrev pub OrderedNodesAscend : Type 0
OrderedNodesAscend = (forest : Forest) (nodes : List PlainNode) → Ascends comes_before (in_document_order forest nodes)
