-- No two attributes of an element have equal names (XQuery 1.0 and XPath 2.0 Data Model, section 6.2.1).
use Rattle.std.specs.Prelude.{◌≡◌, Bool, false, List, [], ◌∷◌}
use Rattle.std.specs.List.{list_any}
use Rattle.gx_base.specs.Name.{same_name}
use Rattle.gx_tree.specs.declared.attribute.Attribute.{Attribute}
use Rattle.gx_tree.specs.PlainTree.{PlainTree, PlainTrees, document, element, attribute, text, no_trees, a_tree}

abbrev pub has_attribute : List Attribute → Attribute → Bool
has_attribute others a = list_any (λ (b : Attribute). same_name a.name b.name) others

abbrev pub HaveOwnNames : List Attribute → Type 0
HaveOwnNames [] = Unit {0}
HaveOwnNames (a ∷ others) = (has_attribute others a ≡ false) × HaveOwnNames others

-- at every depth
abbrev mutual
  pub HasOwnNames : PlainTree → Type 0
  HasOwnNames (document ts) = AllHaveOwnNames ts
  HasOwnNames (element name kind attributes ts) = HaveOwnNames attributes × AllHaveOwnNames ts
  HasOwnNames (attribute a) = Unit {0}
  HasOwnNames (text t) = Unit {0}

  pub AllHaveOwnNames : PlainTrees → Type 0
  AllHaveOwnNames no_trees = Unit {0}
  AllHaveOwnNames (a_tree t ts) = HasOwnNames t × AllHaveOwnNames ts
