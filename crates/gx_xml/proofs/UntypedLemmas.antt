-- Children and their trees.
use Rattle.std.proofs.Common.{◌≡◌, ℕ, zero, suc, ◌+◌, ◌<◌, ◌≤◌, List, [], ◌∷◌, length, get_or, refl, ap, map, arith}
use Rattle.gx_tree.specs.PlainTree.{a_tree, trees_of}
use Rattle.gx_xml.specs.declared.source.SourceChild.{SourceChild}
use Rattle.gx_xml.specs.declared.source.SourceChild.TheVariants.{Element, Text}
use Rattle.gx_xml.specs.SourceTree.{source_size, contents_size}
use Rattle.gx_xml.specs.SourceView.{contents_of}
use Rattle.gx_xml.specs.Untyped.{untyped_child, untyped_contents, untyped_element}

-- how large a child is
abbrev pub child_size : SourceChild → ℕ
child_size (Element t) = source_size t
child_size (Text x) = 1

-- no child of a list is larger than the list
pub item_le-contents_size : (cs : List SourceChild) (i : ℕ) (c : SourceChild) → i < length cs → c ≡ get_or cs i c → child_size c ≤ contents_size (contents_of cs)
item_le-contents_size [] i c below here = absurd (omega arith)
item_le-contents_size (Element t ∷ cs) zero c below here = omega (arith, ap child_size here)
item_le-contents_size (Text x ∷ cs) zero c below here = omega (arith, ap child_size here)
item_le-contents_size (Element t ∷ cs) (suc i) c below here = omega (arith, item_le-contents_size cs i c (omega arith) here)
item_le-contents_size (Text x ∷ cs) (suc i) c below here = omega (arith, item_le-contents_size cs i c (omega arith) here)

-- the trees of the children, one by one
pub untyped_contents_trees : (cs : List SourceChild) → untyped_contents (contents_of cs) ≡ trees_of (map untyped_child cs)
untyped_contents_trees [] = refl
untyped_contents_trees (Element t ∷ cs) = ap (a_tree (untyped_element t)) (untyped_contents_trees cs)
untyped_contents_trees (Text x ∷ cs) = ap (a_tree (untyped_child (Text x))) (untyped_contents_trees cs)

-- the children behind the first one are smaller by it
pub first_and_others : (cs others : List SourceChild) (c : SourceChild) → cs ≡ c ∷ others → contents_size (contents_of cs) ≡ child_size c + contents_size (contents_of others)
first_and_others cs others (Element t) e = ap (λ xs. contents_size (contents_of xs)) e
first_and_others cs others (Text x) e = ap (λ xs. contents_size (contents_of xs)) e
