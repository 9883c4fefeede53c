-- The code of a tree as stored data, which tells trees apart.
use Rattle.std.specs.Prelude.{◌≡◌}
use Rattle.std.proofs.Common.{ap}
use Rattle.std.specs.Coded.{Coded, coded_ℕ, coded_list}
use base.Stored.{Gv, gnil, gnum, gcons}
use Rattle.gx_base.specs.declared.name.Name.{Name}
use Rattle.gx_base.specs.declared.type_name.TypeName.{TypeName}
use Rattle.gx_tree.specs.declared.attribute.Attribute.{Attribute}
use Rattle.gx_tree.specs.PlainTree.{PlainTree, PlainTrees, document, element, attribute, text, no_trees, a_tree}

abbrev head : Gv → Gv
head (gcons g h) = g
head _ = gnil

abbrev tail : Gv → Gv
tail (gcons g h) = h
tail _ = gnil

module _ (names : Coded Name) (kinds : Coded TypeName) (attributes : Coded Attribute) where
  abbrev mutual
    pub store_tree : PlainTree → Gv
    store_tree (document ts) = gcons (gnum 0) (store_trees ts)
    store_tree (element name kind list ts) =
        gcons (gnum 1) (gcons (names.code name) (gcons (kinds.code kind) (gcons ((coded_list attributes).code list) (store_trees ts))))
    store_tree (attribute a) = gcons (gnum 2) (attributes.code a)
    store_tree (text t) = gcons (gnum 3) ((coded_list coded_ℕ).code t)

    pub store_trees : PlainTrees → Gv
    store_trees no_trees = gnil
    store_trees (a_tree t ts) = gcons (store_tree t) (store_trees ts)

  mutual
    pub same_tree : (x y : PlainTree) → store_tree x ≡ store_tree y → x ≡ y
    same_tree (document ts) (document us) e = ap document (same_trees ts us (ap tail e))
    same_tree (element n k l ts) (element m j r us) e =
        let rest = ap tail e in
        let named : n ≡ m = names.inj n m (ap head rest) in
        let typed : k ≡ j = kinds.inj k j (ap (λ g. head (tail g)) rest) in
        let listed : l ≡ r = (coded_list attributes).inj l r (ap (λ g. head (tail (tail g))) rest) in
        let held : ts ≡ us = same_trees ts us (ap (λ g. tail (tail (tail g))) rest) in
        λ i. element (named i) (typed i) (listed i) (held i)
    same_tree (attribute a) (attribute b) e = ap attribute (attributes.inj a b (ap tail e))
    same_tree (text t) (text u) e = ap text ((coded_list coded_ℕ).inj t u (ap tail e))
    same_tree _ _ e = absurd (cc)

    pub same_trees : (xs ys : PlainTrees) → store_trees xs ≡ store_trees ys → xs ≡ ys
    same_trees no_trees no_trees e = λ i. no_trees
    same_trees (a_tree t ts) (a_tree u us) e =
        let first : t ≡ u = same_tree t u (ap head e) in
        let others : ts ≡ us = same_trees ts us (ap tail e) in
        λ i. a_tree (first i) (others i)
    same_trees _ _ e = absurd (cc)

  abbrev pub plain_tree_code : Coded PlainTree
  plain_tree_code = record { code = store_tree; inj = same_tree }
