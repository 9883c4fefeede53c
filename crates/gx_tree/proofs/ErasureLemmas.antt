-- What erasure gives.
use Rattle.std.proofs.Common.{◌≡◌, List, [], ◌∷◌, refl, sym, map}
use Rattle.gx_base.specs.declared.type_name.TypeName.TheVariants.{Builtin}
use Rattle.gx_base.specs.declared.type_name.Builtin.TheVariants.{UntypedAtomic}
use Rattle.gx_tree.specs.declared.attribute.Attribute.{Attribute}
use Rattle.gx_tree.specs.PlainTree.{PlainTree, PlainTrees, document, element, attribute, text, no_trees, a_tree, IsProper, AreContent, IsContent}
use Rattle.gx_tree.specs.Erasure.{erased, erased_all, erased_attribute, SameAttribute, SameAttributes, SameButTypes, SameAllButTypes, AreUntypedAtomic, IsUntyped, AreUntyped}

AreUntypedAtomic-erased : (l : List Attribute) → AreUntypedAtomic (map erased_attribute l)
AreUntypedAtomic-erased [] = tt
AreUntypedAtomic-erased (a ∷ l) = (refl, AreUntypedAtomic-erased l)

mutual
  pub IsUntyped-erased : (t : PlainTree) → IsUntyped (erased t)
  IsUntyped-erased (document ts) = AreUntyped-erased ts
  IsUntyped-erased (element name kind l ts) = (refl, AreUntypedAtomic-erased l, AreUntyped-erased ts)
  IsUntyped-erased (attribute a) = refl
  IsUntyped-erased (text t) = tt

  AreUntyped-erased : (ts : PlainTrees) → AreUntyped (erased_all ts)
  AreUntyped-erased no_trees = tt
  AreUntyped-erased (a_tree t ts) = (IsUntyped-erased t, AreUntyped-erased ts)

SameAttribute-erased : (a : Attribute) → SameAttribute a (erased_attribute a)
SameAttribute-erased a = record { name = refl; equal_values = refl }

SameAttributes-erased : (l : List Attribute) → SameAttributes l (map erased_attribute l)
SameAttributes-erased [] = tt
SameAttributes-erased (a ∷ l) = (SameAttribute-erased a, SameAttributes-erased l)

mutual
  pub SameButTypes-erased : (t : PlainTree) → SameButTypes t (erased t)
  SameButTypes-erased (document ts) = SameAllButTypes-erased ts
  SameButTypes-erased (element name kind l ts) = (refl, SameAttributes-erased l, SameAllButTypes-erased ts)
  SameButTypes-erased (attribute a) = SameAttribute-erased a
  SameButTypes-erased (text t) = refl

  SameAllButTypes-erased : (ts : PlainTrees) → SameAllButTypes ts (erased_all ts)
  SameAllButTypes-erased no_trees = tt
  SameAllButTypes-erased (a_tree t ts) = (SameButTypes-erased t, SameAllButTypes-erased ts)

-- an attribute of that name and value that is xs:untypedAtomic
attribute_only : (a b : Attribute) → SameAttribute a b → b.kind ≡ Builtin UntypedAtomic → b ≡ erased_attribute a
attribute_only a b s u = λ i. record { name = sym s.name i; kind = u i; value = sym s.equal_values i }

attributes_only : (l r : List Attribute) → SameAttributes l r → AreUntypedAtomic r → r ≡ map erased_attribute l
attributes_only [] [] s u = refl
attributes_only (a ∷ l) (b ∷ r) s u =
    let first = attribute_only a b s.0 u.0 in
    let others = attributes_only l r s.1 u.1 in
    λ i. first i ∷ others i
attributes_only [] (b ∷ r) s u = absurd s
attributes_only (a ∷ l) [] s u = absurd s

mutual
  pub erased_only : (t u : PlainTree) → SameButTypes t u → IsUntyped u → u ≡ erased t
  erased_only (document ts) (document us) s u = let held = erased_all_only ts us s u in λ i. document (held i)
  erased_only (element n k l ts) (element m j r us) s u =
      let listed = attributes_only l r s.1 u.1 in
      let held = erased_all_only ts us s.2 u.2 in
      λ i. element (sym s.0 i) (u.0 i) (listed i) (held i)
  erased_only (attribute a) (attribute b) s u = let one = attribute_only a b s u in λ i. attribute (one i)
  erased_only (text t) (text v) s u = λ i. text (sym s i)
  erased_only (document ts) (element m j r us) s u = absurd s
  erased_only (document ts) (attribute b) s u = absurd s
  erased_only (document ts) (text v) s u = absurd s
  erased_only (element n k l ts) (document us) s u = absurd s
  erased_only (element n k l ts) (attribute b) s u = absurd s
  erased_only (element n k l ts) (text v) s u = absurd s
  erased_only (attribute a) (document us) s u = absurd s
  erased_only (attribute a) (element m j r us) s u = absurd s
  erased_only (attribute a) (text v) s u = absurd s
  erased_only (text t) (document us) s u = absurd s
  erased_only (text t) (element m j r us) s u = absurd s
  erased_only (text t) (attribute b) s u = absurd s

  erased_all_only : (ts us : PlainTrees) → SameAllButTypes ts us → AreUntyped us → us ≡ erased_all ts
  erased_all_only no_trees no_trees s u = refl
  erased_all_only (a_tree t ts) (a_tree v us) s u =
      let first = erased_only t v s.0 u.0 in
      let others = erased_all_only ts us s.1 u.1 in
      λ i. a_tree (first i) (others i)
  erased_all_only no_trees (a_tree v us) s u = absurd s
  erased_all_only (a_tree t ts) no_trees s u = absurd s

mutual
  pub IsProper-erased : (t : PlainTree) → IsProper t → IsProper (erased t)
  IsProper-erased (document ts) p = AreContent-erased ts p
  IsProper-erased (element name kind l ts) p = AreContent-erased ts p
  IsProper-erased (attribute a) p = tt
  IsProper-erased (text t) p = tt

  AreContent-erased : (ts : PlainTrees) → AreContent ts → AreContent (erased_all ts)
  AreContent-erased no_trees p = tt
  AreContent-erased (a_tree t ts) p = (IsContent-erased t p.0, AreContent-erased ts p.1)

  IsContent-erased : (t : PlainTree) → IsContent t → IsContent (erased t)
  IsContent-erased (document ts) p = absurd p
  IsContent-erased (element name kind l ts) p = AreContent-erased ts p
  IsContent-erased (attribute a) p = absurd p
  IsContent-erased (text t) p = tt
