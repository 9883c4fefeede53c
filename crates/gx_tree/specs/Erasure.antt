-- A tree without its annotations.
use Rattle.std.specs.Prelude.{◌≡◌, List, [], ◌∷◌, map}
use Rattle.gx_base.specs.declared.type_name.Builtin.TheVariants.{Untyped, UntypedAtomic}
use Rattle.gx_base.specs.declared.type_name.TypeName.TheVariants.{Builtin}
use Rattle.gx_tree.specs.declared.attribute.Attribute.{Attribute}
use Rattle.gx_tree.specs.PlainTree.{PlainTree, PlainTrees, document, element, attribute, text, no_trees, a_tree}

abbrev pub erased_attribute : Attribute → Attribute
erased_attribute a = record { name = a.name; kind = Builtin UntypedAtomic; value = a.value }

-- the tree with xs:untyped on every element and xs:untypedAtomic on every attribute
abbrev mutual
  pub erased : PlainTree → PlainTree
  erased (document ts) = document (erased_all ts)
  erased (element name kind attributes ts) = element name (Builtin Untyped) (map erased_attribute attributes) (erased_all ts)
  erased (attribute a) = attribute (erased_attribute a)
  erased (text t) = text t

  pub erased_all : PlainTrees → PlainTrees
  erased_all no_trees = no_trees
  erased_all (a_tree t ts) = a_tree (erased t) (erased_all ts)

-- two attributes have the same name, prefix and value
pub record SameAttribute (a b : Attribute) : Type 0 where
  pub name : a.name ≡ b.name
  pub equal_values : a.value ≡ b.value

abbrev pub SameAttributes : List Attribute → List Attribute → Type 0
SameAttributes [] [] = Unit {0}
SameAttributes (a ∷ others) (b ∷ rest) = SameAttribute a b × SameAttributes others rest
SameAttributes _ _ = ⊥

-- two trees have the same kinds of nodes, names, texts and attribute values, in the same order
abbrev mutual
  pub SameButTypes : PlainTree → PlainTree → Type 0
  SameButTypes (document ts) (document us) = SameAllButTypes ts us
  SameButTypes (element n k l ts) (element m j r us) = (n ≡ m) × SameAttributes l r × SameAllButTypes ts us
  SameButTypes (attribute a) (attribute b) = SameAttribute a b
  SameButTypes (text t) (text u) = t ≡ u
  SameButTypes _ _ = ⊥

  pub SameAllButTypes : PlainTrees → PlainTrees → Type 0
  SameAllButTypes no_trees no_trees = Unit {0}
  SameAllButTypes (a_tree t ts) (a_tree u us) = SameButTypes t u × SameAllButTypes ts us
  SameAllButTypes _ _ = ⊥

abbrev pub AreUntypedAtomic : List Attribute → Type 0
AreUntypedAtomic [] = Unit {0}
AreUntypedAtomic (a ∷ others) = (a.kind ≡ Builtin UntypedAtomic) × AreUntypedAtomic others

-- every element is xs:untyped, and every attribute xs:untypedAtomic
abbrev mutual
  pub IsUntyped : PlainTree → Type 0
  IsUntyped (document ts) = AreUntyped ts
  IsUntyped (element name kind attributes ts) = (kind ≡ Builtin Untyped) × AreUntypedAtomic attributes × AreUntyped ts
  IsUntyped (attribute a) = a.kind ≡ Builtin UntypedAtomic
  IsUntyped (text t) = Unit {0}

  pub AreUntyped : PlainTrees → Type 0
  AreUntyped no_trees = Unit {0}
  AreUntyped (a_tree t ts) = IsUntyped t × AreUntyped ts
