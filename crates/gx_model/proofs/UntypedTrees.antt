-- Trees without types are typed.
use Rattle.std.proofs.Common.{inl}
use Rattle.gx_types.specs.SchemaSet.{SchemaSet}
use Rattle.gx_tree.specs.PlainTree.{PlainTree, PlainTrees, document, element, attribute, text, no_trees, a_tree}
use Rattle.gx_tree.specs.Erasure.{IsUntyped, AreUntyped}
use Rattle.gx_model.specs.TypedTree.{IsTyped, AreTyped}

mutual
  pub untyped_is_typed : (s : SchemaSet) (t : PlainTree) → IsUntyped t → IsTyped s t
  untyped_is_typed s (document ts) h = untyped_are_typed s ts h
  untyped_is_typed s (element n k l ts) h = inl h
  untyped_is_typed s (attribute a) h = inl h
  untyped_is_typed s (text x) h = tt

  pub untyped_are_typed : (s : SchemaSet) (ts : PlainTrees) → AreUntyped ts → AreTyped s ts
  untyped_are_typed s no_trees h = tt
  untyped_are_typed s (a_tree t ts) h = (untyped_is_typed s t h.0, untyped_are_typed s ts h.1)
