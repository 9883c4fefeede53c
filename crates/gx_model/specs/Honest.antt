-- Honest forests (XQuery 1.0 and XPath 2.0 Data Model, sections 6.1 to 6.3 and 6.7; XML Schema 1.0 part 1, section 3.3.4).
use Rattle.std.specs.Prelude.{[], ◌∷◌}
use Rattle.gx_types.specs.SchemaSet.{SchemaSet}
use Rattle.gx_tree.specs.PlainTree.{PlainTree, IsProper}
use Rattle.gx_tree.specs.OwnNames.{HasOwnNames}
use Rattle.gx_model.specs.Forest.{Forest}
use Rattle.gx_model.specs.SeparateTexts.{HasSeparateTexts}
use Rattle.gx_model.specs.TypedTree.{IsTyped}

-- a tree is honest where its nodes are
pub record IsHonestTree (schemas : SchemaSet) (t : PlainTree) : Type 0 where
  -- documents and elements hold elements and texts
  pub proper : IsProper t
  -- each element keeps to its type, or is xs:untyped with all below it; an attribute by itself is typed or xs:untypedAtomic
  pub typed : IsTyped schemas t
  -- no text in a document or an element is empty, and no two stand side by side
  pub texts : HasSeparateTexts t
  -- no two attributes of an element have equal names
  pub names : HasOwnNames t

abbrev pub IsHonest : SchemaSet → Forest → Type 0
IsHonest schemas [] = Unit {0}
IsHonest schemas (t ∷ forest) = IsHonestTree schemas t × IsHonest schemas forest
