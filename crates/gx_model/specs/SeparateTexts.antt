-- Texts are not empty and stand apart (XQuery 1.0 and XPath 2.0 Data Model, section 6.7.1).
use Rattle.std.specs.Prelude.{◌≢◌, []}
use Rattle.gx_tree.specs.PlainTree.{PlainTree, PlainTrees, document, element, attribute, text, no_trees, a_tree}

abbrev pub BeginsWithoutText : PlainTrees → Type 0
BeginsWithoutText no_trees = Unit {0}
BeginsWithoutText (a_tree (text x) ts) = ⊥
BeginsWithoutText (a_tree (document us) ts) = Unit {0}
BeginsWithoutText (a_tree (element name kind attributes us) ts) = Unit {0}
BeginsWithoutText (a_tree (attribute a) ts) = Unit {0}

-- among the children of one node no text is empty, and no two stand side by side
abbrev pub AreSeparateTexts : PlainTrees → Type 0
AreSeparateTexts no_trees = Unit {0}
AreSeparateTexts (a_tree (text x) ts) = (x ≢ []) × BeginsWithoutText ts × AreSeparateTexts ts
AreSeparateTexts (a_tree (document us) ts) = AreSeparateTexts ts
AreSeparateTexts (a_tree (element name kind attributes us) ts) = AreSeparateTexts ts
AreSeparateTexts (a_tree (attribute a) ts) = AreSeparateTexts ts

-- at every depth
abbrev mutual
  pub HasSeparateTexts : PlainTree → Type 0
  HasSeparateTexts (document ts) = AreSeparateTexts ts × AllHaveSeparateTexts ts
  HasSeparateTexts (element name kind attributes ts) = AreSeparateTexts ts × AllHaveSeparateTexts ts
  HasSeparateTexts (attribute a) = Unit {0}
  HasSeparateTexts (text x) = Unit {0}

  pub AllHaveSeparateTexts : PlainTrees → Type 0
  AllHaveSeparateTexts no_trees = Unit {0}
  AllHaveSeparateTexts (a_tree t ts) = HasSeparateTexts t × AllHaveSeparateTexts ts
