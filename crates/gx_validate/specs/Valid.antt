-- Trees that are valid for a document as it is written (XML Schema 1.0 part 1, sections 3.3.4, 3.4.4 and 3.14.4).
use Rattle.std.specs.Prelude.{◌≡◌, ◌⊎◌, ℕ, ◌++◌, true, false, List, [], map, Option, Some, None}
use Rattle.gx_base.specs.Name.{same_name}
use Rattle.gx_base.specs.declared.name.Name.{Name}
use Rattle.gx_base.specs.declared.type_name.TypeName.{TypeName}
use Rattle.gx_tree.specs.PlainTree.{PlainTree, PlainTrees, document, element, text, no_trees, a_tree}
use Rattle.gx_tree.specs.Erasure.{erased_attribute}
use Rattle.gx_tree.specs.declared.attribute.Attribute.{Attribute}
use Rattle.gx_types.specs.SchemaSet.{SchemaSet, declaration_of}
use Rattle.gx_types.specs.Derivation.{DerivesFrom}
use Rattle.gx_types.specs.declared.declaration.Declared.{Declared}
use Rattle.gx_xml.specs.SourceTree.{SourceTree, SourceContents, source, no_content, a_child, a_text, tree_name}
use Rattle.gx_xml.specs.Untyped.{untyped_attributes}
use Rattle.gx_xml.specs.declared.source.Declaration.{Declaration}
use Rattle.gx_xml.specs.declared.source.SourceAttribute.{SourceAttribute}
use Rattle.gx_validate.specs.InstanceAttributes.{given_type, has_nil}
use Rattle.gx_validate.specs.Annotation.{type_named_in, without_space_around}
use Rattle.gx_model.specs.Honest.{IsHonestTree}
use Rattle.gx_validate.specs.ElementContent.{texts_allowed, is_ignored, type_of_child}
use Rattle.gx_validate.specs.Outcome.{root_type}

-- ---- trees of a document

-- the type of an element: the declared one, or that of xsi:type, which is derived from it
abbrev pub IsAnnotation : SchemaSet → List Declaration → (declared : TypeName) → List SourceAttribute → TypeName → Type 0
IsAnnotation schemas scope declared attributes kind =
    ((given_type attributes ≡ None) × (kind ≡ declared))
    ⊎ ((value : List ℕ) × (given_type attributes ≡ Some value) × (type_named_in schemas scope (without_space_around value) ≡ Some kind) × DerivesFrom schemas kind declared)

-- the attributes are those of the document, without those that speak of schemas
pub record IsTypedStart (schemas : SchemaSet) (scope : List Declaration) (declared : TypeName) (attributes : List SourceAttribute) (kind : TypeName) (typed : List Attribute) : Type 0 where
  pub annotation : IsAnnotation schemas scope declared attributes kind
  pub not_nil : has_nil attributes ≡ false
  pub same : map erased_attribute typed ≡ untyped_attributes attributes

-- a tree is that of an element of a declared type, where these declarations are in scope: white space in element-only content is left out
abbrev mutual
  pub IsTypedTree : SchemaSet → List Declaration → (declared : TypeName) → SourceTree → PlainTree → Type 0
  IsTypedTree schemas scope declared (source name declarations attributes cs) v =
      (kind : TypeName) × (typed : List Attribute) × (ts : PlainTrees) × (v ≡ element name kind typed ts)
      × IsTypedStart schemas (declarations ++ scope) declared attributes kind typed × AreTypedTrees schemas (declarations ++ scope) (declaration_of schemas kind) cs ts

  pub AreTypedTrees : SchemaSet → List Declaration → Option Declared → SourceContents → PlainTrees → Type 0
  AreTypedTrees schemas scope holder no_content ts = ts ≡ no_trees
  AreTypedTrees schemas scope holder (a_child t cs) ts =
      (v : PlainTree) × (vs : PlainTrees) × (ts ≡ a_tree v vs) × IsTypedTree schemas scope (type_of_child holder (tree_name t)) t v × AreTypedTrees schemas scope holder cs vs
  AreTypedTrees schemas scope holder (a_text x cs) ts =
      ((is_ignored (texts_allowed holder) x ≡ true) × AreTypedTrees schemas scope holder cs ts)
      ⊎ ((is_ignored (texts_allowed holder) x ≡ false) × ((vs : PlainTrees) × (ts ≡ a_tree (text x) vs) × AreTypedTrees schemas scope holder cs vs))

-- a document node over one element of this name, which is the tree of the root
pub record IsTreeOfDocument (schemas : SchemaSet) (root : Name) (u : SourceTree) (v : PlainTree) : Type 0 where
  pub top : PlainTree
  pub whole : v ≡ document (a_tree top no_trees)
  pub named : same_name (tree_name u) root ≡ true
  pub of_root : IsTypedTree schemas [] (root_type schemas root) u top

-- a tree is valid for a document where it is honest and the document's
pub record IsValidTree (schemas : SchemaSet) (root : Name) (u : SourceTree) (v : PlainTree) : Type 0 where
  pub honest : IsHonestTree schemas v
  pub of_document : IsTreeOfDocument schemas root u v
