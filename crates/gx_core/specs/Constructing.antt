-- The trees that constructors make, and what they come to (XQuery 1.0, sections 3.7.1.3 and 3.7.3).
use Rattle.std.specs.Prelude.{ℕ, suc, max, Bool, true, false, ◌||◌, nat_lt, List, [], ◌∷◌, ◌++◌, length, Option, None, Some, if◌then◌else◌}
use Rattle.std.specs.List.{list_any}
use Rattle.std.specs.Option.{option_map}
use Rattle.gx_base.specs.declared.code.Code.TheVariants.{XQDY0025, GLXD0003}
use Rattle.gx_base.specs.declared.limits.TheConstants.{CONSTRUCTED_DEPTH}
use Rattle.gx_base.specs.declared.name.Name.{Name}
use Rattle.gx_base.specs.declared.type_name.Builtin.TheVariants.{Untyped, UntypedAtomic}
use Rattle.gx_base.specs.declared.type_name.TypeName.TheVariants.{Builtin}
use Rattle.gx_facets.specs.declared.Atomic.{Atomic}
use Rattle.gx_facets.specs.Value.{printed_value}
use Rattle.gx_tree.specs.declared.attribute.Attribute.{Attribute}
use Rattle.gx_tree.specs.PlainTree.{PlainTree, PlainTrees, document, element, attribute, text, no_trees, a_tree, trees_of, list_of}
use Rattle.gx_tree.specs.Erasure.{erased}
use Rattle.gx_tree.specs.OwnNames.{has_attribute}
use Rattle.gx_types.specs.SchemaSet.{SchemaSet}
use Rattle.gx_model.specs.Atomization.{atomized}
use Rattle.gx_model.specs.Forest.{Forest, PlainNode, node_in, then_found}
use Rattle.gx_model.specs.Item.{atom, node, Items}
use Rattle.gx_core.specs.declared.constructor.Constructor.{Constructor}
use Rattle.gx_core.specs.declared.constructor.Constructor.TheVariants as constructors
use Rattle.gx_core.specs.Comparing.{atoms_among}
use Rattle.gx_core.specs.Outcome.{Outcome, gives, raises, wrong, given}

-- ---- content

-- atomic values as one text, with a space between them
abbrev pub spaced_values : List Atomic → List ℕ
spaced_values [] = []
spaced_values (a ∷ []) = printed_value a.value
spaced_values (a ∷ b ∷ others) = printed_value a.value ++ 32 ∷ spaced_values (b ∷ others)

-- of a document its children, and else the node
abbrev pub children_or_self : PlainTree → List PlainTree
children_or_self (document ts) = list_of ts
children_or_self (element name kind attributes ts) = element name kind attributes ts ∷ []
children_or_self (attribute a) = attribute a ∷ []
children_or_self (text t) = text t ∷ []

-- what a node gives: copies without types
abbrev pub copies_of : PlainTree → List PlainTree
copies_of t = children_or_self (erased t)

abbrev pub joined_content : Option (List PlainTree) → Option (List PlainTree) → Option (List PlainTree)
joined_content None others = None
joined_content (Some ts) None = None
joined_content (Some ts) (Some others) = Some (ts ++ others)

-- what a part gives, behind atomic values that stand side by side: nodes, and the texts of values between them
abbrev pub content_after : Forest → List Atomic → Items → Option (List PlainTree)
content_after forest values [] = Some (text (spaced_values values) ∷ [])
content_after forest values (atom a ∷ items) = content_after forest (values ++ a ∷ []) items
content_after forest values (node place ∷ items) =
    joined_content (Some (text (spaced_values values) ∷ [])) (joined_content (option_map copies_of (node_in forest place)) (content_after forest [] items))

abbrev pub content_of_parts : Forest → List Items → Option (List PlainTree)
content_of_parts forest [] = Some []
content_of_parts forest (part ∷ parts) = joined_content (content_after forest [] part) (content_of_parts forest parts)

-- a text in front of content: texts that stand side by side are one, and an empty text is none
abbrev pub text_before : List ℕ → List PlainTree → List PlainTree
text_before x (text y ∷ ts) = text (x ++ y) ∷ ts
text_before [] ts = ts
text_before (c ∷ x) ts = text (c ∷ x) ∷ ts

abbrev pub merged_content : List PlainTree → List PlainTree
merged_content [] = []
merged_content (text x ∷ ts) = text_before x (merged_content ts)
merged_content (t ∷ ts) = t ∷ merged_content ts

-- ---- attributes

abbrev pub leading_attributes : List PlainTree → List Attribute
leading_attributes (attribute a ∷ ts) = a ∷ leading_attributes ts
leading_attributes _ = []

abbrev pub behind_attributes : List PlainTree → List PlainTree
behind_attributes (attribute a ∷ ts) = behind_attributes ts
behind_attributes ts = ts

abbrev pub is_attribute : PlainTree → Bool
is_attribute (attribute a) = true
is_attribute _ = false

abbrev pub holds_attribute : List PlainTree → Bool
holds_attribute = list_any is_attribute

-- two attributes have equal names
abbrev pub repeats_name : List Attribute → Bool
repeats_name [] = false
repeats_name (a ∷ others) = has_attribute others a || repeats_name others

-- ---- depth

abbrev pub depth_of_attributes : List Attribute → ℕ
depth_of_attributes [] = 0
depth_of_attributes (a ∷ others) = 1

-- the greatest number of nodes from the root to a node, both counted
abbrev mutual
  pub depth_of_tree : PlainTree → ℕ
  depth_of_tree (document ts) = suc (depth_of_trees ts)
  depth_of_tree (element name kind attributes ts) = suc (max (depth_of_attributes attributes) (depth_of_trees ts))
  depth_of_tree (attribute a) = 1
  depth_of_tree (text t) = 1

  pub depth_of_trees : PlainTrees → ℕ
  depth_of_trees no_trees = 0
  depth_of_trees (a_tree t ts) = max (depth_of_tree t) (depth_of_trees ts)

-- ---- constructors

-- a tree; or two attributes have equal names; or the tree is too deep; or a node is not there, or an attribute comes behind other content
pub data Built : Type 0 where
  built_tree : (tree : PlainTree) → Built
  repeated_name : Built
  too_deep : Built
  wrong_content : Built

abbrev pub built_within : (limit : ℕ) → PlainTree → Built
built_within limit t = if nat_lt limit (depth_of_tree t) then too_deep else built_tree t

-- an element of content in which texts are merged
abbrev pub built_element : (limit : ℕ) → Name → List PlainTree → Built
built_element limit name content =
    if holds_attribute (behind_attributes content) then wrong_content
    else if repeats_name (leading_attributes content) then repeated_name
    else built_within limit (element name (Builtin Untyped) (leading_attributes content) (trees_of (behind_attributes content)))

abbrev pub built_document : (limit : ℕ) → List PlainTree → Built
built_document limit content = if holds_attribute content then wrong_content else built_within limit (document (trees_of content))

abbrev pub then_built : Option (List PlainTree) → (List PlainTree → Built) → Built
then_built None next = wrong_content
then_built (Some content) next = next (merged_content content)

-- the greatest depth of a constructed tree
abbrev pub depth_limit : ℕ
depth_limit = CONSTRUCTED_DEPTH

abbrev pub built : Name → List Items → Forest → Built
built name parts forest = then_built (content_of_parts forest parts) (built_element depth_limit name)

abbrev pub document_built : Items → Forest → Built
document_built items forest = then_built (content_of_parts forest (items ∷ [])) (built_document depth_limit)

abbrev pub attribute_built : Name → List ℕ → PlainTree
attribute_built name value = attribute (record { name = name; kind = Builtin UntypedAtomic; value = value })

-- ---- the values of attributes and texts

-- the text of an atomized value, with a space between its atomic values; none where an item has no typed value
abbrev pub text_of_part : SchemaSet → Forest → Items → Option (List ℕ)
text_of_part schemas forest part = option_map spaced_values (then_found (atomized schemas forest part) atoms_among)

abbrev pub joined_texts : Option (List ℕ) → Option (List ℕ) → Option (List ℕ)
joined_texts None others = None
joined_texts (Some x) None = None
joined_texts (Some x) (Some y) = Some (x ++ y)

-- the texts of parts one after another
abbrev pub texts_of_parts : SchemaSet → Forest → List Items → Option (List ℕ)
texts_of_parts schemas forest [] = Some []
texts_of_parts schemas forest (part ∷ parts) = joined_texts (text_of_part schemas forest part) (texts_of_parts schemas forest parts)

-- ---- what constructors come to

abbrev pub root_of_tree : (tree : ℕ) → PlainNode
root_of_tree tree = record { tree = tree; path = []; attribute = None }

-- the tree stands behind the others, and the value is its root
abbrev pub tree_appended : PlainTree → Forest → Outcome Items
tree_appended t forest = gives (node (root_of_tree (length forest)) ∷ []) (forest ++ t ∷ [])

abbrev pub built_outcome : Built → Forest → Outcome Items
built_outcome (built_tree t) forest = tree_appended t forest
built_outcome repeated_name forest = raises XQDY0025
built_outcome too_deep forest = raises GLXD0003
built_outcome wrong_content forest = wrong

-- a text of atomic values, with a space between them; of none there is no text
abbrev pub text_outcome : List Atomic → Forest → Outcome Items
text_outcome [] forest = gives [] forest
text_outcome (a ∷ values) forest = tree_appended (text (spaced_values (a ∷ values))) forest

abbrev pub constructor_outcome : SchemaSet → Constructor → (parts : List Items) → Forest → Outcome Items
constructor_outcome schemas (constructors.Element name) parts forest = built_outcome (built name parts forest) forest
constructor_outcome schemas (constructors.Attribute name) parts forest =
    given (texts_of_parts schemas forest parts) (λ value. tree_appended (attribute_built name value) forest)
constructor_outcome schemas constructors.Text (content ∷ []) forest =
    given (then_found (atomized schemas forest content) atoms_among) (λ values. text_outcome values forest)
constructor_outcome schemas constructors.Document (content ∷ []) forest = built_outcome (document_built content forest) forest
constructor_outcome schemas _ parts forest = wrong
