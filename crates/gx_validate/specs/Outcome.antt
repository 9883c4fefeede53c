-- What validation comes to: the tree with its types, or the first fault in document order.
use Rattle.std.specs.Prelude.{◌≡◌, ℕ, Bool, false, ◌+◌, ◌++◌, List, [], ◌∷◌, count_by, decimal, Option, unwrap_or, Result, Ok, Err, if◌then◌else◌}
use Rattle.std.specs.Str.{chars}
use Rattle.gx_base.specs.Name.{same_name}
use Rattle.gx_base.specs.declared.name.Name.{Name}
use Rattle.gx_base.specs.declared.type_name.Builtin.TheVariants.{Untyped}
use Rattle.gx_base.specs.declared.type_name.TypeName.{TypeName}
use Rattle.gx_base.specs.declared.type_name.TypeName.TheVariants.{Builtin}
use Rattle.gx_tree.specs.PlainTree.{PlainTree, document, element, attribute, text, no_trees, a_tree, trees_of}
use Rattle.gx_tree.specs.declared.attribute.Attribute.{Attribute}
use Rattle.gx_types.specs.SchemaSet.{SchemaSet, declaration_of, global_type}
use Rattle.gx_types.specs.declared.declaration.AttributeUse.{AttributeUse}
use Rattle.gx_types.specs.declared.declaration.Declared.{Declared}
use Rattle.gx_xml.specs.SourceTree.{SourceTree, SourceContents, source, no_content, a_child, a_text, tree_name}
use Rattle.gx_xml.specs.Untyped.{is_instance_namespace}
use Rattle.gx_xml.specs.declared.source.Declaration.{Declaration}
use Rattle.gx_xml.specs.declared.source.SourceAttribute.{SourceAttribute}
use Rattle.gx_qnames.specs.Words.{written_name}
use Rattle.gx_validate.specs.ElementContent.{texts_allowed, is_ignored, type_of_child}
use Rattle.gx_model.specs.DeclaredContent.{uses_allowed}
use Rattle.gx_validate.specs.Rules.{type_of_attribute, element_judged}
use Rattle.gx_validate.specs.declared.content.Texts.{Texts}
use Rattle.gx_validate.specs.declared.invalid.Invalid.{Invalid}
use Rattle.gx_validate.specs.declared.invalid.Invalid.TheVariants.{Memory, Refused}
use Rattle.gx_validate.specs.declared.invalid.InvalidRule.{InvalidRule}
use Rattle.gx_validate.specs.declared.invalid.InvalidRule.TheVariants.{WrongRoot}

-- a rule that is broken, and the path from here to the element that breaks it
pub record Fault : Type 0 where
  pub rule : InvalidRule
  pub path : List ℕ

-- ---- paths

-- the step to an element: its name as it is written, and its number among the siblings of that expanded name
abbrev pub path_step : Name → (number : ℕ) → List ℕ
path_step name number = 47 ∷ (written_name name ++ (91 ∷ (chars (decimal number) ++ 93 ∷ [])))

abbrev pub is_element_named : Name → PlainTree → Bool
is_element_named name (element own kind attributes ts) = same_name name own
is_element_named name (document ts) = false
is_element_named name (attribute a) = false
is_element_named name (text x) = false

-- the number of an element behind siblings of these trees
abbrev pub number_among_siblings : List PlainTree → Name → ℕ
number_among_siblings done name = 1 + count_by (is_element_named name) done

-- what is at fault within the element of a step
abbrev pub within_step : {A : Type 0} → List ℕ → Result A Fault → Result A Fault
within_step step (Ok x) = Ok x
within_step step (Err fault) = Err (record { rule = fault.rule; path = step ++ fault.path })

-- ---- trees

-- the attributes of an element with their types, those that speak of schemas left out
abbrev pub typed_attributes : List AttributeUse → List SourceAttribute → List Attribute
typed_attributes uses [] = []
typed_attributes uses (a ∷ others) =
    if is_instance_namespace a.name.uri then (typed_attributes uses others)
    else (record { name = a.name; kind = type_of_attribute uses a.name; value = a.value } ∷ typed_attributes uses others)

-- what comes of a tree, where there is no fault
abbrev pub and_then : {A B : Type 0} → Result A Fault → (A → Result B Fault) → Result B Fault
and_then (Ok x) next = next x
and_then (Err fault) next = Err fault

-- an element at which a rule is broken is at fault itself
abbrev pub at_itself : Result TypeName InvalidRule → Result TypeName Fault
at_itself (Ok kind) = Ok kind
at_itself (Err rule) = Err (record { rule = rule; path = [] })

-- the trees so far with a text, where it is part of the content
abbrev pub with_kept_text : Texts → List PlainTree → List ℕ → List PlainTree
with_kept_text texts done x = if is_ignored texts x then done else (done ++ text x ∷ [])

-- the tree of an element of a declared type, where these declarations are in scope; and those of the children of an element, behind
-- siblings whose trees are done
abbrev mutual
  pub typed_element : SchemaSet → List Declaration → (declared : TypeName) → SourceTree → Result PlainTree Fault
  typed_element schemas scope declared (source name declarations attributes cs) =
      and_then (at_itself (element_judged schemas (declarations ++ scope) declared attributes cs)) (λ kind.
      and_then (typed_contents schemas (declarations ++ scope) (declaration_of schemas kind) [] cs) (λ trees.
      Ok (element name kind (typed_attributes (uses_allowed (declaration_of schemas kind)) attributes) (trees_of trees))))

  pub typed_contents : SchemaSet → List Declaration → Option Declared → (done : List PlainTree) → SourceContents → Result (List PlainTree) Fault
  typed_contents schemas scope holder done no_content = Ok done
  typed_contents schemas scope holder done (a_child t cs) =
      and_then (within_step (path_step (tree_name t) (number_among_siblings done (tree_name t))) (typed_element schemas scope (type_of_child holder (tree_name t)) t)) (λ tree.
      typed_contents schemas scope holder (done ++ tree ∷ []) cs)
  typed_contents schemas scope holder done (a_text x cs) = typed_contents schemas scope holder (with_kept_text (texts_allowed holder) done x) cs

-- the tree of a child
abbrev pub typed_child : SchemaSet → List Declaration → Option Declared → (done : List PlainTree) → SourceTree → Result PlainTree Fault
typed_child schemas scope holder done t =
    within_step (path_step (tree_name t) (number_among_siblings done (tree_name t))) (typed_element schemas scope (type_of_child holder (tree_name t)) t)

-- ---- documents

-- the declared type of a root of this name
abbrev pub root_type : SchemaSet → Name → TypeName
root_type schemas root = unwrap_or (global_type schemas root) (Builtin Untyped)

abbrev pub typed_root : SchemaSet → (root : Name) → SourceTree → Result PlainTree Fault
typed_root schemas root u =
    if same_name (tree_name u) root then (typed_element schemas [] (root_type schemas root) u) else Err (record { rule = WrongRoot; path = [] })

-- the tree of a document whose root is to have this name, or the first fault
abbrev pub validated : SchemaSet → (root : Name) → SourceTree → Result PlainTree Fault
validated schemas root u =
    and_then (within_step (path_step (tree_name u) 1) (typed_root schemas root u)) (λ tree. Ok (document (a_tree tree no_trees)))

-- an answer is this fault, or memory is wanting
abbrev pub IsInvalid : {A : Type 0} → Invalid → Result A Fault → Type 0
IsInvalid Memory outcome = Unit {0}
IsInvalid (Refused rule path) outcome = outcome ≡ Err (record { rule = rule; path = path })

-- a rule is broken at the element itself, or memory is wanting
abbrev pub IsRefusedHere : InvalidRule → Invalid → Type 0
IsRefusedHere rule Memory = Unit {0}
IsRefusedHere rule (Refused broken path) = (broken ≡ rule) × (path ≡ [])
