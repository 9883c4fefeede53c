-- What a type says of the children of its elements (XML Schema 1.0 part 1, sections 3.3.4 and 3.4.4).
use Rattle.std.specs.Prelude.{ℕ, ◌++◌, Bool, true, false, List, [], ◌∷◌, Option, Some, None, unwrap_or, if◌then◌else◌}
use Rattle.std.specs.Option.{option_or}
use Rattle.gx_base.specs.Name.{same_name}
use Rattle.gx_base.specs.declared.name.Name.{Name}
use Rattle.gx_base.specs.declared.type_name.Builtin.TheVariants.{Untyped}
use Rattle.gx_base.specs.declared.type_name.TypeName.{TypeName}
use Rattle.gx_base.specs.declared.type_name.TypeName.TheVariants as names
use Rattle.gx_types.specs.SchemaSet.{SchemaSet}
use Rattle.gx_types.specs.SequenceType.{SequenceType, never, nothing, item, both, either, optional, star, plus}
use Rattle.gx_types.specs.declared.declaration.Content.{Content}
use Rattle.gx_types.specs.declared.declaration.Content.TheVariants as contents
use Rattle.gx_types.specs.declared.declaration.Declared.{Declared}
use Rattle.gx_types.specs.declared.item_type.ItemType.{ItemType}
use Rattle.gx_types.specs.declared.item_type.ItemType.TheVariants as items
use Rattle.gx_types.specs.declared.shape.Shape.{Shape}
use Rattle.gx_types.specs.declared.shape.Shape.TheVariants as shapes
use Rattle.gx_xml.specs.SourceTree.{SourceTree, SourceContents, source, no_content, a_child, a_text, tree_name}
use Rattle.gx_xml.specs.declared.source.Declaration.{Declaration}
use Rattle.gx_qnames.specs.Lexical.{is_blank}
use Rattle.gx_model.specs.DeclaredContent.{content_model}
use Rattle.gx_validate.specs.Annotation.{annotation}
use Rattle.gx_validate.specs.declared.content.Texts.{Texts}
use Rattle.gx_validate.specs.declared.content.Texts.TheVariants.{Kept, Ignored, Forbidden}

-- The holder is the declaration of the type of the element whose children these are; a built-in type has none.

-- ---- texts

abbrev pub texts_allowed_by : SequenceType → Texts
texts_allowed_by nothing = Forbidden
texts_allowed_by _ = Ignored

abbrev pub texts_allowed_in : Content → Texts
texts_allowed_in (contents.Complex true model) = Kept
texts_allowed_in (contents.Complex false model) = texts_allowed_by model
texts_allowed_in _ = Kept

-- texts are kept in simple and mixed content; in element-only content white space is ignored, and empty content has no text
abbrev pub texts_allowed : Option Declared → Texts
texts_allowed None = Kept
texts_allowed (Some declared) = texts_allowed_in declared.content

-- a text is no part of the content
abbrev pub is_ignored : Texts → List ℕ → Bool
is_ignored Ignored text = is_blank text
is_ignored _ text = false

-- ---- child elements

abbrev pub type_of_element_item : ItemType → Name → Option TypeName
type_of_element_item (items.Element (Some wanted) kind) name = if same_name wanted name then Some kind else None
type_of_element_item _ name = None

-- the type that a content model has for elements of a name: it has one (XML Schema 1.0 part 1, section 3.8.6)
abbrev pub element_type_in : SequenceType → Name → Option TypeName
element_type_in never name = None
element_type_in nothing name = None
element_type_in (item kind) name = type_of_element_item kind name
element_type_in (both first second) name = option_or (element_type_in first name) (element_type_in second name)
element_type_in (either first second) name = option_or (element_type_in first name) (element_type_in second name)
element_type_in (optional part) name = element_type_in part name
element_type_in (star part) name = element_type_in part name
element_type_in (plus part) name = element_type_in part name

-- the declared type of a child; one that the content model has no type for counts as xs:untyped, which no content model takes
abbrev pub type_of_child : Option Declared → Name → TypeName
type_of_child holder name = unwrap_or (element_type_in (content_model holder) name) (names.Builtin Untyped)

-- the type with which a child counts in the content: where its xsi:type is bad, the declared one
abbrev pub type_in_content : SchemaSet → List Declaration → (declared : TypeName) → SourceTree → TypeName
type_in_content schemas scope declared (source name declarations attributes cs) = unwrap_or (annotation schemas (declarations ++ scope) declared attributes) declared

abbrev pub child_shape : SchemaSet → List Declaration → Option Declared → SourceTree → Shape
child_shape schemas scope holder t = shapes.Elem (tree_name t) (type_in_content schemas scope (type_of_child holder (tree_name t)) t)

-- a text as the content model sees it
abbrev pub text_shapes : Texts → List ℕ → List Shape
text_shapes texts x = if is_ignored texts x then [] else (shapes.Text ∷ [])

-- the children as the content model sees them
abbrev pub child_shapes : SchemaSet → List Declaration → Option Declared → SourceContents → List Shape
child_shapes schemas scope holder no_content = []
child_shapes schemas scope holder (a_child t cs) = child_shape schemas scope holder t ∷ child_shapes schemas scope holder cs
child_shapes schemas scope holder (a_text x cs) = text_shapes (texts_allowed holder) x ++ child_shapes schemas scope holder cs

-- there is one text, or nothing
abbrev pub is_text_alone : SourceContents → Bool
is_text_alone no_content = true
is_text_alone (a_text x no_content) = true
is_text_alone _ = false
