-- Node tests (XQuery 1.0, sections 3.2.1.2 and 2.5.3).
use Rattle.std.specs.Prelude.{Bool, true, false, ◌&&◌, Option, None, Some, if◌then◌else◌}
use Rattle.gx_base.specs.Text.{same_text}
use Rattle.gx_base.specs.Name.{same_name}
use Rattle.gx_base.specs.declared.name.Name.{Name}
use Rattle.gx_base.specs.declared.type_name.TypeName.{TypeName}
use Rattle.gx_types.specs.declared.shape.Shape.{Shape}
use Rattle.gx_types.specs.declared.shape.Shape.TheVariants as shapes
use Rattle.gx_types.specs.declared.step.NameTest.{NameTest}
use Rattle.gx_types.specs.declared.step.NameTest.TheVariants as names
use Rattle.gx_types.specs.declared.step.Test.{Test}
use Rattle.gx_types.specs.declared.step.Test.TheVariants as tests
use Rattle.gx_types.specs.SchemaSet.{SchemaSet, global_type}
use Rattle.gx_types.specs.Derivation.{is_derived}

-- what a test asks of a type: nothing, that it is derived from another one, or what no type is
pub data TypeTest : Type 0 where
  any_type : TypeTest
  derived_from : (kind : TypeName) → TypeTest
  no_type : TypeTest

-- what a test asks of a node: its kind, and the name and the type of an element or an attribute
pub data KindTest : Type 0 where
  any_node : KindTest
  a_text : KindTest
  an_element : (name : NameTest) (kind : TypeTest) → KindTest
  an_attribute : (name : NameTest) (kind : TypeTest) → KindTest
  a_document : KindTest
  a_document_of : (name : NameTest) (kind : TypeTest) → KindTest

abbrev pub one_or_any : Option Name → NameTest
one_or_any None = names.Any
one_or_any (Some name) = names.Name name

abbrev pub type_test : Option TypeName → TypeTest
type_test None = any_type
type_test (Some kind) = derived_from kind

-- that of an element which the schemas declare
abbrev pub declared_type_test : Option TypeName → TypeTest
declared_type_test None = no_type
declared_type_test (Some kind) = derived_from kind

-- a name is that of an attribute on the attribute axis, and else of an element
abbrev pub asked : SchemaSet → (attributes : Bool) → Test → KindTest
asked schemas attributes tests.Node = any_node
asked schemas attributes tests.Text = a_text
asked schemas attributes (tests.Named name) = if attributes then an_attribute name any_type else an_element name any_type
asked schemas attributes (tests.Element name kind) = an_element (one_or_any name) (type_test kind)
asked schemas attributes (tests.Attribute name kind) = an_attribute (one_or_any name) (type_test kind)
asked schemas attributes (tests.Schema name) = an_element (names.Name name) (declared_type_test (global_type schemas name))
asked schemas attributes (tests.Document None) = a_document
asked schemas attributes (tests.Document (Some e)) = a_document_of (one_or_any e.0) (type_test e.1)
asked schemas attributes (tests.DocumentSchema name) = a_document_of (names.Name name) (declared_type_test (global_type schemas name))

abbrev pub passes_name : NameTest → Name → Bool
passes_name names.Any name = true
passes_name (names.Name wanted) name = same_name wanted name
passes_name (names.Uri uri) name = same_text uri name.uri
passes_name (names.Local local) name = same_text local name.local

abbrev pub passes_type : SchemaSet → TypeTest → TypeName → Bool
passes_type schemas any_type t = true
passes_type schemas (derived_from kind) t = is_derived schemas t kind
passes_type schemas no_type t = false

-- a node of this shape passes
abbrev pub meets : SchemaSet → KindTest → Shape → Bool
meets schemas any_node (shapes.Elem name t) = true
meets schemas any_node (shapes.Attr name t) = true
meets schemas any_node shapes.Text = true
meets schemas any_node (shapes.Doc child) = true
meets schemas a_text shapes.Text = true
meets schemas (an_element wanted kind) (shapes.Elem name t) = passes_name wanted name && passes_type schemas kind t
meets schemas (an_attribute wanted kind) (shapes.Attr name t) = passes_name wanted name && passes_type schemas kind t
meets schemas a_document (shapes.Doc child) = true
meets schemas (a_document_of wanted kind) (shapes.Doc (Some child)) = passes_name wanted child.0 && passes_type schemas kind child.1
meets schemas _ _ = false
