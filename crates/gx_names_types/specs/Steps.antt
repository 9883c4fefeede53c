-- Axis steps with their names resolved (XQuery 1.0, section 3.2.1).
use Rattle.std.specs.Prelude.{List, [], Option, None, Some, unwrap_or}
use Rattle.gx_base.specs.declared.name.Name.{Name}
use Rattle.gx_base.specs.declared.type_name.Builtin.{Builtin}
use Rattle.gx_base.specs.declared.type_name.Builtin.TheVariants as builtins
use Rattle.gx_base.specs.declared.type_name.TypeName.{TypeName}
use Rattle.gx_ast.specs.declared.name.QName.{QName}
use Rattle.gx_ast.specs.declared.name.Axis.{Axis as WrittenAxis}
use Rattle.gx_ast.specs.declared.name.Axis.TheVariants as written
use Rattle.gx_ast.specs.declared.name.NameTest.{NameTest as WrittenName}
use Rattle.gx_ast.specs.declared.name.NameTest.TheVariants as named
use Rattle.gx_ast.specs.declared.sequence_type.KindTest.{KindTest}
use Rattle.gx_ast.specs.declared.sequence_type.KindTest.TheVariants as kinds
use Rattle.gx_ast.specs.declared.sequence_type.NodeTest.{NodeTest}
use Rattle.gx_ast.specs.declared.sequence_type.NodeTest.TheVariants as nodes
use Rattle.gx_ast.specs.declared.sequence_type.AxisStep.{AxisStep}
use Rattle.gx_ast.specs.declared.sequence_type.TestedName.{TestedName}
use Rattle.gx_types.specs.declared.step.Axis.{Axis}
use Rattle.gx_types.specs.declared.step.Axis.TheVariants as axes
use Rattle.gx_types.specs.declared.step.NameTest.{NameTest}
use Rattle.gx_types.specs.declared.step.NameTest.TheVariants as names
use Rattle.gx_types.specs.declared.step.Test.{Test}
use Rattle.gx_types.specs.declared.step.Test.TheVariants as tests
use Rattle.gx_names_scope.specs.declared.refusal.Refusal.{Refusal}
use Rattle.gx_names_scope.specs.Environment.{Environment, element_name, plain_name, or_nameless, uri_of}
use Rattle.gx_names_scope.specs.Refusing.{prefix_refusals}
use Rattle.gx_names_types.specs.TypeNames.{uri_refusals, test_refusals, tested_type, element_test_name, attribute_test_name}

-- ---- axes

abbrev pub axis_written : WrittenAxis → Axis
axis_written written.Child = axes.Child
axis_written written.Descendant = axes.Descendant
axis_written written.DescendantOrSelf = axes.DescendantOrSelf
axis_written written.Itself = axes.SelfAxis
axis_written written.Attribute = axes.Attribute
axis_written written.Parent = axes.Parent
axis_written written.Ancestor = axes.Ancestor
axis_written written.AncestorOrSelf = axes.AncestorOrSelf

-- the axis of a step where none is written: that of attributes for an attribute test, and else that of children
abbrev pub axis_of_test : NodeTest → Axis
axis_of_test (nodes.Kind (kinds.Attribute place tested)) = axes.Attribute
axis_of_test _ = axes.Child

abbrev pub axis_or : Option WrittenAxis → Axis → Axis
axis_or None axis = axis
axis_or (Some axis) _ = axis_written axis

abbrev pub axis_of_step : AxisStep → Axis
axis_of_step step = axis_or step.axis (axis_of_test step.test)

-- ---- name tests

-- a name is that of an attribute on the attribute axis, and else that of an element
abbrev pub node_name : Environment → Axis → QName → Option Name
node_name environment axes.Attribute name = plain_name environment name
node_name environment _ name = element_name environment name

abbrev pub name_refusals : Environment → Axis → WrittenName → List Refusal
name_refusals environment axis (named.Named name) = prefix_refusals (node_name environment axis name) name.place
name_refusals environment axis (named.Any place) = []
name_refusals environment axis (named.AnyInNamespace place prefix) = uri_refusals (uri_of environment.namespaces [] prefix) place
name_refusals environment axis (named.AnyNamespace place local) = []

abbrev pub name_tested : Environment → Axis → WrittenName → NameTest
name_tested environment axis (named.Named name) = names.Name (or_nameless (node_name environment axis name))
name_tested environment axis (named.Any place) = names.Any
name_tested environment axis (named.AnyInNamespace place prefix) = names.Uri (unwrap_or (uri_of environment.namespaces [] prefix) [])
name_tested environment axis (named.AnyNamespace place local) = names.Local local

-- ---- kind tests

-- the type behind a comma, if it is written
abbrev pub kind_written : Environment → Builtin → Option QName → Option TypeName
kind_written environment any None = None
kind_written environment any (Some kind) = Some (tested_type environment any (Some kind))

-- what an element test asks for
abbrev pub element_asked : Environment → Option TestedName → Option Name × Option TypeName
element_asked environment None = (None, None)
element_asked environment (Some tested) = (element_test_name environment tested, kind_written environment builtins.AnyType tested.kind)

abbrev pub attribute_asked : Environment → Option TestedName → Option Name × Option TypeName
attribute_asked environment None = (None, None)
attribute_asked environment (Some tested) = (attribute_test_name environment tested, kind_written environment builtins.AnySimple tested.kind)

-- what a document test asks of the element of the document; where nothing is written nothing
abbrev pub kind_tested : Environment → KindTest → Test
kind_tested environment (kinds.Node place) = tests.Node
kind_tested environment (kinds.Text place) = tests.Text
kind_tested environment (kinds.Document place) = tests.Document None
kind_tested environment (kinds.DocumentOf place inner tested) = tests.Document (Some (element_asked environment tested))
kind_tested environment (kinds.DocumentOfDeclared place inner name) = tests.DocumentSchema (or_nameless (element_name environment name))
kind_tested environment (kinds.Element place tested) = let asked = element_asked environment tested in tests.Element asked.0 asked.1
kind_tested environment (kinds.Attribute place tested) = let asked = attribute_asked environment tested in tests.Attribute asked.0 asked.1
kind_tested environment (kinds.Declared place name) = tests.Schema (or_nameless (element_name environment name))

-- ---- steps

abbrev pub node_test_refusals : Environment → Axis → NodeTest → List Refusal
node_test_refusals environment axis (nodes.Kind test) = test_refusals environment test
node_test_refusals environment axis (nodes.Name test) = name_refusals environment axis test

abbrev pub node_tested : Environment → Axis → NodeTest → Test
node_tested environment axis (nodes.Kind test) = kind_tested environment test
node_tested environment axis (nodes.Name test) = tests.Named (name_tested environment axis test)

abbrev pub step_refusals : Environment → AxisStep → List Refusal
step_refusals environment step = node_test_refusals environment (axis_of_step step) step.test

abbrev pub step_tested : Environment → AxisStep → Test
step_tested environment step = node_tested environment (axis_of_step step) step.test
