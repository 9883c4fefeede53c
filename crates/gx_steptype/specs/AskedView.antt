-- What the borrowed parts of a test ask.
use Rattle.gx_types.specs.declared.step.NameTest.{NameTest}
use Rattle.gx_types.specs.declared.step.NameTest.TheVariants as tests
use Rattle.gx_model.specs.NodeTest.{TypeTest, any_type, derived_from, no_type, KindTest, any_node, a_text, an_element, an_attribute, a_document, a_document_of}
use Rattle.gx_steptype.specs.declared.asked.AskedName.{AskedName}
use Rattle.gx_steptype.specs.declared.asked.AskedName.TheVariants as asked_names
use Rattle.gx_steptype.specs.declared.asked.AskedType.{AskedType}
use Rattle.gx_steptype.specs.declared.asked.AskedType.TheVariants as asked_types
use Rattle.gx_steptype.specs.declared.asked.Asked.{Asked}
use Rattle.gx_steptype.specs.declared.asked.Asked.TheVariants as asked

abbrev pub name_asked : AskedName → NameTest
name_asked asked_names.Any = tests.Any
name_asked (asked_names.One name) = tests.Name name.now
name_asked (asked_names.Test test) = test.now

abbrev pub type_asked : AskedType → TypeTest
type_asked asked_types.Any = any_type
type_asked (asked_types.DerivedFrom kind) = derived_from kind.now
type_asked asked_types.Undeclared = no_type

abbrev pub kind_asked : Asked → KindTest
kind_asked asked.Node = any_node
kind_asked asked.Text = a_text
kind_asked (asked.Element name kind) = an_element (name_asked name) (type_asked kind)
kind_asked (asked.Attribute name kind) = an_attribute (name_asked name) (type_asked kind)
kind_asked asked.Document = a_document
kind_asked (asked.DocumentOf name kind) = a_document_of (name_asked name) (type_asked kind)
