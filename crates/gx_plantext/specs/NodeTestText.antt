-- How axes and node tests are written in plans (XQuery 1.0, sections 3.2.1.1, 3.2.1.2 and 2.5.3).
use Rattle.std.specs.Prelude.{ℕ, List, [], ◌++◌, codes, Option, None, Some}
use Rattle.gx_base.specs.declared.name.Name.{Name}
use Rattle.gx_base.specs.declared.type_name.TypeName.{TypeName}
use Rattle.gx_types.specs.declared.step.Axis.{Axis}
use Rattle.gx_types.specs.declared.step.Axis.TheVariants as axes
use Rattle.gx_types.specs.declared.step.NameTest.{NameTest}
use Rattle.gx_types.specs.declared.step.NameTest.TheVariants as names
use Rattle.gx_types.specs.declared.step.Test.{Test}
use Rattle.gx_types.specs.declared.step.Test.TheVariants.{Node, Text, Named, Element, Attribute, Schema, Document, DocumentSchema}
use Rattle.gx_typetext.specs.NameText.{word, name_text, braced, type_name_text}

abbrev pub axis_name : Axis → List ℕ
axis_name axes.Child = codes "child"
axis_name axes.Descendant = codes "descendant"
axis_name axes.DescendantOrSelf = codes "descendant-or-self"
axis_name axes.SelfAxis = codes "self"
axis_name axes.Attribute = codes "attribute"
axis_name axes.Parent = codes "parent"
axis_name axes.Ancestor = codes "ancestor"
axis_name axes.AncestorOrSelf = codes "ancestor-or-self"

abbrev pub name_test_text : NameTest → List ℕ
name_test_text names.Any = word (codes "*")
name_test_text (names.Name name) = name_text name
name_test_text (names.Uri uri) = braced uri ++ word (codes "*")
name_test_text (names.Local local) = word (codes "*:") ++ local

-- what stands between the parentheses of a test of elements or attributes: a type that is written stands there, whatever it is
abbrev pub tested_text : Option Name → Option TypeName → List ℕ
tested_text None None = []
tested_text (Some name) None = name_text name
tested_text None (Some kind) = word (codes "*, ") ++ type_name_text kind
tested_text (Some name) (Some kind) = name_text name ++ word (codes ", ") ++ type_name_text kind

-- a test of what is named so
abbrev pub kind_test_text : (name : List ℕ) → (tested : List ℕ) → List ℕ
kind_test_text name tested = word name ++ tested ++ word (codes ")")

abbrev pub node_test_text : Test → List ℕ
node_test_text Node = word (codes "node()")
node_test_text Text = word (codes "text()")
node_test_text (Named test) = name_test_text test
node_test_text (Element name kind) = kind_test_text (codes "element(") (tested_text name kind)
node_test_text (Attribute name kind) = kind_test_text (codes "attribute(") (tested_text name kind)
node_test_text (Schema name) = kind_test_text (codes "schema-element(") (name_text name)
node_test_text (Document None) = word (codes "document-node()")
node_test_text (Document (Some element)) = kind_test_text (codes "document-node(") (kind_test_text (codes "element(") (tested_text element.0 element.1))
node_test_text (DocumentSchema name) = kind_test_text (codes "document-node(") (kind_test_text (codes "schema-element(") (name_text name))
