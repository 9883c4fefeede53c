-- What is written in schema documents (XML Schema 1.0 part 1, section 3.15).
use Rattle.std.specs.Prelude.{◌≡◌, ℕ, suc, ◌+◌, Bool, List, [], ◌∷◌, ◌++◌, codes, Option, Some, None, unwrap_or, Result, Ok, Err, if◌then◌else◌}
use Rattle.gx_base.specs.declared.type_name.Builtin.TheVariants as builtins
use Rattle.gx_xml.specs.declared.source.Declaration.{Declaration}
use Rattle.gx_xml.specs.declared.source.Source.{Source}
use Rattle.gx_xml.specs.declared.source.SourceAttribute.{SourceAttribute}
use Rattle.gx_xml.specs.SourceTree.{SourceTree, SourceContents, source, no_content, a_child, a_text, tree_name}
use Rattle.gx_schema_syntax.specs.declared.context.Context.{Context}
use Rattle.gx_schema_syntax.specs.declared.numbers.Numbers.{Numbers}
use Rattle.gx_schema_syntax.specs.declared.written.GlobalDeclaration.{GlobalDeclaration}
use Rattle.gx_schema_syntax.specs.declared.written.GlobalDeclaration.TheVariants as globals
use Rattle.gx_schema_syntax.specs.Contents.{given_value}
use Rattle.gx_schema_syntax.specs.Declarations.{name_written, declared_kind}
use Rattle.gx_schema_syntax.specs.DocumentTree.{DocumentTree}
use Rattle.gx_schema_syntax.specs.Numbers.{numbers_inside, numbers_behind}
use Rattle.gx_schema_syntax.specs.Outside.{is_value}
use Rattle.gx_schema_syntax.specs.Types.{first_particle, members_written, types_written}
use Rattle.gx_schema_syntax.specs.Words.{is_schema_element}

abbrev pub document_context : List SourceAttribute → Context
document_context attributes = record {
  target = unwrap_or (given_value (codes "targetNamespace") attributes) [];
  elements_are_qualified = is_value (codes "qualified") (given_value (codes "elementFormDefault") attributes);
  attributes_are_qualified = is_value (codes "qualified") (given_value (codes "attributeFormDefault") attributes);
}

-- global elements, attributes, groups and attribute groups, whose scopes have their own declarations
abbrev pub global_element : Context → (scope : List Declaration) → Numbers → SourceTree → GlobalDeclaration
global_element x scope at (source name declarations attributes cs) =
    globals.Element at.element (name_written x.target attributes) (declared_kind builtins.AnyType scope attributes cs at.anonymous)

abbrev pub global_attribute : Context → (scope : List Declaration) → Numbers → SourceTree → GlobalDeclaration
global_attribute x scope at (source name declarations attributes cs) =
    globals.Attribute at.element (name_written x.target attributes) (declared_kind builtins.AnySimple scope attributes cs at.anonymous)

abbrev pub global_group : Context → (scope : List Declaration) → Numbers → SourceTree → GlobalDeclaration
global_group x scope at (source name declarations attributes cs) =
    globals.Group at.element (name_written x.target attributes) (first_particle x scope (numbers_inside at (source name declarations attributes cs)) cs)

abbrev pub global_attribute_group : Context → (scope : List Declaration) → Numbers → SourceTree → GlobalDeclaration
global_attribute_group x scope at (source name declarations attributes cs) =
    globals.AttributeGroup at.element (name_written x.target attributes) (members_written x scope (numbers_inside at (source name declarations attributes cs)) cs)

-- a global declaration other than that of a type, if the element is one
abbrev pub global_written : Context → (scope : List Declaration) → Numbers → SourceTree → List GlobalDeclaration
global_written x scope at (source name declarations attributes cs) =
    let t = source name declarations attributes cs in
    if is_schema_element (codes "element") name then global_element x (declarations ++ scope) at t ∷ []
    else (if is_schema_element (codes "attribute") name then global_attribute x (declarations ++ scope) at t ∷ []
    else (if is_schema_element (codes "group") name then global_group x (declarations ++ scope) at t ∷ []
    else (if is_schema_element (codes "attributeGroup") name then global_attribute_group x (declarations ++ scope) at t ∷ [] else [])))

abbrev pub globals_written : Context → (scope : List Declaration) → Numbers → SourceContents → List GlobalDeclaration
globals_written x scope at no_content = []
globals_written x scope at (a_text text cs) = globals_written x scope at cs
globals_written x scope at (a_child t cs) = global_written x scope at t ++ globals_written x scope (numbers_behind at t) cs

abbrev pub document_written : Numbers → SourceTree → DocumentTree
document_written at (source name declarations attributes cs) = record {
  target = (document_context attributes).target;
  types = types_written (document_context attributes) [] at (source name declarations attributes cs);
  declarations = globals_written (document_context attributes) (declarations ++ []) (numbers_inside at (source name declarations attributes cs)) cs;
}

-- the documents of files, numbered one after another
abbrev pub documents_written : Numbers → List Source → List DocumentTree
documents_written at [] = []
documents_written at (file ∷ files) = document_written at file.root ∷ documents_written (numbers_behind at file.root) files
