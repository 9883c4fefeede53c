-- Expressions as plain trees, without where their parts lie in memory.
use Rattle.std.specs.Prelude.{ℕ, ◌+◌, List, Bool}
use Rattle.gx_base.specs.declared.place.Place.{Place}
use Rattle.gx_num.specs.declared.Number.{Number}
use Rattle.gx_ast.specs.declared.name.QName.{QName}
use Rattle.gx_ast.specs.declared.sequence_type.AxisStep.{AxisStep}
use Rattle.gx_ast.specs.declared.sequence_type.BoundVariable.{BoundVariable}
use Rattle.gx_ast.specs.declared.sequence_type.CaseHead.{CaseHead}
use Rattle.gx_ast.specs.declared.sequence_type.DefaultHead.{DefaultHead}
use Rattle.gx_ast.specs.declared.sequence_type.KeyOrder.{KeyOrder}
use Rattle.gx_ast.specs.declared.sequence_type.SequenceType.{SequenceType}
use Rattle.gx_ast.specs.declared.sequence_type.SingleType.{SingleType}
use Rattle.gx_ast.specs.declared.expression.BinaryOperator.{BinaryOperator}

mutual
  -- an expression
  pub data SyntaxTree : Type 0 where
    at : (place : Place) → (form : SyntaxForm) → SyntaxTree

  -- what stands at the root of an expression
  pub data SyntaxForm : Type 0 where
    number : (value : Number) → SyntaxForm
    string : (characters : List ℕ) → SyntaxForm
    variable : (name : QName) → SyntaxForm
    parenthesised : (inner : SyntaxTree) → SyntaxForm
    empty_sequence : SyntaxForm
    context_item : SyntaxForm
    call : (name : QName) → (arguments : SyntaxTrees) → SyntaxForm
    comma : (first : SyntaxTree) → (second : SyntaxTree) → SyntaxForm
    flwor : (clauses : Clauses) → (order : Place) → (stable : Bool) → (keys : Keys) → (returned : SyntaxTree) → SyntaxForm
    quantified : (every : Bool) → (bindings : Bindings) → (condition : SyntaxTree) → SyntaxForm
    typeswitch : (operand : SyntaxTree) → (cases : Cases) → (default : DefaultHead) → (otherwise : SyntaxTree) → SyntaxForm
    conditional : (test : SyntaxTree) → (chosen : SyntaxTree) → (otherwise : SyntaxTree) → SyntaxForm
    binary : (operator : BinaryOperator) → (left : SyntaxTree) → (right : SyntaxTree) → SyntaxForm
    instance_of : (operand : SyntaxTree) → (kind : SequenceType) → SyntaxForm
    treat_as : (operand : SyntaxTree) → (kind : SequenceType) → SyntaxForm
    castable_as : (operand : SyntaxTree) → (kind : SingleType) → SyntaxForm
    cast_as : (operand : SyntaxTree) → (kind : SingleType) → SyntaxForm
    signed : (minus : Bool) → (operand : SyntaxTree) → SyntaxForm
    path : (descendants : Bool) → (left : SyntaxTree) → (right : SyntaxTree) → SyntaxForm
    axis_step : (step : AxisStep) → SyntaxForm
    parent_step : SyntaxForm
    filtered : (bracket : Place) → (operand : SyntaxTree) → (predicates : SyntaxTrees) → SyntaxForm
    direct : (name : QName) → (attributes : Attributes) → (content : Parts) → SyntaxForm
    document_node : (content : SyntaxTree) → SyntaxForm
    text_node : (content : SyntaxTree) → SyntaxForm
    element_node : (name : QName) → (content : SyntaxTree) → SyntaxForm
    empty_element : (name : QName) → SyntaxForm
    attribute_node : (name : QName) → (content : SyntaxTree) → SyntaxForm
    empty_attribute : (name : QName) → SyntaxForm

  -- a list of expressions
  pub data SyntaxTrees : Type 0 where
    no_tree : SyntaxTrees
    a_tree : (first : SyntaxTree) → (others : SyntaxTrees) → SyntaxTrees

  -- a list of bindings
  pub data Bindings : Type 0 where
    no_binding : Bindings
    a_binding : (bound : BoundVariable) → (value : SyntaxTree) → (others : Bindings) → Bindings

  -- a list of clauses
  pub data Clauses : Type 0 where
    no_clause : Clauses
    for_clause : (place : Place) → (bindings : Bindings) → (others : Clauses) → Clauses
    let_clause : (place : Place) → (bindings : Bindings) → (others : Clauses) → Clauses
    where_clause : (place : Place) → (condition : SyntaxTree) → (others : Clauses) → Clauses

  -- a list of sort keys
  pub data Keys : Type 0 where
    no_key : Keys
    a_key : (value : SyntaxTree) → (order : KeyOrder) → (others : Keys) → Keys

  -- a list of cases
  pub data Cases : Type 0 where
    no_case : Cases
    a_case : (heading : CaseHead) → (body : SyntaxTree) → (others : Cases) → Cases

  -- a list of direct attributes
  pub data Attributes : Type 0 where
    no_attribute : Attributes
    an_attribute : (name : QName) → (value : AttributeParts) → (others : Attributes) → Attributes

  -- the parts of the value of a direct attribute
  pub data AttributeParts : Type 0 where
    no_attribute_part : AttributeParts
    attribute_text : (characters : List ℕ) → (others : AttributeParts) → AttributeParts
    attribute_enclosed : (value : SyntaxTree) → (others : AttributeParts) → AttributeParts

  -- the parts of the content of a direct element
  pub data Parts : Type 0 where
    no_part : Parts
    blank_part : (characters : List ℕ) → (others : Parts) → Parts
    text_part : (characters : List ℕ) → (others : Parts) → Parts
    element_part : (element : SyntaxTree) → (others : Parts) → Parts
    enclosed_part : (value : SyntaxTree) → (others : Parts) → Parts

abbrev mutual
  -- how many nodes a tree has
  pub syntax_size : SyntaxTree → ℕ
  syntax_size (at place form) = 1 + form_size form

  pub form_size : SyntaxForm → ℕ
  form_size (number value) = 1
  form_size (string characters) = 1
  form_size (variable name) = 1
  form_size (parenthesised inner) = 1 + syntax_size inner
  form_size empty_sequence = 1
  form_size context_item = 1
  form_size (call name arguments) = 1 + syntaxes_size arguments
  form_size (comma first second) = 1 + syntax_size first + syntax_size second
  form_size (flwor clauses order stable keys returned) = 1 + clauses_size clauses + keys_size keys + syntax_size returned
  form_size (quantified every bindings condition) = 1 + bindings_size bindings + syntax_size condition
  form_size (typeswitch operand cases default otherwise) = 1 + syntax_size operand + cases_size cases + syntax_size otherwise
  form_size (conditional test chosen otherwise) = 1 + syntax_size test + syntax_size chosen + syntax_size otherwise
  form_size (binary operator left right) = 1 + syntax_size left + syntax_size right
  form_size (instance_of operand kind) = 1 + syntax_size operand
  form_size (treat_as operand kind) = 1 + syntax_size operand
  form_size (castable_as operand kind) = 1 + syntax_size operand
  form_size (cast_as operand kind) = 1 + syntax_size operand
  form_size (signed minus operand) = 1 + syntax_size operand
  form_size (path descendants left right) = 1 + syntax_size left + syntax_size right
  form_size (axis_step step) = 1
  form_size parent_step = 1
  form_size (filtered bracket operand predicates) = 1 + syntax_size operand + syntaxes_size predicates
  form_size (direct name attributes content) = 1 + attributes_size attributes + parts_size content
  form_size (document_node content) = 1 + syntax_size content
  form_size (text_node content) = 1 + syntax_size content
  form_size (element_node name content) = 1 + syntax_size content
  form_size (empty_element name) = 1
  form_size (attribute_node name content) = 1 + syntax_size content
  form_size (empty_attribute name) = 1

  pub syntaxes_size : SyntaxTrees → ℕ
  syntaxes_size no_tree = 1
  syntaxes_size (a_tree first others) = 1 + syntax_size first + syntaxes_size others

  pub bindings_size : Bindings → ℕ
  bindings_size no_binding = 1
  bindings_size (a_binding bound value others) = 1 + syntax_size value + bindings_size others

  pub clauses_size : Clauses → ℕ
  clauses_size no_clause = 1
  clauses_size (for_clause place bindings others) = 1 + bindings_size bindings + clauses_size others
  clauses_size (let_clause place bindings others) = 1 + bindings_size bindings + clauses_size others
  clauses_size (where_clause place condition others) = 1 + syntax_size condition + clauses_size others

  pub keys_size : Keys → ℕ
  keys_size no_key = 1
  keys_size (a_key value order others) = 1 + syntax_size value + keys_size others

  pub cases_size : Cases → ℕ
  cases_size no_case = 1
  cases_size (a_case heading body others) = 1 + syntax_size body + cases_size others

  pub attributes_size : Attributes → ℕ
  attributes_size no_attribute = 1
  attributes_size (an_attribute name value others) = 1 + attribute_parts_size value + attributes_size others

  pub attribute_parts_size : AttributeParts → ℕ
  attribute_parts_size no_attribute_part = 1
  attribute_parts_size (attribute_text characters others) = 1 + attribute_parts_size others
  attribute_parts_size (attribute_enclosed value others) = 1 + syntax_size value + attribute_parts_size others

  pub parts_size : Parts → ℕ
  parts_size no_part = 1
  parts_size (blank_part characters others) = 1 + parts_size others
  parts_size (text_part characters others) = 1 + parts_size others
  parts_size (element_part element others) = 1 + syntax_size element + parts_size others
  parts_size (enclosed_part value others) = 1 + syntax_size value + parts_size others
