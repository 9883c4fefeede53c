-- What the parts of the grammar make.
use Rattle.std.specs.Prelude.{ℕ, List, [], ◌+◌, length, Bool, true, false, None, Option}
use Rattle.gx_base.specs.declared.place.Place.{Place}
use Rattle.gx_ast.specs.declared.name.QName.{QName}
use Rattle.gx_ast.specs.declared.name.Variable.{Variable}
use Rattle.gx_ast.specs.declared.name.NameTest.TheVariants.{Named}
use Rattle.gx_ast.specs.declared.sequence_type.NodeTest.{NodeTest}
use Rattle.gx_ast.specs.declared.sequence_type.NodeTest.TheVariants.{Name as by_name}
use Rattle.gx_ast.specs.declared.sequence_type.TestedName.{TestedName}
use Rattle.gx_ast.specs.declared.sequence_type.SequenceType.{SequenceType}
use Rattle.gx_ast.specs.declared.sequence_type.SingleType.{SingleType}
use Rattle.gx_ast.specs.declared.sequence_type.KeyOrder.{KeyOrder}
use Rattle.gx_ast.specs.declared.sequence_type.BoundVariable.{BoundVariable}
use Rattle.gx_ast.specs.declared.sequence_type.CaseHead.{CaseHead}
use Rattle.gx_ast.specs.declared.sequence_type.DefaultHead.{DefaultHead}
use Rattle.gx_ast.specs.declared.query.Version.{Version}
use Rattle.gx_ast.specs.declared.query.Prefix.{Prefix}
use Rattle.gx_ast.specs.declared.query.SchemaPrefix.{SchemaPrefix}
use Rattle.gx_ast.specs.declared.query.SettingNode.{SettingNode}
use Rattle.gx_ast.specs.declared.query.Setting.{Setting}
use Rattle.gx_ast.specs.declared.query.Initialiser.{Initialiser}
use Rattle.gx_ast.specs.declared.query.Parameter.{Parameter}
use Rattle.gx_ast.specs.declared.query.DefinitionNode.{DefinitionNode}
use Rattle.gx_ast.specs.declared.query.Definition.{Definition}
use Rattle.gx_ast.specs.declared.query.Query.{Query}
use Rattle.gx_ast.specs.declared.expression.BinaryOperator.{BinaryOperator}
use Rattle.gx_ast.specs.declared.expression.BinaryOperator.TheVariants as binary_operator
use Rattle.gx_ast.specs.SyntaxTree.{SyntaxTree, SyntaxForm, SyntaxTrees, Bindings, Attributes, AttributeParts, Parts, at, number, variable, parenthesised, empty_sequence, context_item, call, comma, conditional, binary, signed, path, axis_step, parent_step, filtered, no_tree, a_tree}
use Rattle.gx_grammar.specs.Value.{Value, nothing, characters, node, pair, an_item}
use Rattle.gx_parse_grammar.specs.declared.word.Word.{Word}
use Rattle.gx_parse_grammar.specs.declared.word.ClauseWord.{ClauseWord}
use Rattle.gx_parse_grammar.specs.declared.pieces.Piece.{Piece}
use Rattle.gx_parse_grammar.specs.declared.kind_words.TestContent.{TestContent}
use Rattle.gx_parse_grammar.specs.declared.kind_words.TypeTail.{TypeTail}
use Rattle.gx_parse_grammar.specs.declared.word.Word.TheVariants as word
use Rattle.gx_parse_grammar.specs.Numeral.{number_in}

-- a tree, a word that was found, an operator at its place, a name, or the arguments of a call
pub data Node : Type 0 where
  Tree : SyntaxTree → Node
  Found : Word → Node
  Operator : Place → Word → Node
  At : Place → Node
  Name : QName → Node
  Arguments : SyntaxTrees → Node
  -- of types: a name or none, what stands in the parentheses of a test, what stands behind a type's name, a type, and
  -- the type of a cast
  MaybeName : Option QName → Node
  Tested : Option TestedName → Node
  Content : TestContent → Node
  Tail : TypeTail → Node
  TypeOf : SequenceType → Node
  Casting : SingleType → Node
  -- of bindings: a variable or none, a type or none, and how a key orders
  MaybeBound : Option Variable → Node
  MaybeType : Option SequenceType → Node
  Ordering : KeyOrder → Node
  -- of steps: a node test
  Test : NodeTest → Node
  -- of FLWOR expressions: what a variable is bound by, a clause of `for` or `let`, and one of `where`
  Binds : BoundVariable → Node
  BindingClause : ClauseWord → Place → Bindings → Node
  WhereClause : Place → SyntaxTree → Node
  -- of typeswitches: what stands in front of the expression of a case, and of the default
  HeadOfCase : CaseHead → Node
  HeadOfDefault : DefaultHead → Node
  -- of computed constructors: what one is
  Constructs : SyntaxForm → Node
  -- of direct constructors: a piece as it is written, the value of an attribute, an attribute, attributes, and content
  PieceOf : Piece → Node
  ValueIs : AttributeParts → Node
  AttributeIs : QName → AttributeParts → Node
  AttributesAre : Attributes → Node
  PartsAre : Parts → Node
  -- of prologs: the encoding or none, the version or none, a prefix, what a schema's namespace is bound to, what a setting
  -- says, a setting, the value of a variable, a parameter, what a definition says, a definition, and a whole query
  Encoding : Option (List ℕ) → Node
  MaybeVersion : Option Version → Node
  Prefixes : Prefix → Node
  Imports : SchemaPrefix → Node
  Says : SettingNode → Node
  Sets : Setting → Node
  Starts : Initialiser → Node
  Takes : Parameter → Node
  Gives : DefinitionNode → Node
  Defines : Definition → Node
  Whole : Query → Node

abbrev pub Made : Type 0
Made = Value Node

abbrev pub tree : SyntaxTree → Made
tree t = node (Tree t)

abbrev pub place_of : SyntaxTree → Place
place_of (at place form) = place

-- the value of the first of two parts, and of the second
abbrev pub first_value : Made → Made
first_value (pair a b) = a
first_value _ = nothing

abbrev pub second_value : Made → Made
second_value (pair a b) = b
second_value _ = nothing

abbrev pub operator_value : Place → Made → Made
operator_value place (pair (node (Found w)) gap) = node (Operator place w)
operator_value place _ = nothing

-- the operators of two operands
abbrev pub binary_of : Word → BinaryOperator
binary_of word.Or = binary_operator.Or
binary_of word.And = binary_operator.And
binary_of word.Equal = binary_operator.Equal
binary_of word.NotEqual = binary_operator.NotEqual
binary_of word.Less = binary_operator.Less
binary_of word.LessOrEqual = binary_operator.LessOrEqual
binary_of word.Greater = binary_operator.Greater
binary_of word.GreaterOrEqual = binary_operator.GreaterOrEqual
binary_of word.ValueEqual = binary_operator.ValueEqual
binary_of word.ValueNotEqual = binary_operator.ValueNotEqual
binary_of word.ValueLess = binary_operator.ValueLess
binary_of word.ValueLessOrEqual = binary_operator.ValueLessOrEqual
binary_of word.ValueGreater = binary_operator.ValueGreater
binary_of word.ValueGreaterOrEqual = binary_operator.ValueGreaterOrEqual
binary_of word.Is = binary_operator.Is
binary_of word.Precedes = binary_operator.Before
binary_of word.Follows = binary_operator.After
binary_of word.To = binary_operator.To
binary_of word.Plus = binary_operator.Add
binary_of word.Minus = binary_operator.Subtract
binary_of word.Times = binary_operator.Multiply
binary_of word.Divide = binary_operator.Divide
binary_of word.DivideInteger = binary_operator.DivideInteger
binary_of word.Modulo = binary_operator.Modulo
binary_of word.Union = binary_operator.Union
binary_of word.Bar = binary_operator.Union
binary_of word.Intersect = binary_operator.Intersect
binary_of _ = binary_operator.Except

abbrev pub is_slashes : Word → Bool
is_slashes word.Slashes = true
is_slashes _ = false

abbrev pub is_minus : Word → Bool
is_minus word.Minus = true
is_minus _ = false

-- how two operands are joined
abbrev pub Join : Type 0
Join = Place → Word → SyntaxTree → SyntaxTree → SyntaxTree

abbrev pub join_binary : Join
join_binary place w left right = at place (binary (binary_of w) left right)

abbrev pub join_path : Join
join_path place w left right = at place (path (is_slashes w) left right)

abbrev pub join_comma : Join
join_comma place w left right = at (place_of left) (comma left right)

-- Joins the members of a chain, each to all that stand before it.
abbrev pub joined_to : Join → SyntaxTree → Made → SyntaxTree
joined_to join t (pair (node (Operator place w)) (pair (node (Tree member)) others)) = joined_to join (join place w t member) others
joined_to join t _ = t

abbrev pub chain_value : Join → Made → Made
chain_value join (pair (node (Tree first)) others) = tree (joined_to join first others)
chain_value join _ = nothing

-- the signs in front of an operand
abbrev pub signed_by : Made → SyntaxTree → SyntaxTree
signed_by (pair (node (Operator place w)) others) t = at place (signed (is_minus w) (signed_by others t))
signed_by _ t = t

abbrev pub signed_value : Made → Made
signed_value (pair signs (node (Tree t))) = tree (signed_by signs t)
signed_value _ = nothing

-- a literal, with the end of numbers and the gap behind it
abbrev pub number_value : Place → Made → Made
number_value place (pair v rest) = tree (at place (number (number_in v)))
number_value place _ = nothing

-- a name, as it was read at a place
abbrev pub name_at : Place → Made → QName
name_at p (pair (characters prefix) (characters local)) = record { place = p; prefix = prefix; local = local }
name_at p (pair (characters local) _) = record { place = p; prefix = []; local = local }
name_at p _ = record { place = p; prefix = []; local = [] }

-- how many characters it has
abbrev pub name_length : Made → ℕ
name_length (pair (characters prefix) (characters local)) = length prefix + (1 + length local)
name_length (pair (characters local) _) = length local
name_length _ = 0

-- the name has a prefix
abbrev pub has_prefix : Made → Bool
has_prefix (pair (characters prefix) (characters local)) = true
has_prefix _ = false

abbrev pub name_value : Place → Made → Made
name_value place v = node (Name (name_at place v))

-- a `$` and a name
abbrev pub variable_value : Place → Made → Made
variable_value place (pair dollar (pair (node (Name q)) gap)) = tree (at place (variable q))
variable_value place _ = nothing

-- the arguments in the order written
abbrev pub trees_in : Made → SyntaxTrees
trees_in (an_item (pair separator (node (Tree t))) others) = a_tree t (trees_in others)
trees_in _ = no_tree

-- nothing or a list, then `)`
abbrev pub arguments_value : Made → Made
arguments_value (pair (pair (node (Tree first)) others) close) = node (Arguments (a_tree first (trees_in others)))
arguments_value _ = node (Arguments no_tree)

-- A name with what stands behind it: nothing, for a step, or the arguments of a call.
abbrev pub named_value : QName → Made → Made
named_value q (pair gap (node (Arguments ts))) = tree (at q.place (call q ts))
named_value q _ = tree (at q.place (axis_step (record { axis = None; test = by_name (Named q) })))

-- `.` or `..`
abbrev pub dots_value : Place → Made → Made
dots_value place (pair (node (Found word.Dots)) gap) = tree (at place parent_step)
dots_value place _ = tree (at place context_item)

-- `(`, then nothing or an expression, then `)`
abbrev pub parenthesised_value : Place → Made → Made
parenthesised_value place (pair opening (pair (node (Tree inner)) close)) = tree (at place (parenthesised inner))
parenthesised_value place _ = tree (at place empty_sequence)

-- `[`, an expression and `]`
abbrev pub predicate_value : Made → Made
predicate_value (pair opening (pair inner close)) = inner
predicate_value _ = nothing

-- predicates in the order written
abbrev pub predicates_in : Made → SyntaxTrees
predicates_in (pair (node (Tree t)) others) = a_tree t (predicates_in others)
predicates_in _ = no_tree

-- a part, behind the place where it stands
abbrev pub placed_value : Place → Made → Made
placed_value place v = pair (node (At place)) v

-- a step with its predicates, if any stand there
abbrev pub filtered_value : Made → Made
filtered_value (pair (node (Tree t)) (pair (node (At bracket)) (pair p others))) = tree (at (place_of t) (filtered bracket t (predicates_in (pair p others))))
filtered_value (pair (node (Tree t)) _) = tree t
filtered_value _ = nothing

-- `(`, a test, `)`, `then`, an expression, `else` and an expression
abbrev pub condition_value : Place → Made → Made
condition_value place (pair opening (pair gap (pair (node (Tree test)) (pair close (pair then_word (pair (node (Tree chosen)) (pair else_word (node (Tree otherwise))))))))) =
    tree (at place (conditional test chosen otherwise))
condition_value place _ = nothing
