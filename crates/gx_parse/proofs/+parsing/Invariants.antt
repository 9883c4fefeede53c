use Rattle.std.proofs.Common.{◌+◌, ◌-◌, ◌*◌, ℕ, suc, []}
use Rattle.gx_ast.specs.SyntaxTree.{SyntaxTree}
use Rattle.gx_grammar.specs.Ran.{Standing, Ran, left_of}
use Rattle.gx_parse_parts.specs.declared.members.Members.{Members}
use Rattle.gx_parse_parts.specs.declared.members.Members.TheVariants.{Singles, Operands, Steps}
use Rattle.gx_parse_grammar.specs.Nodes.{Made, tree}
use Rattle.gx_parse_grammar.specs.Grammar.{Phrase, ladder, more_predicates, place_in}
use Rattle.gx_parse_tokens.specs.Reading.{read_in}
use Rattle.gx_parse_parts.specs.Parsing.{Passed, predicates_before, most_of, read_chain, read_items}
use Rattle.gx_parse_tokens.specs.Reading.{Added}
use Rattle.gx_parse_grammar.specs.Binding.{more_bindings, more_clauses}
use Rattle.gx_parse_grammar.specs.Keys.{key_made, more_keys}
use Rattle.gx_parse_grammar.specs.Typeswitch.{case_made, more_cases}
use Rattle.gx_parse_parts.specs.Lists.{Gone, binding_made, clause_made}
use Rattle.gx_grammar.specs.Grammar.{rule}
use Rattle.gx_grammar.specs.First.{by_character}
use Rattle.gx_base.specs.NameCharacters.{is_ncname_start}
use Rattle.gx_parse_grammar.specs.Basics.{within, at_tokens}
use Rattle.gx_parse_grammar.specs.Direct.{attribute, piece_made, value_piece, value_pieces_of}
use Rattle.gx_parse_constructors.specs.DirectReading.{attribute_made}
use Rattle.gx_parse_constructors.proofs.ContentPhrases.{ContentSoFar}
use Rattle.gx_parse_parts.proofs.Repeated.{Begun}
use Rattle.gx_parse.proofs.+parsing.Given as goal

abbrev rank : Members → ℕ
rank Singles = 2
rank (Operands k) = 21 + 3 * k
rank Steps = 15

abbrev pub decreases-singles::single : goal.decreases-singles::single
decreases-singles::single l = 1024 * l.levels + 0

abbrev pub decreases-paths::more_arguments : goal.decreases-paths::more_arguments
decreases-paths::more_arguments l = 1024 * l.levels + 1

abbrev pub decreases-operators::member : goal.decreases-operators::member
decreases-operators::member l = 1024 * l.levels + rank l.members

abbrev pub decreases-operators::further : goal.decreases-operators::further
decreases-operators::further l = 1024 * l.levels + (1 + rank l.members)

abbrev pub decreases-operators::expression : goal.decreases-operators::expression
decreases-operators::expression l = 1024 * l.levels + 4

abbrev pub decreases-paths::parenthesised : goal.decreases-paths::parenthesised
decreases-paths::parenthesised l = 1024 * l.levels + 5

abbrev pub decreases-paths::arguments : goal.decreases-paths::arguments
decreases-paths::arguments l = 1024 * l.levels + 5

abbrev pub decreases-paths::arguments_in : goal.decreases-paths::arguments_in
decreases-paths::arguments_in l = 1024 * l.levels + 3

abbrev pub decreases-branches::condition : goal.decreases-branches::condition
decreases-branches::condition l = 1024 * l.levels + 5

abbrev pub decreases-paths::other_step : goal.decreases-paths::other_step
decreases-paths::other_step l = 1024 * l.levels + 12

abbrev pub decreases-paths::named_step : goal.decreases-paths::named_step
decreases-paths::named_step l = 1024 * l.levels + 9

abbrev pub decreases-paths::node_step : goal.decreases-paths::node_step
decreases-paths::node_step l = 1024 * l.levels + 8

abbrev pub decreases-paths::plain_step : goal.decreases-paths::plain_step
decreases-paths::plain_step l = 1024 * l.levels + 7

abbrev pub decreases-computed::computed_constructor : goal.decreases-computed::computed_constructor
decreases-computed::computed_constructor l = 1024 * l.levels + 5

abbrev pub decreases-computed::named_constructor : goal.decreases-computed::named_constructor
decreases-computed::named_constructor l = 1024 * l.levels + 5

abbrev pub decreases-paths::step : goal.decreases-paths::step
decreases-paths::step l = 1024 * l.levels + 13

abbrev pub decreases-paths::after_name : goal.decreases-paths::after_name
decreases-paths::after_name l = 1024 * l.levels + 6

abbrev pub decreases-paths::predicate : goal.decreases-paths::predicate
decreases-paths::predicate l = 1024 * l.levels + 5

abbrev pub decreases-paths::more_predicates : goal.decreases-paths::more_predicates
decreases-paths::more_predicates l = 1024 * l.levels + 6

abbrev pub decreases-paths::filtered : goal.decreases-paths::filtered
decreases-paths::filtered l = 1024 * l.levels + 7

abbrev pub decreases-paths::path : goal.decreases-paths::path
decreases-paths::path l = 1024 * l.levels + 17

abbrev pub decreases-operators::signed_path : goal.decreases-operators::signed_path
decreases-operators::signed_path l = 1024 * l.levels + 18

abbrev pub decreases-operators::other_operand : goal.decreases-operators::other_operand
decreases-operators::other_operand l = 1024 * l.levels + 19

abbrev pub decreases-operators::ladder : goal.decreases-operators::ladder
decreases-operators::ladder l = 1024 * l.levels + (20 + 3 * l.tighter)

abbrev pub decreases-singles::begun : goal.decreases-singles::begun
decreases-singles::begun l = 1024 * l.levels + 1000

abbrev pub invariant-operators::further-loop : goal.invariant-operators::further-loop
invariant-operators::further-loop l = (v : SyntaxTree) (z : Standing) → Ran v l.reader z (read_chain l.source l.levels l.members (most_of l.members - l.counter) l.tree) → Ran v l.fn.reader z (read_chain l.source l.levels l.members (most_of l.members) l.fn.first)

abbrev pub invariant-paths::more_predicates-loop : goal.invariant-paths::more_predicates-loop
invariant-paths::more_predicates-loop l =
    Added l.fn.list.items l.list.items (λ others. (w : Made) (z : Standing) → Ran w l.reader z (read_in l.source l.levels (more_predicates (place_in l.source) l.levels (l.fn.count - l.counter)))
    → Ran (predicates_before others w) l.fn.reader z (read_in l.source l.levels (more_predicates (place_in l.source) l.levels l.fn.count)))

abbrev pub invariant-operators::ladder-loop-level : goal.invariant-operators::ladder-loop-level
invariant-operators::ladder-loop-level l = (before : Phrase) (a : Standing) → Ran (tree l.fn.first) a l.fn.reader (read_in l.source l.levels before) → Ran (tree l.tree) a l.reader (read_in l.source l.levels (ladder (place_in l.source) l.level l.levels before))

abbrev pub invariant-paths::more_arguments-loop-reader : goal.invariant-paths::more_arguments-loop-reader
invariant-paths::more_arguments-loop-reader l = Added l.fn.list.items l.list.items (λ others. Passed others l.fn.reader l.reader (read_items l.source l.levels (suc (left_of l.fn.reader))) (read_items l.source l.levels (suc l.left)))

abbrev pub decreases-paths::more_arguments-loop-reader : goal.decreases-paths::more_arguments-loop-reader
decreases-paths::more_arguments-loop-reader l = l.left

abbrev pub decreases-singles::named_single : goal.decreases-singles::named_single
decreases-singles::named_single l = 1024 * l.levels + 1001

abbrev pub decreases-singles::keyword_step : goal.decreases-singles::keyword_step
decreases-singles::keyword_step l = 1024 * l.levels + 6

abbrev pub decreases-flwor::flwor : goal.decreases-flwor::flwor
decreases-flwor::flwor l = 1024 * l.levels + 7

abbrev pub decreases-flwor::more_clauses : goal.decreases-flwor::more_clauses
decreases-flwor::more_clauses l = 1024 * l.levels + 6

abbrev pub decreases-flwor::clause : goal.decreases-flwor::clause
decreases-flwor::clause l = 1024 * l.levels + 5

abbrev pub decreases-flwor::last_clause : goal.decreases-flwor::last_clause
decreases-flwor::last_clause l = 1024 * l.levels + 1

abbrev pub decreases-flwor::bindings : goal.decreases-flwor::bindings
decreases-flwor::bindings l = 1024 * l.levels + 3

abbrev pub decreases-flwor::more_bindings : goal.decreases-flwor::more_bindings
decreases-flwor::more_bindings l = 1024 * l.levels + 2

abbrev pub decreases-flwor::binding : goal.decreases-flwor::binding
decreases-flwor::binding l = 1024 * l.levels + 1

abbrev pub invariant-flwor::more_bindings-loop : goal.invariant-flwor::more_bindings-loop
invariant-flwor::more_bindings-loop l =
    Gone binding_made l.fn.bindings.items l.list.items l.fn.reader l.reader (read_in l.source l.levels (more_bindings (place_in l.source) l.levels l.binder 63)) (read_in l.source l.levels (more_bindings (place_in l.source) l.levels l.binder (63 - l.counter)))

abbrev pub invariant-flwor::more_clauses-loop : goal.invariant-flwor::more_clauses-loop
invariant-flwor::more_clauses-loop l =
    Gone clause_made l.fn.clauses.items l.list.items l.fn.reader l.reader (read_in l.source l.levels (more_clauses (place_in l.source) l.levels 63)) (read_in l.source l.levels (more_clauses (place_in l.source) l.levels (63 - l.counter)))

abbrev pub decreases-flwor::order_clause : goal.decreases-flwor::order_clause
decreases-flwor::order_clause l = 1024 * l.levels + 4

abbrev pub decreases-flwor::ordered : goal.decreases-flwor::ordered
decreases-flwor::ordered l = 1024 * l.levels + 3

abbrev pub decreases-flwor::more_keys : goal.decreases-flwor::more_keys
decreases-flwor::more_keys l = 1024 * l.levels + 2

abbrev pub decreases-flwor::key : goal.decreases-flwor::key
decreases-flwor::key l = 1024 * l.levels + 1

abbrev pub invariant-flwor::more_keys-loop : goal.invariant-flwor::more_keys-loop
invariant-flwor::more_keys-loop l =
    Gone key_made l.fn.keys.items l.list.items l.fn.reader l.reader (read_in l.source l.levels (more_keys (place_in l.source) l.levels 63)) (read_in l.source l.levels (more_keys (place_in l.source) l.levels (63 - l.counter)))

abbrev pub decreases-singles::opened : goal.decreases-singles::opened
decreases-singles::opened l = 1024 * l.levels + 8

abbrev pub decreases-flwor::quantified : goal.decreases-flwor::quantified
decreases-flwor::quantified l = 1024 * l.levels + 7

abbrev pub decreases-branches::branched : goal.decreases-branches::branched
decreases-branches::branched l = 1024 * l.levels + 8

abbrev pub decreases-branches::typeswitch : goal.decreases-branches::typeswitch
decreases-branches::typeswitch l = 1024 * l.levels + 7

abbrev pub decreases-branches::cases : goal.decreases-branches::cases
decreases-branches::cases l = 1024 * l.levels + 3

abbrev pub decreases-branches::more_cases : goal.decreases-branches::more_cases
decreases-branches::more_cases l = 1024 * l.levels + 2

abbrev pub decreases-branches::case : goal.decreases-branches::case
decreases-branches::case l = 1024 * l.levels + 1

abbrev pub invariant-branches::more_cases-loop : goal.invariant-branches::more_cases-loop
invariant-branches::more_cases-loop l =
    Gone case_made l.fn.cases.items l.list.items l.fn.reader l.reader (read_in l.source l.levels (more_cases (place_in l.source) l.levels 63)) (read_in l.source l.levels (more_cases (place_in l.source) l.levels (63 - l.counter)))

abbrev pub decreases-direct::within : goal.decreases-direct::within
decreases-direct::within l = 1024 * l.levels + 0

abbrev pub decreases-direct::nested : goal.decreases-direct::nested
decreases-direct::nested l = 1024 * l.levels + 0

abbrev pub decreases-direct::brace_piece : goal.decreases-direct::brace_piece
decreases-direct::brace_piece l = 1024 * l.levels + 1

abbrev pub decreases-direct::plain_piece : goal.decreases-direct::plain_piece
decreases-direct::plain_piece l = 1024 * l.levels + 2

abbrev pub decreases-direct::value_piece : goal.decreases-direct::value_piece
decreases-direct::value_piece l = 1024 * l.levels + 3

abbrev pub decreases-direct::value_pieces : goal.decreases-direct::value_pieces
decreases-direct::value_pieces l = 1024 * l.levels + 4

abbrev pub decreases-direct::value_in : goal.decreases-direct::value_in
decreases-direct::value_in l = 1024 * l.levels + 5

abbrev pub decreases-direct::attribute_value : goal.decreases-direct::attribute_value
decreases-direct::attribute_value l = 1024 * l.levels + 6

abbrev pub decreases-direct::attribute : goal.decreases-direct::attribute
decreases-direct::attribute l = 1024 * l.levels + 7

abbrev pub decreases-direct::attributes : goal.decreases-direct::attributes
decreases-direct::attributes l = 1024 * l.levels + 8

abbrev pub decreases-direct::content_piece : goal.decreases-direct::content_piece
decreases-direct::content_piece l = 1024 * l.levels + 3

abbrev pub decreases-direct::content : goal.decreases-direct::content
decreases-direct::content l = 1024 * l.levels + 5

abbrev pub decreases-direct::content_if_any : goal.decreases-direct::content_if_any
decreases-direct::content_if_any l = 1024 * l.levels + 6

abbrev pub decreases-direct::element : goal.decreases-direct::element
decreases-direct::element l = 1024 * l.levels + 9

abbrev pub decreases-direct::direct_step : goal.decreases-direct::direct_step
decreases-direct::direct_step l = 1024 * l.levels + 10

abbrev pub invariant-direct::attributes-loop-reader : goal.invariant-direct::attributes-loop-reader
invariant-direct::attributes-loop-reader l = Begun l.source l.levels (by_character is_ncname_start) (attribute (place_in l.source) (rule (within l.levels))) attribute_made [] l.list.items l.left l.initial.reader l.reader

abbrev pub decreases-direct::attributes-loop-reader : goal.decreases-direct::attributes-loop-reader
decreases-direct::attributes-loop-reader l = l.left

abbrev pub invariant-direct::value_pieces-loop-quote : goal.invariant-direct::value_pieces-loop-quote
invariant-direct::value_pieces-loop-quote l = Begun l.source l.levels (at_tokens (value_pieces_of l.quote)) (value_piece (rule (within l.levels)) l.quote) piece_made [] l.list.items l.left l.initial.reader l.reader

abbrev pub decreases-direct::value_pieces-loop-quote : goal.decreases-direct::value_pieces-loop-quote
decreases-direct::value_pieces-loop-quote l = l.left

abbrev pub invariant-direct::content-loop-reader : goal.invariant-direct::content-loop-reader
invariant-direct::content-loop-reader l = ContentSoFar l.source l.levels (l.read.parts.items, l.read.pieces.items) l.left l.initial.reader l.reader

abbrev pub decreases-direct::content-loop-reader : goal.decreases-direct::content-loop-reader
decreases-direct::content-loop-reader l = l.left
