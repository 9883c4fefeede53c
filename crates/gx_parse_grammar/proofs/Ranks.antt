-- Each Single holds Singles of one level less, so the levels suffice.
use Rattle.std.proofs.Common.{ℕ, zero, suc, ◌<◌, true, false, if◌then◌else◌, Option, Some, None, arith}
use Rattle.gx_base.specs.declared.place.Place.{Place}
use Rattle.gx_grammar.specs.Grammar.{choose, rule}
use Rattle.gx_grammar.specs.Levels.{HasRanksBelow, IsShielded, IsLevelled}
use Rattle.gx_grammar.proofs.PublicLaws.{below_shields}
use Rattle.gx_parse_grammar.specs.declared.word.Barrier.{Barrier}
use Rattle.gx_parse_grammar.specs.declared.word.Barrier.TheVariants as barrier
use Rattle.gx_parse_grammar.specs.declared.word.Word.TheVariants as word
use Rattle.gx_parse_grammar.specs.declared.word.WordSet.{WordSet}
use Rattle.gx_parse_grammar.specs.declared.word.WordSet.TheVariants as set
use Rattle.gx_parse_grammar.specs.Nodes.{Made, Join, join_binary, join_path, join_comma}
use Rattle.gx_parse_grammar.specs.Tokens.{Token, gap_not_open, gap_then_neither}
use Rattle.gx_parse_grammar.specs.Grammar.{Production, single, within, nested, Phrase, is_single, level_at, is_reserved, keyword, operator, infix_operator, more, stop, chain, two, expression, numeral, literal, name, variable_step, dots, parenthesised_step, more_arguments, arguments_in, arguments, after_name, after_axis, step_of, behind_plain_name, behind_any_name, test_or_literal, other_step, step, predicate, more_predicates, filtered_step, path_from, more_signs, signed_path, other_operand, ladder, condition, typeswitch, branched, branched_or_name, begun, behind_keyword, opened_or_name, named_single, rules, query_language, computed, braced, constructor_name, named_node, no_node, constructed, constructed_by}
use Rattle.gx_parse_grammar.specs.declared.word.Opening.{Opening}
use Rattle.gx_parse_grammar.specs.Computed.{computed_named, node_named}
use Rattle.gx_parse_grammar.specs.declared.word.ComputedNode.{ComputedNode}
use Rattle.gx_parse_grammar.specs.declared.word.NamedNode.{NamedNode}
use Rattle.gx_parse_grammar.specs.Binding.{opening_named, opened}
use Rattle.gx_parse_grammar.proofs.BindingRanks.{flwor_low, quantified_low}
use Rattle.gx_parse_grammar.specs.declared.word.Branching.{Branching}
use Rattle.gx_parse_grammar.specs.Typeswitch.{branching_named}
use Rattle.gx_parse_grammar.proofs.TypeswitchRanks.{cases_low, default_head_low}
use Rattle.gx_parse_grammar.specs.declared.word.Opening.TheVariants as opening_is
use Rattle.gx_parse_grammar.specs.declared.word.Branching.TheVariants as branching_is
use Rattle.gx_parse_grammar.specs.declared.runs.Quote.{Quote}
use Rattle.gx_parse_grammar.specs.declared.runs.Quote.TheVariants as quote
use Rattle.gx_parse_grammar.specs.declared.runs.Run.{Run}
use Rattle.gx_parse_grammar.specs.declared.runs.Run.TheVariants as run
use Rattle.gx_parse_grammar.specs.Direct.{start_of, symbol_piece, text_piece, reference_piece, cdata, enclosed, brace_piece, plain_piece, value_piece, value_pieces, value_in, attribute_value, behind_attribute, attribute, attributes, content_piece, content_pieces, content, end_tag, no_content, filled, content_if_any, behind_tag, element_of, element_at, direct_step}
use Rattle.gx_parse_grammar.specs.Strings.{string_part, string_parts, quoted, string_of}
use Rattle.gx_grammar.specs.Grammar.{empty}
use Rattle.gx_grammar.specs.Value.{nothing, characters, node, pair, no_item, an_item}
use Rattle.gx_grammar.specs.Apart.{is}
use Rattle.gx_grammar.specs.First.{by_character}
use Rattle.gx_ast.specs.declared.name.Axis.{Axis}
use Rattle.gx_parse_grammar.specs.declared.kind_words.KindWord.{KindWord}
use Rattle.gx_parse_grammar.specs.Types.{kind_word}
use Rattle.gx_parse_grammar.specs.NodeTests.{if_wildcard, wildcard_or, axis_word, wildcard, kind_content, behind_test, any_test, any_step, node_test, axis_test, attribute_step, wildcard_step}
use Rattle.gx_parse_grammar.proofs.CastsRanks.{casts_low, content_low}
use Rattle.gx_parse_grammar.specs.Fronts.{fronts, rank}
use Rattle.gx_parse_grammar.proofs.Sorted.{taken}

module _ (at : ℕ → Place) where
  abbrev Low : ℕ → Phrase → Type 0
  Low n A = HasRanksBelow (query_language at) rank n A

  operator_low : (n : ℕ) (ws : WordSet) → Low n (operator at ws)
  unfolding operator
  operator_low n ws = (tt, tt)

  infix_low : (n : ℕ) (ws : WordSet) → Low n (infix_operator at ws)
  unfolding infix_operator
  infix_low n ws = λ v. (tt, tt)

  stop_low : (n : ℕ) (ws : WordSet) (b : Barrier) → Low n (stop at ws b)
  unfolding stop
  stop_low n ws b = ((operator_low n ws, tt), tt)

  more_low : (n : ℕ) (ws : WordSet) (operand last : Phrase) → Low n operand → Low n last → (count : ℕ) → Low n (more at ws operand last count)
  unfolding more
  more_low n ws operand last h k zero = k
  more_low n ws operand last h k (suc count) = ((infix_low n ws, (h, more_low n ws operand last h k count)), tt)

  chain_low : (n : ℕ) (join : Join) (ws : WordSet) (first operand : Phrase) (b : Barrier) → Low n first → Low n operand → Low n (chain at join ws first operand b)
  unfolding chain
  chain_low n join ws first operand b f h = (f, more_low n ws operand (stop at ws b) h (stop_low n ws b) 63)

  two_low : (n : ℕ) (ws : WordSet) (first operand : Phrase) → Low n first → Low n operand → Low n (two at ws first operand)
  unfolding two more
  two_low n ws first operand f h = (f, ((infix_low n ws, (h, tt)), tt))

  below : (n : ℕ) → n < suc n
  below n = omega arith

  pub expression_low : (n : ℕ) → Low (suc n) (expression at n)
  unfolding expression
  expression_low n = chain_low (suc n) join_comma (set.Only word.Comma) (rule (single n)) (rule (single n)) barrier.Single (below n) (below n)

  -- steps

  variable_low : (n : ℕ) → Low n (variable_step at)
  unfolding variable_step name
  variable_low n = ((tt, tt), (tt, tt))

  numeral_low : (n : ℕ) → Low n (numeral at)
  unfolding numeral
  numeral_low n = (tt, (tt, tt))

  literal_low : (n : ℕ) → Low n (literal at)
  unfolding literal string_of quoted string_parts string_part
  literal_low n = (((tt, ((tt, (tt, tt)), tt)), tt), (((tt, ((tt, (tt, tt)), tt)), tt), numeral_low n))

  dots_low : (n : ℕ) → Low n (dots at)
  unfolding dots
  dots_low n = (tt, tt)

  parenthesised_low : (n : ℕ) → Low (suc n) (parenthesised_step at n)
  unfolding parenthesised_step
  parenthesised_low n = ((tt, tt), ((tt, (tt, tt)), (expression_low n, (tt, tt))))

  inside_low : (n : ℕ) → Low (suc n) (arguments_in at n)
  unfolding arguments_in more_arguments
  inside_low n = ((tt, (tt, tt)), ((below n, ((tt, tt), below n)), (tt, tt)))

  arguments_low : (n : ℕ) → Low (suc n) (arguments at n)
  unfolding arguments
  arguments_low n = ((tt, tt), inside_low n)

  kind_content_low : (n : ℕ) (k : Option KindWord) → Low n (kind_content at k)
  unfolding kind_content
  kind_content_low n (Some k) = (content_low at n k, tt)
  kind_content_low n None = tt

  wildcard_low : (n : ℕ) → Low n (wildcard at)
  unfolding wildcard
  wildcard_low n = ((tt, (tt, tt)), (tt, tt))

  if_wildcard_low : (n : ℕ) (w : Made) (any other : Phrase) → Low n any → Low n other → Low n (if_wildcard w any other)
  if_wildcard_low n nothing any other s t = t
  if_wildcard_low n (characters cs) any other s t = s
  if_wildcard_low n (node x) any other s t = s
  if_wildcard_low n (pair x y) any other s t = s
  if_wildcard_low n no_item any other s t = s
  if_wildcard_low n (an_item x y) any other s t = s

  wildcard_or_low : (n : ℕ) (v : Made) (any other : Phrase) → Low n any → Low n other → Low n (wildcard_or v any other)
  unfolding wildcard_or
  wildcard_or_low n v any other s t = λ w. if_wildcard_low n w any other s t

  behind_test_low : (n : ℕ) (v : Made) → Low n (behind_test at v)
  unfolding behind_test
  behind_test_low n v = (tt, kind_content_low n (kind_word v))

  any_test_low : (n : ℕ) (v : Made) → Low n (any_test at v)
  unfolding any_test
  any_test_low n v = tt

  any_step_low : (n : ℕ) (v : Made) → Low n (any_step at v)
  unfolding any_step
  any_step_low n v = any_test_low n v

  node_test_low : (n : ℕ) → Low n (node_test at)
  unfolding node_test
  node_test_low n = ((λ v. wildcard_or_low n v (any_test at v) (behind_test at v) (any_test_low n v) (behind_test_low n v)), wildcard_low n)

  test_or_literal_low : (n : ℕ) → Low n (test_or_literal at)
  unfolding test_or_literal attribute_step wildcard_step
  test_or_literal_low n = (((tt, tt), node_test_low n), (wildcard_low n, literal_low n))

  after_name_low : (n : ℕ) (v : Made) → Low (suc n) (after_name at n v)
  unfolding after_name
  after_name_low n v = elim (is_reserved v) as (λ b. Low (suc n) (if b then (kind_content at (kind_word v)) else (choose (by_character (is 40)) (arguments at n) empty))) [ true ↦ kind_content_low (suc n) (kind_word v) | false ↦ (arguments_low n, tt) ]

  after_axis_low : (n : ℕ) (a : Option Axis) (v : Made) → Low (suc n) (after_axis at n a v)
  unfolding after_axis axis_test
  after_axis_low n (Some a) v = (((tt, tt), node_test_low (suc n)), after_name_low n v)
  after_axis_low n None v = after_name_low n v

  plain_name_low : (n : ℕ) (t : Token) (v : Made) → Low n (behind_plain_name at t v)
  unfolding behind_plain_name
  plain_name_low n t v = tt

  computed_low : (n : ℕ) (c : ComputedNode) → Low (suc n) (computed at n c)
  unfolding computed
  computed_low n c = ((tt, tt), (expression_low n, (tt, tt)))

  named_node_low : (n : ℕ) (k : NamedNode) → Low (suc n) (named_node at n k)
  unfolding named_node constructor_name braced
  named_node_low n k = ((tt, tt), ((tt, (tt, tt)), (expression_low n, (tt, tt))))

  constructed_by_low : (n : ℕ) (v : Made) (c : Option ComputedNode) (k : Option NamedNode) → Low (suc n) (constructed_by at n v c k)
  unfolding constructed_by no_node
  constructed_by_low n v (Some c) k = (computed_low n c, after_name_low n v)
  constructed_by_low n v None (Some k) = (named_node_low n k, (tt, after_axis_low n (axis_word v) v))
  constructed_by_low n v None None = after_axis_low n (axis_word v) v

  any_name_low : (n : ℕ) (v : Made) → Low (suc n) (behind_any_name at n v)
  unfolding behind_any_name step_of constructed
  any_name_low n v = (tt, constructed_by_low n v (computed_named v) (node_named v))

  -- direct constructors

  enclosed_low : (n : ℕ) → Low (suc n) (brace_piece (rule (within n)))
  unfolding brace_piece enclosed symbol_piece
  enclosed_low n = (tt, (tt, (tt, (below n, tt))))

  plain_piece_low : (n : ℕ) (r : Run) → Low (suc n) (plain_piece (rule (within n)) r)
  unfolding plain_piece symbol_piece text_piece
  plain_piece_low n r = (enclosed_low n, (tt, tt))

  value_in_low : (n : ℕ) (q : Quote) → Low (suc n) (value_in (rule (within n)) q)
  unfolding value_in value_pieces value_piece reference_piece symbol_piece
  value_in_low n q = (tt, ((tt, (tt, plain_piece_low n (run.Attribute q))), tt))

  attributes_low : (n : ℕ) → Low (suc n) (attributes at (rule (within n)))
  unfolding attributes attribute name attribute_value behind_attribute
  attributes_low n = (tt, (tt, (tt, (tt, (tt, ((value_in_low n quote.Double, value_in_low n quote.Single), (tt, tt)))))))

  content_low_of : (n : ℕ) → Low (suc n) (content_pieces (rule (within n)) (rule (nested n)) (start_of n))
  unfolding content_pieces content_piece reference_piece cdata
  content_low_of n = (tt, (((tt, (tt, tt)), below n), plain_piece_low n run.Content))

  if_any_low : (n : ℕ) (v : Made) → Low (suc n) (content_if_any (rule (within n)) (rule (nested n)) (start_of n) v)
  unfolding content_if_any no_content filled content end_tag
  if_any_low n v = (tt, (tt, (content_low_of n, (tt, (tt, (tt, tt))))))

  element_low : (n : ℕ) → Low (suc n) (element_at at n)
  unfolding element_at element_of behind_tag
  element_low n = (tt, (λ v. (attributes_low n, if_any_low n v)))

  direct_low : (n : ℕ) → Low (suc n) (direct_step at n)
  unfolding direct_step
  direct_low n = (element_low n, tt)

  other_step_low : (n : ℕ) → Low (suc n) (other_step at n)
  unfolding other_step
  other_step_low n = (variable_low (suc n), (parenthesised_low n, (direct_low n, (dots_low (suc n), test_or_literal_low (suc n)))))

  step_low : (n : ℕ) → Low (suc n) (step at n)
  unfolding step
  step_low n = ((λ v. wildcard_or_low (suc n) v (any_step at v) (behind_any_name at n v) (any_step_low (suc n) v) (any_name_low n v)), other_step_low n)

  -- paths and signs

  predicate_low : (n : ℕ) → Low (suc n) (predicate at n)
  unfolding predicate
  predicate_low n = ((tt, tt), (expression_low n, (tt, tt)))

  more_predicates_low : (n k : ℕ) → Low (suc n) (more_predicates at n k)
  unfolding more_predicates
  more_predicates_low n zero = (tt, tt)
  more_predicates_low n (suc k) = ((predicate_low n, more_predicates_low n k), tt)

  filtered_low : (n : ℕ) (first : Phrase) → Low (suc n) first → Low (suc n) (filtered_step at n first)
  unfolding filtered_step
  filtered_low n first f = (f, more_predicates_low n 64)

  path_low : (n : ℕ) (first : Phrase) → Low (suc n) first → Low (suc n) (path_from at n first)
  unfolding path_from
  path_low n first f = chain_low (suc n) join_path set.Slashes (filtered_step at n first) (filtered_step at n (step at n)) barrier.Step (filtered_low n first f) (filtered_low n (step at n) (step_low n))

  more_signs_low : (n k : ℕ) → Low n (more_signs at k)
  unfolding more_signs
  more_signs_low n zero = (tt, tt)
  more_signs_low n (suc k) = ((operator_low n set.Signs, more_signs_low n k), tt)

  signed_low : (n k : ℕ) → Low (suc n) (signed_path at n k)
  unfolding signed_path
  signed_low n k = (more_signs_low (suc n) k, path_low n (step at n) (step_low n))

  other_operand_low : (n : ℕ) → Low (suc n) (other_operand at n)
  unfolding other_operand
  other_operand_low n = (((operator_low (suc n) set.Signs, more_signs_low (suc n) 63), path_low n (step at n) (step_low n)), path_low n (other_step at n) (other_step_low n))

  -- operators

  ladder_low : (k n : ℕ) (first : Phrase) → Low (suc n) first → Low (suc n) (ladder at k n first)
  unfolding ladder
  ladder_low zero n first f = casts_low at (suc n) first f
  ladder_low (suc k) n first f =
      elim (is_single (level_at k)) as (λ b. Low (suc n) (if b then (two at (set.Operators (level_at k)) (ladder at k n first) (ladder at k n (signed_path at n 64))) else (chain at join_binary (set.Operators (level_at k)) (ladder at k n first) (ladder at k n (signed_path at n 64)) barrier.Single))) [
        | true ↦ two_low (suc n) (set.Operators (level_at k)) (ladder at k n first) (ladder at k n (signed_path at n 64)) (ladder_low k n first f) (ladder_low k n (signed_path at n 64) (signed_low n 64))
        | false ↦ chain_low (suc n) join_binary (set.Operators (level_at k)) (ladder at k n first) (ladder at k n (signed_path at n 64)) barrier.Single (ladder_low k n first f) (ladder_low k n (signed_path at n 64) (signed_low n 64))
      ]

  -- Singles

  condition_low : (n : ℕ) (v : Made) → Low (suc n) (condition at n v)
  unfolding condition keyword
  condition_low n v = (tt, (tt, (expression_low n, ((tt, tt), ((tt, (tt, tt)), (below n, ((tt, (tt, tt)), below n)))))))

  plain_low : (n : ℕ) (v : Made) → Low (suc n) (ladder at 8 n (path_from at n (behind_plain_name at gap_not_open v)))
  plain_low n v = ladder_low 8 n (path_from at n (behind_plain_name at gap_not_open v)) (path_low n (behind_plain_name at gap_not_open v) (plain_name_low (suc n) gap_not_open v))

  typeswitch_low : (n : ℕ) (v : Made) → Low (suc n) (typeswitch at n v)
  unfolding typeswitch
  typeswitch_low n v = (tt, (tt, (expression_low n, ((tt, tt), (cases_low at n (below n), (default_head_low at n (below n), below n))))))

  branched_low : (n : ℕ) (v : Made) (b : Branching) → Low (suc n) (branched at n b v)
  unfolding branched
  branched_low n v branching_is.If = condition_low n v
  branched_low n v branching_is.Typeswitch = typeswitch_low n v

  branched_or_name_low : (n : ℕ) (v : Made) (b : Option Branching) → Low (suc n) (branched_or_name at n v b)
  unfolding branched_or_name
  branched_or_name_low n v (Some b) = (branched_low n v b, plain_low n v)
  branched_or_name_low n v None = ladder_low 8 n (path_from at n (behind_any_name at n v)) (path_low n (behind_any_name at n v) (any_name_low n v))

  begun_low : (n : ℕ) (v : Made) → Low (suc n) (begun at n v)
  unfolding begun
  begun_low n v = branched_or_name_low n v (branching_named v)

  keyword_low : (n : ℕ) (v : Made) → Low (suc n) (behind_keyword at n v)
  unfolding behind_keyword
  keyword_low n v = (((tt, tt), inside_low n), plain_name_low (suc n) gap_then_neither v)

  opened_low : (n : ℕ) (v : Made) (o : Opening) → Low (suc n) (opened at n o v)
  unfolding opened
  opened_low n v (opening_is.Flwor b) = flwor_low at n (below n) b v
  opened_low n v (opening_is.Quantified every) = quantified_low at n (below n) every v

  opened_or_name_low : (n : ℕ) (v : Made) (o : Option Opening) → Low (suc n) (opened_or_name at n v o)
  unfolding opened_or_name
  opened_or_name_low n v (Some o) = (opened_low n v o, ladder_low 8 n (path_from at n (behind_keyword at n v)) (path_low n (behind_keyword at n v) (keyword_low n v)))
  opened_or_name_low n v None = begun_low n v

  named_low : (n : ℕ) (v : Made) → Low (suc n) (named_single at n v)
  unfolding named_single
  named_low n v = opened_or_name_low n v (opening_named v)

  any_single_low : (n : ℕ) (v : Made) → Low (suc n) (ladder at 8 n (path_from at n (any_step at v)))
  any_single_low n v = ladder_low 8 n (path_from at n (any_step at v)) (path_low n (any_step at v) (any_step_low (suc n) v))

  pub production_shielded : (p : Production) → IsShielded (query_language at) (fronts at).takings rank (rank p) (rules at p)
  production_shielded (single zero) = tt
  production_shielded (single (suc n)) = below_shields (query_language at) (fronts at).takings rank (suc n) (rules at (single (suc n))) ((λ v. wildcard_or_low (suc n) v (ladder at 8 n (path_from at n (any_step at v))) (named_single at n v) (any_single_low n v) (named_low n v)), ladder_low 8 n (other_operand at n) (other_operand_low n))
  production_shielded (within zero) = tt
  production_shielded (within (suc n)) = below_shields (query_language at) (fronts at).takings rank (suc n) (rules at (within (suc n))) (expression_low n)
  production_shielded (nested zero) = tt
  production_shielded (nested (suc zero)) = tt
  production_shielded (nested (suc (suc n))) = below_shields (query_language at) (fronts at).takings rank (suc (suc n)) (rules at (nested (suc (suc n)))) (element_low (suc n))

  unfoldable pub levelled : IsLevelled (query_language at) (fronts at).takings
  levelled = record { takings = taken at; rank = rank; shielded = production_shielded }
