use Rattle.gx_ast.specs.SyntaxView.{bindings_of, cases_of, clauses_of, keys_of, trees_of}
use Rattle.std.proofs.Common.{if◌then◌else◌, ◌+◌, ◌-◌, suc, refl, sym, ap, subst, ◌∙◌, arith, [], ◌∷◌, ◌++◌, None, inr, false, append-nil}
use Rattle.gx_ast.specs.declared.expression.Clause.TheVariants.{Where}
use Rattle.gx_grammar.specs.Value.{node, nothing, pair}
use Rattle.gx_grammar.specs.Grammar.{rule, token, ◌&◌}
use Rattle.gx_grammar.specs.Ran.{Ran, Makes}
use Rattle.gx_parse_grammar.specs.Nodes.{Arguments, name_at, name_length, tree}
use Rattle.gx_parse_grammar.specs.Bound.{bound}
use Rattle.gx_parse_grammar.specs.Binding.{clause, first_bound, flwor, head, last_clause, more_bindings, more_clauses, quantified}
use Rattle.gx_parse_grammar.specs.declared.word.Binder.TheVariants as binder
use Rattle.gx_parse_grammar.specs.Keys.{key, key_made, more_keys}
use Rattle.gx_parse_grammar.specs.Typeswitch.{case, case_made, more_cases}
use Rattle.gx_parse_types.proofs.TypeswitchPhrases.{case_read, cases_none, cases_more, cases_read, typeswitch_read, branched_condition, branched_typeswitch}
use Rattle.gx_parse_parts.specs.Lists.{Grown, binding_made, clause_made, head_made, items_before}
use Rattle.gx_parse_tokens.specs.Names.{name_made}
use Rattle.gx_parse_grammar.specs.Grammar.{filtered_step, more_predicates, path_from, step_of, step_value, behind_keyword, named_single, more_arguments, other_step, at_tokens, begun, behind_any_name, behind_plain_name, condition, ladder, other_operand, parenthesised_step, place_in, single, step, typeswitch}
use Rattle.gx_parse_grammar.specs.Tokens.{gap, gap_then_open, gap_not_open, gap_then_dollar}
use Rattle.gx_ast.specs.SyntaxTree.{at, conditional, flwor as flwor_form, parenthesised, quantified as quantified_form, typeswitch as typeswitch_form}
use Rattle.gx_grammar.proofs.PublicLaws.{ran_idle}
use Rattle.gx_parse_tokens.specs.Reading.{call, read_in}
use Rattle.gx_parse_parts.specs.Parsing.{Listed, filtered_tree, named_tree, called_tree, most_of, read_chain, member_of, wrapped}
use Rattle.gx_parse_tokens.specs.Reading.{Added}
use Rattle.gx_parse_parts.proofs.Chains.{ran_any, ran_keeps, chain_full}
use Rattle.gx_parse_parts.proofs.Phrases.{in_rule}
use Rattle.gx_parse_grammar.specs.NodeTests.{any_step, axis_word, maybe_content, step_tree, test_made, test_of}
use Rattle.gx_parse_parts.proofs.Phrases.{loses_done, loses_ran}
use Rattle.std.proofs.lemmas.List.{append_assoc}
use Rattle.gx_parse_types.proofs.NodeTestsPhrases.{wildcard_stands, no_wildcard}
use Rattle.gx_parse.proofs.Steps.{call_after, filtered_read, kept_value, name_after, name_placed, one_before, predicate_read, predicates_end, predicates_full, predicates_more, predicates_none, reserved_after, step_read}
use Rattle.gx_parse.proofs.Calls.{arguments_read, arguments_none, arguments_some, arguments_lost, items_begin, items_end, items_more, items_full, items_lost}
use Rattle.gx_parse.proofs.Expressions.{named_other, named_opened, named_keyword, keyword_plain, keyword_called, operand_signed, operand_other, ladder_next, ladder_none, looked_left, begun_other, begun_branched, begun_plain, plain_read, condition_read, nothing_inside, inner_read, signed_read, expression_read, no_single, single_other, single_named, step_other, step_named, path_read, chain_read, no_more, one_more, step_variable, step_parenthesised, step_dots, step_literal, step_direct}
use Rattle.gx_parse_parts.proofs.Lists.{one_grown, gone_start, gone_step, gone_end, gone_last, one_added, none_grown}
use Rattle.gx_parse_types.proofs.KeysPhrases.{key_read, keys_none, keys_more, ordered_read, stable_read, unstable_read, unordered_read}
use Rattle.gx_parse_types.proofs.BindingPhrases.{binding_read, binding_stops, bindings_read, bindings_none, bindings_more, clause_read, where_part, where_read, no_where, a_where, clauses_none, clauses_more, clauses_full, clauses_end, flwor_read, quantified_read, opened_flwor, opened_quantified}
use Rattle.gx_ast.specs.SyntaxTree.{direct as direct_form}
use Rattle.gx_ast.specs.SyntaxView.{attribute_parts_of, attributes_of, parts_of}
use Rattle.gx_grammar.specs.Value.{no_item}
use Rattle.gx_grammar.specs.First.{by_character}
use Rattle.gx_base.specs.NameCharacters.{is_ncname_start}
use Rattle.gx_parse_grammar.specs.Basics.{within}
use Rattle.gx_parse_grammar.specs.Nodes.{Found, PartsAre, ValueIs}
use Rattle.gx_parse_parts.specs.Repeated.{listed_before}
use Rattle.gx_parse_grammar.specs.Direct.{attribute, element_at, piece_made, value_piece, value_pieces_of}
use Rattle.gx_parse_constructors.specs.DirectReading.{attribute_made}
use Rattle.gx_parse_constructors.proofs.ContentPhrases.{content_begins, content_ends, content_full, content_more}
use Rattle.gx_parse_parts.proofs.Repeated.{Begun, all_listed, many_begin, many_end, many_full, many_more}
use Rattle.gx_parse_constructors.proofs.DirectPhrases.{attribute_read, attribute_stops, attributes_read, content_cdata, content_element, content_plain, content_reference, direct_read, doubled_brace, element_read, element_stops, enclosed_read, filled_read, nested_none, nested_read, no_content_read, plain_brace, plain_close, plain_text, value_double, value_doubled, value_plain, value_read, value_reference, value_single, values_are, within_none, within_read}
use Rattle.gx_parse_grammar.specs.Computed.{computed_form, empty_form, named_form, named_node_value}
use Rattle.gx_parse_grammar.specs.Grammar.{braced, computed, constructed, named_node}
use Rattle.gx_parse_grammar.specs.NodeTests.{axis_test}
use Rattle.gx_parse_grammar.specs.Types.{named}
use Rattle.gx_parse.proofs.ComputedPhrases.{any_name_constructed, bare_passes, braced_nothing, braced_something, colons, computed_passes, computed_read, constructor_read, gap_passes, named_passes, no_axis, no_colons, node_read, part_read, plain_passes, unnamed_passes}
use Rattle.gx_parse.proofs.+parsing.Goals as goal

pub operators::expression-returns : goal.operators::expression-returns
operators::expression-returns t c =
    expression_read c.args.source.now c.args.levels c.single-first.result c.further.result c.args.reader.now c.single-first.new.reader c.further.new.reader c.single-first.ensures (c.further.ensures (rule (single c.args.levels)) c.args.reader.now)

pub operators::further-returns-then-not-looks_at : goal.operators::further-returns-then-not-looks_at
operators::further-returns-then-not-looks_at t c = λ before a h.
    chain_read c.args.source.now c.args.levels c.args.members before c.args.first c.loop.tree a c.args.reader.now c.looks_at.new.self h
    (c.loop.invariant c.loop.tree c.looks_at.new.self
    (no_more c.args.source.now c.args.levels c.args.members c.set-set.result (most_of c.args.members - c.loop.counter) c.loop.tree c.looks_at.result c.loop.reader c.looks_at.new.self c.set-set.ensures (omega (arith, c.loop-test.true, c.most-end.ensures)) c.if-not-looks_at.true c.looks_at.ensures))

pub operators::further-loop-preserved : goal.operators::further-loop-preserved
operators::further-loop-preserved t c = λ v z h.
    c.loop.invariant v z
    (one_more c.args.source.now c.args.levels c.args.members c.set-set.result (most_of c.args.members - c.loop.counter) (most_of c.args.members - (c.loop.counter + 1)) c.loop.tree c.member-next.result v c.infix_operator-word.result.0 c.infix_operator-word.result.1 c.keep-tree.result c.joined-made.result c.looks_at.result
    c.loop.reader c.looks_at.new.self c.infix_operator-word.new.reader c.member-next.new.reader c.keep-tree.new.reader z c.set-set.ensures (omega (arith, c.loop-test.true, c.most-end.ensures)) c.if-not-looks_at.false c.looks_at.ensures (c.infix_operator-word.ensures c.args.levels) c.member-next.ensures c.joined-made.ensures c.keep-tree.ensures h)

pub operators::further-returns : goal.operators::further-returns
operators::further-returns t c = λ before a h.
    chain_read c.args.source.now c.args.levels c.args.members before c.args.first c.loop.tree a c.args.reader.now c.last.new.reader h
    (c.loop.invariant c.loop.tree c.last.new.reader
    (subst (λ k. Ran c.loop.tree c.loop.reader c.last.new.reader (read_chain c.args.source.now c.args.levels c.args.members k c.loop.tree)) (omega (arith, c.loop-test.false, c.most-end.ensures))
    (chain_full c.args.source.now c.args.levels c.args.members c.loop.tree c.loop.reader c.last.new.reader (c.last.ensures c.args.levels))))

pub operators::ladder-loop-level-init : goal.operators::ladder-loop-level-init
operators::ladder-loop-level-init t c = λ before a h.
    subst (λ p. Ran (tree c.casts-tree.result) a c.casts-tree.new.reader (read_in c.args.source.now c.args.levels p)) (sym (ladder_none c.args.source.now c.args.levels before)) (c.casts-tree.ensures c.args.levels before a h)

pub operators::ladder-loop-level-preserved : goal.operators::ladder-loop-level-preserved
operators::ladder-loop-level-preserved t c = λ before a h.
    subst (λ p. Ran (tree c.further-tree.result) a c.further-tree.new.reader (read_in c.args.source.now c.args.levels p)) (sym (ladder_next c.args.source.now c.args.levels c.loop-level.level (c.loop-level.level + 1) before (omega arith)))
    (c.further-tree.ensures (ladder (place_in c.args.source.now) c.loop-level.level c.args.levels before) a (c.loop-level.invariant before a h))

pub operators::member-returns-in-Singles : goal.operators::member-returns-in-Singles
operators::member-returns-in-Singles t c = subst (λ m. Ran (tree c.single.result) c.args.reader.now c.single.new.reader (read_in c.args.source.now c.args.levels (member_of (place_in c.args.source.now) c.args.levels m))) (sym c.in-Singles.is) (in_rule c.args.source.now c.args.levels c.args.levels (tree c.single.result) c.args.reader.now c.single.new.reader c.single.ensures)

pub paths::step-returns-then-not-starts_name : goal.paths::step-returns-then-not-starts_name
paths::step-returns-then-not-starts_name t c = step_other c.args.source.now c.args.levels c.other_step.result c.starts_name.result c.args.reader.now c.starts_name.new.self c.other_step.new.reader c.if-not-starts_name.true c.starts_name.ensures c.other_step.ensures

pub paths::step-returns-in_default : goal.paths::step-returns-in_default
paths::step-returns-in_default t c =
    let done = rw c.in_default.is at c.name.ensures.read in
    step_named c.args.source.now c.args.levels c.missing.result nothing c.starts_name.result c.args.reader.now c.starts_name.new.self c.name.new.self c.name.new.self c.if-not-starts_name.false c.starts_name.ensures (done.1 nothing)
    (ran_idle (tree c.missing.result) c.name.new.self _ done.0)

pub paths::step-returns-then-local_wildcard : goal.paths::step-returns-then-local_wildcard
paths::step-returns-then-local_wildcard t c =
    let v = name_made c.in-Some.name in
    step_named c.args.source.now c.args.levels c.any_step.result v c.starts_name.result c.args.reader.now c.starts_name.new.self c.name.new.self c.any_step.new.reader c.if-not-starts_name.false c.starts_name.ensures c.in-Some.ensures.read
    (wildcard_stands c.args.source.now c.args.levels c.local_wildcard.result c.has_prefix.result v (tree c.any_step.result) (any_step (place_in c.args.source.now) v) (behind_any_name (place_in c.args.source.now) c.args.levels v) c.name.new.self c.local_wildcard.new.self c.any_step.new.reader
    c.if-local_wildcard.true c.has_prefix.ensures c.local_wildcard.ensures.read (c.any_step.ensures c.args.levels))

pub paths::step-returns : goal.paths::step-returns
paths::step-returns t c =
    let v = name_made c.in-Some.name in
    step_named c.args.source.now c.args.levels c.named_step.result v c.starts_name.result c.args.reader.now c.starts_name.new.self c.name.new.self c.named_step.new.reader c.if-not-starts_name.false c.starts_name.ensures c.in-Some.ensures.read
    (no_wildcard c.args.source.now c.args.levels c.local_wildcard.result c.has_prefix.result v (tree c.named_step.result) (any_step (place_in c.args.source.now) v) (behind_any_name (place_in c.args.source.now) c.args.levels v) c.name.new.self c.local_wildcard.new.self c.named_step.new.reader
    c.if-local_wildcard.false c.has_prefix.ensures c.local_wildcard.ensures.read c.named_step.ensures)

pub paths::other_step-returns-then-starts_with : goal.paths::other_step-returns-then-starts_with
paths::other_step-returns-then-starts_with t c = step_variable c.args.source.now c.args.levels (tree c.variable.result) c.starts_with.result c.args.reader.now c.starts_with.new.self c.variable.new.reader c.if-starts_with.true c.starts_with.ensures (c.variable.ensures c.args.levels)

pub paths::other_step-returns-then-starts_with-2 : goal.paths::other_step-returns-then-starts_with-2
paths::other_step-returns-then-starts_with-2 t c =
    step_parenthesised c.args.source.now c.args.levels (tree c.parenthesised.result) c.starts_with.result c.starts_with-2.result c.args.reader.now c.starts_with.new.self c.starts_with-2.new.self c.parenthesised.new.reader c.if-starts_with.false c.starts_with.ensures c.if-starts_with-2.true c.starts_with-2.ensures c.parenthesised.ensures

pub paths::other_step-returns-then-starts_with-3 : goal.paths::other_step-returns-then-starts_with-3
paths::other_step-returns-then-starts_with-3 t c =
    step_direct c.args.source.now c.args.levels (tree c.direct_step.result) c.starts_with.result c.starts_with-2.result c.starts_with-3.result c.args.reader.now c.starts_with.new.self c.starts_with-2.new.self c.starts_with-3.new.self c.direct_step.new.reader
    c.if-starts_with.false c.starts_with.ensures c.if-starts_with-2.false c.starts_with-2.ensures c.if-starts_with-3.true c.starts_with-3.ensures c.direct_step.ensures

pub paths::other_step-returns-then-looks_at : goal.paths::other_step-returns-then-looks_at
paths::other_step-returns-then-looks_at t c =
    step_dots c.args.source.now c.args.levels (tree c.dots.result) c.starts_with.result c.starts_with-2.result c.starts_with-3.result c.looks_at.result c.args.reader.now c.starts_with.new.self c.starts_with-2.new.self c.starts_with-3.new.self c.looks_at.new.self c.dots.new.reader
    c.if-starts_with.false c.starts_with.ensures c.if-starts_with-2.false c.starts_with-2.ensures c.if-starts_with-3.false c.starts_with-3.ensures c.if-looks_at.true c.looks_at.ensures (c.dots.ensures c.args.levels)

pub paths::other_step-returns : goal.paths::other_step-returns
paths::other_step-returns t c =
    step_literal c.args.source.now c.args.levels (tree c.test_or_literal.result) c.starts_with.result c.starts_with-2.result c.starts_with-3.result c.looks_at.result c.args.reader.now c.starts_with.new.self c.starts_with-2.new.self c.starts_with-3.new.self c.looks_at.new.self c.test_or_literal.new.reader
    c.if-starts_with.false c.starts_with.ensures c.if-starts_with-2.false c.starts_with-2.ensures c.if-starts_with-3.false c.starts_with-3.ensures c.if-looks_at.false c.looks_at.ensures (c.test_or_literal.ensures c.args.levels)

pub singles::single-returns-then-levels-eq0 : goal.singles::single-returns-then-levels-eq0
singles::single-returns-then-levels-eq0 t c =
    subst (λ l. Ran (tree c.missing.result) c.args.reader.now c.barrier.new.self (call c.args.source.now (suc l) (single l))) (sym c.if-levels-eq0.true)
    (no_single c.args.source.now 0 c.missing.result c.args.reader.now c.barrier.new.self c.barrier.ensures.read c.barrier.ensures.ended)

pub singles::single-returns-then-not-starts_name : goal.singles::single-returns-then-not-starts_name
singles::single-returns-then-not-starts_name t c =
    subst (λ l. Ran (tree c.ladder.result) c.args.reader.now c.ladder.new.reader (call c.args.source.now (suc l) (single l))) (omega (arith, c.if-levels-eq0.false))
    (single_other c.args.source.now (c.args.levels - 1) c.ladder.result c.starts_name.result c.args.reader.now c.starts_name.new.self c.ladder.new.reader c.if-not-starts_name.true c.starts_name.ensures (c.ladder.ensures (other_operand (place_in c.args.source.now) (c.args.levels - 1)) c.starts_name.new.self c.other_operand-first.ensures))

pub singles::single-returns-in_default : goal.singles::single-returns-in_default
singles::single-returns-in_default t c =
    let done = rw c.in_default.is at c.name.ensures.read in
    subst (λ l. Ran (tree c.missing-in_default.result) c.args.reader.now c.name.new.self (call c.args.source.now (suc l) (single l))) (omega (arith, c.if-levels-eq0.false))
    (single_named c.args.source.now (c.args.levels - 1) c.missing-in_default.result nothing c.starts_name.result c.args.reader.now c.starts_name.new.self c.name.new.self c.name.new.self c.if-not-starts_name.false c.starts_name.ensures (done.1 nothing) (ran_idle (tree c.missing-in_default.result) c.name.new.self _ done.0))

pub singles::single-returns-then-local_wildcard : goal.singles::single-returns-then-local_wildcard
singles::single-returns-then-local_wildcard t c =
    let text = c.args.source.now in
    let n = c.args.levels - 1 in
    let v = name_made c.in-Some.name in
    let first = any_step (place_in text) v in
    subst (λ l. Ran (tree c.ladder-then-local_wildcard.result) c.args.reader.now c.ladder-then-local_wildcard.new.reader (call text (suc l) (single l))) (omega (arith, c.if-levels-eq0.false))
    (single_named text n c.ladder-then-local_wildcard.result v c.starts_name.result c.args.reader.now c.starts_name.new.self c.name.new.self c.ladder-then-local_wildcard.new.reader c.if-not-starts_name.false c.starts_name.ensures c.in-Some.ensures.read
    (wildcard_stands text n c.local_wildcard.result c.has_prefix.result v (tree c.ladder-then-local_wildcard.result) (ladder (place_in text) 8 n (path_from (place_in text) n first)) (named_single (place_in text) n v) c.name.new.self c.local_wildcard.new.self c.ladder-then-local_wildcard.new.reader
    c.if-local_wildcard.true c.has_prefix.ensures c.local_wildcard.ensures.read
    (c.ladder-then-local_wildcard.ensures (path_from (place_in text) n first) c.local_wildcard.new.self (c.path-path.ensures first c.local_wildcard.new.self (c.any_step-first.ensures n)))))

pub singles::single-returns : goal.singles::single-returns
singles::single-returns t c =
    let text = c.args.source.now in
    let n = c.args.levels - 1 in
    let v = name_made c.in-Some.name in
    subst (λ l. Ran (tree c.named_single.result) c.args.reader.now c.named_single.new.reader (call text (suc l) (single l))) (omega (arith, c.if-levels-eq0.false))
    (single_named text n c.named_single.result v c.starts_name.result c.args.reader.now c.starts_name.new.self c.name.new.self c.named_single.new.reader c.if-not-starts_name.false c.starts_name.ensures c.in-Some.ensures.read
    (no_wildcard text n c.local_wildcard.result c.has_prefix.result v (tree c.named_single.result) (ladder (place_in text) 8 n (path_from (place_in text) n (any_step (place_in text) v))) (named_single (place_in text) n v) c.name.new.self c.local_wildcard.new.self c.named_single.new.reader
    c.if-local_wildcard.false c.has_prefix.ensures c.local_wildcard.ensures.read c.named_single.ensures))

pub singles::named_single-returns-in_default : goal.singles::named_single-returns-in_default
singles::named_single-returns-in_default t c =
    named_other c.args.source.now c.args.levels (name_made c.args.name) (tree c.begun.result) c.args.reader.now c.begun.new.reader (sym c.opening.ensures ∙ c.in_default.is) c.begun.ensures

pub singles::named_single-returns-then-looks_at_dollar : goal.singles::named_single-returns-then-looks_at_dollar
singles::named_single-returns-then-looks_at_dollar t c =
    let same = looked_left c.args.source.now c.args.levels c.looks_at_dollar.result c.args.reader.now c.looks_at_dollar.new.self (at_tokens (gap_then_dollar ∷ [])) c.looks_at_dollar.ensures in
    named_opened c.args.source.now c.args.levels c.in-Some.opening (name_made c.args.name) (tree c.opened.result) c.looks_at_dollar.result c.args.reader.now c.looks_at_dollar.new.self c.opened.new.reader (sym c.opening.ensures ∙ c.in-Some.is) c.if-looks_at_dollar.true c.looks_at_dollar.ensures
    (c.opened.ensures (name_made c.args.name) (c.requires ∙ ap (λ left. place_in c.args.source.now (left + name_length (name_made c.args.name))) (sym same)))

pub singles::named_single-returns : goal.singles::named_single-returns
singles::named_single-returns t c =
    let first = behind_keyword (place_in c.args.source.now) c.args.levels (name_made c.args.name) in
    named_keyword c.args.source.now c.args.levels c.in-Some.opening (name_made c.args.name) (tree c.ladder.result) c.looks_at_dollar.result c.args.reader.now c.looks_at_dollar.new.self c.ladder.new.reader (sym c.opening.ensures ∙ c.in-Some.is) c.if-looks_at_dollar.false c.looks_at_dollar.ensures
    (c.ladder.ensures (path_from (place_in c.args.source.now) c.args.levels first) c.looks_at_dollar.new.self (c.path-path.ensures first c.looks_at_dollar.new.self c.keyword_step-first.ensures))

pub singles::keyword_step-returns-then-not-looks_at_parenthesis : goal.singles::keyword_step-returns-then-not-looks_at_parenthesis
singles::keyword_step-returns-then-not-looks_at_parenthesis t c =
    let same = looked_left c.args.source.now c.args.levels c.looks_at_parenthesis.result c.args.reader.now c.looks_at_parenthesis.new.self (at_tokens (gap_then_open ∷ [])) c.looks_at_parenthesis.ensures in
    ran_keeps c.keep.result (named_tree (name_at c.args.place (name_made c.args.name))) c.named-made.result c.args.reader.now c.neither.new.self c.keep.new.reader (read_in c.args.source.now c.args.levels (behind_keyword (place_in c.args.source.now) c.args.levels (name_made c.args.name)))
    (keyword_plain c.args.source.now c.args.levels (name_made c.args.name) c.args.place c.looks_at_parenthesis.result c.args.reader.now c.looks_at_parenthesis.new.self c.neither.new.self (c.requires ∙ ap (λ left. place_in c.args.source.now (left + name_length (name_made c.args.name))) (sym same)) c.if-not-looks_at_parenthesis.true c.looks_at_parenthesis.ensures c.neither.ensures)
    c.named-made.ensures c.keep.ensures

pub singles::keyword_step-returns : goal.singles::keyword_step-returns
singles::keyword_step-returns t c =
    let same = looked_left c.args.source.now c.args.levels c.looks_at_parenthesis.result c.args.reader.now c.looks_at_parenthesis.new.self (at_tokens (gap_then_open ∷ [])) c.looks_at_parenthesis.ensures in
    ran_keeps c.keep-2.result (called_tree (name_at c.args.place (name_made c.args.name)) (trees_of c.arguments_in-arguments.result.items)) c.called-made.result c.args.reader.now c.arguments_in-arguments.new.reader c.keep-2.new.reader (read_in c.args.source.now c.args.levels (behind_keyword (place_in c.args.source.now) c.args.levels (name_made c.args.name)))
    (keyword_called c.args.source.now c.args.levels (name_made c.args.name) (trees_of c.arguments_in-arguments.result.items) c.args.place c.looks_at_parenthesis.result c.args.reader.now c.looks_at_parenthesis.new.self c.parenthesis.new.self c.gap.new.self c.arguments_in-arguments.new.reader
    (c.requires ∙ ap (λ left. place_in c.args.source.now (left + name_length (name_made c.args.name))) (sym same)) c.if-not-looks_at_parenthesis.false c.looks_at_parenthesis.ensures c.parenthesis.ensures c.gap.ensures c.arguments_in-arguments.ensures)
    c.called-made.ensures c.keep-2.ensures

pub singles::opened-returns-in-Flwor : goal.singles::opened-returns-in-Flwor
singles::opened-returns-in-Flwor t c = λ v e.
    opened_flwor c.args.source.now c.args.levels c.args.opening c.in-Flwor.word v (tree c.flwor.result) c.args.reader.now c.flwor.new.reader c.in-Flwor.is (c.flwor.ensures v e)

pub singles::opened-returns-in-Quantified : goal.singles::opened-returns-in-Quantified
singles::opened-returns-in-Quantified t c = λ v e.
    opened_quantified c.args.source.now c.args.levels c.args.opening c.in-Quantified.every v (tree c.quantified.result) c.args.reader.now c.quantified.new.reader c.in-Quantified.is (c.quantified.ensures v e)

pub flwor::quantified-returns : goal.flwor::quantified-returns
flwor::quantified-returns t c = λ v e.
    ran_keeps c.keep.result (at c.args.place (quantified_form c.args.every (bindings_of c.bindings-list.result.items) c.single-condition.result)) c.quantified-made.result c.args.reader.now c.single-condition.new.reader c.keep.new.reader
    (read_in c.args.source.now c.args.levels (quantified (place_in c.args.source.now) c.args.levels c.args.every v))
    (quantified_read c.args.source.now c.args.levels c.args.every v _ c.args.place c.bindings-list.result.items c.single-condition.result c.args.reader.now c.dollar.new.self c.bindings-list.new.reader c.keyword.new.reader c.single-condition.new.reader e c.dollar.ensures
    (c.bindings-list.ensures (head (place_in c.args.source.now) c.args.levels binder.Quantifier (first_bound (place_in c.args.source.now))) c.dollar.new.self (c.first_head-head.ensures c.args.levels)) (c.keyword.ensures c.args.source.now c.args.levels) c.single-condition.ensures)
    c.quantified-made.ensures c.keep.ensures

pub flwor::flwor-returns : goal.flwor::flwor-returns
flwor::flwor-returns t c = λ v e.
    ran_keeps c.keep.result (at c.args.place (flwor_form (clauses_of c.more_clauses-clauses.result.items) c.place-order.result c.looks_at-stable.result (keys_of c.order_clause-keys.result.items) c.single-returned.result)) c.flwor-made.result c.args.reader.now c.single-returned.new.reader c.keep.new.reader
    (read_in c.args.source.now c.args.levels (flwor (place_in c.args.source.now) c.args.levels c.args.word v))
    (flwor_read c.args.source.now c.args.levels c.args.word c.binder-binder.result v _ c.args.place c.bindings-list.result.items c.clause_of-first.result c.with_clause-begun.result.items c.more_clauses-clauses.result.items c.place-order.result c.looks_at-stable.result c.order_clause-keys.result.items c.single-returned.result
    c.args.reader.now c.dollar.new.self c.bindings-list.new.reader c.with_clause-begun.new.reader c.more_clauses-clauses.new.reader c.order_clause-keys.new.reader c.keyword.new.reader c.single-returned.new.reader c.binder-binder.ensures e (c.place-order.ensures ∙ ap (place_in c.args.source.now) c.left.ensures) c.dollar.ensures
    (c.bindings-list.ensures (head (place_in c.args.source.now) c.args.levels c.binder-binder.result (first_bound (place_in c.args.source.now))) c.dollar.new.self (c.first_head-head.ensures c.args.levels)) c.clause_of-first.ensures
    (subst (λ us. Grown us c.clause_of-first.result c.with_clause-begun.result.items c.bindings-list.new.reader c.with_clause-begun.new.reader) c.new.ensures.items c.with_clause-begun.ensures)
    c.more_clauses-clauses.ensures (c.order_clause-keys.ensures c.more_clauses-clauses.new.reader c.looks_at-stable.ensures) (c.keyword.ensures c.args.source.now c.args.levels) c.single-returned.ensures)
    c.flwor-made.ensures c.keep.ensures

pub flwor::order_clause-returns-then-stable : goal.flwor::order_clause-returns-then-stable
flwor::order_clause-returns-then-stable t c = λ a h.
    stable_read c.args.source.now c.args.levels c.args.stable _ (items_before key_made c.ordered.result.items nothing) a c.args.reader.now c.lexeme.new.reader c.ordered.new.reader c.if-stable.true h (c.lexeme.ensures c.args.source.now c.args.levels) c.ordered.ensures

pub flwor::order_clause-returns-then-looks_at : goal.flwor::order_clause-returns-then-looks_at
flwor::order_clause-returns-then-looks_at t c = λ a h.
    unstable_read c.args.source.now c.args.levels c.args.stable c.looks_at.result (items_before key_made c.ordered-then-looks_at.result.items nothing) a c.args.reader.now c.looks_at.new.self c.ordered-then-looks_at.new.reader c.if-stable.false h c.if-looks_at.true c.looks_at.ensures c.ordered-then-looks_at.ensures

pub flwor::order_clause-returns : goal.flwor::order_clause-returns
flwor::order_clause-returns t c = λ a h. unordered_read c.args.source.now c.args.levels c.args.stable c.looks_at.result c.new.result.items a c.args.reader.now c.looks_at.new.self c.if-stable.false h c.if-looks_at.false c.looks_at.ensures c.new.ensures.items

pub flwor::ordered-returns : goal.flwor::ordered-returns
flwor::ordered-returns t c =
    let text = c.args.source.now in
    let n = c.args.levels in
    let item = read_in text n (key (place_in text) n) in
    ordered_read text n _ _ c.new.result.items c.with_key-begun.result.items c.more_keys.result.items c.args.reader.now c.lexeme.new.reader c.keyword.new.reader c.with_key-begun.new.reader c.more_keys.new.reader (c.lexeme.ensures text n) (c.keyword.ensures text n) c.new.ensures.items
    (one_grown key_made c.new.result.items c.with_key-begun.result.items c.key-first.result c.keyword.new.reader c.key-first.new.reader c.with_key-begun.new.reader item c.key-first.ensures c.with_key-begun.ensures) c.more_keys.ensures

pub flwor::more_keys-loop-init : goal.flwor::more_keys-loop-init
flwor::more_keys-loop-init t c = gone_start key_made c.args.keys.items c.args.reader.now _ _ (λ w z h. h)

pub flwor::more_keys-returns-then-not-looks_at : goal.flwor::more_keys-returns-then-not-looks_at
flwor::more_keys-returns-then-not-looks_at t c =
    let text = c.args.source.now in
    let n = c.args.levels in
    gone_end key_made c.args.keys.items c.loop.list.items c.args.reader.now c.loop.reader c.looks_at.new.self (read_in text n (more_keys (place_in text) n 63)) (read_in text n (more_keys (place_in text) n (63 - c.loop.counter))) c.loop.invariant
    (keys_none text n (63 - c.loop.counter) c.looks_at.result c.loop.reader c.looks_at.new.self c.if-not-looks_at.true c.looks_at.ensures)

pub flwor::more_keys-loop-preserved : goal.flwor::more_keys-loop-preserved
flwor::more_keys-loop-preserved t c =
    let text = c.args.source.now in
    let n = c.args.levels in
    let item = read_in text n (key (place_in text) n) in
    gone_step key_made c.args.keys.items c.loop.list.items c.with_key-list.result.items c.args.reader.now c.loop.reader c.lexeme.new.reader c.with_key-list.new.reader (read_in text n (more_keys (place_in text) n 63)) (read_in text n (more_keys (place_in text) n (63 - c.loop.counter))) item
    (read_in text n (more_keys (place_in text) n (63 - (c.loop.counter + 1)))) c.loop.invariant
    (λ v w z h k. keys_more text n (63 - c.loop.counter) (63 - (c.loop.counter + 1)) _ v w c.looks_at.result c.loop.reader c.looks_at.new.self c.lexeme.new.reader c.with_key-list.new.reader z (omega (arith, c.loop-test.true)) c.if-not-looks_at.false c.looks_at.ensures (c.lexeme.ensures text n) h k)
    (one_grown key_made c.loop.list.items c.with_key-list.result.items c.key-next.result c.lexeme.new.reader c.key-next.new.reader c.with_key-list.new.reader item c.key-next.ensures c.with_key-list.ensures)

pub flwor::more_keys-returns : goal.flwor::more_keys-returns
flwor::more_keys-returns t c =
    let text = c.args.source.now in
    let n = c.args.levels in
    gone_end key_made c.args.keys.items c.loop.list.items c.args.reader.now c.loop.reader c.last_key.new.reader (read_in text n (more_keys (place_in text) n 63)) (read_in text n (more_keys (place_in text) n (63 - c.loop.counter))) c.loop.invariant
    (subst (λ k. Ran nothing c.loop.reader c.last_key.new.reader (read_in text n (more_keys (place_in text) n k))) (omega (arith, c.loop-test.false)) (c.last_key.ensures text n))

pub flwor::key-returns : goal.flwor::key-returns
flwor::key-returns t c = key_read c.args.source.now c.args.levels c.single-value.result _ c.args.reader.now c.single-value.new.reader c.key_order-order.new.reader c.single-value.ensures (c.key_order-order.ensures c.args.levels)

pub flwor::more_clauses-loop-init : goal.flwor::more_clauses-loop-init
flwor::more_clauses-loop-init t c = gone_start clause_made c.args.clauses.items c.args.reader.now _ _ (λ w z h. h)

pub flwor::more_clauses-returns-then-not-looks_at : goal.flwor::more_clauses-returns-then-not-looks_at
flwor::more_clauses-returns-then-not-looks_at t c =
    let m = c.last_clause.ensures in
    let text = c.args.source.now in
    let whole = read_in text c.args.levels (more_clauses (place_in text) c.args.levels 63) in
    let rest = read_in text c.args.levels (more_clauses (place_in text) c.args.levels (63 - c.loop.counter)) in
    gone_last clause_made c.args.clauses.items c.loop.list.items c.last_clause.result.items c.args.reader.now c.loop.reader c.last_clause.new.reader whole rest c.loop.invariant
    (record {
      others = m.others;
      is = m.is;
      holds = clauses_none text c.args.levels (63 - c.loop.counter) (63 - (c.loop.counter + 1)) (items_before clause_made m.others nothing) c.looks_at.result c.loop.reader c.looks_at.new.self c.last_clause.new.reader (omega (arith, c.loop-test.true)) c.if-not-looks_at.true c.looks_at.ensures m.holds;
    })

pub flwor::more_clauses-loop-preserved : goal.flwor::more_clauses-loop-preserved
flwor::more_clauses-loop-preserved t c =
    let text = c.args.source.now in
    let n = c.args.levels in
    let item = read_in text n (clause (place_in text) n) in
    gone_step clause_made c.args.clauses.items c.loop.list.items c.with_clause-list.result.items c.args.reader.now c.loop.reader c.looks_at.new.self c.with_clause-list.new.reader (read_in text n (more_clauses (place_in text) n 63)) (read_in text n (more_clauses (place_in text) n (63 - c.loop.counter))) item
    (read_in text n (more_clauses (place_in text) n (63 - (c.loop.counter + 1)))) c.loop.invariant
    (λ v w z h k. clauses_more text n (63 - c.loop.counter) (63 - (c.loop.counter + 1)) v w c.looks_at.result c.loop.reader c.looks_at.new.self c.with_clause-list.new.reader z (omega (arith, c.loop-test.true)) c.if-not-looks_at.false c.looks_at.ensures h k)
    (one_grown clause_made c.loop.list.items c.with_clause-list.result.items c.clause-next.result c.looks_at.new.self c.clause-next.new.reader c.with_clause-list.new.reader item c.clause-next.ensures c.with_clause-list.ensures)

pub flwor::more_clauses-returns-then-looks_at_barred : goal.flwor::more_clauses-returns-then-looks_at_barred
flwor::more_clauses-returns-then-looks_at_barred t c =
    let text = c.args.source.now in
    let n = c.args.levels in
    gone_end clause_made c.args.clauses.items c.loop.list.items c.args.reader.now c.loop.reader c.barred.new.self (read_in text n (more_clauses (place_in text) n 63)) (read_in text n (more_clauses (place_in text) n (63 - c.loop.counter))) c.loop.invariant
    (subst (λ k. Ran nothing c.loop.reader c.barred.new.self (read_in text n (more_clauses (place_in text) n k))) (omega (arith, c.loop-test.false))
    (clauses_full text n c.looks_at_barred.result c.loop.reader c.looks_at_barred.new.self c.barred.new.self c.if-looks_at_barred.true c.looks_at_barred.ensures c.barred.ensures.read))

pub flwor::more_clauses-returns : goal.flwor::more_clauses-returns
flwor::more_clauses-returns t c =
    let m = c.last_clause-2.ensures in
    let text = c.args.source.now in
    let n = c.args.levels in
    gone_last clause_made c.args.clauses.items c.loop.list.items c.last_clause-2.result.items c.args.reader.now c.loop.reader c.last_clause-2.new.reader (read_in text n (more_clauses (place_in text) n 63)) (read_in text n (more_clauses (place_in text) n (63 - c.loop.counter))) c.loop.invariant
    (record {
      others = m.others;
      is = m.is;
      holds = subst (λ k. Ran (items_before clause_made m.others nothing) c.loop.reader c.last_clause-2.new.reader (read_in text n (more_clauses (place_in text) n k))) (omega (arith, c.loop-test.false))
          (clauses_end text n (items_before clause_made m.others nothing) c.looks_at_barred.result c.loop.reader c.looks_at_barred.new.self c.last_clause-2.new.reader c.if-looks_at_barred.false c.looks_at_barred.ensures m.holds);
    })

pub flwor::clause-returns : goal.flwor::clause-returns
flwor::clause-returns t c =
    clause_read c.args.source.now c.args.levels c.place-place.result c.word.result c.of-word.result c.binder-binder.result c.bindings-list.result.items c.clause_of.result c.args.reader.now c.word.new.self c.gap.new.self c.next_head-head.new.reader c.bindings-list.new.reader (c.place-place.ensures ∙ ap (place_in c.args.source.now) c.left.ensures)
    c.of-word.ensures c.binder-binder.ensures c.word.ensures c.gap.ensures (c.bindings-list.ensures (head (place_in c.args.source.now) c.args.levels c.binder-binder.result (bound (place_in c.args.source.now))) c.gap.new.self (c.next_head-head.ensures c.args.levels)) c.clause_of.ensures

pub flwor::last_clause-returns-then-not-looks_at : goal.flwor::last_clause-returns-then-not-looks_at
flwor::last_clause-returns-then-not-looks_at t c = record { others = []; is = sym (append-nil c.args.clauses.items); holds = no_where c.args.source.now c.args.levels c.looks_at.result c.args.reader.now c.looks_at.new.self c.if-not-looks_at.true c.looks_at.ensures }

pub flwor::last_clause-returns : goal.flwor::last_clause-returns
flwor::last_clause-returns t c =
    let text = c.args.source.now in
    let n = c.args.levels in
    let part = read_in text n (where_part text n) in
    one_added clause_made c.args.clauses.items c.with_clause.result.items c.args.reader.now c.looks_at.new.self c.with_clause.new.reader part (read_in text n (last_clause (place_in text) n))
    (one_grown clause_made c.args.clauses.items c.with_clause.result.items (Where c.place-place.result c.single-condition.result) c.looks_at.new.self c.single-condition.new.reader c.with_clause.new.reader part
    (where_read text n c.place-place.result nothing c.single-condition.result c.looks_at.new.self c.keyword.new.reader c.single-condition.new.reader (c.place-place.ensures ∙ ap (place_in text) c.left.ensures) (c.keyword.ensures text n) c.single-condition.ensures) c.with_clause.ensures)
    (λ v h. a_where text n v c.looks_at.result c.args.reader.now c.looks_at.new.self c.with_clause.new.reader c.if-not-looks_at.false c.looks_at.ensures h)

pub flwor::bindings-returns : goal.flwor::bindings-returns
flwor::bindings-returns t c = λ before a h.
    bindings_read c.args.source.now c.args.levels c.args.binder before c.new-list.result.items c.binding-begun.result.items c.more_bindings.result.items a c.binding-begun.new.reader c.more_bindings.new.reader c.new-list.ensures.items (c.binding-begun.ensures before a h) c.more_bindings.ensures

pub flwor::more_bindings-loop-init : goal.flwor::more_bindings-loop-init
flwor::more_bindings-loop-init t c = gone_start binding_made c.args.bindings.items c.args.reader.now _ _ (λ w z h. h)

pub flwor::more_bindings-returns-then-not-looks_at : goal.flwor::more_bindings-returns-then-not-looks_at
flwor::more_bindings-returns-then-not-looks_at t c =
    let text = c.args.source.now in
    let n = c.args.levels in
    gone_end binding_made c.args.bindings.items c.loop.list.items c.args.reader.now c.loop.reader c.looks_at.new.self (read_in text n (more_bindings (place_in text) n c.args.binder 63)) (read_in text n (more_bindings (place_in text) n c.args.binder (63 - c.loop.counter))) c.loop.invariant
    (bindings_none text n c.args.binder (63 - c.loop.counter) c.looks_at.result c.loop.reader c.looks_at.new.self c.if-not-looks_at.true c.looks_at.ensures)

pub flwor::more_bindings-loop-preserved : goal.flwor::more_bindings-loop-preserved
flwor::more_bindings-loop-preserved t c =
    let text = c.args.source.now in
    let n = c.args.levels in
    let b = c.args.binder in
    let next = head (place_in text) n b (bound (place_in text)) in
    gone_step binding_made c.args.bindings.items c.loop.list.items c.binding-list.result.items c.args.reader.now c.loop.reader c.lexeme.new.reader c.binding-list.new.reader (read_in text n (more_bindings (place_in text) n b 63)) (read_in text n (more_bindings (place_in text) n b (63 - c.loop.counter)))
    (read_in text n (next & rule (single n))) (read_in text n (more_bindings (place_in text) n b (63 - (c.loop.counter + 1)))) c.loop.invariant
    (λ v w z h k. bindings_more text n b (63 - c.loop.counter) (63 - (c.loop.counter + 1)) _ v w c.looks_at.result c.loop.reader c.looks_at.new.self c.lexeme.new.reader c.binding-list.new.reader z (omega (arith, c.loop-test.true)) c.if-not-looks_at.false c.looks_at.ensures (c.lexeme.ensures text n) h k)
    (c.binding-list.ensures next c.lexeme.new.reader (c.next_head-head.ensures n))

pub flwor::more_bindings-returns : goal.flwor::more_bindings-returns
flwor::more_bindings-returns t c =
    let text = c.args.source.now in
    let n = c.args.levels in
    gone_end binding_made c.args.bindings.items c.loop.list.items c.args.reader.now c.loop.reader c.last_binding.new.reader (read_in text n (more_bindings (place_in text) n c.args.binder 63)) (read_in text n (more_bindings (place_in text) n c.args.binder (63 - c.loop.counter))) c.loop.invariant
    (subst (λ k. Ran nothing c.loop.reader c.last_binding.new.reader (read_in text n (more_bindings (place_in text) n c.args.binder k))) (omega (arith, c.loop-test.false)) (c.last_binding.ensures text n c.args.binder))

pub flwor::binding-returns-in_default : goal.flwor::binding-returns-in_default
flwor::binding-returns-in_default t c = λ before a h.
    let done = rw c.in_default.is at h in
    inr (refl, done.0, (λ v. binding_stops c.args.source.now c.args.levels before nothing v a c.args.reader.now done.0 (done.1 nothing)))

pub flwor::binding-returns : goal.flwor::binding-returns
flwor::binding-returns t c = λ before a h.
    let got = rw c.in-Some.is at h in
    one_grown binding_made c.args.bindings.items c.with_binding.result.items (record { bound = c.in-Some.bound; value = c.single-value.result }) a c.single-value.new.reader c.with_binding.new.reader (read_in c.args.source.now c.args.levels (before & rule (single c.args.levels)))
    (binding_read c.args.source.now c.args.levels before (head_made c.in-Some.bound) c.single-value.result a c.args.reader.now c.single-value.new.reader got c.single-value.ensures) c.with_binding.ensures

pub singles::begun-returns-in_default : goal.singles::begun-returns-in_default
singles::begun-returns-in_default t c =
    begun_other c.args.source.now c.args.levels (name_made c.args.name) (tree c.ladder.result) c.args.reader.now c.ladder.new.reader (sym c.branching.ensures ∙ c.in_default.is)
    (c.ladder.ensures (path_from (place_in c.args.source.now) c.args.levels (behind_any_name (place_in c.args.source.now) c.args.levels (name_made c.args.name))) c.args.reader.now
    (c.path-path.ensures (behind_any_name (place_in c.args.source.now) c.args.levels (name_made c.args.name)) c.args.reader.now c.named_step-first.ensures))

pub singles::begun-returns-then-looks_at_parenthesis : goal.singles::begun-returns-then-looks_at_parenthesis
singles::begun-returns-then-looks_at_parenthesis t c =
    let same = looked_left c.args.source.now c.args.levels c.looks_at_parenthesis.result c.args.reader.now c.looks_at_parenthesis.new.self (at_tokens (gap_then_open ∷ [])) c.looks_at_parenthesis.ensures in
    begun_branched c.args.source.now c.args.levels c.in-Some.branching (name_made c.args.name) (tree c.branched.result) c.looks_at_parenthesis.result c.args.reader.now c.looks_at_parenthesis.new.self c.branched.new.reader (sym c.branching.ensures ∙ c.in-Some.is) c.if-looks_at_parenthesis.true c.looks_at_parenthesis.ensures
    (c.branched.ensures (name_made c.args.name) (c.requires ∙ ap (λ left. place_in c.args.source.now (left + name_length (name_made c.args.name))) (sym same)))

pub singles::begun-returns : goal.singles::begun-returns
singles::begun-returns t c =
    let same = looked_left c.args.source.now c.args.levels c.looks_at_parenthesis.result c.args.reader.now c.looks_at_parenthesis.new.self (at_tokens (gap_then_open ∷ [])) c.looks_at_parenthesis.ensures in
    let plain = behind_plain_name (place_in c.args.source.now) gap_not_open (name_made c.args.name) in
    begun_plain c.args.source.now c.args.levels c.in-Some.branching (name_made c.args.name) (tree c.ladder-2.result) c.looks_at_parenthesis.result c.args.reader.now c.looks_at_parenthesis.new.self c.ladder-2.new.reader (sym c.branching.ensures ∙ c.in-Some.is) c.if-looks_at_parenthesis.false c.looks_at_parenthesis.ensures
    (c.ladder-2.ensures (path_from (place_in c.args.source.now) c.args.levels plain) c.looks_at_parenthesis.new.self
    (c.path-path-2.ensures plain c.looks_at_parenthesis.new.self
    (ran_keeps c.keep-first.result (named_tree (name_at c.args.place (name_made c.args.name))) c.named-made.result c.looks_at_parenthesis.new.self c.no_parenthesis.new.self c.keep-first.new.reader (read_in c.args.source.now c.args.levels plain)
    (plain_read c.args.source.now c.args.levels gap_not_open (name_made c.args.name) c.args.place c.looks_at_parenthesis.new.self c.no_parenthesis.new.self (c.requires ∙ ap (λ left. place_in c.args.source.now (left + name_length (name_made c.args.name))) (sym same)) c.no_parenthesis.ensures)
    c.named-made.ensures c.keep-first.ensures)))

pub branches::branched-returns-in-If : goal.branches::branched-returns-in-If
branches::branched-returns-in-If t c = λ v e.
    branched_condition c.args.source.now c.args.levels c.args.branching v (tree c.condition.result) c.args.reader.now c.condition.new.reader c.in-If.is (c.condition.ensures v e)

pub branches::branched-returns-in-Typeswitch : goal.branches::branched-returns-in-Typeswitch
branches::branched-returns-in-Typeswitch t c = λ v e.
    branched_typeswitch c.args.source.now c.args.levels c.args.branching v (tree c.typeswitch.result) c.args.reader.now c.typeswitch.new.reader c.in-Typeswitch.is (c.typeswitch.ensures v e)

pub branches::typeswitch-returns : goal.branches::typeswitch-returns
branches::typeswitch-returns t c = λ v e.
    ran_keeps c.keep.result (at c.args.place (typeswitch_form c.expression-operand.result (cases_of c.cases-list.result.items) c.default_head-default.result c.single-otherwise.result)) c.typeswitch-made.result c.args.reader.now c.single-otherwise.new.reader c.keep.new.reader
    (read_in c.args.source.now c.args.levels (typeswitch (place_in c.args.source.now) c.args.levels v))
    (typeswitch_read c.args.source.now c.args.levels v _ c.args.place c.expression-operand.result c.single-otherwise.result c.cases-list.result.items c.default_head-default.result c.args.reader.now c.parenthesis.new.self c.gap.new.self c.expression-operand.new.reader c.lexeme.new.reader c.cases-list.new.reader
    c.default_head-default.new.reader c.single-otherwise.new.reader e c.parenthesis.ensures c.gap.ensures c.expression-operand.ensures (c.lexeme.ensures c.args.source.now c.args.levels) c.cases-list.ensures (c.default_head-default.ensures c.args.levels) c.single-otherwise.ensures)
    c.typeswitch-made.ensures c.keep.ensures

pub branches::cases-returns : goal.branches::cases-returns
branches::cases-returns t c =
    let text = c.args.source.now in
    let n = c.args.levels in
    let item = read_in text n (case (place_in text) n) in
    cases_read text n c.new.result.items c.with_case-begun.result.items c.more_cases.result.items c.args.reader.now c.with_case-begun.new.reader c.more_cases.new.reader c.new.ensures.items
    (one_grown case_made c.new.result.items c.with_case-begun.result.items c.case-first.result c.args.reader.now c.case-first.new.reader c.with_case-begun.new.reader item c.case-first.ensures c.with_case-begun.ensures) c.more_cases.ensures

pub branches::more_cases-loop-init : goal.branches::more_cases-loop-init
branches::more_cases-loop-init t c = gone_start case_made c.args.cases.items c.args.reader.now _ _ (λ w z h. h)

pub branches::more_cases-returns-then-not-looks_at : goal.branches::more_cases-returns-then-not-looks_at
branches::more_cases-returns-then-not-looks_at t c =
    let text = c.args.source.now in
    let n = c.args.levels in
    gone_end case_made c.args.cases.items c.loop.list.items c.args.reader.now c.loop.reader c.looks_at.new.self (read_in text n (more_cases (place_in text) n 63)) (read_in text n (more_cases (place_in text) n (63 - c.loop.counter))) c.loop.invariant
    (cases_none text n (63 - c.loop.counter) (63 - (c.loop.counter + 1)) c.looks_at.result c.loop.reader c.looks_at.new.self (omega (arith, c.loop-test.true)) c.if-not-looks_at.true c.looks_at.ensures)

pub branches::more_cases-loop-preserved : goal.branches::more_cases-loop-preserved
branches::more_cases-loop-preserved t c =
    let text = c.args.source.now in
    let n = c.args.levels in
    let item = read_in text n (case (place_in text) n) in
    gone_step case_made c.args.cases.items c.loop.list.items c.with_case-list.result.items c.args.reader.now c.loop.reader c.looks_at.new.self c.with_case-list.new.reader (read_in text n (more_cases (place_in text) n 63)) (read_in text n (more_cases (place_in text) n (63 - c.loop.counter))) item
    (read_in text n (more_cases (place_in text) n (63 - (c.loop.counter + 1)))) c.loop.invariant
    (λ v w z h k. cases_more text n (63 - c.loop.counter) (63 - (c.loop.counter + 1)) v w c.looks_at.result c.loop.reader c.looks_at.new.self c.with_case-list.new.reader z (omega (arith, c.loop-test.true)) c.if-not-looks_at.false c.looks_at.ensures h k)
    (one_grown case_made c.loop.list.items c.with_case-list.result.items c.case-next.result c.looks_at.new.self c.case-next.new.reader c.with_case-list.new.reader item c.case-next.ensures c.with_case-list.ensures)

pub branches::more_cases-returns : goal.branches::more_cases-returns
branches::more_cases-returns t c =
    let text = c.args.source.now in
    let n = c.args.levels in
    gone_end case_made c.args.cases.items c.loop.list.items c.args.reader.now c.loop.reader c.last_case.new.reader (read_in text n (more_cases (place_in text) n 63)) (read_in text n (more_cases (place_in text) n (63 - c.loop.counter))) c.loop.invariant
    (subst (λ k. Ran nothing c.loop.reader c.last_case.new.reader (read_in text n (more_cases (place_in text) n k))) (omega (arith, c.loop-test.false)) (c.last_case.ensures text n))

pub branches::case-returns : goal.branches::case-returns
branches::case-returns t c = case_read c.args.source.now c.args.levels c.case_head-head.result c.single-body.result c.args.reader.now c.case_head-head.new.reader c.single-body.new.reader (c.case_head-head.ensures c.args.levels) c.single-body.ensures

pub branches::condition-returns : goal.branches::condition-returns
branches::condition-returns t c = λ v e.
    ran_keeps c.keep.result (at c.args.place (conditional c.expression-test.result c.single-chosen.result c.single-otherwise.result)) c.condition-made.result c.args.reader.now c.single-otherwise.new.reader c.keep.new.reader (read_in c.args.source.now c.args.levels (condition (place_in c.args.source.now) c.args.levels v))
    (condition_read c.args.source.now c.args.levels v c.args.place _ _ _ c.expression-test.result c.single-chosen.result c.single-otherwise.result c.args.reader.now c.parenthesis.new.self c.gap.new.self c.expression-test.new.reader c.lexeme.new.reader c.keyword.new.reader c.single-chosen.new.reader c.keyword-2.new.reader c.single-otherwise.new.reader
    e c.parenthesis.ensures c.gap.ensures c.expression-test.ensures (c.lexeme.ensures c.args.source.now c.args.levels) (c.keyword.ensures c.args.source.now c.args.levels) c.single-chosen.ensures (c.keyword-2.ensures c.args.source.now c.args.levels) c.single-otherwise.ensures)
    c.condition-made.ensures c.keep.ensures

pub paths::parenthesised-returns-then-starts_with : goal.paths::parenthesised-returns-then-starts_with
paths::parenthesised-returns-then-starts_with t c =
    nothing_inside c.args.source.now c.args.levels c.place-place.result _ _ c.starts_with.result c.args.reader.now c.lexeme.new.reader c.starts_with.new.self c.lexeme-then-starts_with.new.reader (c.place-place.ensures ∙ ap (place_in c.args.source.now) c.left.ensures) (c.lexeme.ensures c.args.source.now c.args.levels) c.if-starts_with.true c.starts_with.ensures (c.lexeme-then-starts_with.ensures c.args.source.now c.args.levels)

pub paths::parenthesised-returns : goal.paths::parenthesised-returns
paths::parenthesised-returns t c =
    ran_keeps c.keep.result (at c.place-place.result (parenthesised c.expression-inner.result)) c.parenthesised-made.result c.args.reader.now c.lexeme-2.new.reader c.keep.new.reader (read_in c.args.source.now c.args.levels (parenthesised_step (place_in c.args.source.now) c.args.levels))
    (inner_read c.args.source.now c.args.levels c.place-place.result _ _ c.expression-inner.result c.starts_with.result c.args.reader.now c.lexeme.new.reader c.starts_with.new.self c.expression-inner.new.reader c.lexeme-2.new.reader (c.place-place.ensures ∙ ap (place_in c.args.source.now) c.left.ensures) (c.lexeme.ensures c.args.source.now c.args.levels) c.if-starts_with.false c.starts_with.ensures c.expression-inner.ensures (c.lexeme-2.ensures c.args.source.now c.args.levels))
    c.parenthesised-made.ensures c.keep.ensures

pub operators::signed_path-returns : goal.operators::signed_path-returns
operators::signed_path-returns t c =
    signed_read c.args.source.now c.args.levels c.more_signs-signs.ensures.others c.path-path.result c.with_signs.result c.args.reader.now c.more_signs-signs.new.reader c.path-path.new.reader c.with_signs.new.reader (c.more_signs-signs.ensures.holds c.args.levels)
    (c.path-path.ensures (step (place_in c.args.source.now) c.args.levels) c.more_signs-signs.new.reader c.step-first.ensures)
    (subst (λ xs. Makes c.with_signs.result (wrapped xs c.path-path.result) c.path-path.new.reader c.with_signs.new.reader) (c.more_signs-signs.ensures.is ∙ ap (λ xs. xs ++ c.more_signs-signs.ensures.others) c.new.ensures.items) c.with_signs.ensures)

pub operators::other_operand-returns-then-looks_at : goal.operators::other_operand-returns-then-looks_at
operators::other_operand-returns-then-looks_at t c =
    operand_signed c.args.source.now c.args.levels c.more_signs-signs.ensures.others c.operator-word.result.0 c.operator-word.result.1 c.path-path.result c.with_signs-operand.result c.keep.result c.signed-made.result c.looks_at.result
    c.args.reader.now c.looks_at.new.self c.operator-word.new.reader c.more_signs-signs.new.reader c.path-path.new.reader c.with_signs-operand.new.reader c.keep.new.reader c.if-looks_at.true c.looks_at.ensures (c.operator-word.ensures c.args.levels) (c.more_signs-signs.ensures.holds c.args.levels)
    (c.path-path.ensures (step (place_in c.args.source.now) c.args.levels) c.more_signs-signs.new.reader c.step-first.ensures)
    (subst (λ xs. Makes c.with_signs-operand.result (wrapped xs c.path-path.result) c.path-path.new.reader c.with_signs-operand.new.reader) (c.more_signs-signs.ensures.is ∙ ap (λ xs. xs ++ c.more_signs-signs.ensures.others) c.new.ensures.items) c.with_signs-operand.ensures)
    c.signed-made.ensures c.keep.ensures

pub operators::other_operand-returns-else-looks_at : goal.operators::other_operand-returns-else-looks_at
operators::other_operand-returns-else-looks_at t c =
    operand_other c.args.source.now c.args.levels c.path.result c.looks_at.result c.args.reader.now c.looks_at.new.self c.path.new.reader c.if-looks_at.false c.looks_at.ensures
    (c.path.ensures (other_step (place_in c.args.source.now) c.args.levels) c.looks_at.new.self c.other_step-first.ensures)

pub paths::named_step-returns-in_default : goal.paths::named_step-returns-in_default
paths::named_step-returns-in_default t c =
    let v = name_made c.args.name in
    any_name_constructed c.args.source.now c.args.levels v (tree c.node_step.result) c.args.reader.now c.node_step.new.reader
    (c.node_step.ensures (token gap & constructed (place_in c.args.source.now) c.args.levels v) c.args.reader.now c.requires (gap_passes c.args.source.now c.args.levels v c.args.reader.now c.gap.new.self c.gap.ensures))

pub paths::named_step-returns-then-not-starts_with : goal.paths::named_step-returns-then-not-starts_with
paths::named_step-returns-then-not-starts_with t c =
    let v = name_made c.args.name in
    let whole = token gap & constructed (place_in c.args.source.now) c.args.levels v in
    any_name_constructed c.args.source.now c.args.levels v (tree c.after_name.result) c.args.reader.now c.after_name.new.reader
    (c.after_name.ensures whole c.args.reader.now c.requires
    (bare_passes c.args.source.now c.args.levels v whole c.gap.new.self c.args.reader.now (gap_passes c.args.source.now c.args.levels v c.args.reader.now c.gap.new.self c.gap.ensures) c.in-Some.word c.starts_with.result c.starts_with.new.self (sym c.computed.ensures ∙ c.in-Some.is) c.if-not-starts_with.true c.starts_with.ensures))

pub paths::named_step-returns : goal.paths::named_step-returns
paths::named_step-returns t c =
    let v = name_made c.args.name in
    let whole = token gap & constructed (place_in c.args.source.now) c.args.levels v in
    any_name_constructed c.args.source.now c.args.levels v (tree c.computed_constructor.result) c.args.reader.now c.computed_constructor.new.reader
    (c.computed_constructor.ensures c.args.name whole c.args.reader.now c.requires
    (computed_passes c.args.source.now c.args.levels v whole c.gap.new.self c.args.reader.now (gap_passes c.args.source.now c.args.levels v c.args.reader.now c.gap.new.self c.gap.ensures) c.in-Some.word c.starts_with.result c.starts_with.new.self (sym c.computed.ensures ∙ c.in-Some.is) c.if-not-starts_with.false c.starts_with.ensures))

pub paths::node_step-returns-in_default : goal.paths::node_step-returns-in_default
paths::node_step-returns-in_default t c = λ whole a e pass.
    c.plain_step.ensures whole a e (plain_passes c.args.source.now c.args.levels (name_made c.args.name) whole c.args.reader.now a pass c.requires (sym c.named_node.ensures ∙ c.in_default.is))

pub paths::node_step-returns-then-looks_at_constructor : goal.paths::node_step-returns-then-looks_at_constructor
paths::node_step-returns-then-looks_at_constructor t c = λ whole a e pass.
    c.named_constructor.ensures c.args.name whole a e
    (named_passes c.args.source.now c.args.levels (name_made c.args.name) whole c.args.reader.now a pass c.in-Some.word c.looks_at_constructor.result c.looks_at_constructor.new.self c.requires (sym c.named_node.ensures ∙ c.in-Some.is) c.if-looks_at_constructor.true c.looks_at_constructor.ensures)

pub paths::node_step-returns : goal.paths::node_step-returns
paths::node_step-returns t c = λ whole a e pass.
    c.plain_step-2.ensures whole a e
    (unnamed_passes c.args.source.now c.args.levels (name_made c.args.name) whole c.args.reader.now a pass c.in-Some.word c.looks_at_constructor.result c.looks_at_constructor.new.self c.no_constructor.new.self c.requires (sym c.named_node.ensures ∙ c.in-Some.is) c.if-looks_at_constructor.false c.looks_at_constructor.ensures c.no_constructor.ensures)

pub paths::plain_step-returns-in_default : goal.paths::plain_step-returns-in_default
paths::plain_step-returns-in_default t c = λ whole a e pass.
    c.after_name.ensures whole a e (no_axis c.args.source.now c.args.levels (name_made c.args.name) whole c.args.reader.now a pass (sym c.axis_word.ensures ∙ c.in_default.is))

pub paths::plain_step-returns-then-not-looks_at : goal.paths::plain_step-returns-then-not-looks_at
paths::plain_step-returns-then-not-looks_at t c = λ whole a e pass.
    c.after_name-then-not-looks_at.ensures whole a e
    (no_colons c.args.source.now c.args.levels (name_made c.args.name) whole c.args.reader.now a pass c.in-Some.axis c.looks_at.result c.looks_at.new.self (sym c.axis_word.ensures ∙ c.in-Some.is) c.if-not-looks_at.true c.looks_at.ensures)

pub paths::plain_step-returns-in_default-axis_test : goal.paths::plain_step-returns-in_default-axis_test
paths::plain_step-returns-in_default-axis_test t c = λ whole a e pass.
    let done = rw c.in_default-axis_test.is at (c.axis_test.ensures c.args.levels) in
    let v = name_made c.args.name in
    ran_any (step_value v (name_at c.args.place v) (pair nothing nothing)) (tree c.missing.result) a c.axis_test.new.reader (read_in c.args.source.now c.args.levels (step_of (place_in c.args.source.now) v whole)) done.0
    (part_read c.args.source.now c.args.levels v nothing (axis_test (place_in c.args.source.now)) whole c.args.place c.looks_at.new.self a c.axis_test.new.reader e
    (colons c.args.source.now c.args.levels v whole c.args.reader.now a pass c.in-Some.axis c.looks_at.result c.looks_at.new.self (sym c.axis_word.ensures ∙ c.in-Some.is) c.if-not-looks_at.false c.looks_at.ensures) (done.1 nothing))

pub paths::plain_step-returns : goal.paths::plain_step-returns
paths::plain_step-returns t c = λ whole a e pass.
    let axis = sym c.axis_word.ensures ∙ c.in-Some.is in
    let v = name_made c.args.name in
    subst (λ w. Ran w a c.axis_test.new.reader (read_in c.args.source.now c.args.levels (step_of (place_in c.args.source.now) v whole)))
    (ap (λ p. tree (step_tree p (axis_word v) c.in-Some-axis_test.test)) (name_placed c.args.place c.args.name) ∙ ap (λ x. tree (step_tree c.args.place x c.in-Some-axis_test.test)) axis ∙ sym (ap tree c.step.ensures))
    (part_read c.args.source.now c.args.levels v (test_made c.in-Some-axis_test.test) (axis_test (place_in c.args.source.now)) whole c.args.place c.looks_at.new.self a c.axis_test.new.reader e
    (colons c.args.source.now c.args.levels v whole c.args.reader.now a pass c.in-Some.axis c.looks_at.result c.looks_at.new.self axis c.if-not-looks_at.false c.looks_at.ensures) (c.in-Some-axis_test.ensures c.args.levels))

pub computed::computed_constructor-returns : goal.computed::computed_constructor-returns
computed::computed_constructor-returns t c = λ name whole a e pass.
    let f = computed_form c.args.word c.expression-content.result in
    ran_keeps c.keep.result (at c.args.place f) c.computed-made.result a c.lexeme-2.new.reader c.keep.new.reader (read_in c.args.source.now c.args.levels (step_of (place_in c.args.source.now) (name_made name) whole))
    (constructor_read c.args.source.now c.args.levels name f (computed (place_in c.args.source.now) c.args.levels c.args.word) whole c.args.place c.args.reader.now a c.lexeme-2.new.reader e pass
    (computed_read c.args.source.now c.args.levels c.args.word _ _ c.expression-content.result c.args.reader.now c.lexeme.new.reader c.expression-content.new.reader c.lexeme-2.new.reader (c.lexeme.ensures c.args.source.now c.args.levels) c.expression-content.ensures (c.lexeme-2.ensures c.args.source.now c.args.levels)))
    c.computed-made.ensures c.keep.ensures

pub computed::named_constructor-returns-in_default : goal.computed::named_constructor-returns-in_default
computed::named_constructor-returns-in_default t c = λ name whole a e pass.
    let done = rw c.in_default.is at (c.constructor_name.ensures c.args.levels) in
    let v = name_made name in
    let q = name_at c.args.place v in
    ran_any (step_value v q (pair nothing (named_node_value c.args.word (pair (named q) nothing)))) (tree c.missing.result) a c.constructor_name.new.reader (read_in c.args.source.now c.args.levels (step_of (place_in c.args.source.now) v whole)) done.0
    (part_read c.args.source.now c.args.levels v (named_node_value c.args.word (pair (named q) nothing)) (named_node (place_in c.args.source.now) c.args.levels c.args.word) whole c.args.place c.args.reader.now a c.constructor_name.new.reader e pass
    (node_read c.args.source.now c.args.levels c.args.word q nothing c.args.reader.now c.constructor_name.new.reader c.constructor_name.new.reader (done.1 (named q)) (ran_idle nothing c.constructor_name.new.reader (read_in c.args.source.now c.args.levels (braced (place_in c.args.source.now) c.args.levels)) done.0)))

pub computed::named_constructor-returns-then-starts_with : goal.computed::named_constructor-returns-then-starts_with
computed::named_constructor-returns-then-starts_with t c = λ name whole a e pass.
    let f = empty_form c.args.word c.in-Some.name in
    subst (λ x. Ran (tree x) a c.lexeme.new.reader (read_in c.args.source.now c.args.levels (step_of (place_in c.args.source.now) (name_made name) whole))) (sym c.empty_node.ensures)
    (constructor_read c.args.source.now c.args.levels name f (named_node (place_in c.args.source.now) c.args.levels c.args.word) whole c.args.place c.args.reader.now a c.lexeme.new.reader e pass
    (node_read c.args.source.now c.args.levels c.args.word c.in-Some.name _ c.args.reader.now c.constructor_name.new.reader c.lexeme.new.reader (c.in-Some.ensures c.args.levels)
    (braced_nothing c.args.source.now c.args.levels _ c.starts_with.result c.constructor_name.new.reader c.starts_with.new.self c.lexeme.new.reader c.if-starts_with.true c.starts_with.ensures (c.lexeme.ensures c.args.source.now c.args.levels))))

pub computed::named_constructor-returns : goal.computed::named_constructor-returns
computed::named_constructor-returns t c = λ name whole a e pass.
    let f = named_form c.args.word c.in-Some.name c.expression-content.result in
    ran_keeps c.keep.result (at c.args.place f) c.named_node-made.result a c.lexeme-2.new.reader c.keep.new.reader (read_in c.args.source.now c.args.levels (step_of (place_in c.args.source.now) (name_made name) whole))
    (constructor_read c.args.source.now c.args.levels name f (named_node (place_in c.args.source.now) c.args.levels c.args.word) whole c.args.place c.args.reader.now a c.lexeme-2.new.reader e pass
    (node_read c.args.source.now c.args.levels c.args.word c.in-Some.name _ c.args.reader.now c.constructor_name.new.reader c.lexeme-2.new.reader (c.in-Some.ensures c.args.levels)
    (braced_something c.args.source.now c.args.levels _ c.expression-content.result c.starts_with.result c.constructor_name.new.reader c.starts_with.new.self c.expression-content.new.reader c.lexeme-2.new.reader c.if-starts_with.false c.starts_with.ensures c.expression-content.ensures (c.lexeme-2.ensures c.args.source.now c.args.levels))))
    c.named_node-made.ensures c.keep.ensures

pub paths::after_name-returns-in_default : goal.paths::after_name-returns-in_default
paths::after_name-returns-in_default t c = λ whole a e pass.
    let done = rw c.in_default.is at (c.kind_content.ensures c.args.levels) in
    ran_any (step_value (name_made c.args.name) (name_at c.args.place (name_made c.args.name)) (pair nothing nothing)) (tree c.missing.result) a c.kind_content.new.reader (read_in c.args.source.now c.args.levels (step_of (place_in c.args.source.now) (name_made c.args.name) whole)) done.0
    (step_read c.args.source.now c.args.levels (name_made c.args.name) nothing whole c.args.place c.args.reader.now a c.kind_content.new.reader e pass
    (reserved_after c.args.source.now c.args.levels (name_made c.args.name) nothing c.kind_word-kind.result c.args.reader.now c.kind_content.new.reader (sym c.is_reserved.ensures ∙ c.if-is_reserved.true) c.kind_word-kind.ensures (done.1 nothing)))

pub paths::after_name-returns-then-is_reserved : goal.paths::after_name-returns-then-is_reserved
paths::after_name-returns-then-is_reserved t c = λ whole a e pass.
    let q = name_at c.args.place (name_made c.args.name) in
    ran_keeps c.keep.result (step_tree q.place None (test_of c.kind_word-kind.result q c.in-Some.content)) c.tested-made.result a c.kind_content.new.reader c.keep.new.reader (read_in c.args.source.now c.args.levels (step_of (place_in c.args.source.now) (name_made c.args.name) whole))
    (subst (λ v. Ran v a c.kind_content.new.reader (read_in c.args.source.now c.args.levels (step_of (place_in c.args.source.now) (name_made c.args.name) whole))) (kept_value (name_made c.args.name) q c.kind_word-kind.result c.in-Some.content c.kind_word-kind.ensures)
    (step_read c.args.source.now c.args.levels (name_made c.args.name) (maybe_content c.in-Some.content) whole c.args.place c.args.reader.now a c.kind_content.new.reader e pass
    (reserved_after c.args.source.now c.args.levels (name_made c.args.name) (maybe_content c.in-Some.content) c.kind_word-kind.result c.args.reader.now c.kind_content.new.reader (sym c.is_reserved.ensures ∙ c.if-is_reserved.true) c.kind_word-kind.ensures (c.in-Some.ensures c.args.levels))))
    c.tested-made.ensures c.keep.ensures

pub paths::after_name-returns-then-not-starts_with : goal.paths::after_name-returns-then-not-starts_with
paths::after_name-returns-then-not-starts_with t c = λ whole a e pass.
    ran_keeps c.keep-then-not-starts_with.result (named_tree (name_at c.args.place (name_made c.args.name))) c.named-made.result a c.starts_with.new.self c.keep-then-not-starts_with.new.reader (read_in c.args.source.now c.args.levels (step_of (place_in c.args.source.now) (name_made c.args.name) whole))
    (step_read c.args.source.now c.args.levels (name_made c.args.name) nothing whole c.args.place c.args.reader.now a c.starts_with.new.self e pass
    (name_after c.args.source.now c.args.levels (name_made c.args.name) c.starts_with.result c.args.reader.now c.starts_with.new.self (sym c.is_reserved.ensures ∙ c.if-is_reserved.false) c.if-not-starts_with.true c.starts_with.ensures))
    c.named-made.ensures c.keep-then-not-starts_with.ensures

pub paths::after_name-returns : goal.paths::after_name-returns
paths::after_name-returns t c = λ whole a e pass.
    ran_keeps c.keep-2.result (called_tree (name_at c.args.place (name_made c.args.name)) (trees_of c.arguments-arguments.result.items)) c.called-made.result a c.arguments-arguments.new.reader c.keep-2.new.reader (read_in c.args.source.now c.args.levels (step_of (place_in c.args.source.now) (name_made c.args.name) whole))
    (step_read c.args.source.now c.args.levels (name_made c.args.name) (node (Arguments (trees_of c.arguments-arguments.result.items))) whole c.args.place c.args.reader.now a c.arguments-arguments.new.reader e pass
    (call_after c.args.source.now c.args.levels (name_made c.args.name) (node (Arguments (trees_of c.arguments-arguments.result.items))) c.starts_with.result c.args.reader.now c.starts_with.new.self c.arguments-arguments.new.reader (sym c.is_reserved.ensures ∙ c.if-is_reserved.false) c.if-not-starts_with.false c.starts_with.ensures c.arguments-arguments.ensures))
    c.called-made.ensures c.keep-2.ensures

pub operators::member-returns-in-Steps : goal.operators::member-returns-in-Steps
operators::member-returns-in-Steps t c = subst (λ m. Ran (tree c.filtered.result) c.args.reader.now c.filtered.new.reader (read_in c.args.source.now c.args.levels (member_of (place_in c.args.source.now) c.args.levels m))) (sym c.in-Steps.is) (c.filtered.ensures (step (place_in c.args.source.now) c.args.levels) c.args.reader.now c.step-first.ensures)

pub paths::path-returns : goal.paths::path-returns
paths::path-returns t c = λ before a h.
    path_read c.args.source.now c.args.levels before c.args.first c.further.result a c.further.new.reader (c.further.ensures (filtered_step (place_in c.args.source.now) c.args.levels before) a (c.filtered-step.ensures before a h))

pub paths::predicate-returns : goal.paths::predicate-returns
paths::predicate-returns t c =
    predicate_read c.args.source.now c.args.levels _ (tree c.expression-inner.result) _ c.args.reader.now c.lexeme.new.reader c.expression-inner.new.reader c.lexeme-2.new.reader (c.lexeme.ensures c.args.source.now c.args.levels) c.expression-inner.ensures (c.lexeme-2.ensures c.args.source.now c.args.levels)

pub paths::filtered-returns : goal.paths::filtered-returns
paths::filtered-returns t c = λ before a h.
    let read = c.more_predicates-list.ensures in
    ran_keeps c.keep.result (filtered_tree c.args.first c.place-bracket.result c.more_predicates-list.result.items) c.filtered-made.result a c.more_predicates-list.new.reader c.keep.new.reader (read_in c.args.source.now c.args.levels (filtered_step (place_in c.args.source.now) c.args.levels before))
    (subst (λ us. Ran (tree (filtered_tree c.args.first c.place-bracket.result us)) a c.more_predicates-list.new.reader (read_in c.args.source.now c.args.levels (filtered_step (place_in c.args.source.now) c.args.levels before)))
    (sym (read.is ∙ ap (λ us. us ++ read.others) c.new.ensures.items))
    (filtered_read c.args.source.now c.args.levels before c.args.first c.place-bracket.result read.others a c.args.reader.now c.more_predicates-list.new.reader (c.place-bracket.ensures ∙ ap (place_in c.args.source.now) c.left.ensures) h read.holds))
    c.filtered-made.ensures c.keep.ensures

pub paths::more_predicates-returns-then-not-looks_at : goal.paths::more_predicates-returns-then-not-looks_at
paths::more_predicates-returns-then-not-looks_at t c = record {
  others = c.loop.invariant.others;
  is = c.loop.invariant.is;
  holds = c.loop.invariant.holds nothing c.looks_at.new.self
      (predicates_none c.args.source.now c.args.levels (c.args.count - c.loop.counter) c.looks_at.result c.loop.reader c.looks_at.new.self (omega (arith, c.loop-test.true)) c.if-not-looks_at.true c.looks_at.ensures);
}

pub paths::more_predicates-returns-then-is_err : goal.paths::more_predicates-returns-then-is_err
paths::more_predicates-returns-then-is_err t c =
    let done = loses_done c.predicate-next.new.reader c.lose.new.self c.lose.ensures in
    let left = c.args.count - c.loop.counter in
    let next = left - 1 in
    record {
      others = c.loop.invariant.others;
      is = c.push.ensures.items ∙ ap (λ b. if b then (c.loop.list.items ++ c.predicate-next.result ∷ []) else c.loop.list.items) c.if-is_err.ensures.negation ∙ c.loop.invariant.is;
      holds = c.loop.invariant.holds nothing c.lose.new.self
          (ran_any (pair (tree c.predicate-next.result) nothing) nothing c.loop.reader c.lose.new.self (read_in c.args.source.now c.args.levels (more_predicates (place_in c.args.source.now) c.args.levels left)) done
          (predicates_more c.args.source.now c.args.levels left next (tree c.predicate-next.result) nothing c.looks_at.result c.loop.reader c.looks_at.new.self c.predicate-next.new.reader c.lose.new.self
          (omega (arith, c.loop-test.true)) c.if-not-looks_at.false c.looks_at.ensures c.predicate-next.ensures (loses_ran nothing c.predicate-next.new.reader c.lose.new.self (read_in c.args.source.now c.args.levels (more_predicates (place_in c.args.source.now) c.args.levels next)) c.lose.ensures)));
    }

pub paths::more_predicates-loop-preserved : goal.paths::more_predicates-loop-preserved
paths::more_predicates-loop-preserved t c =
    record {
      others = c.loop.invariant.others ++ c.predicate-next.result ∷ [];
      is =
          c.push.ensures.items ∙ ap (λ b. if b then (c.loop.list.items ++ c.predicate-next.result ∷ []) else c.loop.list.items) c.if-is_err.ensures.negation
          ∙ ap (λ xs. xs ++ c.predicate-next.result ∷ []) c.loop.invariant.is ∙ append_assoc c.args.list.items c.loop.invariant.others (c.predicate-next.result ∷ []);
      holds = λ w z h.
          let left = c.args.count - c.loop.counter in
          let next = c.args.count - (c.loop.counter + 1) in
          subst (λ v. Ran v c.args.reader.now z (read_in c.args.source.now c.args.levels (more_predicates (place_in c.args.source.now) c.args.levels c.args.count))) (sym (one_before c.loop.invariant.others c.predicate-next.result w))
          (c.loop.invariant.holds (pair (tree c.predicate-next.result) w) z
          (predicates_more c.args.source.now c.args.levels left next (tree c.predicate-next.result) w c.looks_at.result c.loop.reader c.looks_at.new.self c.predicate-next.new.reader z
          (omega (arith, c.loop-test.true)) c.if-not-looks_at.false c.looks_at.ensures c.predicate-next.ensures h));
    }

pub paths::more_predicates-returns-then-looks_barred : goal.paths::more_predicates-returns-then-looks_barred
paths::more_predicates-returns-then-looks_barred t c = record {
  others = c.loop.invariant.others;
  is = c.loop.invariant.is;
  holds = c.loop.invariant.holds nothing c.barrier.new.self
      (subst (λ k. Ran nothing c.loop.reader c.barrier.new.self (read_in c.args.source.now c.args.levels (more_predicates (place_in c.args.source.now) c.args.levels k))) (omega (arith, c.loop-test.false))
      (predicates_full c.args.source.now c.args.levels c.looks_barred.result c.loop.reader c.looks_barred.new.self c.barrier.new.self c.if-looks_barred.true c.looks_barred.ensures c.barrier.ensures.read));
}

pub paths::more_predicates-returns-else-looks_barred : goal.paths::more_predicates-returns-else-looks_barred
paths::more_predicates-returns-else-looks_barred t c = record {
  others = c.loop.invariant.others;
  is = c.loop.invariant.is;
  holds = c.loop.invariant.holds nothing c.looks_barred.new.self
      (subst (λ k. Ran nothing c.loop.reader c.looks_barred.new.self (read_in c.args.source.now c.args.levels (more_predicates (place_in c.args.source.now) c.args.levels k))) (omega (arith, c.loop-test.false))
      (predicates_end c.args.source.now c.args.levels c.looks_barred.result c.loop.reader c.looks_barred.new.self c.if-looks_barred.false c.looks_barred.ensures));
}

pub paths::arguments-returns : goal.paths::arguments-returns
paths::arguments-returns t c = arguments_read c.args.source.now c.args.levels _ (node (Arguments (trees_of c.arguments_in.result.items))) c.args.reader.now c.lexeme.new.reader c.arguments_in.new.reader (c.lexeme.ensures c.args.source.now c.args.levels) c.arguments_in.ensures

pub paths::arguments_in-returns-then-starts_with : goal.paths::arguments_in-returns-then-starts_with
paths::arguments_in-returns-then-starts_with t c =
    arguments_none c.args.source.now c.args.levels _ c.new-list.result.items c.starts_with.result c.args.reader.now c.starts_with.new.self c.lexeme.new.reader c.if-starts_with.true c.starts_with.ensures (c.lexeme.ensures c.args.source.now c.args.levels) c.new-list.ensures.items

pub paths::arguments_in-returns-then-is_err : goal.paths::arguments_in-returns-then-is_err
paths::arguments_in-returns-then-is_err t c =
    arguments_lost c.args.source.now c.args.levels _ c.single-first.result c.starts_with.result c.args.reader.now c.starts_with.new.self c.single-first.new.reader c.lose.new.self c.if-starts_with.false c.starts_with.ensures c.single-first.ensures c.lose.ensures

pub paths::arguments_in-returns : goal.paths::arguments_in-returns
paths::arguments_in-returns t c =
    arguments_some c.args.source.now c.args.levels _ c.single-first.result (c.push.new.self).items c.more_arguments-list.ensures.others c.more_arguments-list.result.items c.starts_with.result c.args.reader.now c.starts_with.new.self c.single-first.new.reader c.more_arguments-list.new.reader c.lexeme-2.new.reader
    c.if-starts_with.false c.starts_with.ensures c.single-first.ensures c.more_arguments-list.ensures.holds (c.lexeme-2.ensures c.args.source.now c.args.levels)
    (c.push.ensures.items ∙ ap (λ b. if b then (c.new-list.result.items ++ c.single-first.result ∷ []) else c.new-list.result.items) c.if-is_err.ensures.negation ∙ ap (λ us. us ++ c.single-first.result ∷ []) c.new-list.ensures.items)
    c.more_arguments-list.ensures.is

pub paths::more_arguments-loop-reader-init : goal.paths::more_arguments-loop-reader-init
paths::more_arguments-loop-reader-init t c = items_begin c.args.source.now c.args.levels c.args.list.items c.args.reader.now c.left-left.result c.left-left.ensures

pub paths::more_arguments-returns-then-is_err : goal.paths::more_arguments-returns-then-is_err
paths::more_arguments-returns-then-is_err t c =
    subst (λ us. Added c.args.list.items us (λ others. Listed others c.args.reader.now c.lose.new.self (read_in c.args.source.now c.args.levels (more_arguments (place_in c.args.source.now) c.args.levels))))
    (sym (c.push.ensures.items ∙ ap (λ b. if b then (c.loop-reader.list.items ++ c.single-next.result ∷ []) else c.loop-reader.list.items) c.if-is_err.ensures.negation))
    (items_lost c.args.source.now c.args.levels c.args.list.items c.loop-reader.list.items c.loop-reader.left _ c.single-next.result c.looks_at.result c.args.reader.now c.loop-reader.reader c.looks_at.new.self c.lexeme.new.reader c.single-next.new.reader c.lose.new.self
    c.loop-reader.invariant c.loop-reader-test.true c.looks_at.ensures (c.lexeme.ensures c.args.source.now c.args.levels) c.single-next.ensures c.lose.ensures)

pub paths::more_arguments-returns-then-left-eq0 : goal.paths::more_arguments-returns-then-left-eq0
paths::more_arguments-returns-then-left-eq0 t c =
    items_full c.args.source.now c.args.levels c.args.list.items c.loop-reader.list.items (c.push.new.self).items c.loop-reader.left _ c.single-next.result c.looks_at.result c.args.reader.now c.loop-reader.reader c.looks_at.new.self c.lexeme.new.reader c.single-next.new.reader
    c.loop-reader.invariant c.if-left-eq0.true c.loop-reader-test.true c.looks_at.ensures (c.lexeme.ensures c.args.source.now c.args.levels) c.single-next.ensures
    (c.push.ensures.items ∙ ap (λ b. if b then (c.loop-reader.list.items ++ c.single-next.result ∷ []) else c.loop-reader.list.items) c.if-is_err.ensures.negation)

pub paths::more_arguments-loop-reader-preserved : goal.paths::more_arguments-loop-reader-preserved
paths::more_arguments-loop-reader-preserved t c =
    items_more c.args.source.now c.args.levels c.args.list.items c.loop-reader.list.items (c.push.new.self).items c.loop-reader.left (c.loop-reader.left - 1) _ c.single-next.result c.looks_at.result c.args.reader.now c.loop-reader.reader c.looks_at.new.self c.lexeme.new.reader c.single-next.new.reader
    c.loop-reader.invariant (omega (arith, c.if-left-eq0.false)) c.loop-reader-test.true c.looks_at.ensures (c.lexeme.ensures c.args.source.now c.args.levels) c.single-next.ensures
    (c.push.ensures.items ∙ ap (λ b. if b then (c.loop-reader.list.items ++ c.single-next.result ∷ []) else c.loop-reader.list.items) c.if-is_err.ensures.negation)

pub paths::more_arguments-returns : goal.paths::more_arguments-returns
paths::more_arguments-returns t c =
    items_end c.args.source.now c.args.levels c.args.list.items c.loop-reader.list.items c.loop-reader.left c.looks_at.result c.args.reader.now c.loop-reader.reader c.looks_at.new.self c.loop-reader.invariant c.loop-reader-test.false c.looks_at.ensures

pub direct::direct_step-returns : goal.direct::direct_step-returns
direct::direct_step-returns t c = direct_read c.args.source.now c.args.levels c.element-element.result c.args.reader.now c.element-element.new.reader c.gap.new.self c.element-element.ensures c.gap.ensures

pub direct::element-returns-in_default : goal.direct::element-returns-in_default
direct::element-returns-in_default t c =
    let done = rw c.in_default.is at c.name.ensures.read in
    element_stops c.args.source.now c.args.levels (node (Found c.word.result)) (tree c.missing.result) c.args.reader.now c.word.new.self c.name.new.self c.word.ensures done

pub direct::element-returns : goal.direct::element-returns
direct::element-returns t c =
    ran_keeps c.keep.result (at c.place-place.result (direct_form (name_at c.place-name_place.result (name_made c.in-Some.name)) (attributes_of c.attributes-attributes.result.items) (parts_of c.content_if_any-content.result.items))) c.direct-made.result
    c.args.reader.now c.content_if_any-content.new.reader c.keep.new.reader (read_in c.args.source.now c.args.levels (element_at (place_in c.args.source.now) c.args.levels))
    (element_read c.args.source.now c.args.levels c.place-place.result c.place-name_place.result c.left-left.result (node (Found c.word.result)) (name_made c.in-Some.name) c.attributes-attributes.result.items c.content_if_any-content.result.items
    c.args.reader.now c.word.new.self c.name.new.self c.attributes-attributes.new.reader c.content_if_any-content.new.reader c.left-left.ensures c.place-place.ensures (c.place-name_place.ensures ∙ ap (place_in c.args.source.now) c.saturating_sub.ensures)
    c.word.ensures c.in-Some.ensures.read c.attributes-attributes.ensures c.content_if_any-content.ensures)
    c.direct-made.ensures c.keep.ensures

pub direct::attributes-loop-reader-init : goal.direct::attributes-loop-reader-init
direct::attributes-loop-reader-init t c =
    subst (λ us. Begun c.args.source.now c.args.levels (by_character is_ncname_start) (attribute (place_in c.args.source.now) (rule (within c.args.levels))) attribute_made [] us c.left-left.result c.blank.new.self c.blank.new.self) (sym c.new-list.ensures.items)
    (many_begin c.args.source.now c.args.levels (by_character is_ncname_start) (attribute (place_in c.args.source.now) (rule (within c.args.levels))) attribute_made [] c.left-left.result c.blank.new.self c.left-left.ensures)

pub direct::attributes-returns-then-left-eq0 : goal.direct::attributes-returns-then-left-eq0
direct::attributes-returns-then-left-eq0 t c =
    let text = c.args.source.now in
    let n = c.args.levels in
    let item = attribute (place_in text) (rule (within n)) in
    attributes_read text n c.attribute-list.result.items c.args.reader.now c.blank.new.self c.attribute-list.new.reader c.blank.ensures
    (all_listed text n (by_character is_ncname_start) item attribute_made c.attribute-list.result.items c.blank.new.self c.attribute-list.new.reader
    (many_full text n (by_character is_ncname_start) item attribute_made [] c.loop-reader.list.items c.attribute-list.result.items c.loop-reader.left c.starts_name.result c.blank.new.self c.loop-reader.reader c.starts_name.new.self c.attribute-list.new.reader
    c.loop-reader.invariant c.if-left-eq0.true c.loop-reader-test.true c.starts_name.ensures c.attribute-list.ensures))

pub direct::attributes-loop-reader-preserved : goal.direct::attributes-loop-reader-preserved
direct::attributes-loop-reader-preserved t c =
    let text = c.args.source.now in
    let n = c.args.levels in
    many_more text n (by_character is_ncname_start) (attribute (place_in text) (rule (within n))) attribute_made [] c.loop-reader.list.items c.attribute-list.result.items c.loop-reader.left (c.loop-reader.left - 1) c.starts_name.result c.blank.new.self c.loop-reader.reader c.starts_name.new.self c.attribute-list.new.reader
    c.loop-reader.invariant (omega (arith, c.if-left-eq0.false)) c.loop-reader-test.true c.starts_name.ensures c.attribute-list.ensures

pub direct::attributes-returns : goal.direct::attributes-returns
direct::attributes-returns t c =
    let text = c.args.source.now in
    let n = c.args.levels in
    let item = attribute (place_in text) (rule (within n)) in
    attributes_read text n c.loop-reader.list.items c.args.reader.now c.blank.new.self c.starts_name.new.self c.blank.ensures
    (all_listed text n (by_character is_ncname_start) item attribute_made c.loop-reader.list.items c.blank.new.self c.starts_name.new.self
    (many_end text n (by_character is_ncname_start) item attribute_made [] c.loop-reader.list.items c.loop-reader.left c.starts_name.result c.blank.new.self c.loop-reader.reader c.starts_name.new.self c.loop-reader.invariant c.loop-reader-test.false c.starts_name.ensures))

pub direct::attribute-returns-in_default : goal.direct::attribute-returns-in_default
direct::attribute-returns-in_default t c =
    let done = rw c.in_default.is at (c.bare_name.ensures c.args.levels) in
    none_grown attribute_made c.args.list.items _ c.args.reader.now c.bare_name.new.reader (read_in c.args.source.now c.args.levels (attribute (place_in c.args.source.now) (rule (within c.args.levels)))) done.0
    (attribute_stops c.args.source.now c.args.levels nothing nothing c.args.reader.now c.bare_name.new.reader done.0 (done.1 nothing))

pub direct::attribute-returns : goal.direct::attribute-returns
direct::attribute-returns t c =
    one_grown attribute_made c.args.list.items (c.with_item.result).items (record { name = c.in-Some.name; value = c.attribute_value-value.result }) c.args.reader.now c.behind_attribute.new.reader c.with_item.new.reader
    (read_in c.args.source.now c.args.levels (attribute (place_in c.args.source.now) (rule (within c.args.levels))))
    (attribute_read c.args.source.now c.args.levels c.in-Some.name c.attribute_value-value.result.items (node (Found c.word.result)) nothing c.args.reader.now c.bare_name.new.reader c.blank.new.self c.word.new.self c.blank-2.new.self c.attribute_value-value.new.reader c.behind_attribute.new.reader
    (c.in-Some.ensures c.args.levels) c.blank.ensures c.word.ensures c.blank-2.ensures c.attribute_value-value.ensures (c.behind_attribute.ensures c.args.source.now c.args.levels))
    c.with_item.ensures

pub direct::attribute_value-returns-then-starts_with : goal.direct::attribute_value-returns-then-starts_with
direct::attribute_value-returns-then-starts_with t c =
    value_double c.args.source.now c.args.levels (node (ValueIs (attribute_parts_of c.value_in.result.items))) c.starts_with.result c.args.reader.now c.starts_with.new.self c.value_in.new.reader c.if-starts_with.true c.starts_with.ensures c.value_in.ensures

pub direct::attribute_value-returns : goal.direct::attribute_value-returns
direct::attribute_value-returns t c =
    value_single c.args.source.now c.args.levels (node (ValueIs (attribute_parts_of c.value_in-2.result.items))) c.starts_with.result c.args.reader.now c.starts_with.new.self c.value_in-2.new.reader c.if-starts_with.false c.starts_with.ensures c.value_in-2.ensures

pub direct::value_in-returns : goal.direct::value_in-returns
direct::value_in-returns t c =
    value_read c.args.source.now c.args.levels c.args.quote (node (Found c.word.result)) (node (Found c.word-2.result)) c.opening.result c.closing.result c.value_pieces-pieces.result.items c.value_parts.result.items
    c.args.reader.now c.word.new.self c.value_pieces-pieces.new.reader c.word-2.new.self c.value_parts.new.reader c.opening.ensures c.closing.ensures c.word.ensures c.value_pieces-pieces.ensures c.word-2.ensures c.value_parts.ensures

pub direct::value_pieces-loop-quote-init : goal.direct::value_pieces-loop-quote-init
direct::value_pieces-loop-quote-init t c =
    subst (λ us. Begun c.args.source.now c.args.levels (at_tokens (value_pieces_of c.args.quote)) (value_piece (rule (within c.args.levels)) c.args.quote) piece_made [] us c.left-left.result c.args.reader.now c.args.reader.now) (sym c.new-list.ensures.items)
    (many_begin c.args.source.now c.args.levels (at_tokens (value_pieces_of c.args.quote)) (value_piece (rule (within c.args.levels)) c.args.quote) piece_made [] c.left-left.result c.args.reader.now c.left-left.ensures)

pub direct::value_pieces-returns-then-left-eq0 : goal.direct::value_pieces-returns-then-left-eq0
direct::value_pieces-returns-then-left-eq0 t c =
    let text = c.args.source.now in
    let n = c.args.levels in
    let g = at_tokens (value_pieces_of c.args.quote) in
    let item = value_piece (rule (within n)) c.args.quote in
    values_are text n c.args.quote (listed_before piece_made c.with_item-list.result.items no_item) c.args.reader.now c.with_item-list.new.reader
    (all_listed text n g item piece_made c.with_item-list.result.items c.args.reader.now c.with_item-list.new.reader
    (many_full text n g item piece_made [] c.loop-quote.list.items c.with_item-list.result.items c.loop-quote.left c.looks_at_value_piece.result c.args.reader.now c.loop-quote.reader c.looks_at_value_piece.new.self c.with_item-list.new.reader
    c.loop-quote.invariant c.if-left-eq0.true c.loop-quote-test.true c.looks_at_value_piece.ensures
    (one_grown piece_made c.loop-quote.list.items c.with_item-list.result.items c.value_piece-piece.result c.looks_at_value_piece.new.self c.value_piece-piece.new.reader c.with_item-list.new.reader (read_in text n item) c.value_piece-piece.ensures c.with_item-list.ensures)))

pub direct::value_pieces-loop-quote-preserved : goal.direct::value_pieces-loop-quote-preserved
direct::value_pieces-loop-quote-preserved t c =
    let text = c.args.source.now in
    let n = c.args.levels in
    let g = at_tokens (value_pieces_of c.args.quote) in
    let item = value_piece (rule (within n)) c.args.quote in
    many_more text n g item piece_made [] c.loop-quote.list.items c.with_item-list.result.items c.loop-quote.left (c.loop-quote.left - 1) c.looks_at_value_piece.result c.args.reader.now c.loop-quote.reader c.looks_at_value_piece.new.self c.with_item-list.new.reader
    c.loop-quote.invariant (omega (arith, c.if-left-eq0.false)) c.loop-quote-test.true c.looks_at_value_piece.ensures
    (one_grown piece_made c.loop-quote.list.items c.with_item-list.result.items c.value_piece-piece.result c.looks_at_value_piece.new.self c.value_piece-piece.new.reader c.with_item-list.new.reader (read_in text n item) c.value_piece-piece.ensures c.with_item-list.ensures)

pub direct::value_pieces-returns : goal.direct::value_pieces-returns
direct::value_pieces-returns t c =
    let text = c.args.source.now in
    let n = c.args.levels in
    let g = at_tokens (value_pieces_of c.args.quote) in
    let item = value_piece (rule (within n)) c.args.quote in
    values_are text n c.args.quote (listed_before piece_made c.loop-quote.list.items no_item) c.args.reader.now c.looks_at_value_piece.new.self
    (all_listed text n g item piece_made c.loop-quote.list.items c.args.reader.now c.looks_at_value_piece.new.self
    (many_end text n g item piece_made [] c.loop-quote.list.items c.loop-quote.left c.looks_at_value_piece.result c.args.reader.now c.loop-quote.reader c.looks_at_value_piece.new.self c.loop-quote.invariant c.loop-quote-test.false c.looks_at_value_piece.ensures))

pub direct::value_piece-returns-then-starts_with : goal.direct::value_piece-returns-then-starts_with
direct::value_piece-returns-then-starts_with t c =
    value_reference c.args.source.now c.args.levels c.args.quote (piece_made c.reference_piece.result) c.starts_with.result c.args.reader.now c.starts_with.new.self c.reference_piece.new.reader c.if-starts_with.true c.starts_with.ensures (c.reference_piece.ensures c.args.levels)

pub direct::value_piece-returns-then-starts_with-2 : goal.direct::value_piece-returns-then-starts_with-2
direct::value_piece-returns-then-starts_with-2 t c =
    value_doubled c.args.source.now c.args.levels c.args.quote (piece_made c.symbol_piece.result) c.symbol.result c.symbol-then-starts_with-2.result c.doubled.result c.starts_with.result c.starts_with-2.result c.args.reader.now c.starts_with.new.self c.starts_with-2.new.self c.symbol_piece.new.reader
    c.symbol.ensures c.symbol-then-starts_with-2.ensures c.doubled.ensures c.if-starts_with.false c.starts_with.ensures c.if-starts_with-2.true c.starts_with-2.ensures (c.symbol_piece.ensures c.args.levels)

pub direct::value_piece-returns : goal.direct::value_piece-returns
direct::value_piece-returns t c =
    value_plain c.args.source.now c.args.levels c.args.quote (piece_made c.plain_piece.result) c.symbol.result c.starts_with.result c.starts_with-2.result c.args.reader.now c.starts_with.new.self c.starts_with-2.new.self c.plain_piece.new.reader
    c.symbol.ensures c.if-starts_with.false c.starts_with.ensures c.if-starts_with-2.false c.starts_with-2.ensures c.plain_piece.ensures

pub direct::plain_piece-returns-then-starts_with : goal.direct::plain_piece-returns-then-starts_with
direct::plain_piece-returns-then-starts_with t c =
    plain_brace c.args.source.now c.args.levels c.args.run (piece_made c.brace_piece.result) c.starts_with.result c.args.reader.now c.starts_with.new.self c.brace_piece.new.reader c.if-starts_with.true c.starts_with.ensures c.brace_piece.ensures

pub direct::plain_piece-returns-then-starts_with-2 : goal.direct::plain_piece-returns-then-starts_with-2
direct::plain_piece-returns-then-starts_with-2 t c =
    plain_close c.args.source.now c.args.levels c.args.run (piece_made c.symbol_piece.result) c.starts_with.result c.starts_with-2.result c.args.reader.now c.starts_with.new.self c.starts_with-2.new.self c.symbol_piece.new.reader
    c.if-starts_with.false c.starts_with.ensures c.if-starts_with-2.true c.starts_with-2.ensures (c.symbol_piece.ensures c.args.levels)

pub direct::plain_piece-returns : goal.direct::plain_piece-returns
direct::plain_piece-returns t c =
    plain_text c.args.source.now c.args.levels c.args.run (piece_made c.text_piece.result) c.starts_with.result c.starts_with-2.result c.args.reader.now c.starts_with.new.self c.starts_with-2.new.self c.text_piece.new.reader
    c.if-starts_with.false c.starts_with.ensures c.if-starts_with-2.false c.starts_with-2.ensures (c.text_piece.ensures c.args.levels)

pub direct::brace_piece-returns-then-looks_at : goal.direct::brace_piece-returns-then-looks_at
direct::brace_piece-returns-then-looks_at t c =
    doubled_brace c.args.source.now c.args.levels (piece_made c.symbol_piece.result) c.looks_at.result c.args.reader.now c.looks_at.new.self c.symbol_piece.new.reader c.if-looks_at.true c.looks_at.ensures (c.symbol_piece.ensures c.args.levels)

pub direct::brace_piece-returns : goal.direct::brace_piece-returns
direct::brace_piece-returns t c =
    enclosed_read c.args.source.now c.args.levels (node (Found c.word.result)) (node (Found c.word-2.result)) c.within-value.result c.looks_at.result c.args.reader.now c.looks_at.new.self c.word.new.self c.gap.new.self c.within-value.new.reader c.word-2.new.self
    c.if-looks_at.false c.looks_at.ensures c.word.ensures c.gap.ensures c.within-value.ensures c.word-2.ensures

pub direct::within-returns-then-levels-eq0 : goal.direct::within-returns-then-levels-eq0
direct::within-returns-then-levels-eq0 t c = within_none c.args.source.now c.args.levels (tree c.missing.result) c.args.reader.now c.barrier.new.self c.if-levels-eq0.true c.barrier.ensures.read c.barrier.ensures.ended

pub direct::within-returns : goal.direct::within-returns
direct::within-returns t c =
    within_read c.args.source.now (c.args.levels - 1) c.args.levels (c.args.levels - 1) (tree c.expression.result) c.args.reader.now c.expression.new.reader (omega (arith, c.if-levels-eq0.false)) refl c.expression.ensures

pub direct::content_if_any-returns-then-starts_with : goal.direct::content_if_any-returns-then-starts_with
direct::content_if_any-returns-then-starts_with t c =
    no_content_read c.args.source.now c.args.levels (name_made c.args.name.now) (node (Found c.word.result)) c.new.result.items c.starts_with.result c.args.reader.now c.starts_with.new.self c.word.new.self c.new.ensures.items c.if-starts_with.true c.starts_with.ensures c.word.ensures

pub direct::content_if_any-returns : goal.direct::content_if_any-returns
direct::content_if_any-returns t c =
    filled_read c.args.source.now c.args.levels (name_made c.args.name.now) (node (Found c.word-2.result)) (c.end_tag.ensures c.args.levels).0 (node (PartsAre (parts_of c.content-parts.result.items))) c.starts_with.result c.args.reader.now c.starts_with.new.self c.word-2.new.self c.content-parts.new.reader c.end_tag.new.reader
    c.if-starts_with.false c.starts_with.ensures c.word-2.ensures c.content-parts.ensures (c.end_tag.ensures c.args.levels).1

pub direct::content-loop-reader-init : goal.direct::content-loop-reader-init
direct::content-loop-reader-init t c = content_begins c.args.source.now c.args.levels c.new-parts.result.items c.new-pieces.result.items c.left-left.result c.args.reader.now c.new-parts.ensures.items c.new-pieces.ensures.items c.left-left.ensures

pub direct::content-returns-then-left-eq0 : goal.direct::content-returns-then-left-eq0
direct::content-returns-then-left-eq0 t c =
    content_full c.args.source.now c.args.levels (c.loop-reader.read.parts.items, c.loop-reader.read.pieces.items) (c.with_piece-read.result.parts.items, c.with_piece-read.result.pieces.items) c.content_piece-piece.result c.all_parts.result.items c.loop-reader.left c.looks_at_content_piece.result
    c.args.reader.now c.loop-reader.reader c.looks_at_content_piece.new.self c.content_piece-piece.new.reader c.with_piece-read.new.reader c.all_parts.new.reader c.loop-reader.invariant c.if-left-eq0.true c.loop-reader-test.true c.looks_at_content_piece.ensures c.content_piece-piece.ensures c.with_piece-read.ensures c.all_parts.ensures

pub direct::content-loop-reader-preserved : goal.direct::content-loop-reader-preserved
direct::content-loop-reader-preserved t c =
    content_more c.args.source.now c.args.levels (c.loop-reader.read.parts.items, c.loop-reader.read.pieces.items) (c.with_piece-read.result.parts.items, c.with_piece-read.result.pieces.items) c.content_piece-piece.result c.loop-reader.left (c.loop-reader.left - 1) c.looks_at_content_piece.result
    c.args.reader.now c.loop-reader.reader c.looks_at_content_piece.new.self c.content_piece-piece.new.reader c.with_piece-read.new.reader c.loop-reader.invariant (omega (arith, c.if-left-eq0.false)) c.loop-reader-test.true c.looks_at_content_piece.ensures c.content_piece-piece.ensures c.with_piece-read.ensures

pub direct::content-returns : goal.direct::content-returns
direct::content-returns t c =
    content_ends c.args.source.now c.args.levels (c.loop-reader.read.parts.items, c.loop-reader.read.pieces.items) c.all_parts-2.result.items c.loop-reader.left c.looks_at_content_piece.result c.args.reader.now c.loop-reader.reader c.looks_at_content_piece.new.self c.all_parts-2.new.reader
    c.loop-reader.invariant c.loop-reader-test.false c.looks_at_content_piece.ensures c.all_parts-2.ensures

pub direct::content_piece-returns-then-starts_with : goal.direct::content_piece-returns-then-starts_with
direct::content_piece-returns-then-starts_with t c =
    content_reference c.args.source.now c.args.levels (piece_made c.reference_piece.result) c.starts_with.result c.args.reader.now c.starts_with.new.self c.reference_piece.new.reader c.if-starts_with.true c.starts_with.ensures (c.reference_piece.ensures c.args.levels)

pub direct::content_piece-returns-then-not-starts_with : goal.direct::content_piece-returns-then-not-starts_with
direct::content_piece-returns-then-not-starts_with t c =
    content_plain c.args.source.now c.args.levels (piece_made c.plain_piece.result) c.starts_with.result c.starts_with-2.result c.args.reader.now c.starts_with.new.self c.starts_with-2.new.self c.plain_piece.new.reader
    c.if-starts_with.false c.starts_with.ensures c.if-not-starts_with.true c.starts_with-2.ensures c.plain_piece.ensures

pub direct::content_piece-returns-then-looks_at : goal.direct::content_piece-returns-then-looks_at
direct::content_piece-returns-then-looks_at t c =
    content_cdata c.args.source.now c.args.levels (piece_made c.cdata.result) c.starts_with.result c.starts_with-2.result c.looks_at.result c.args.reader.now c.starts_with.new.self c.starts_with-2.new.self c.looks_at.new.self c.cdata.new.reader
    c.if-starts_with.false c.starts_with.ensures c.if-not-starts_with.false c.starts_with-2.ensures c.if-looks_at.true c.looks_at.ensures (c.cdata.ensures c.args.levels)

pub direct::content_piece-returns : goal.direct::content_piece-returns
direct::content_piece-returns t c =
    content_element c.args.source.now c.args.levels c.nested-element.result c.starts_with.result c.starts_with-2.result c.looks_at.result c.args.reader.now c.starts_with.new.self c.starts_with-2.new.self c.looks_at.new.self c.nested-element.new.reader
    c.if-starts_with.false c.starts_with.ensures c.if-not-starts_with.false c.starts_with-2.ensures c.if-looks_at.false c.looks_at.ensures c.nested-element.ensures

pub direct::nested-returns-then-levels-lt2 : goal.direct::nested-returns-then-levels-lt2
direct::nested-returns-then-levels-lt2 t c = nested_none c.args.source.now c.args.levels (tree c.missing.result) c.args.reader.now c.no_element.new.self c.if-levels-lt2.true c.no_element.ensures.read c.no_element.ensures.ended

pub direct::nested-returns : goal.direct::nested-returns
direct::nested-returns t c = nested_read c.args.source.now c.args.levels (c.args.levels - 1) (tree c.element.result) c.args.reader.now c.element.new.reader c.if-levels-lt2.false refl c.element.ensures
