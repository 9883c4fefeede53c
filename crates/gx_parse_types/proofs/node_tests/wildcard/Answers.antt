use Rattle.std.proofs.Common.{ap, ◌∙◌}
use Rattle.gx_ast.specs.declared.name.NameTest.TheVariants as name_test
use Rattle.gx_ast.specs.declared.sequence_type.NodeTest.TheVariants as node_test_is
use Rattle.gx_grammar.specs.Value.{nothing, characters}
use Rattle.gx_parse_grammar.specs.Grammar.{place_in}
use Rattle.gx_parse_tokens.specs.Reading.{read_in, read_one}
use Rattle.gx_parse_grammar.specs.Tokens.{gap}
use Rattle.gx_parse_grammar.specs.NodeTests.{test_made, wildcard}
use Rattle.gx_grammar.proofs.PublicLaws.{ran_idle}
use Rattle.gx_parse_types.proofs.NodeTestsPhrases.{any_read, gave_test, local_read}
use Rattle.gx_parse_types.proofs.node_tests.wildcard.Goals as goal
use Rattle.gx_parse_parts.proofs.Phrases.{gave_none}

pub returns-then-not-has_prefix : goal.returns-then-not-has_prefix
returns-then-not-has_prefix c = λ n.
    gave_test c.keep.result (node_test_is.Name (name_test.Any c.place-place.result)) c.by_name-made.result c.args.reader.now c.lexeme.new.reader c.keep.new.reader (read_in c.args.source.now n (wildcard (place_in c.args.source.now)))
    (any_read c.args.source.now n c.place-place.result _ c.looks_at-has_prefix.result c.args.reader.now c.looks_at-has_prefix.new.self c.lexeme.new.reader (c.place-place.ensures ∙ ap (place_in c.args.source.now) c.left.ensures) c.if-not-has_prefix.true c.looks_at-has_prefix.ensures (c.lexeme.ensures c.args.source.now n))
    c.by_name-made.ensures c.keep.ensures

pub returns-in_default : goal.returns-in_default
returns-in_default c = λ n.
    let done = rw c.in_default.is at c.ncname.ensures in
    gave_none test_made _ c.args.reader.now c.ncname.new.self (read_in c.args.source.now n (wildcard (place_in c.args.source.now))) done.0
    (local_read c.args.source.now n c.place-place.result _ nothing c.looks_at-has_prefix.result c.args.reader.now c.looks_at-has_prefix.new.self c.word.new.self c.ncname.new.self c.ncname.new.self (c.place-place.ensures ∙ ap (place_in c.args.source.now) c.left.ensures) c.if-not-has_prefix.false c.looks_at-has_prefix.ensures c.word.ensures (done.1 nothing) (ran_idle nothing c.ncname.new.self (read_one gap) done.0))

pub returns : goal.returns
returns c = λ n.
    gave_test c.keep-2.result (node_test_is.Name (name_test.AnyNamespace c.place-place.result c.in-Some.local)) c.by_name-made-2.result c.args.reader.now c.gap.new.self c.keep-2.new.reader (read_in c.args.source.now n (wildcard (place_in c.args.source.now)))
    (local_read c.args.source.now n c.place-place.result _ (characters c.in-Some.local) c.looks_at-has_prefix.result c.args.reader.now c.looks_at-has_prefix.new.self c.word.new.self c.ncname.new.self c.gap.new.self (c.place-place.ensures ∙ ap (place_in c.args.source.now) c.left.ensures) c.if-not-has_prefix.false c.looks_at-has_prefix.ensures c.word.ensures c.in-Some.ensures c.gap.ensures)
    c.by_name-made-2.ensures c.keep-2.ensures
