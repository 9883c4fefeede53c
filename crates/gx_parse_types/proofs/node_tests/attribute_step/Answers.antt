use Rattle.std.proofs.Common.{Some, ap, subst, sym, ◌∙◌}
use Rattle.gx_ast.specs.declared.name.Axis.TheVariants as axis
use Rattle.gx_grammar.specs.Value.{nothing}
use Rattle.gx_grammar.specs.Ran.{Ran}
use Rattle.gx_parse_grammar.specs.Nodes.{tree}
use Rattle.gx_parse_grammar.specs.Grammar.{place_in}
use Rattle.gx_parse_tokens.specs.Reading.{read_in}
use Rattle.gx_parse_grammar.specs.NodeTests.{attribute_step, step_made, test_made}
use Rattle.gx_parse_parts.proofs.Chains.{ran_any}
use Rattle.gx_parse_types.proofs.NodeTestsPhrases.{attribute_read}
use Rattle.gx_parse_types.proofs.node_tests.attribute_step.Goals as goal

pub returns-in_default : goal.returns-in_default
returns-in_default c = λ n.
    let done = rw c.in_default.is at (c.node_test.ensures n) in
    ran_any (step_made c.place-place.result (Some axis.Attribute) nothing) (tree c.missing.result) c.args.reader.now c.node_test.new.reader (read_in c.args.source.now n (attribute_step (place_in c.args.source.now))) done.0
    (attribute_read c.args.source.now n c.place-place.result _ nothing c.args.reader.now c.lexeme.new.reader c.node_test.new.reader (c.place-place.ensures ∙ ap (place_in c.args.source.now) c.left.ensures) (c.lexeme.ensures c.args.source.now n) (done.1 nothing))

pub returns : goal.returns
returns c = λ n.
    subst (λ t. Ran (tree t) c.args.reader.now c.node_test.new.reader (read_in c.args.source.now n (attribute_step (place_in c.args.source.now)))) (sym c.step.ensures)
    (attribute_read c.args.source.now n c.place-place.result _ (test_made c.in-Some.test) c.args.reader.now c.lexeme.new.reader c.node_test.new.reader (c.place-place.ensures ∙ ap (place_in c.args.source.now) c.left.ensures) (c.lexeme.ensures c.args.source.now n) (c.in-Some.ensures n))
