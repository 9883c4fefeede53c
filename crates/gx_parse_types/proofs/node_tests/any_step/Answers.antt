use Rattle.std.proofs.Common.{None, subst, sym}
use Rattle.gx_grammar.specs.Value.{nothing}
use Rattle.gx_grammar.specs.Ran.{Ran}
use Rattle.gx_parse_tokens.specs.Names.{name_made}
use Rattle.gx_parse_grammar.specs.Nodes.{tree}
use Rattle.gx_parse_grammar.specs.Grammar.{place_in}
use Rattle.gx_parse_tokens.specs.Reading.{read_in}
use Rattle.gx_parse_grammar.specs.NodeTests.{any_step, step_made, test_made}
use Rattle.gx_parse_parts.proofs.Chains.{ran_any}
use Rattle.gx_parse_types.proofs.NodeTestsPhrases.{any_step_read}
use Rattle.gx_parse_types.proofs.node_tests.any_step.Goals as goal

pub returns-in_default : goal.returns-in_default
returns-in_default c = λ n.
    let done = rw c.in_default.is at (c.any_test.ensures n) in
    ran_any (step_made c.args.place None nothing) (tree c.missing.result) c.args.reader.now c.any_test.new.reader (read_in c.args.source.now n (any_step (place_in c.args.source.now) (name_made c.args.name))) done.0
    (any_step_read c.args.source.now n (name_made c.args.name) nothing c.args.place c.args.reader.now c.any_test.new.reader c.requires (done.1 nothing))

pub returns : goal.returns
returns c = λ n.
    subst (λ t. Ran (tree t) c.args.reader.now c.any_test.new.reader (read_in c.args.source.now n (any_step (place_in c.args.source.now) (name_made c.args.name)))) (sym c.step.ensures)
    (any_step_read c.args.source.now n (name_made c.args.name) (test_made c.in-Some.test) c.args.place c.args.reader.now c.any_test.new.reader c.requires (c.in-Some.ensures n))
