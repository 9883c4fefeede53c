use Rattle.std.proofs.Common.{None, ap, subst, sym, ◌∙◌}
use Rattle.gx_grammar.specs.Value.{nothing}
use Rattle.gx_grammar.specs.Ran.{Ran}
use Rattle.gx_parse_grammar.specs.Nodes.{tree}
use Rattle.gx_parse_grammar.specs.Grammar.{place_in}
use Rattle.gx_parse_tokens.specs.Reading.{read_in}
use Rattle.gx_parse_grammar.specs.NodeTests.{step_made, test_made, wildcard_step}
use Rattle.gx_parse_parts.proofs.Chains.{ran_any}
use Rattle.gx_parse_types.proofs.NodeTestsPhrases.{wildcard_read}
use Rattle.gx_parse_types.proofs.node_tests.wildcard_step.Goals as goal

pub returns-in_default : goal.returns-in_default
returns-in_default c = λ n.
    let done = rw c.in_default.is at (c.wildcard.ensures n) in
    ran_any (step_made c.place-place.result None nothing) (tree c.missing.result) c.args.reader.now c.wildcard.new.reader (read_in c.args.source.now n (wildcard_step (place_in c.args.source.now))) done.0
    (wildcard_read c.args.source.now n c.place-place.result nothing c.args.reader.now c.wildcard.new.reader (c.place-place.ensures ∙ ap (place_in c.args.source.now) c.left.ensures) (done.1 nothing))

pub returns : goal.returns
returns c = λ n.
    subst (λ t. Ran (tree t) c.args.reader.now c.wildcard.new.reader (read_in c.args.source.now n (wildcard_step (place_in c.args.source.now)))) (sym c.step.ensures)
    (wildcard_read c.args.source.now n c.place-place.result (test_made c.in-Some.test) c.args.reader.now c.wildcard.new.reader (c.place-place.ensures ∙ ap (place_in c.args.source.now) c.left.ensures) (c.in-Some.ensures n))
