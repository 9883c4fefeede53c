use Rattle.std.proofs.Common.{ap, ◌∙◌}
use Rattle.gx_ast.specs.SyntaxTree.{at, variable}
use Rattle.gx_grammar.specs.Value.{node, nothing}
use Rattle.gx_grammar.proofs.PublicLaws.{ran_idle}
use Rattle.gx_parse_grammar.specs.Nodes.{Found, name_at, tree}
use Rattle.gx_parse_tokens.specs.Names.{name_made}
use Rattle.gx_parse_grammar.specs.Tokens.{gap}
use Rattle.gx_parse_grammar.specs.Grammar.{place_in, variable_step}
use Rattle.gx_parse_tokens.specs.Reading.{read_in, read_one}
use Rattle.gx_parse_parts.proofs.Chains.{ran_any, ran_keeps}
use Rattle.gx_parse_parts.proofs.Phrases.{variable_read}
use Rattle.gx_parse_parts.proofs.parts.variable.Goals as goal

pub returns-in_default : goal.returns-in_default
returns-in_default c = λ n.
    let done = rw c.in_default.is at c.name.ensures.read in
    ran_any _ (tree c.missing.result) c.args.reader.now c.name.new.self (read_in c.args.source.now n (variable_step (place_in c.args.source.now))) done.0
    (variable_read c.args.source.now n c.place-place.result c.place-name_place.result (node (Found c.lexeme.result)) nothing c.args.reader.now c.lexeme.new.reader c.name.new.self c.name.new.self
    (c.place-place.ensures ∙ ap (place_in c.args.source.now) c.left.ensures) (c.place-name_place.ensures ∙ ap (place_in c.args.source.now) c.left-2.ensures) (c.lexeme.ensures c.args.source.now n) (done.1 nothing) (ran_idle nothing c.name.new.self (read_one gap) done.0))

pub returns : goal.returns
returns c = λ n.
    ran_keeps c.keep.result (at c.place-place.result (variable (name_at c.place-name_place.result (name_made c.in-Some.name)))) c.variable-made.result c.args.reader.now c.gap.new.self c.keep.new.reader (read_in c.args.source.now n (variable_step (place_in c.args.source.now)))
    (variable_read c.args.source.now n c.place-place.result c.place-name_place.result (node (Found c.lexeme.result)) (name_made c.in-Some.name) c.args.reader.now c.lexeme.new.reader c.name.new.self c.gap.new.self
    (c.place-place.ensures ∙ ap (place_in c.args.source.now) c.left.ensures) (c.place-name_place.ensures ∙ ap (place_in c.args.source.now) c.left-2.ensures) (c.lexeme.ensures c.args.source.now n) c.in-Some.ensures.read c.gap.ensures)
    c.variable-made.ensures c.keep.ensures
