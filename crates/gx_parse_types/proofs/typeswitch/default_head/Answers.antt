use Rattle.std.proofs.Common.{ap, ◌∙◌}
use Rattle.gx_parse_grammar.specs.Bound.{position_made}
use Rattle.gx_parse_grammar.specs.Grammar.{place_in}
use Rattle.gx_parse_types.proofs.TypeswitchPhrases.{default_head_read}
use Rattle.gx_parse_types.proofs.typeswitch.default_head.Goals as goal

pub returns : goal.returns
returns c = λ n.
    default_head_read c.args.source.now n c.place-place.result _ (position_made c.variable_of_default-variable.result) _ c.args.reader.now c.lexeme.new.reader c.variable_of_default-variable.new.reader c.keyword.new.reader (c.place-place.ensures ∙ ap (place_in c.args.source.now) c.left.ensures)
    (c.lexeme.ensures c.args.source.now n) (c.variable_of_default-variable.ensures n) (c.keyword.ensures c.args.source.now n)
