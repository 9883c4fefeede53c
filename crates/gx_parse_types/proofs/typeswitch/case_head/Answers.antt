use Rattle.std.proofs.Common.{ap, ◌∙◌}
use Rattle.gx_parse_grammar.specs.Bound.{position_made}
use Rattle.gx_parse_grammar.specs.Grammar.{place_in}
use Rattle.gx_parse_grammar.specs.Types.{type_made}
use Rattle.gx_parse_types.proofs.TypeswitchPhrases.{case_head_read}
use Rattle.gx_parse_types.proofs.typeswitch.case_head.Goals as goal

pub returns : goal.returns
returns c = λ n.
    case_head_read c.args.source.now n c.place-place.result _ (position_made c.variable_of_case-variable.result) (type_made c.type_of_case-kind.result) _ c.args.reader.now c.lexeme.new.reader c.variable_of_case-variable.new.reader c.type_of_case-kind.new.reader c.keyword.new.reader
    (c.place-place.ensures ∙ ap (place_in c.args.source.now) c.left.ensures) (c.lexeme.ensures c.args.source.now n) (c.variable_of_case-variable.ensures n) (c.type_of_case-kind.ensures n) (c.keyword.ensures c.args.source.now n)
