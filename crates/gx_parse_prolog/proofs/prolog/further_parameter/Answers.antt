use Rattle.std.proofs.Common.{◌-◌}
use Rattle.gx_grammar.specs.Value.{nothing}
use Rattle.gx_parse_grammar.specs.Grammar.{place_in}
use Rattle.gx_parse_tokens.specs.Reading.{read_in}
use Rattle.gx_parse_prolog.proofs.PrologPhrases.{further_read}
use Rattle.gx_parse_prolog.specs.PrologParts.{further_parameter, parameter_item, parameter_made}
use Rattle.gx_parse_prolog.proofs.prolog.further_parameter.Goals as goal
use Rattle.gx_parse_parts.proofs.Lists.{one_grown, none_grown}

pub returns-in_default : goal.returns-in_default
returns-in_default c = λ n.
    let done = rw c.in_default.is at (c.parameter.ensures n) in
    none_grown parameter_item c.args.parameters.items _ c.args.reader.now c.parameter.new.reader (read_in c.args.source.now n (further_parameter (place_in c.args.source.now))) done.0
    (further_read c.args.source.now n nothing c.args.reader.now c.symbol.new.reader c.parameter.new.reader (c.symbol.ensures c.args.source.now n) (done.1 nothing))

pub returns : goal.returns
returns c = λ n.
    one_grown parameter_item c.args.parameters.items (c.with_item.result).items c.in-Some.next c.args.reader.now c.parameter.new.reader c.with_item.new.reader (read_in c.args.source.now n (further_parameter (place_in c.args.source.now)))
    (further_read c.args.source.now n (parameter_made c.in-Some.next) c.args.reader.now c.symbol.new.reader c.parameter.new.reader (c.symbol.ensures c.args.source.now n) (c.in-Some.ensures n)) c.with_item.ensures
