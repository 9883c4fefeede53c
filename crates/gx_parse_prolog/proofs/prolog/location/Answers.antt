use Rattle.std.proofs.Common.{◌-◌}
use Rattle.gx_grammar.specs.Value.{nothing, characters}
use Rattle.gx_parse_tokens.specs.Reading.{read_in}
use Rattle.gx_parse_prolog.proofs.PrologPhrases.{location_read}
use Rattle.gx_parse_prolog.specs.PrologParts.{further_location, location_item}
use Rattle.gx_parse_prolog.proofs.prolog.location.Goals as goal
use Rattle.gx_parse_parts.proofs.Lists.{one_grown, none_grown}

pub returns-in_default : goal.returns-in_default
returns-in_default c = λ n.
    let done = rw c.in_default.is at (c.text_literal.ensures n) in
    none_grown location_item c.args.locations.items _ c.args.reader.now c.text_literal.new.reader (read_in c.args.source.now n further_location) done.0
    (location_read c.args.source.now n nothing c.args.reader.now c.symbol.new.reader c.text_literal.new.reader (c.symbol.ensures c.args.source.now n) (done.1 nothing))

pub returns : goal.returns
returns c = λ n.
    one_grown location_item c.args.locations.items (c.with_item.result).items c.in-Some.text c.args.reader.now c.text_literal.new.reader c.with_item.new.reader (read_in c.args.source.now n further_location)
    (location_read c.args.source.now n (characters c.in-Some.text) c.args.reader.now c.symbol.new.reader c.text_literal.new.reader (c.symbol.ensures c.args.source.now n) (c.in-Some.ensures n)) c.with_item.ensures
