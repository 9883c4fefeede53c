use Rattle.std.proofs.Common.{◌-◌}
use Rattle.gx_grammar.specs.Value.{nothing}
use Rattle.gx_parse_grammar.specs.Grammar.{place_in}
use Rattle.gx_parse_tokens.specs.Reading.{read_in}
use Rattle.gx_parse_prolog.proofs.PrologPhrases.{named_schema_read}
use Rattle.gx_parse_grammar.specs.Prolog.{named_schema}
use Rattle.gx_parse_prolog.specs.PrologParts.{prefix_made, imports_made}
use Rattle.gx_parse_prolog.proofs.prolog.named_schema.Goals as goal
use Rattle.gx_parse_parts.proofs.Phrases.{gave_none}

pub returns-in_default : goal.returns-in_default
returns-in_default c = λ n.
    let done = rw c.in_default.is at (c.prefix.ensures n) in
    gave_none imports_made _ c.args.reader.now c.prefix.new.reader (read_in c.args.source.now n (named_schema (place_in c.args.source.now))) done.0
    (named_schema_read c.args.source.now n nothing c.args.reader.now c.symbol.new.reader c.prefix.new.reader (c.symbol.ensures c.args.source.now n) (done.1 nothing))

pub returns : goal.returns
returns c = λ n. named_schema_read c.args.source.now n (prefix_made c.in-Some.prefix) c.args.reader.now c.symbol.new.reader c.prefix.new.reader (c.symbol.ensures c.args.source.now n) (c.in-Some.ensures n)
