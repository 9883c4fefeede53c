use Rattle.std.proofs.Common.{◌-◌}
use Rattle.gx_grammar.specs.Value.{nothing, characters}
use Rattle.gx_parse_tokens.specs.Reading.{read_in}
use Rattle.gx_parse_prolog.proofs.PrologPhrases.{no_encoding, encoding_read}
use Rattle.gx_parse_grammar.specs.Prolog.{encoding}
use Rattle.gx_parse_prolog.specs.PrologParts.{encoding_made}
use Rattle.gx_parse_prolog.proofs.prolog.encoding.Goals as goal
use Rattle.gx_parse_parts.proofs.Phrases.{gave_none}

pub returns-then-not-looks_at : goal.returns-then-not-looks_at
returns-then-not-looks_at c = λ n. no_encoding c.args.source.now n c.looks_at.result c.args.reader.now c.looks_at.new.self c.if-not-looks_at.true c.looks_at.ensures

pub returns-in_default : goal.returns-in_default
returns-in_default c = λ n.
    let done = rw c.in_default.is at (c.text_literal.ensures n) in
    gave_none encoding_made _ c.args.reader.now c.text_literal.new.reader (read_in c.args.source.now n encoding) done.0
    (encoding_read c.args.source.now n nothing c.looks_at.result c.args.reader.now c.looks_at.new.self c.symbol.new.reader c.text_literal.new.reader c.if-not-looks_at.false c.looks_at.ensures (c.symbol.ensures c.args.source.now n) (done.1 nothing))

pub returns : goal.returns
returns c = λ n.
    encoding_read c.args.source.now n (characters c.in-Some.name) c.looks_at.result c.args.reader.now c.looks_at.new.self c.symbol.new.reader c.text_literal.new.reader c.if-not-looks_at.false c.looks_at.ensures (c.symbol.ensures c.args.source.now n) (c.in-Some.ensures n)
