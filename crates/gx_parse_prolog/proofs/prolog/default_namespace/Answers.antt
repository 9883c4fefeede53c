use Rattle.std.proofs.Common.{◌-◌}
use Rattle.gx_grammar.specs.Value.{nothing, characters}
use Rattle.gx_parse_tokens.specs.Reading.{read_in}
use Rattle.gx_parse_prolog.proofs.PrologPhrases.{default_namespace_read}
use Rattle.gx_parse_grammar.specs.Prolog.{default_namespace}
use Rattle.gx_parse_prolog.specs.PrologParts.{says_made}
use Rattle.gx_parse_prolog.proofs.prolog.default_namespace.Goals as goal
use Rattle.gx_parse_parts.proofs.Phrases.{gave_none}

pub returns-in_default : goal.returns-in_default
returns-in_default c = λ n.
    let done = rw c.in_default.is at (c.text_literal.ensures n) in
    gave_none says_made _ c.args.reader.now c.text_literal.new.reader (read_in c.args.source.now n default_namespace) done.0
    (default_namespace_read c.args.source.now n nothing c.args.reader.now c.symbol.new.reader c.symbol-2.new.reader c.text_literal.new.reader (c.symbol.ensures c.args.source.now n) (c.symbol-2.ensures c.args.source.now n) (done.1 nothing))

pub returns : goal.returns
returns c = λ n. default_namespace_read c.args.source.now n (characters c.in-Some.uri) c.args.reader.now c.symbol.new.reader c.symbol-2.new.reader c.text_literal.new.reader (c.symbol.ensures c.args.source.now n) (c.symbol-2.ensures c.args.source.now n) (c.in-Some.ensures n)
