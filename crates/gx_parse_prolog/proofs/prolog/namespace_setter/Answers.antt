use Rattle.std.proofs.Common.{◌-◌}
use Rattle.gx_grammar.specs.Value.{nothing, characters}
use Rattle.gx_parse_grammar.specs.Grammar.{place_in}
use Rattle.gx_parse_tokens.specs.Reading.{read_in}
use Rattle.gx_parse_prolog.proofs.PrologPhrases.{namespace_read, still}
use Rattle.gx_parse_grammar.specs.Prolog.{namespace_setter, text_literal}
use Rattle.gx_parse_prolog.specs.PrologParts.{prefix_made, says_made}
use Rattle.gx_parse_prolog.proofs.prolog.namespace_setter.Goals as goal
use Rattle.gx_parse_parts.proofs.Phrases.{gave_none}

pub returns-in_default : goal.returns-in_default
returns-in_default c = λ n.
    let done = rw c.in_default.is at (c.prefix.ensures n) in
    gave_none says_made _ c.args.reader.now c.prefix.new.reader (read_in c.args.source.now n (namespace_setter (place_in c.args.source.now))) done.0
    (namespace_read c.args.source.now n nothing nothing c.args.reader.now c.prefix.new.reader c.prefix.new.reader (done.1 nothing) (still c.args.source.now n text_literal nothing c.prefix.new.reader done.0))

pub returns-in_default-text_literal : goal.returns-in_default-text_literal
returns-in_default-text_literal c = λ n.
    let done = rw c.in_default-text_literal.is at (c.text_literal.ensures n) in
    gave_none says_made _ c.args.reader.now c.text_literal.new.reader (read_in c.args.source.now n (namespace_setter (place_in c.args.source.now))) done.0
    (namespace_read c.args.source.now n (prefix_made c.in-Some.prefix) nothing c.args.reader.now c.prefix.new.reader c.text_literal.new.reader (c.in-Some.ensures n) (done.1 nothing))

pub returns : goal.returns
returns c = λ n. namespace_read c.args.source.now n (prefix_made c.in-Some.prefix) (characters c.in-Some-text_literal.uri) c.args.reader.now c.prefix.new.reader c.text_literal.new.reader (c.in-Some.ensures n) (c.in-Some-text_literal.ensures n)
