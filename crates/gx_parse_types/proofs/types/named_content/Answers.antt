use Rattle.gx_grammar.specs.Value.{nothing}
use Rattle.gx_parse_grammar.specs.Grammar.{place_in}
use Rattle.gx_parse_tokens.specs.Reading.{read_in}
use Rattle.gx_parse_grammar.specs.Types.{content_made, named_content, tested_made}
use Rattle.gx_parse_types.proofs.TypesPhrases.{named_read}
use Rattle.gx_parse_types.proofs.types.named_content.Goals as goal
use Rattle.gx_parse_parts.proofs.Phrases.{gave_none}

pub returns-in_default : goal.returns-in_default
returns-in_default c = λ n.
    let done = rw c.in_default.is at (c.tested.ensures n) in
    gave_none content_made _ c.args.reader.now c.tested.new.reader (read_in c.args.source.now n (named_content (place_in c.args.source.now))) done.0 (named_read c.args.source.now n nothing c.args.reader.now c.tested.new.reader (done.1 nothing))

pub returns : goal.returns
returns c = λ n. named_read c.args.source.now n (tested_made c.in-Some.tested) c.args.reader.now c.tested.new.reader (c.in-Some.ensures n)
