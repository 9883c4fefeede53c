use Rattle.gx_grammar.specs.Value.{nothing}
use Rattle.gx_parse_grammar.specs.Grammar.{place_in}
use Rattle.gx_parse_tokens.specs.Reading.{read_in}
use Rattle.gx_parse_grammar.specs.Types.{content_made, declared_content, named}
use Rattle.gx_parse_types.proofs.TypesPhrases.{schema_content}
use Rattle.gx_parse_types.proofs.types.declared_content.Goals as goal
use Rattle.gx_parse_parts.proofs.Phrases.{gave_none}

pub returns-in_default : goal.returns-in_default
returns-in_default c = λ n.
    let done = rw c.in_default.is at (c.declared.ensures n) in
    gave_none content_made _ c.args.reader.now c.declared.new.reader (read_in c.args.source.now n (declared_content (place_in c.args.source.now))) done.0 (schema_content c.args.source.now n nothing c.args.reader.now c.declared.new.reader (done.1 nothing))

pub returns : goal.returns
returns c = λ n. schema_content c.args.source.now n (named c.in-Some.name) c.args.reader.now c.declared.new.reader (c.in-Some.ensures n)
