use Rattle.gx_grammar.specs.Value.{nothing}
use Rattle.gx_parse_grammar.specs.Grammar.{place_in}
use Rattle.gx_parse_tokens.specs.Reading.{read_in}
use Rattle.gx_parse_grammar.specs.Types.{maybe_named, named, tested_name}
use Rattle.gx_parse_types.proofs.TypesPhrases.{any_name, one_name}
use Rattle.gx_parse_types.proofs.types.tested_name.Goals as goal
use Rattle.gx_parse_parts.proofs.Phrases.{gave_none}

pub returns-then-starts_with : goal.returns-then-starts_with
returns-then-starts_with c = λ n. any_name c.args.source.now n _ c.starts_with.result c.args.reader.now c.starts_with.new.self c.lexeme.new.reader c.if-starts_with.true c.starts_with.ensures (c.lexeme.ensures c.args.source.now n)

pub returns-in_default : goal.returns-in_default
returns-in_default c = λ n.
    let done = rw c.in_default.is at (c.written_name.ensures n) in
    gave_none maybe_named nothing c.args.reader.now c.written_name.new.reader (read_in c.args.source.now n (tested_name (place_in c.args.source.now))) done.0
    (one_name c.args.source.now n nothing c.starts_with.result c.args.reader.now c.starts_with.new.self c.written_name.new.reader c.if-starts_with.false c.starts_with.ensures (done.1 nothing))

pub returns : goal.returns
returns c = λ n. one_name c.args.source.now n (named c.in-Some.name) c.starts_with.result c.args.reader.now c.starts_with.new.self c.written_name.new.reader c.if-starts_with.false c.starts_with.ensures (c.in-Some.ensures n)
