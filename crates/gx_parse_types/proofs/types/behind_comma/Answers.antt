use Rattle.gx_grammar.specs.Value.{nothing}
use Rattle.gx_parse_grammar.specs.Grammar.{place_in}
use Rattle.gx_parse_tokens.specs.Reading.{read_in}
use Rattle.gx_parse_grammar.specs.Types.{behind_comma, maybe_named, named}
use Rattle.gx_parse_types.proofs.TypesPhrases.{a_comma, no_comma}
use Rattle.gx_parse_types.proofs.types.behind_comma.Goals as goal
use Rattle.gx_parse_parts.proofs.Phrases.{gave_none}

pub returns-then-not-looks_at : goal.returns-then-not-looks_at
returns-then-not-looks_at c = λ n. no_comma c.args.source.now n c.looks_at.result c.args.reader.now c.looks_at.new.self c.if-not-looks_at.true c.looks_at.ensures

pub returns-in_default : goal.returns-in_default
returns-in_default c = λ n.
    let done = rw c.in_default.is at (c.written_name.ensures n) in
    gave_none maybe_named nothing c.args.reader.now c.written_name.new.reader (read_in c.args.source.now n (behind_comma (place_in c.args.source.now))) done.0
    (a_comma c.args.source.now n _ nothing c.looks_at.result c.args.reader.now c.looks_at.new.self c.lexeme.new.reader c.written_name.new.reader c.if-not-looks_at.false c.looks_at.ensures (c.lexeme.ensures c.args.source.now n) (done.1 nothing))

pub returns : goal.returns
returns c = λ n.
    a_comma c.args.source.now n _ (named c.in-Some.name) c.looks_at.result c.args.reader.now c.looks_at.new.self c.lexeme.new.reader c.written_name.new.reader c.if-not-looks_at.false c.looks_at.ensures (c.lexeme.ensures c.args.source.now n) (c.in-Some.ensures n)
