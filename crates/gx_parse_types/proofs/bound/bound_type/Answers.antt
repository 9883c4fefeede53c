use Rattle.gx_grammar.specs.Value.{nothing}
use Rattle.gx_parse_grammar.specs.Grammar.{place_in}
use Rattle.gx_parse_tokens.specs.Reading.{read_in}
use Rattle.gx_parse_grammar.specs.Types.{type_made}
use Rattle.gx_parse_grammar.specs.Bound.{bound_type, kind_made}
use Rattle.gx_parse_types.proofs.BoundPhrases.{a_type, no_type}
use Rattle.gx_parse_types.proofs.bound.bound_type.Goals as goal
use Rattle.gx_parse_parts.proofs.Phrases.{gave_none}

pub returns-then-not-looks_at : goal.returns-then-not-looks_at
returns-then-not-looks_at c = λ n. no_type c.args.source.now n c.looks_at.result c.args.reader.now c.looks_at.new.self c.if-not-looks_at.true c.looks_at.ensures

pub returns-in_default : goal.returns-in_default
returns-in_default c = λ n.
    let done = rw c.in_default.is at (c.sequence_type.ensures n) in
    gave_none kind_made _ c.args.reader.now c.sequence_type.new.reader (read_in c.args.source.now n (bound_type (place_in c.args.source.now))) done.0
    (a_type c.args.source.now n _ nothing c.looks_at.result c.args.reader.now c.looks_at.new.self c.lexeme.new.reader c.sequence_type.new.reader c.if-not-looks_at.false c.looks_at.ensures (c.lexeme.ensures c.args.source.now n) (done.1 nothing))

pub returns : goal.returns
returns c = λ n. a_type c.args.source.now n _ (type_made c.in-Some.kind) c.looks_at.result c.args.reader.now c.looks_at.new.self c.lexeme.new.reader c.sequence_type.new.reader c.if-not-looks_at.false c.looks_at.ensures (c.lexeme.ensures c.args.source.now n) (c.in-Some.ensures n)
