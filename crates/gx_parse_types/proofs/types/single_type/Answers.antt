use Rattle.gx_grammar.specs.Value.{nothing, node, pair}
use Rattle.gx_parse_grammar.specs.Grammar.{place_in}
use Rattle.gx_parse_tokens.specs.Reading.{read_in}
use Rattle.gx_parse_grammar.specs.Types.{casting_made, named, single_type}
use Rattle.gx_parse_types.proofs.TypesPhrases.{single_optional, single_plain}
use Rattle.gx_parse_grammar.specs.Nodes.{Found}
use Rattle.gx_parse_types.proofs.TypesPhrases.{single_idle}
use Rattle.gx_parse_types.proofs.types.single_type.Goals as goal
use Rattle.gx_parse_parts.proofs.Phrases.{gave_none}

pub returns-in_default : goal.returns-in_default
returns-in_default c = λ n.
    let done = rw c.in_default.is at (c.written_name.ensures n) in
    gave_none casting_made _ c.args.reader.now c.written_name.new.reader (read_in c.args.source.now n (single_type (place_in c.args.source.now))) done.0
    (single_idle c.args.source.now n c.args.reader.now c.written_name.new.reader done.0 (done.1 nothing))

pub returns-then-not-looks_at : goal.returns-then-not-looks_at
returns-then-not-looks_at c = λ n. single_plain c.args.source.now n (named c.in-Some.name) c.looks_at.result c.args.reader.now c.written_name.new.reader c.looks_at.new.self (c.in-Some.ensures n) c.if-not-looks_at.true c.looks_at.ensures

pub returns : goal.returns
returns c = λ n.
    single_optional c.args.source.now n (named c.in-Some.name) (pair (node (Found c.lexeme.result)) nothing) c.looks_at.result c.args.reader.now c.written_name.new.reader c.looks_at.new.self c.lexeme.new.reader (c.in-Some.ensures n) c.if-not-looks_at.false c.looks_at.ensures (c.lexeme.ensures c.args.source.now n)
