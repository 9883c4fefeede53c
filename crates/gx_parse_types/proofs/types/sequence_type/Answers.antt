use Rattle.gx_grammar.specs.Value.{nothing}
use Rattle.gx_parse_tokens.specs.Names.{name_made}
use Rattle.gx_parse_grammar.specs.Grammar.{place_in}
use Rattle.gx_parse_tokens.specs.Reading.{read_in}
use Rattle.gx_parse_grammar.specs.Types.{behind_type, sequence_type, type_made}
use Rattle.gx_parse_types.proofs.TypesPhrases.{idle, sequence_read}
use Rattle.gx_parse_types.proofs.TypesPhrases.{gave_sequence}
use Rattle.gx_parse_types.proofs.types.sequence_type.Goals as goal
use Rattle.gx_parse_parts.proofs.Phrases.{gave_none}

pub returns-in_default : goal.returns-in_default
returns-in_default c = λ n.
    let done = rw c.in_default.is at c.name.ensures.read in
    gave_none type_made nothing c.args.reader.now c.name.new.self (read_in c.args.source.now n (sequence_type (place_in c.args.source.now))) done.0
    (sequence_read c.args.source.now n nothing nothing c.args.reader.now c.name.new.self c.name.new.self (done.1 nothing) (idle c.args.source.now n (behind_type (place_in c.args.source.now) nothing) nothing c.name.new.self done.0))

pub returns : goal.returns
returns c = λ n. gave_sequence c.args.source.now n (name_made c.in-Some.name) c.behind_type.result c.args.reader.now c.name.new.self c.behind_type.new.reader c.in-Some.ensures.read (c.behind_type.ensures n)
