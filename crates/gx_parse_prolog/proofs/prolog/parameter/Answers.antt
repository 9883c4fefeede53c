use Rattle.std.proofs.Common.{◌-◌}
use Rattle.gx_grammar.specs.Value.{nothing}
use Rattle.gx_parse_grammar.specs.Grammar.{place_in}
use Rattle.gx_parse_tokens.specs.Reading.{read_in}
use Rattle.gx_parse_grammar.specs.Bound.{bound, bound_type, bound_made, kind_made}
use Rattle.gx_parse_prolog.proofs.PrologPhrases.{parameter_read, still}
use Rattle.gx_parse_grammar.specs.Prolog.{parameter}
use Rattle.gx_parse_prolog.specs.PrologParts.{parameter_made}
use Rattle.gx_parse_prolog.proofs.prolog.parameter.Goals as goal
use Rattle.gx_parse_parts.proofs.Phrases.{gave_none}

pub returns-in_default : goal.returns-in_default
returns-in_default c = λ n.
    let done = rw c.in_default.is at (c.bound.ensures n) in
    gave_none parameter_made _ c.args.reader.now c.bound.new.reader (read_in c.args.source.now n (parameter (place_in c.args.source.now))) done.0
    (parameter_read c.args.source.now n nothing nothing c.args.reader.now c.bound.new.reader c.bound.new.reader (done.1 nothing) (still c.args.source.now n (bound_type (place_in c.args.source.now)) nothing c.bound.new.reader done.0))

pub returns : goal.returns
returns c = λ n. parameter_read c.args.source.now n (bound_made c.in-Some.variable) (kind_made c.kind_of-kind.result) c.args.reader.now c.bound.new.reader c.kind_of-kind.new.reader (c.in-Some.ensures n) (c.kind_of-kind.ensures n)
