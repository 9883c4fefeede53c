use Rattle.std.proofs.Common.{◌-◌}
use Rattle.gx_grammar.specs.Value.{nothing}
use Rattle.gx_parse_grammar.specs.Grammar.{place_in}
use Rattle.gx_parse_tokens.specs.Reading.{read_in}
use Rattle.gx_parse_grammar.specs.Bound.{bound, bound_type, bound_made, kind_made}
use Rattle.gx_parse_prolog.proofs.PrologPhrases.{variable_read, still}
use Rattle.gx_parse_grammar.specs.Prolog.{initialiser, variable_definer}
use Rattle.gx_parse_prolog.specs.PrologParts.{gives_made, starts_made}
use Rattle.gx_parse.proofs.definitions.variable_definer.Goals as goal
use Rattle.gx_parse_parts.proofs.Phrases.{gave_none}

pub returns-in_default : goal.returns-in_default
returns-in_default c =
    let done = rw c.in_default.is at (c.bound.ensures 40) in
    gave_none gives_made _ c.args.reader.now c.bound.new.reader (read_in c.args.source.now 40 (variable_definer (place_in c.args.source.now))) done.0
    (variable_read c.args.source.now 40 nothing nothing nothing c.args.reader.now c.bound.new.reader c.bound.new.reader c.bound.new.reader (done.1 nothing) (still c.args.source.now 40 (bound_type (place_in c.args.source.now)) nothing c.bound.new.reader done.0) (still c.args.source.now 40 initialiser nothing c.bound.new.reader done.0))

pub returns : goal.returns
returns c =
    variable_read c.args.source.now 40 (bound_made c.in-Some.variable) (kind_made c.kind_of-kind.result) (starts_made c.initialiser-value.result) c.args.reader.now c.bound.new.reader c.kind_of-kind.new.reader c.initialiser-value.new.reader (c.in-Some.ensures 40) (c.kind_of-kind.ensures 40) c.initialiser-value.ensures
