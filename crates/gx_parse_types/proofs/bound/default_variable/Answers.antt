use Rattle.gx_grammar.specs.Value.{nothing}
use Rattle.gx_parse_grammar.specs.Grammar.{place_in}
use Rattle.gx_parse_tokens.specs.Reading.{read_in}
use Rattle.gx_parse_grammar.specs.Bound.{bound_made, default_variable, position_made}
use Rattle.gx_parse_types.proofs.BoundPhrases.{a_default, no_default}
use Rattle.gx_parse_types.proofs.bound.default_variable.Goals as goal
use Rattle.gx_parse_parts.proofs.Phrases.{gave_none}

pub returns-then-not-starts_with : goal.returns-then-not-starts_with
returns-then-not-starts_with c = λ n. no_default c.args.source.now n c.starts_with.result c.args.reader.now c.starts_with.new.self c.if-not-starts_with.true c.starts_with.ensures

pub returns-in_default : goal.returns-in_default
returns-in_default c = λ n.
    let done = rw c.in_default.is at (c.bound.ensures n) in
    gave_none position_made nothing c.args.reader.now c.bound.new.reader (read_in c.args.source.now n (default_variable (place_in c.args.source.now))) done.0
    (a_default c.args.source.now n nothing c.starts_with.result c.args.reader.now c.starts_with.new.self c.bound.new.reader c.if-not-starts_with.false c.starts_with.ensures (done.1 nothing))

pub returns : goal.returns
returns c = λ n. a_default c.args.source.now n (bound_made c.in-Some.variable) c.starts_with.result c.args.reader.now c.starts_with.new.self c.bound.new.reader c.if-not-starts_with.false c.starts_with.ensures (c.in-Some.ensures n)
