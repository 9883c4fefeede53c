use Rattle.std.proofs.Common.{◌-◌, sym, subst}
use Rattle.gx_grammar.specs.Value.{nothing}
use Rattle.gx_grammar.specs.Ran.{Ran}
use Rattle.gx_parse_grammar.specs.Grammar.{place_in}
use Rattle.gx_parse_tokens.specs.Reading.{read_in}
use Rattle.gx_parse_prolog.proofs.PrologPhrases.{no_parameters, parameters_stop, parameters_read}
use Rattle.gx_parse_grammar.specs.Prolog.{parameters}
use Rattle.gx_parse_prolog.specs.PrologParts.{parameters_made}
use Rattle.gx_parse_parts.specs.Lists.{Grown}
use Rattle.gx_parse_prolog.proofs.prolog.parameters.Goals as goal

pub returns-then-starts_with : goal.returns-then-starts_with
returns-then-starts_with c = λ n.
    subst (λ us. Ran (parameters_made us) c.args.reader.now c.symbol.new.reader (read_in c.args.source.now n (parameters (place_in c.args.source.now)))) (sym c.new-none.ensures.items)
    (no_parameters c.args.source.now n c.starts_with.result c.args.reader.now c.starts_with.new.self c.symbol.new.reader c.if-starts_with.true c.starts_with.ensures (c.symbol.ensures c.args.source.now n))

pub returns-in_default : goal.returns-in_default
returns-in_default c = λ n.
    let done = rw c.in_default.is at (c.parameter.ensures n) in
    parameters_stop c.args.source.now n (parameters_made c.new-none.result.items) c.starts_with.result c.args.reader.now c.starts_with.new.self c.parameter.new.reader c.if-starts_with.false c.starts_with.ensures done.0 (done.1 nothing)

pub returns : goal.returns
returns c = λ n.
    parameters_read c.args.source.now n c.in-Some.first c.with_item-begun.result.items c.more_parameters-list.result.items c.starts_with.result c.args.reader.now c.starts_with.new.self c.parameter.new.reader c.with_item-begun.new.reader c.more_parameters-list.new.reader c.symbol-2.new.reader
    c.if-starts_with.false c.starts_with.ensures (c.in-Some.ensures n) (subst (λ us. Grown us c.in-Some.first c.with_item-begun.result.items c.parameter.new.reader c.with_item-begun.new.reader) c.new-none.ensures.items c.with_item-begun.ensures) (c.more_parameters-list.ensures n) (c.symbol-2.ensures c.args.source.now n)
