use Rattle.std.proofs.Common.{None, subst, sym}
use Rattle.gx_parse_grammar.specs.Grammar.{place_in}
use Rattle.gx_parse_tokens.specs.Reading.{read_in}
use Rattle.gx_parse_grammar.specs.Types.{bare_tail, content, tail_made}
use Rattle.gx_parse_types.proofs.TypesPhrases.{bare_read}
use Rattle.gx_grammar.specs.Ran.{Ran}
use Rattle.gx_parse_types.proofs.types.bare_tail.Goals as goal

pub returns : goal.returns
returns c = λ n.
    subst (λ i. Ran (tail_made (record { content = None; indicator = i })) c.args.reader.now c.indication-word.new.self (read_in c.args.source.now n (bare_tail (place_in c.args.source.now)))) (sym c.indicator_of.ensures) (bare_read c.args.source.now n c.indication-word.result c.args.reader.now c.indication-word.new.self c.indication-word.ensures)
