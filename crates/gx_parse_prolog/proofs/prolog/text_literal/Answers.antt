use Rattle.std.proofs.Common.{◌-◌}
use Rattle.gx_grammar.specs.Value.{characters}
use Rattle.gx_parse_tokens.specs.Reading.{read_in}
use Rattle.gx_parse_prolog.proofs.PrologPhrases.{text_double, text_single}
use Rattle.gx_parse_grammar.specs.Prolog.{text_of, text_literal}
use Rattle.gx_parse_grammar.specs.declared.runs.Quote.TheVariants as quote
use Rattle.gx_parse_prolog.proofs.prolog.text_literal.Goals as goal
use Rattle.gx_parse_parts.proofs.Phrases.{gave_same}

pub returns-then-starts_with : goal.returns-then-starts_with
returns-then-starts_with c = λ n. gave_same characters c.text_of.result c.args.reader.now c.starts_with.new.self c.text_of.new.reader (read_in c.args.source.now n (text_of quote.Double)) (read_in c.args.source.now n text_literal) (text_double c.args.source.now n c.starts_with.result c.args.reader.now c.starts_with.new.self c.text_of.new.reader c.if-starts_with.true c.starts_with.ensures) (c.text_of.ensures n)

pub returns : goal.returns
returns c = λ n. gave_same characters c.text_of-2.result c.args.reader.now c.starts_with.new.self c.text_of-2.new.reader (read_in c.args.source.now n (text_of quote.Single)) (read_in c.args.source.now n text_literal) (text_single c.args.source.now n c.starts_with.result c.args.reader.now c.starts_with.new.self c.text_of-2.new.reader c.if-starts_with.false c.starts_with.ensures) (c.text_of-2.ensures n)
