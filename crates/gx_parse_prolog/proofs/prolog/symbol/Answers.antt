use Rattle.gx_parse_grammar.specs.declared.word.Word.TheVariants as word
use Rattle.gx_parse_prolog.proofs.PrologPhrases.{symbol_read}
use Rattle.gx_parse_prolog.proofs.prolog.symbol.Goals as goal

pub returns : goal.returns
returns c = λ text n. symbol_read text n c.args.word c.word.result c.args.reader.now c.word.new.self c.gap.new.self c.word.ensures c.gap.ensures
