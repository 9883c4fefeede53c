use Rattle.gx_parse_grammar.specs.declared.word.Word.TheVariants as word
use Rattle.gx_parse_prolog.proofs.PrologPhrases.{ordering_read}
use Rattle.gx_parse_prolog.specs.PrologParts.{gapped}
use Rattle.gx_parse_prolog.proofs.prolog.ordering_setter.Goals as goal

pub returns : goal.returns
returns c = λ n. ordering_read c.args.source.now n (gapped word.Ordered) c.args.reader.now c.symbol.new.reader (c.symbol.ensures c.args.source.now n)
