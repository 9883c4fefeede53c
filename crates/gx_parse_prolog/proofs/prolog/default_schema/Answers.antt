use Rattle.std.proofs.Common.{◌-◌}
use Rattle.gx_parse_grammar.specs.declared.word.Word.TheVariants as word
use Rattle.gx_parse_prolog.proofs.PrologPhrases.{default_schema_read}
use Rattle.gx_parse_prolog.specs.PrologParts.{gapped}
use Rattle.gx_parse_prolog.proofs.prolog.default_schema.Goals as goal

pub returns : goal.returns
returns c = λ n. default_schema_read c.args.source.now n (gapped word.Default) (gapped word.Element) (gapped word.Namespace) c.args.reader.now c.symbol.new.reader c.symbol-2.new.reader c.symbol-3.new.reader (c.symbol.ensures c.args.source.now n) (c.symbol-2.ensures c.args.source.now n) (c.symbol-3.ensures c.args.source.now n)
