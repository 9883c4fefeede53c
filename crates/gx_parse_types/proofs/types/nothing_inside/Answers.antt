use Rattle.gx_parse_types.proofs.TypesPhrases.{inside_read}
use Rattle.gx_parse_types.proofs.types.nothing_inside.Goals as goal

pub returns : goal.returns
returns c = λ n. inside_read c.args.source.now n _ _ c.args.reader.now c.lexeme.new.reader c.lexeme-2.new.reader (c.lexeme.ensures c.args.source.now n) (c.lexeme-2.ensures c.args.source.now n)
