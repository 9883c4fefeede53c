use Rattle.gx_typetext.proofs.Phrases.{lexeme_read}
use Rattle.gx_typetext.specs.Tokens.{symbol}
use Rattle.gx_typetext.proofs.names.lexeme.Goals as goal

pub returns : goal.returns
returns c = λ call. lexeme_read call (symbol c.args.letters.now) c.args.reader.now c.symbol.new.self c.gap.new.self c.symbol.ensures c.gap.ensures
