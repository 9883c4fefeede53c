use Rattle.gx_typetext.proofs.Phrases.{lexeme_read}
use Rattle.gx_typetext.specs.Tokens.{keyword}
use Rattle.gx_typetext.proofs.names.word.Goals as goal

pub returns : goal.returns
returns c = λ call. lexeme_read call (keyword c.args.letters.now) c.args.reader.now c.keyword.new.self c.gap.new.self c.keyword.ensures c.gap.ensures
