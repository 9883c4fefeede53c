use Rattle.gx_grammar.specs.Value.{node}
use Rattle.gx_parse_grammar.specs.Nodes.{Found}
use Rattle.gx_parse_constructors.proofs.DirectPhrases.{symbol_read}
use Rattle.gx_parse_constructors.proofs.pieces.symbol_piece.Goals as goal

pub returns : goal.returns
returns c = λ n.
    let pushed = rw c.new-text.ensures at c.push.ensures in
    symbol_read c.args.source.now n c.args.word (node (Found c.word.result)) c.args.symbol c.push.new.text c.args.reader.now c.word.new.self c.push.new.reader c.word.ensures pushed
