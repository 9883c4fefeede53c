use Rattle.gx_parse_constructors.proofs.DirectPhrases.{text_read}
use Rattle.gx_parse_constructors.proofs.pieces.text_piece.Goals as goal

pub returns : goal.returns
returns c = λ n.
    let added = rw c.new-text.ensures at c.text.ensures in
    text_read c.args.source.now n c.args.run c.text.new.builder c.args.reader.now c.text.new.self added
