use Rattle.gx_parse_constructors.proofs.DirectPhrases.{reference_read}
use Rattle.gx_parse_constructors.proofs.pieces.reference_piece.Goals as goal

pub returns : goal.returns
returns c = λ n.
    let pushed = rw c.new-text.ensures at c.push.ensures in
    reference_read c.args.source.now n c.reference-character.result c.push.new.text c.args.reader.now c.reference-character.new.self c.push.new.reader c.reference-character.ensures pushed
