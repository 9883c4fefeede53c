use Rattle.gx_grammar.specs.Value.{node}
use Rattle.gx_parse_grammar.specs.Nodes.{Found}
use Rattle.gx_parse_constructors.proofs.DirectPhrases.{cdata_read}
use Rattle.gx_parse_constructors.proofs.pieces.cdata.Goals as goal

pub returns : goal.returns
returns c = λ n.
    let added = rw c.new-text.ensures at c.cdata.ensures in
    cdata_read c.args.source.now n (node (Found c.word.result)) (node (Found c.word-2.result)) c.cdata.new.builder c.args.reader.now c.word.new.self c.cdata.new.self c.word-2.new.self c.word.ensures added c.word-2.ensures
