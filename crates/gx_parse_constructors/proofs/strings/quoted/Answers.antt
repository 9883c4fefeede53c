use Rattle.gx_parse_constructors.proofs.StringsPhrases.{quoted_read}
use Rattle.gx_parse_constructors.proofs.strings.quoted.Goals as goal

pub returns : goal.returns
returns c =
    quoted_read c.args.quote c.word.result c.word-2.result c.opening.result c.closing.result c.parts.new.text c.new-text.result c.args.reader.now c.word.new.self c.parts.new.reader c.word-2.new.self
    c.opening.ensures c.closing.ensures c.word.ensures c.new-text.ensures c.parts.ensures c.word-2.ensures
