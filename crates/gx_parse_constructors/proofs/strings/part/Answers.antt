use Rattle.gx_parse_constructors.proofs.StringsPhrases.{reference_read, doubled_read, run_read}
use Rattle.gx_parse_constructors.proofs.strings.part.Goals as goal

pub returns-then-starts_with : goal.returns-then-starts_with
returns-then-starts_with c =
    reference_read c.args.quote c.reference-character.result c.args.text.now c.push.new.text c.starts_with.result c.args.reader.now c.starts_with.new.self c.reference-character.new.self c.push.new.reader
    c.if-starts_with.true c.starts_with.ensures c.reference-character.ensures c.push.ensures

pub returns-then-starts_with-2 : goal.returns-then-starts_with-2
returns-then-starts_with-2 c =
    doubled_read c.args.quote c.symbol.result c.symbol-then-starts_with-2.result c.doubled.result c.word.result c.args.text.now c.push-then-starts_with-2.new.text c.starts_with.result c.starts_with-2.result
    c.args.reader.now c.starts_with.new.self c.starts_with-2.new.self c.word.new.self c.push-then-starts_with-2.new.reader
    c.symbol.ensures c.symbol-then-starts_with-2.ensures c.doubled.ensures c.if-starts_with.false c.starts_with.ensures c.if-starts_with-2.true c.starts_with-2.ensures c.word.ensures c.push-then-starts_with-2.ensures

pub returns : goal.returns
returns c =
    run_read c.args.quote c.symbol.result c.args.text.now c.text.new.builder c.starts_with.result c.starts_with-2.result c.args.reader.now c.starts_with.new.self c.starts_with-2.new.self c.text.new.self
    c.symbol.ensures c.if-starts_with.false c.starts_with.ensures c.if-starts_with-2.false c.starts_with-2.ensures c.text.ensures
