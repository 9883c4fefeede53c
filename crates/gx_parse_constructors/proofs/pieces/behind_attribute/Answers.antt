use Rattle.gx_parse_constructors.proofs.DirectPhrases.{white_behind, nothing_behind}
use Rattle.gx_parse_constructors.proofs.pieces.behind_attribute.Goals as goal

pub returns-then-looks_at_white : goal.returns-then-looks_at_white
returns-then-looks_at_white c = λ text n. white_behind text n c.looks_at_white.result c.args.reader.now c.looks_at_white.new.self c.white.new.self c.if-looks_at_white.true c.looks_at_white.ensures c.white.ensures

pub returns-else-looks_at_white : goal.returns-else-looks_at_white
returns-else-looks_at_white c = λ text n. nothing_behind text n c.looks_at_white.result c.args.reader.now c.looks_at_white.new.self c.no_attribute.new.self c.if-looks_at_white.false c.looks_at_white.ensures c.no_attribute.ensures
