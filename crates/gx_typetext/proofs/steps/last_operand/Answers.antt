use Rattle.gx_typetext.proofs.StepPhrases.{last_never, last_empty}
use Rattle.gx_typetext.proofs.steps.last_operand.Goals as goal

pub returns-then-starts_with : goal.returns-then-starts_with
returns-then-starts_with c = last_never c.behind.result c.args.depth c.starts_with.result c.args.reader.now c.starts_with.new.self c.word.new.reader c.behind.ensures c.if-starts_with.true c.starts_with.ensures c.word.ensures

pub returns : goal.returns
returns c = last_empty c.behind-2.result c.args.depth c.starts_with.result c.args.reader.now c.starts_with.new.self c.word-2.new.reader c.nothing_inside.new.reader c.behind-2.ensures c.if-starts_with.false c.starts_with.ensures c.word-2.ensures c.nothing_inside.ensures
