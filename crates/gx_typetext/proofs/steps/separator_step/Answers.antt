use Rattle.std.proofs.Common.{◌-◌, arith}
use Rattle.gx_typetext.proofs.StepPhrases.{comma_read, bar_read, no_more, closing_read}
use Rattle.gx_typetext.proofs.steps.separator_step.Goals as goal

pub returns-then-starts_with : goal.returns-then-starts_with
returns-then-starts_with c = comma_read c.before_operand.result c.args.depth c.args.room c.starts_with.result c.args.reader.now c.starts_with.new.self c.lexeme.new.reader c.before_operand.ensures c.if-starts_with.true c.starts_with.ensures c.lexeme.ensures

pub returns-then-starts_with-2 : goal.returns-then-starts_with-2
returns-then-starts_with-2 c = bar_read c.before_operand-then-starts_with-2.result c.args.depth c.args.room c.starts_with.result c.starts_with-2.result c.args.reader.now c.starts_with.new.self c.starts_with-2.new.self c.lexeme-then-starts_with-2.new.reader c.before_operand-then-starts_with-2.ensures c.if-starts_with.false c.starts_with.ensures c.if-starts_with-2.true c.starts_with-2.ensures c.lexeme-then-starts_with-2.ensures

pub returns-then-depth-eq0 : goal.returns-then-depth-eq0
returns-then-depth-eq0 c = no_more c.args.depth c.args.room c.starts_with.result c.starts_with-2.result c.args.reader.now c.starts_with.new.self c.starts_with-2.new.self (omega arith) c.if-starts_with.false c.starts_with.ensures c.if-starts_with-2.false c.starts_with-2.ensures

pub returns : goal.returns
returns c =
    closing_read c.args.depth (c.args.depth - 1) c.args.room c.starts_with.result c.starts_with-2.result c.args.reader.now c.starts_with.new.self c.starts_with-2.new.self c.lexeme-2.new.reader (omega arith) c.if-starts_with.false c.starts_with.ensures c.if-starts_with-2.false c.starts_with-2.ensures c.lexeme-2.ensures
