use Rattle.std.proofs.Common.{◌+◌, arith}
use Rattle.gx_typetext.proofs.StepPhrases.{nested_full, nested_opening, nested_item, not_below, below}
use Rattle.gx_typetext.proofs.steps.operand_step.Goals as goal

pub returns-then-depth-ge40 : goal.returns-then-depth-ge40
returns-then-depth-ge40 c = nested_full c.item_operand.result c.args.depth c.args.room c.args.reader.now c.item_operand.new.reader (not_below c.args.depth c.if-depth-ge40.true) c.item_operand.ensures

pub returns-then-starts_with : goal.returns-then-starts_with
returns-then-starts_with c = nested_opening c.args.depth (c.args.depth + 1) c.args.room c.starts_with.result c.args.reader.now c.starts_with.new.self c.lexeme.new.reader (omega arith) (below c.args.depth c.if-depth-ge40.false) c.if-starts_with.true c.starts_with.ensures c.lexeme.ensures

pub returns : goal.returns
returns c = nested_item c.item_operand-2.result c.args.depth c.args.room c.starts_with.result c.args.reader.now c.starts_with.new.self c.item_operand-2.new.reader (below c.args.depth c.if-depth-ge40.false) c.if-starts_with.false c.starts_with.ensures c.item_operand-2.ensures
