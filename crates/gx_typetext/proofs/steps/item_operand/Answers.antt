use Rattle.std.proofs.Common.{◌-◌, arith}
use Rattle.gx_typetext.specs.Grammar.{braced, prefixed}
use Rattle.gx_typetext.specs.Steps.{named_step}
use Rattle.gx_typetext.proofs.StepPhrases.{item_zero, item_braced, item_prefixed, item_word, named_stepped}
use Rattle.gx_typetext.proofs.steps.item_operand.Goals as goal

pub returns-then-room-eq0 : goal.returns-then-room-eq0
returns-then-room-eq0 c = item_zero c.last_operand.result c.args.depth c.args.room c.args.reader.now c.last_operand.new.reader (omega arith) c.last_operand.ensures

pub returns-then-starts_with : goal.returns-then-starts_with
returns-then-starts_with c =
    item_braced (named_step c.braced-name.result c.args.depth (c.args.room - 1)) c.behind_name.result c.args.depth c.args.room (c.args.room - 1) c.starts_with.result c.args.reader.now c.starts_with.new.self c.braced-name.new.reader (omega arith) c.behind_name.ensures c.if-starts_with.true c.starts_with.ensures
    (named_stepped c.braced-name.result braced c.args.depth (c.args.room - 1) c.starts_with.new.self c.braced-name.new.reader c.braced-name.ensures)

pub returns-then-looks_at : goal.returns-then-looks_at
returns-then-looks_at c =
    item_prefixed (named_step c.prefixed-name.result c.args.depth (c.args.room - 1)) c.behind_name-then-looks_at.result c.args.depth c.args.room (c.args.room - 1) c.starts_with.result c.looks_at.result c.args.reader.now c.starts_with.new.self c.looks_at.new.self c.prefixed-name.new.reader (omega arith) c.behind_name-then-looks_at.ensures c.if-starts_with.false c.starts_with.ensures c.if-looks_at.true c.looks_at.ensures
    (named_stepped c.prefixed-name.result prefixed c.args.depth (c.args.room - 1) c.looks_at.new.self c.prefixed-name.new.reader c.prefixed-name.ensures)

pub returns : goal.returns
returns c =
    item_word c.word_operand.result c.args.depth c.args.room (c.args.room - 1) c.starts_with.result c.looks_at.result c.args.reader.now c.starts_with.new.self c.looks_at.new.self c.word_operand.new.reader (omega arith) c.if-starts_with.false c.starts_with.ensures c.if-looks_at.false c.looks_at.ensures c.word_operand.ensures
