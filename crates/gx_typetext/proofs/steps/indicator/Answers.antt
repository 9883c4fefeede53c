use Rattle.gx_typetext.proofs.StepPhrases.{question_read, star_read, plus_read, no_mark}
use Rattle.gx_typetext.proofs.steps.indicator.Goals as goal

pub returns-then-starts_with : goal.returns-then-starts_with
returns-then-starts_with c = λ depth room. question_read depth room c.starts_with.result c.args.reader.now c.starts_with.new.self c.lexeme.new.reader c.if-starts_with.true c.starts_with.ensures c.lexeme.ensures

pub returns-then-starts_with-2 : goal.returns-then-starts_with-2
returns-then-starts_with-2 c = λ depth room. star_read depth room c.starts_with.result c.starts_with-2.result c.args.reader.now c.starts_with.new.self c.starts_with-2.new.self c.lexeme-then-starts_with-2.new.reader c.if-starts_with.false c.starts_with.ensures c.if-starts_with-2.true c.starts_with-2.ensures c.lexeme-then-starts_with-2.ensures

pub returns-then-starts_with-3 : goal.returns-then-starts_with-3
returns-then-starts_with-3 c = λ depth room. plus_read depth room c.starts_with.result c.starts_with-2.result c.starts_with-3.result c.args.reader.now c.starts_with.new.self c.starts_with-2.new.self c.starts_with-3.new.self c.lexeme-then-starts_with-3.new.reader c.if-starts_with.false c.starts_with.ensures c.if-starts_with-2.false c.starts_with-2.ensures c.if-starts_with-3.true c.starts_with-3.ensures c.lexeme-then-starts_with-3.ensures

pub returns : goal.returns
returns c = λ depth room. no_mark depth room c.starts_with.result c.starts_with-2.result c.starts_with-3.result c.args.reader.now c.starts_with.new.self c.starts_with-2.new.self c.starts_with-3.new.self c.if-starts_with.false c.starts_with.ensures c.if-starts_with-2.false c.starts_with-2.ensures c.if-starts_with-3.false c.starts_with-3.ensures
