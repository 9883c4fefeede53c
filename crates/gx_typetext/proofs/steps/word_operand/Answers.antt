use Rattle.std.proofs.Common.{sym, ◌∙◌}
use Rattle.gx_typetext.proofs.StepPhrases.{word_failed, step_bare_none, step_bare_some, step_inside, step_failed}
use Rattle.gx_typetext.proofs.steps.word_operand.Goals as goal

pub returns-in_default : goal.returns-in_default
returns-in_default c = λ call. word_failed call c.args.depth c.args.room c.args.reader.now c.run.new.self (rw c.in_default.is at c.run.ensures)

pub returns-in_default-room_inside : goal.returns-in_default-room_inside
returns-in_default-room_inside c =
    step_bare_none c.behind.result c.bare.result c.name_word-word.result c.in-Some.local c.args.depth c.args.room c.room_bare.result c.args.reader.now c.run.new.self c.gap.new.self
    c.name_word-word.ensures (sym c.room_inside.ensures ∙ c.in_default-room_inside.is) c.bare.ensures c.room_bare.ensures c.behind.ensures c.in-Some.ensures c.gap.ensures

pub returns-then-not-starts_with : goal.returns-then-not-starts_with
returns-then-not-starts_with c =
    step_bare_some c.behind-then-not-starts_with.result c.bare-then-not-starts_with.result c.name_word-word.result c.in-Some.local c.args.depth c.args.room c.room_bare-then-not-starts_with.result c.in-Some-room_inside.inside_room c.starts_with.result c.args.reader.now c.run.new.self c.gap.new.self c.starts_with.new.self
    c.name_word-word.ensures (sym c.in-Some-room_inside.ensures) c.bare-then-not-starts_with.ensures c.room_bare-then-not-starts_with.ensures c.behind-then-not-starts_with.ensures c.in-Some.ensures c.gap.ensures c.if-not-starts_with.true c.starts_with.ensures

pub returns-in_default-content : goal.returns-in_default-content
returns-in_default-content c =
    step_failed c.name_word-word.result c.in-Some.local c.args.depth c.args.room c.in-Some-room_inside.inside_room c.starts_with.result c.args.reader.now c.run.new.self c.gap.new.self c.starts_with.new.self c.content.new.reader
    c.name_word-word.ensures (sym c.in-Some-room_inside.ensures) c.in-Some.ensures c.gap.ensures c.if-not-starts_with.false c.starts_with.ensures (λ call. rw c.in_default-content.is at (c.content.ensures call))

pub returns : goal.returns
returns c =
    step_inside c.behind-2.result c.with_inside.result c.name_word-word.result c.in-Some.local c.in-Some-content.inside c.args.depth c.args.room c.in-Some-room_inside.inside_room c.starts_with.result c.args.reader.now c.run.new.self c.gap.new.self c.starts_with.new.self c.content.new.reader
    c.name_word-word.ensures (sym c.in-Some-room_inside.ensures) c.with_inside.ensures c.behind-2.ensures c.in-Some.ensures c.gap.ensures c.if-not-starts_with.false c.starts_with.ensures c.in-Some-content.ensures
