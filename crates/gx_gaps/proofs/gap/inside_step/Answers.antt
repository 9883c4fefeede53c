use Rattle.std.proofs.Common.{◌+◌, ◌-◌, refl, sym, ◌∙◌}
use Rattle.gx_gaps.proofs.GapSteps.{comment_in_comment, comment_closes, within_comment}
use Rattle.gx_gaps.proofs.gap.inside_step.Goals as goal

pub returns-then-begins_comment-clause-on : goal.returns-then-begins_comment-clause-on
returns-then-begins_comment-clause-on c =
    comment_in_comment c.in-Some.c c.in-Some-first.e c.args.depth (c.args.depth + 1) c.args.rest.now c.in-Some.tail.now c.in-Some-first.behind.now
    c.requires.open refl (sym c.begins_comment.ensures ∙ c.if-begins_comment.true) c.in-Some.ensures.some c.in-Some-first.ensures.some

pub returns-then-ends_comment-clause-on : goal.returns-then-ends_comment-clause-on
returns-then-ends_comment-clause-on c =
    comment_closes c.in-Some.c c.in-Some-first.e c.args.depth (c.args.depth - 1) c.args.rest.now c.in-Some.tail.now c.in-Some-first.behind.now
    c.requires.open refl (sym c.begins_comment.ensures ∙ c.if-begins_comment.false) (sym c.ends_comment.ensures ∙ c.if-ends_comment.true) c.in-Some.ensures.some c.in-Some-first.ensures.some

pub returns-then-is_char-2-clause-on : goal.returns-then-is_char-2-clause-on
returns-then-is_char-2-clause-on c =
    within_comment c.in-Some.c c.in-Some-first.e c.args.depth c.args.rest.now c.in-Some.tail.now c.in-Some-first.behind.now
    c.requires.open (sym c.begins_comment.ensures ∙ c.if-begins_comment.false) (sym c.ends_comment.ensures ∙ c.if-ends_comment.false) (sym c.is_char-2.ensures ∙ c.if-is_char-2.true) c.in-Some.ensures.some c.in-Some-first.ensures.some
