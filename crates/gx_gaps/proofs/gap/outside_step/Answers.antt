use Rattle.std.proofs.Common.{sym, ◌∙◌}
use Rattle.gx_gaps.proofs.GapSteps.{white_step, first_comment}
use Rattle.gx_gaps.proofs.gap.outside_step.Goals as goal

pub returns-then-is_white_space-clause-on : goal.returns-then-is_white_space-clause-on
returns-then-is_white_space-clause-on c = white_step c.in-Some.c c.args.rest.now c.in-Some.tail.now (sym c.is_white_space.ensures ∙ c.if-is_white_space.true) c.in-Some.ensures.some

pub returns-then-begins_comment-clause-on : goal.returns-then-begins_comment-clause-on
returns-then-begins_comment-clause-on c =
    first_comment c.in-Some.c c.in-Some-first.e c.args.rest.now c.in-Some.tail.now c.in-Some-first.behind.now
    (sym c.is_white_space.ensures ∙ c.if-is_white_space.false) (sym c.begins_comment.ensures ∙ c.if-begins_comment.true) c.in-Some.ensures.some c.in-Some-first.ensures.some
