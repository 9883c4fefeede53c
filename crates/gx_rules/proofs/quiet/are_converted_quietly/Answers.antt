use Rattle.std.proofs.Common.{map, sym, ◌∙◌}
use Rattle.gx_funcs.specs.Function.{parameters_of}
use Rattle.gx_plan.specs.Plan.{kind_carried}
use Rattle.gx_rules.specs.Guards.{are_converted_quietly}
use Rattle.gx_rules.proofs.Arguments.{one_fails, none_is_left}
use Rattle.gx_rules.proofs.quiet.are_converted_quietly.Goals as goal

pub returns-then-not-branch : goal.returns-then-not-branch
returns-then-not-branch c =
    one_fails c.args.schemas.now (parameters_of c.args.function) c.loop-argument.number c.in-Some-parameter.parameter c.loop-argument.left.now
    c.in-Some.others.now c.in-Some.argument.now
    (are_converted_quietly c.args.schemas.now (parameters_of c.args.function) (map kind_carried c.args.arguments.now))
    c.in-Some.ensures.cases.0 (sym c.parameter.ensures ∙ c.in-Some-parameter.is) c.loop-argument.invariant.quiet (sym c.in_ok-is_taken_quietly.ensures ∙ c.if-not-branch.true)

pub returns : goal.returns
returns c =
    none_is_left c.args.schemas.now (parameters_of c.args.function) c.loop-argument.number c.loop-argument.left.now
    (are_converted_quietly c.args.schemas.now (parameters_of c.args.function) (map kind_carried c.args.arguments.now)) c.in_default.ensures.cases c.loop-argument.invariant.quiet
