use Rattle.std.proofs.Common.{◌≡◌, length}
use Rattle.gx_static.specs.Rule.{has_type, converted_arguments_rule, user_rule}
use Rattle.gx_static.proofs.conversions.user_type.Given as goal

-- what is left of the parameters and of the arguments is ruled as all of them are
abbrev pub invariant-loop-argument : goal.invariant-loop-argument
invariant-loop-argument l =
    converted_arguments_rule l.schemas l.parameters l.left l.number (has_type l.signature.result) ≡ user_rule l.schemas l.signature l.arguments

abbrev pub decreases-loop-argument : goal.decreases-loop-argument
decreases-loop-argument l = length l.left
