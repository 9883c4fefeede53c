use Rattle.std.proofs.Common.{◌≡◌, drop, fold}
use Rattle.gx_types.specs.TypeRules.{joined_types}
use Rattle.gx_steptype.specs.StepType.{use_type, uses_type}
use Rattle.gx_steptype.proofs.attributes.uses_type.Given as goal

-- the type so far, with what the rest adds
abbrev pub invariant-loop-attribute : goal.invariant-loop-attribute
invariant-loop-attribute l = fold (λ t allowed. joined_types t (use_type allowed)) l.t (drop l.attribute-index l.uses) ≡ uses_type l.uses
