use Rattle.std.proofs.Common.{sym, ◌∙◌}
use Rattle.gx_steptype.proofs.OneNode.{builtin_is_any, declared_is_any}
use Rattle.gx_steptype.proofs.nodes.is_known.Goals as goal

pub returns-in-Builtin : goal.returns-in-Builtin
returns-in-Builtin c = λ h. rw c.in-Builtin.is (builtin_is_any c.args.schemas.now c.in-Builtin.field-0 c.types-types.ensures.invariant.grounded)

pub returns-in-Named : goal.returns-in-Named
returns-in-Named c = λ h. declared_is_any c.args.schemas.now c.args.kind.now c.types-types.ensures.invariant.grounded (sym c.is_declared.ensures ∙ h)
