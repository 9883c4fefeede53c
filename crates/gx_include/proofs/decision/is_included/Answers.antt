use Rattle.std.proofs.Common.{None, sym, subst}
use Rattle.gx_include.specs.Decision.{is_included}
use Rattle.gx_include.specs.Laws.{IsNo}
use Rattle.gx_include.proofs.Deciding.{false_unless}
use Rattle.gx_include.proofs.decision.is_included.Goals as goal

pub returns-in-Ok-No : goal.returns-in-Ok-No
returns-in-Ok-No c =
    let s = c.args.schemas.now in
    let a = c.args.left.now in
    let b = c.args.right.now in
    sym (false_unless (is_included s a b) (λ h.
    c.no_excludes_inclusion.ensures s a b None c.in-Ok-No.field-0 c.in-Ok-No.ensures.verdict (subst IsNo (sym c.in-Ok-No.field-0-is) tt)
    ((c.inclusion_is_decided.ensures s a b c.types-types.ensures.invariant.grounded).0 h)))
