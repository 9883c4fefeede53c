use Rattle.std.proofs.Common.{◌≡◌, Some, sym, ◌∙◌, subst}
use Rattle.gx_types.specs.SchemaSet.{SchemaSet, declaration_of}
use Rattle.gx_validate.proofs.ModelsKept.{holder_is}
use Rattle.gx_validate.proofs.takers.Takers.last_declared.Goals as goal

pub returns-then-eq : goal.returns-then-eq
returns-then-eq c =
    subst (λ (s : SchemaSet). declaration_of s c.args.kind.now ≡ Some c.in_ok-name.declared.now.now) c.self.view_is
    (holder_is c.self.inside.schemas.now c.self.inside.holders c.in_ok-name.name.now c.args.kind.now c.in_ok-name.declared.now c.self.invariant.1 c.in_ok-name.ensures.value (sym c.eq.ensures ∙ c.if-eq.true))
