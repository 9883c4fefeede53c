use Rattle.std.proofs.Common.{◌≡◌, Bool, IfOk, if◌then◌else◌, sym, ◌∙◌, subst}
use Rattle.gx_types.specs.SchemaSet.{SchemaSet}
use Rattle.gx_steptype.specs.DerivedTypes.{over_derived}
use Rattle.gx_steptype.specs.StepType.{content_of, child_content}
use Rattle.gx_steptype.proofs.children.child_content.Goals as goal

pub returns-clause-content : goal.returns-clause-content
returns-clause-content c =
    let s = c.schemas-schemas.result.now in
    let kind = c.args.kind.now in
    subst (λ (s : SchemaSet). IfOk c.over_types.result (λ t. t ≡ child_content s c.args.kind.now)) c.schemas-schemas.ensures
    (subst (λ (any : Bool). IfOk c.over_types.result (λ t. t ≡ (if any then content_of s kind else over_derived s (content_of s) kind))) (sym (sym c.is_any_type.ensures ∙ c.if-is_any_type.false)) c.over_types.ensures)
