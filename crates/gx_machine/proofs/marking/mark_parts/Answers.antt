use Rattle.std.proofs.Common.{◌∷◌, [], List, map, ap, sym, ◌∙◌}
use Rattle.std.proofs.lemmas.List.{map-append, nil_from_length}
use Rattle.gx_core.specs.Meaning.{Denotation}
use Rattle.gx_joins.specs.JoinedMeaning.{joined_meaning as joined}
use Rattle.gx_plan.specs.Plan.{PlanExpression}
use Rattle.gx_machine.specs.declared.evaluation.Pending.{Pending}
use Rattle.gx_machine.specs.declared.evaluation.Pending.TheVariants.{Mark}
use Rattle.gx_machine.specs.Resume.{in_order, resume_marked}
use Rattle.gx_machine.proofs.Resuming.{last_in_order}
use Rattle.gx_machine.proofs.marking.mark_parts.Goals as goal

pub loop-part-preserved : goal.loop-part-preserved
loop-part-preserved c = λ k stacks values marks bindings forest.
    ap (λ (work : List Pending). in_order (map (joined k) c.in-Some.front.now) (resume_marked k work stacks) values marks bindings forest) (c.in_ok-push-2.ensures.ok ∙ ap (λ (work : List Pending). Mark ∷ work) c.in_ok-push.ensures.ok)
    ∙ sym (last_in_order (map (joined k) c.in-Some.front.now) (joined k c.in-Some.part.now) (resume_marked k c.loop-part.work stacks) values marks bindings forest)
    ∙ ap (λ (parts : List Denotation). in_order parts (resume_marked k c.loop-part.work stacks) values marks bindings forest)
    (sym (map-append (joined k) c.in-Some.front.now (c.in-Some.part.now ∷ [])) ∙ ap (map (joined k)) (sym c.in-Some.ensures.cases.0))
    ∙ c.loop-part.invariant k stacks values marks bindings forest

pub returns : goal.returns
returns c = λ k stacks values marks bindings forest.
    ap (λ (es : List PlanExpression). in_order (map (joined k) es) (resume_marked k c.loop-part.work stacks) values marks bindings forest) (sym (nil_from_length c.loop-part.rest.now c.in_default.ensures.cases))
    ∙ c.loop-part.invariant k stacks values marks bindings forest
