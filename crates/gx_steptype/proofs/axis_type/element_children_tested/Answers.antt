use Rattle.std.proofs.Common.{◌≡◌, rules, sym, ◌∙◌, ap, subst}
use Rattle.gx_types.specs.SchemaSet.{SchemaSet}
use Rattle.gx_types.specs.SchemaInvariant.{IsSchemaSet}
use Rattle.gx_steptype.specs.AskedView.{kind_asked}
use Rattle.gx_steptype.specs.Replaced.{replaced_items}
use Rattle.gx_steptype.specs.StepType.{child_content}
use Rattle.gx_steptype.specs.TestedType.{tested_item}
use Rattle.gx_steptype.specs.KeptSteps.{tested_children}
use Rattle.gx_steptype.proofs.AskedTypes.{same_tested_children}
use Rattle.gx_steptype.proofs.KeptTypes.{one_more_kept}
use Rattle.gx_steptype.proofs.axis_type.element_children_tested.Goals as goal

pub returns-clause-kept : goal.returns-clause-kept
returns-clause-kept c =
    let s = c.args.derived.now in
    let test = kind_asked c.args.asked in
    let kind = c.in_ok-clone.field-0 in
    let is : IsSchemaSet s = subst IsSchemaSet c.schemas.ensures c.types-types.ensures.invariant in
    let same : c.schemas-2.result.now ≡ s = c.schemas-2.ensures ∙ c.in_ok-content.ensures.same in
    let t : c.in_ok-clone-2.field-0 ≡ tested_children s test kind =
    c.in_ok-clone-2.ensures.cases ∙ c.in_ok-t.ensures ∙ ap (λ (schemas : SchemaSet). replaced_items (tested_item schemas test) c.in_ok-content.content) same
    ∙ ap (replaced_items (tested_item s test)) (c.in_ok-content.ensures.content ∙ ap (child_content s) (sym c.in_ok-clone.ensures.cases)) in
    one_more_kept (tested_children s test) (same_tested_children s is test) c.args.known.now c.insert.new.self kind c.in_ok-clone-2.field-0 t c.requires (λ other. search rules)
