use Rattle.std.proofs.Common.{◌≡◌, rules, sym, ◌∙◌, ap, subst}
use Rattle.gx_types.specs.SchemaInvariant.{IsSchemaSet}
use Rattle.gx_steptype.specs.AskedView.{kind_asked}
use Rattle.gx_steptype.specs.StepType.{attribute_content}
use Rattle.gx_steptype.proofs.AskedTypes.{same_attribute_contents}
use Rattle.gx_steptype.proofs.KeptTypes.{one_more_kept}
use Rattle.gx_steptype.proofs.attributes.element_attributes.Goals as goal

pub returns-clause-kept : goal.returns-clause-kept
returns-clause-kept c =
    let s = c.args.derived.now in
    let test = kind_asked c.args.asked in
    let kind = c.in_ok-clone.field-0 in
    let is : IsSchemaSet s = subst IsSchemaSet c.schemas.ensures c.types-types.ensures.invariant in
    let t : c.in_ok-clone-2.field-0 ≡ attribute_content s test kind =
    c.in_ok-clone-2.ensures.cases ∙ c.in_ok-t.ensures.content ∙ ap (attribute_content s test) (sym c.in_ok-clone.ensures.cases) in
    one_more_kept (attribute_content s test) (same_attribute_contents s is test) c.args.known.now c.insert.new.self kind c.in_ok-clone-2.field-0 t c.requires (λ other. search rules)
