use Rattle.std.proofs.Common.{◌≡◌, rules, sym, ◌∙◌, ap, subst}
use Rattle.gx_types.specs.SchemaInvariant.{IsSchemaSet}
use Rattle.gx_steptype.specs.DataType.{have_values}
use Rattle.gx_steptype.proofs.AskedTypes.{same_have_values}
use Rattle.gx_steptype.proofs.KeptTypes.{one_more_kept}
use Rattle.gx_steptype.proofs.data_type.kept_answer.Goals as goal

pub returns-clause-kept : goal.returns-clause-kept
returns-clause-kept c =
    let s = c.args.derived.now in
    let kind = c.in_ok-clone.field-0 in
    let is : IsSchemaSet s = subst IsSchemaSet c.schemas.ensures c.types-types.ensures.invariant in
    let found : c.in_ok-answer.answer ≡ have_values s kind = c.in_ok-answer.ensures.values ∙ ap (have_values s) (sym c.in_ok-clone.ensures.cases) in
    one_more_kept (have_values s) (same_have_values s is) c.args.known.now c.insert.new.self kind c.in_ok-answer.answer found c.requires (λ other. search rules)
