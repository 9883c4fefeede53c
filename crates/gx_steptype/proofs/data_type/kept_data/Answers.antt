use Rattle.std.proofs.Common.{◌≡◌, rules, sym, ◌∙◌, ap, subst}
use Rattle.gx_types.specs.SchemaInvariant.{IsSchemaSet}
use Rattle.gx_steptype.specs.DerivedTypes.{over_derived}
use Rattle.gx_steptype.specs.DataType.{value_type_of}
use Rattle.gx_steptype.proofs.AskedTypes.{same_data}
use Rattle.gx_steptype.proofs.KeptTypes.{one_more_kept}
use Rattle.gx_steptype.proofs.data_type.kept_data.Goals as goal

pub returns-clause-kept : goal.returns-clause-kept
returns-clause-kept c =
    let s = c.args.derived.now in
    let kind = c.in_ok-clone.field-0 in
    let is : IsSchemaSet s = subst IsSchemaSet c.schemas.ensures c.types-types.ensures.invariant in
    let found : c.in_ok-clone-2.field-0 ≡ over_derived s (value_type_of s) kind = c.in_ok-clone-2.ensures.cases ∙ c.in_ok-t.ensures.data ∙ ap (over_derived s (value_type_of s)) (sym c.in_ok-clone.ensures.cases) in
    one_more_kept (over_derived s (value_type_of s)) (same_data s is) c.args.known.now c.insert.new.self kind c.in_ok-clone-2.field-0 found c.requires (λ other. search rules)
