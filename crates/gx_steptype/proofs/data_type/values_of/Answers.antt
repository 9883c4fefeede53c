use Rattle.std.proofs.Common.{◌≡◌, IfOk, ◌∙◌, ap, subst}
use Rattle.gx_types.specs.SchemaSet.{SchemaSet}
use Rattle.gx_types.specs.SequenceType.{SequenceType}
use Rattle.gx_types.specs.TypeRules.{limited}
use Rattle.gx_steptype.specs.DataType.{item_data}
use Rattle.gx_steptype.specs.Replaced.{replaced_items}
use Rattle.gx_steptype.proofs.data_type.values_of.Goals as goal

pub returns : goal.returns
returns c =
    subst (λ (t : SequenceType). IfOk c.limit.result (λ u. u ≡ limited t))
    (c.in_ok-values.ensures.replaced ∙ ap (λ (s : SchemaSet). replaced_items (item_data s) c.args.t.now) c.in_ok-derived.ensures) c.limit.ensures
