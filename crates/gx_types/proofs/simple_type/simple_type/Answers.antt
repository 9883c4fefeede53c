use Rattle.std.proofs.Common.{◌≡◌, List, IfOk, sym, subst}
use Rattle.gx_types.specs.BaseChain.{BasesEnd}
use Rattle.gx_types.specs.SimpleType.{meaning_among}
use Rattle.gx_types.specs.SimpleView.{simple_view}
use Rattle.gx_types.specs.declared.declaration.Declared.{Declared}
use Rattle.gx_types.proofs.BaseChains.{all_end}
use Rattle.gx_types.proofs.simple_type.simple_type.Goals as goal

pub type_with_values-requires : goal.type_with_values-requires
type_with_values-requires c = subst BasesEnd (sym c.declared_types.ensures.value) (all_end c.args.schemas.now c.declared_types.ensures.invariant)

pub returns : goal.returns
returns c = subst (λ (types : List Declared). IfOk c.type_with_values.result (λ s. simple_view s ≡ meaning_among types c.args.t.now)) c.declared_types.ensures.value c.type_with_values.ensures
