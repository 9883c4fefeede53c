use Rattle.std.proofs.Common.{◌≡◌, List, IfOk, sym, subst}
use Rattle.std.specs.Option.{option_map}
use Rattle.gx_types.specs.BaseChain.{BasesEnd, own_content}
use Rattle.gx_types.specs.SimpleType.{atomic_of_content}
use Rattle.gx_types.specs.SimpleView.{atomic_view}
use Rattle.gx_types.specs.declared.declaration.Declared.{Declared}
use Rattle.gx_types.proofs.BaseChains.{all_end}
use Rattle.gx_types.proofs.simple_type.declared_atomic_type.Goals as goal

pub atomic_type_among-requires : goal.atomic_type_among-requires
atomic_type_among-requires c = subst BasesEnd (sym c.declared_types.ensures.value) (all_end c.args.schemas.now c.declared_types.ensures.invariant)

pub returns : goal.returns
returns c = subst (λ (types : List Declared). IfOk c.atomic_type_among.result (λ found. option_map atomic_view found ≡ atomic_of_content types c.args.t.now (own_content types c.args.t.now))) c.declared_types.ensures.value c.atomic_type_among.ensures
