use Rattle.std.proofs.Common.{arith, sym, [], ◌∷◌}
use Rattle.gx_facets.proofs.SameValues.{lengths_differ}
use Rattle.gx_facets.proofs.admission.is_value_alone.Goals as goal

pub returns-in_default-2 : goal.returns-in_default-2
returns-in_default-2 c = sym (lengths_differ c.args.entry.now (c.args.value.now ∷ []) (λ e. omega arith))
