use Rattle.std.proofs.Common.{sym, subst}
use Rattle.gx_types.specs.SchemaSet.{SchemaSet}
use Rattle.gx_steptype.specs.DeclaredBases.{HasBases}
use Rattle.gx_steptype.proofs.derived_types.DerivedTypes.new.Goals as goal

pub invariant_of-result : goal.invariant_of-result
invariant_of-result c = (subst (λ (s : SchemaSet). HasBases s c.in_ok-bases.bases.keys) (sym c.in_ok-derivations.ensures) c.in_ok-bases.ensures, tt)
