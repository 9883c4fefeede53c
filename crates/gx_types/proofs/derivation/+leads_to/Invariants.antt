use Rattle.std.proofs.Common.{◌+◌, ◌*◌}
use Rattle.gx_types.proofs.DerivationLemmas.{rank_of}
use Rattle.gx_types.proofs.derivation.+leads_to.Given as goal

abbrev pub decreases-leads_to : goal.decreases-leads_to
decreases-leads_to l = 32 * l.steps + rank_of l.t.now
