use Rattle.gx_atomic.proofs.PublicLaws.{empty_lists_compare_false}
use Rattle.gx_atomic.proofs.laws.empty_lists_compare_false.Goals as goal

pub returns : goal.returns
returns c = empty_lists_compare_false
