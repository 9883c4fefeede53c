use Rattle.std.proofs.Common.{◌≡◌, Bool, List, subst}
use Rattle.std.specs.Prelude.{IfOk}
use Rattle.gx_include_followers.proofs.NumberSetLemmas.{both_sets_swapped}
use Rattle.gx_include_followers.proofs.number_set.NumberSet.meet.Goals as goal

pub returns-then-len : goal.returns-then-len
returns-then-len c = subst (λ (flags : List Bool). IfOk c.kept_in.result (λ met. met ≡ flags)) (both_sets_swapped c.args.other.now c.args.self.now) c.kept_in.ensures
