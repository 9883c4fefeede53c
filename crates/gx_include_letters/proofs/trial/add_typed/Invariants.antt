use Rattle.std.proofs.Common.{◌≡◌, ◌++◌, map, take}
use Rattle.gx_include_letters.specs.Trials.{made}
use Rattle.gx_include_letters.proofs.trial.add_typed.Given as goal

abbrev pub invariant-loop-t : goal.invariant-loop-t
invariant-loop-t l = l.shapes.items ≡ l.fn.shapes.items ++ map (λ t. made l.sort l.name t) (take l.t-index l.types)
