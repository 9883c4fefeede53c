use Rattle.std.proofs.Common.{◌≡◌, ◌++◌, take}
use Rattle.gx_include_letters.specs.Trials.{named_shapes}
use Rattle.gx_include_letters.proofs.trial.add_named.Given as goal

abbrev pub invariant-loop-name : goal.invariant-loop-name
invariant-loop-name l = l.shapes.items ≡ l.fn.shapes.items ++ named_shapes l.sort l.types (take l.name-index l.names)
