use Rattle.std.proofs.Common.{◌≡◌, ◌++◌, ◌+◌, length}
use Rattle.gx_normal.specs.Signatures.{inside_parameters, parameter_binders}
use Rattle.gx_normal.proofs.signatures.bind_parameters.Given as goal

abbrev pub invariant-loop-parameter : goal.invariant-loop-parameter
invariant-loop-parameter l = record {
  binders : l.binders.items ++ parameter_binders l.left l.next ≡ parameter_binders l.fn.parameters l.fn.free;
  inside : inside_parameters l.left l.next l.inside ≡ inside_parameters l.fn.parameters l.fn.free l.fn.numbers;
  count : l.next + length l.left ≡ l.fn.free + length l.fn.parameters;
}

abbrev pub decreases-loop-parameter : goal.decreases-loop-parameter
decreases-loop-parameter l = length l.left
