use Rattle.std.proofs.Common.{◌≡◌, [], ◌++◌, length}
use Rattle.gx_normal.specs.Normalisation.{behind_declarations, declarations_of}
use Rattle.gx_normal.proofs.normalise.declare_all.Given as goal

-- what is left comes to the same numbers and declarations
abbrev pub invariant-loop-declaration : goal.invariant-loop-declaration
invariant-loop-declaration l = record {
  behind : behind_declarations l.fn.signatures l.fn.focus l.left l.numbers l.free ≡ behind_declarations l.fn.signatures l.fn.focus l.fn.declarations [] 1;
  declarations : l.made.items ++ declarations_of l.fn.signatures l.fn.focus l.left l.numbers l.free ≡ l.fn.made.items ++ declarations_of l.fn.signatures l.fn.focus l.fn.declarations [] 1;
}

abbrev pub decreases-loop-declaration : goal.decreases-loop-declaration
decreases-loop-declaration l = length l.left
