use Rattle.std.proofs.Common.{◌≡◌, [], length}
use Rattle.gx_core.specs.Invariant.{scope_behind}
use Rattle.gx_settling.specs.Gathering.{numbers_in_scope}
use Rattle.gx_settling.proofs.functions.globals_of.Given as goal

-- the global variables behind the declarations that are left are those of all
abbrev pub invariant-loop-declaration : goal.invariant-loop-declaration
invariant-loop-declaration l = record {
  behind : scope_behind l.left (numbers_in_scope l.globals) ≡ scope_behind l.fn.declarations [];
}

abbrev pub decreases-loop-declaration : goal.decreases-loop-declaration
decreases-loop-declaration l = length l.left
