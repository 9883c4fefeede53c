use Rattle.std.proofs.Common.{◌≡◌, ◌++◌, drop}
use Rattle.gx_core.specs.Functions.{functions_of}
use Rattle.gx_machine.specs.Frames.{functions_in}
use Rattle.gx_machine.proofs.declarations.functions_among.Given as goal

-- the functions that are found and those of the declarations that are left are all
abbrev pub invariant-loop-declaration : goal.invariant-loop-declaration
invariant-loop-declaration l = functions_in l.functions.items ++ functions_of (drop l.declaration-index l.declarations) ≡ functions_of l.declarations
