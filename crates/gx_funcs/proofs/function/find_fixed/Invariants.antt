use Rattle.std.proofs.Common.{◌≡◌, ℕ, List, length}
use Rattle.std.specs.Prelude.{encode_utf8_all}
use Rattle.gx_funcs.specs.Function.{first_named, all_functions}
use Rattle.gx_funcs.proofs.function.find_fixed.Given as goal

-- the function is found among those that are left as among all
abbrev pub invariant-loop-function : goal.invariant-loop-function
invariant-loop-function l = (characters : List ℕ) → l.fn.local ≡ encode_utf8_all characters → first_named l.left characters l.fn.arity ≡ first_named all_functions characters l.fn.arity

abbrev pub decreases-loop-function : goal.decreases-loop-function
decreases-loop-function l = length l.left
