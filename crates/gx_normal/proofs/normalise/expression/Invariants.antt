use Rattle.std.proofs.Common.{◌≡◌, [], ◌∷◌}
use Rattle.gx_normal.specs.Normalisation.{core_of}
use Rattle.gx_normal.specs.Normalising.{core_to_make}
use Rattle.gx_normal.proofs.normalise.expression.Given as goal

-- what is left comes to the Core of the tree
abbrev pub invariant-loop : goal.invariant-loop
invariant-loop l =
    core_to_make l.normalising
    ≡ record { made = ((core_of l.fn.signatures l.fn.tree l.fn.numbers l.fn.focus l.fn.free).0 ∷ []) ∷ []; numbers = l.fn.numbers; focus = l.fn.focus; free = (core_of l.fn.signatures l.fn.tree l.fn.numbers l.fn.focus l.fn.free).1 }
