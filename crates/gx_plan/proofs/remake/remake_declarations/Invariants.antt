use Rattle.std.proofs.Common.{◌≡◌, ◌++◌, map, reverse, vec_len}
use Rattle.gx_plan.specs.Remaking.{declaration_remade}
use Rattle.gx_plan.proofs.remake.remake_declarations.Given as goal

-- the declarations that are made and those that are left, the next one last, become what all become
abbrev pub invariant-loop-declaration : goal.invariant-loop-declaration
invariant-loop-declaration g l =
    l.made.items ++ map (declaration_remade (g.R.Remake.make l.remaker)) (reverse l.left.items)
    ≡ map (declaration_remade (g.R.Remake.make l.remaker)) l.fn.declarations.items

abbrev pub decreases-loop-declaration : goal.decreases-loop-declaration
decreases-loop-declaration g l = vec_len l.left
