use Rattle.std.proofs.Common.{◌≡◌, [], ◌∷◌, ◌++◌, length}
use Rattle.gx_normal.specs.Switches.{branches_joined}
use Rattle.gx_normal.proofs.switches.branches_joined.Given as goal

-- those in front, and what the others are joined to
abbrev pub invariant-loop-branch : goal.invariant-loop-branch
invariant-loop-branch l = branches_joined l.fn.place (l.front.items ++ l.joined.value ∷ []) ≡ branches_joined l.fn.place l.fn.branches.items

abbrev pub decreases-loop-branch : goal.decreases-loop-branch
decreases-loop-branch l = length l.front.items
