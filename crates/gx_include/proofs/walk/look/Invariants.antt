use Rattle.std.proofs.Common.{ℕ, Bool, List, drop}
use Rattle.gx_types.specs.SequenceType.{SequenceType}
use Rattle.gx_include_followers.specs.NumberSet.{flagged}
use Rattle.gx_include.specs.Expanding.{Expanding}
use Rattle.gx_include.proofs.Looking.{Looking}
use Rattle.gx_include.proofs.walk.look.Given as goal

-- the letters before this one were looked at
abbrev pub invariant-loop-number : goal.invariant-loop-number
invariant-loop-number l =
    (a b : SequenceType) (old : List (ℕ × List Bool)) → Expanding a b l.letters old l.fn.pairs.keys l.fn.origins.items l.at 0 l.left l.right
    → Looking a b l.letters old l.pairs.keys l.origins.items l.at l.left l.right l.numbers (drop l.number-index (flagged l.numbers))
