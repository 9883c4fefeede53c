use Rattle.std.proofs.Common.{◌≡◌, length}
use Rattle.gx_static.specs.Rule.{Ruling, if_all_atomized}
use Rattle.gx_static.proofs.constructors.check_atomized.Given as goal

-- what is left of the parts is ruled as all of them are
abbrev pub invariant-loop-part : goal.invariant-loop-part
invariant-loop-part l = (ruling : Ruling) → if_all_atomized l.schemas l.left l.number ruling ≡ if_all_atomized l.schemas l.fn.parts 0 ruling

abbrev pub decreases-loop-part : goal.decreases-loop-part
decreases-loop-part l = length l.left
