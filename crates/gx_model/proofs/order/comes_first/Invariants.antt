use Rattle.std.proofs.Common.{◌≡◌, length}
use Rattle.gx_model.specs.DocumentOrder.{path_comes_first}
use Rattle.gx_model.proofs.order.comes_first.Given as goal

-- what is left of both paths comes in the order of the whole paths
abbrev pub invariant-loop-m : goal.invariant-loop-m
invariant-loop-m l = path_comes_first l.p l.a l.q l.b ≡ path_comes_first l.fn.p l.a l.fn.q l.b

abbrev pub decreases-loop-m : goal.decreases-loop-m
decreases-loop-m l = length l.p
