-- Levels of a tree that are gone over, each with the depth that is left there.
use Rattle.std.specs.Prelude.{ℕ, suc, ◌+◌, ◌*◌, Bool, false, ◌||◌, nat_lt, List, [], ◌∷◌}
use Rattle.gx_tree.specs.PlainTree.{trees_of, trees_size}
use Rattle.gx_core.specs.Constructing.{depth_of_trees}
use Rattle.gx_build.specs.declared.depth.Level.{Level}

-- a tree of a level is too deep
abbrev pub are_too_deep : List Level → Bool
are_too_deep [] = false
are_too_deep (level ∷ outer) = nat_lt level.limit (depth_of_trees (trees_of level.trees.now)) || are_too_deep outer

-- how much is left to do
abbrev pub levels_left : List Level → ℕ
levels_left [] = 0
levels_left (level ∷ outer) = suc (2 * trees_size (trees_of level.trees.now) + levels_left outer)
