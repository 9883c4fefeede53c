-- Trees in a list are as many as the list has elements.
use Rattle.std.proofs.Common.{◌≡◌, List, [], ◌∷◌, length, refl, arith}
use Rattle.gx_ast.specs.SyntaxTree.{SyntaxTree}
use Rattle.gx_ast.specs.SyntaxView.{trees_of}
use Rattle.gx_names_scope.specs.TreeCounts.{count_trees}

pub counted : (trees : List SyntaxTree) → count_trees (trees_of trees) ≡ length trees
counted [] = refl
counted (t ∷ ts) = omega (arith, counted ts)
