-- How many trees stand in a list of them.
use Rattle.std.specs.Prelude.{ℕ, ◌+◌}
use Rattle.gx_ast.specs.SyntaxTree.{SyntaxTrees, no_tree, a_tree}

abbrev pub count_trees : SyntaxTrees → ℕ
count_trees no_tree = 0
count_trees (a_tree first others) = 1 + count_trees others
