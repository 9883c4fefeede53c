use Rattle.gx_documents.proofs.DocumentTrees as trees
use Rattle.gx_documents.proofs.laws.held_trees_are_kept.Goals as goal

pub returns : goal.returns
returns c = trees.held_trees_are_kept
