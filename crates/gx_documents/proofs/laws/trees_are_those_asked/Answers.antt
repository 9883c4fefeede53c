use Rattle.gx_documents.proofs.DocumentTrees as trees
use Rattle.gx_documents.proofs.laws.trees_are_those_asked.Goals as goal

pub returns : goal.returns
returns c = trees.trees_are_those_asked
