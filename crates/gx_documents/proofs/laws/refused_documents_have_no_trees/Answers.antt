use Rattle.gx_documents.proofs.DocumentTrees as trees
use Rattle.gx_documents.proofs.laws.refused_documents_have_no_trees.Goals as goal

pub returns : goal.returns
returns c = trees.refused_documents_have_no_trees
