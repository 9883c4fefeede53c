use Rattle.gx_documents.proofs.DocumentTrees as trees
use Rattle.gx_documents.proofs.laws.documents_are_as_asked.Goals as goal

pub returns : goal.returns
returns c = trees.documents_are_as_asked
