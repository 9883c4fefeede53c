use Rattle.gx_documents.proofs.DocumentTrees as trees
use Rattle.gx_documents.proofs.laws.documents_are_honest.Goals as goal

pub returns : goal.returns
returns c = trees.documents_are_honest
