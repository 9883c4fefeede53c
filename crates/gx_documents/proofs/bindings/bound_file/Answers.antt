use Rattle.gx_documents.proofs.Words.{file_split}
use Rattle.gx_documents.proofs.bindings.bound_file.Goals as goal

pub returns-in-Some : goal.returns-in-Some
returns-in-Some c = rw c.in-Some.is at (file_split c.args.word.now c.split_once.result c.split_once.ensures.cases)

pub returns-in-None : goal.returns-in-None
returns-in-None c = rw c.in-None.is at (file_split c.args.word.now c.split_once.result c.split_once.ensures.cases)
