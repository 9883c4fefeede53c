use Rattle.gx_processor.proofs.WholeQueries.{named_queries_have_documents}
use Rattle.gx_processor.proofs.laws.named_queries_have_documents.Goals as goal

pub returns : goal.returns
returns c = named_queries_have_documents
