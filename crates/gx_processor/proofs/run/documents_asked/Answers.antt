use Rattle.std.proofs.Common.{Ok, refl}
use Rattle.gx_core.specs.QueryMeaning.{plain_query}
use Rattle.gx_documents.specs.Requests.{all_asked}
use Rattle.gx_processor.proofs.AskedDocuments.{documents_of_asked, each_is_global}
use Rattle.gx_processor.proofs.run.documents_asked.Goals as goal

pub read_documents-requires : goal.read_documents-requires
read_documents-requires g c = each_is_global c.args.schemas.now (plain_query c.args.core.now).declarations (all_asked c.args.requests.now) c.requires.externals c.requires.each

pub returns-in-Ok-clause-documents : goal.returns-in-Ok-clause-documents
returns-in-Ok-clause-documents g c =
    documents_of_asked c.args.schemas.now (plain_query c.args.core.now).declarations (all_asked c.args.requests.now) c.in-Ok.store c.requires.each c.in-Ok.ensures.reads.kept

pub returns-in-Ok-clause-read : goal.returns-in-Ok-clause-read
returns-in-Ok-clause-read g c = record { read = Ok c.in-Ok.store; reads = c.in-Ok.ensures.reads; same = refl }
