use Rattle.gx_xml.proofs.UntypedDocuments as documents
use Rattle.gx_xml.proofs.laws.untyped_documents_are_sound.Goals as goal

pub returns : goal.returns
returns c = record { proper = documents.document_is_proper; untyped = documents.document_is_untyped; names = documents.document_has_own_names }
