-- What the code's requests ask for.
use Rattle.std.specs.Prelude.{List, map, Option, None, Some}
use Rattle.gx_base.specs.declared.name.Name.{Name}
use Rattle.gx_documents.specs.declared.documents.DocumentForm.{DocumentForm}
use Rattle.gx_documents.specs.declared.documents.DocumentForm.TheVariants.{Untyped, Valid}
use Rattle.gx_documents.specs.declared.documents.DocumentRequest.{DocumentRequest}
use Rattle.gx_documents.specs.Documents.{Asked}

abbrev pub name_of_form : DocumentForm → Option Name
name_of_form Untyped = None
name_of_form (Valid name) = Some name.now

abbrev pub asked_by : DocumentRequest → Asked
asked_by request = (request.file.now, name_of_form request.form)

abbrev pub all_asked : List DocumentRequest → List Asked
all_asked requests = map asked_by requests
