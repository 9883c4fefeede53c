-- Which files hold queries of this language.
use Rattle.std.specs.Prelude.{◌≡◌, ℕ, ◌≤◌, List, length, None, Some}
use Rattle.gx_base.specs.declared.limits.TheConstants.{FILE_BYTES}
use Rattle.gx_types.specs.SchemaSet.{SchemaSet}
use Rattle.gx_core.specs.Queries.{Core}
use Rattle.gx_documents.specs.Documents.{Files, HoldKept}
use Rattle.gx_io.specs.Load.{file_of}
use Rattle.gx_ast.specs.declared.query.Query.{Query}
use Rattle.gx_parse_grammar.specs.Query.{Parses, parsed}
use Rattle.gx_xml.specs.declared.source.Source.{Source}
use Rattle.gx_schema.specs.Import.{IsImported, declares}
use Rattle.gx_processor.specs.SchemaFiles.{schema_requests}
use Rattle.gx_processor.specs.NamedQuery.{named_query, query_named}

-- the file of that name holds a query
pub record HoldsSyntax (files : Files) (name : List ℕ) : Type 0 where
  pub tree : Query
  pub bytes : List ℕ
  pub held : file_of files name ≡ Some bytes
  pub within : length bytes ≤ FILE_BYTES
  pub parses : Parses bytes (parsed tree)

-- the schema files that a query names hold documents, which declare these schemas
pub record ImportsSchemas (files : Files) (tree : Query) (schemas : SchemaSet) : Type 0 where
  pub sources : List Source
  pub held : HoldKept files (schema_requests tree) sources
  pub imports : IsImported sources (declares schemas)

-- the query in a file has this Core under the schemas that it imports
pub record HoldsQuery (files : Files) (name : List ℕ) (schemas : SchemaSet) (core : Core) : Type 0 where
  pub read : HoldsSyntax files name
  pub imports : ImportsSchemas files read.tree schemas
  pub named : query_named schemas read.tree ≡ named_query core
