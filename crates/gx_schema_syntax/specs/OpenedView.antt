-- What the code's parts of types stand for.
use Rattle.std.specs.Option.{option_copied}
use Rattle.gx_xml.specs.SourceView.{contents_of}
use Rattle.gx_schema_syntax.specs.declared.types.Opened as code
use Rattle.gx_schema_syntax.specs.Types.{Opened}

abbrev pub opened_part : code.Opened → Opened
opened_part part = record { name = option_copied part.name; declarations = part.declarations.now; attributes = part.attributes.now; contents = contents_of part.children.now }
