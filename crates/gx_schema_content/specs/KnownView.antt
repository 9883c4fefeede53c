-- What tables of outlines say.
use Rattle.gx_references.specs.Known.{known}
use Rattle.gx_schema_content.specs.declared.extensions.OutlineTables.{OutlineTables}
use Rattle.gx_schema_content.specs.declared.outline.Outline.TheVariants.{Never}
use Rattle.gx_schema_content.specs.OutlinedExtensions.{KnownOutlines}
use Rattle.gx_schema_content.specs.Outlines.{unknown_outline}

abbrev pub known_by : OutlineTables → KnownOutlines
known_by tables = record { groups = known Never tables.groups.now; types = known unknown_outline tables.types.now }
