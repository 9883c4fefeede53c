-- The laws of imports.
use Rattle.std.specs.Prelude.{◌≡◌, ℕ, ◌<◌, List, length}
use Rattle.gx_types.specs.SchemaSet.{SchemaSet}
use Rattle.gx_types.specs.SchemaInvariant.{IsSchemaSet}
use Rattle.gx_types.specs.declared.shape.Shape.{Shape}
use Rattle.gx_xml.specs.declared.source.Source.{Source}
use Rattle.gx_schema.specs.declared.refusal.SchemaRule.{SchemaRule}
use Rattle.gx_schema.specs.Import.{Imported, IsImported, breaks, declares}
use Rattle.gx_schema.specs.SoundReading.{IsSoundReading}

-- what files declare keeps to what declarations keep to
abbrev pub ImportsAreSchemaSets : Type 0
ImportsAreSchemaSets = (files : List Source) (schemas : SchemaSet) → IsImported files (declares schemas) → IsSchemaSet schemas

-- and it is sound
abbrev pub ImportsAreSound : Type 0
ImportsAreSound = (files : List Source) (schemas : SchemaSet) → IsImported files (declares schemas) → IsSoundReading files schemas

-- the import of files ends in one way
abbrev pub ImportsAreOne : Type 0
ImportsAreOne = (files : List Source) (one other : Imported) → IsImported files one → IsImported files other → one ≡ other

-- and there is one
abbrev pub AnImportExists : Type 0
AnImportExists = (files : List Source) → (told : Imported) × IsImported files told

-- a rule that files break is broken in one of them
abbrev pub IsBrokenInAFile : Type 0
IsBrokenInAFile = (files : List Source) (rule : SchemaRule) (file : ℕ) (name : List ℕ) (list : List Shape) → IsImported files (breaks rule file name list) → file < length files
