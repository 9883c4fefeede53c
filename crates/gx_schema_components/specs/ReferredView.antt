-- What the code's tables of global declarations say.
use Rattle.gx_schema_components.specs.declared.referred.GlobalTables.{GlobalTables}
use Rattle.gx_schema_components.specs.NamesView.{number_in_tables}
use Rattle.gx_schema_components.specs.Referred.{Globals}

abbrev pub globals_in : GlobalTables → Globals
globals_in tables = record {
  numbers = number_in_tables tables.numbers;
  types = tables.types.items;
  elements = tables.elements.items;
  attributes = tables.attributes.items;
}
