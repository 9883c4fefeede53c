use Rattle.std.proofs.Common.{◌≡◌, ◌++◌, ◌+◌, length}
use Rattle.gx_schema.specs.MeaningsView.{meanings_view}
use Rattle.gx_schema.specs.SchemaTypes.{schema_types, schema_types_from}
use Rattle.gx_schema.proofs.schema_types.schema_types.Given as goal

-- the types so far and those that are left
abbrev pub invariant-loop-name : goal.invariant-loop-name
invariant-loop-name l = record {
  all : l.types.items ++ schema_types_from l.names l.forms (meanings_view l.tables) l.number l.names_left l.forms_left ≡ schema_types l.names l.forms (meanings_view l.tables);
  counted : l.number + length l.names_left ≡ length l.names;
}

abbrev pub decreases-loop-name : goal.decreases-loop-name
decreases-loop-name l = length l.names_left
