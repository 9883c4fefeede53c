use Rattle.gx_schema.proofs.Imports.{imports_are_schema_sets}
use Rattle.gx_schema.proofs.laws.imports_are_schema_sets.Goals as goal

pub returns : goal.returns
returns c =
    imports_are_schema_sets (record {
      solve = c.varieties_solve.ensures;
      circles = c.none_is_circular.ensures;
      faults = c.no_first_fault.ensures;
      one_type = c.one_type_a_name.ensures;
      kinds = c.elements_keep.ensures;
      distinct = c.uses_are_distinct.ensures;
      uses = c.kinds_are_written.ensures;
    })
