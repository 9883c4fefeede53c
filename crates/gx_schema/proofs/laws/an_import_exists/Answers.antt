use Rattle.gx_schema.proofs.Imports as imports
use Rattle.gx_schema.proofs.laws.an_import_exists.Goals as goal

pub returns : goal.returns
returns c =
    imports.an_import_exists (record {
      solve = c.varieties_solve.ensures;
      circles = c.none_is_circular.ensures;
      faults = c.no_first_fault.ensures;
      one_type = c.one_type_a_name.ensures;
      kinds = c.elements_keep.ensures;
      distinct = c.uses_are_distinct.ensures;
      uses = c.kinds_are_written.ensures;
    }) c.contents_are_bounded.ensures c.a_judgement_exists.ensures
