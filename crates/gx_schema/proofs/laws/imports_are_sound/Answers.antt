use Rattle.gx_schema.proofs.SoundReadings.{imports_are_sound}
use Rattle.gx_schema.proofs.laws.imports_are_sound.Goals as goal

pub returns : goal.returns
returns c =
    imports_are_sound (record {
      solve = c.varieties_solve.ensures;
      circles = c.none_is_circular.ensures;
      faults = c.no_first_fault.ensures;
      one_type = c.one_type_a_name.ensures;
      kinds = c.elements_keep.ensures;
      distinct = c.uses_are_distinct.ensures;
      uses = c.kinds_are_written.ensures;
    })
