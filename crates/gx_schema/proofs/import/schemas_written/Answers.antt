use Rattle.gx_schema.specs.SchemaTypes.{schemas_written}
use Rattle.gx_schema.proofs.EverythingRead.{everything_read}
use Rattle.gx_schema.proofs.Made.{set_made}
use Rattle.gx_schema.proofs.SchemaSets.{judged_are_schema_sets}
use Rattle.gx_schema.proofs.import.schemas_written.Goals as goal

pub new-requires : goal.new-requires
new-requires c =
    let documents = c.args.documents.now in
    set_made documents c.in_ok-types.types.items c.args.read.elements.items c.in_ok-targets.targets.items c.in_ok-types.ensures c.requires.read.elements c.in_ok-targets.ensures
    (judged_are_schema_sets (record {
      solve = c.varieties_solve.ensures;
      circles = c.none_is_circular.ensures;
      faults = c.no_first_fault.ensures;
      one_type = c.one_type_a_name.ensures;
      kinds = c.elements_keep.ensures;
      distinct = c.uses_are_distinct.ensures;
      uses = c.kinds_are_written.ensures;
    }) documents (schemas_written documents) (everything_read documents c.requires.inside) c.requires.judged)
