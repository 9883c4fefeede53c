use Rattle.std.proofs.Common.{◌≡◌, length}
use Rattle.indexmap.specs.IndexSet.{insert_all}
use Rattle.gx_base.specs.Name.{same_name}
use Rattle.gx_schema_attributes.proofs.own.add_names.Given as goal

abbrev pub invariant-loop-name : goal.invariant-loop-name
invariant-loop-name l = insert_all same_name l.names.keys l.left ≡ insert_all same_name l.fn.names.keys l.more

abbrev pub decreases-loop-name : goal.decreases-loop-name
decreases-loop-name l = length l.left
