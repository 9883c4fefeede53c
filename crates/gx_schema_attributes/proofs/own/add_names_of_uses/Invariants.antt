use Rattle.std.proofs.Common.{◌≡◌, length}
use Rattle.indexmap.specs.IndexSet.{insert_all}
use Rattle.gx_base.specs.Name.{same_name}
use Rattle.gx_schema_attributes.specs.GivenUses.{names_of_uses}
use Rattle.gx_schema_attributes.proofs.own.add_names_of_uses.Given as goal

abbrev pub invariant-loop-attribute : goal.invariant-loop-attribute
invariant-loop-attribute l = insert_all same_name l.names.keys (names_of_uses l.left) ≡ insert_all same_name l.fn.names.keys (names_of_uses l.more)

abbrev pub decreases-loop-attribute : goal.decreases-loop-attribute
decreases-loop-attribute l = length l.left
