use Rattle.std.proofs.Common.{◌≡◌, [], length}
use Rattle.gx_model.specs.Forest.{Forest}
use Rattle.gx_model.specs.Growth.{Extends}
use Rattle.gx_joins.specs.JoinedMeaning.{joined_globals}
use Rattle.gx_store.specs.Places.{node_places}
use Rattle.gx_machine.specs.Frames.{functions_in}
use Rattle.gx_machine.specs.Growing.{GrowsHonestly}
use Rattle.gx_machine.specs.Resume.{items_of}
use Rattle.gx_machine.proofs.declarations.bound_globals.Given as goal

-- the declarations that are left, behind the globals that are bound, come to all of them
abbrev pub invariant-loop-declaration : goal.invariant-loop-declaration
invariant-loop-declaration g l = record {
  grows : GrowsHonestly l.schemas l.fn.store l.store;
  same : (later : Forest) → Extends l.store later
      → joined_globals l.schemas (functions_in l.functions) l.limit l.rest (node_places later l.left) (items_of later l.globals) l.store
      ≡ joined_globals l.schemas (functions_in l.functions) l.limit l.declarations (node_places later l.documents) [] l.fn.store;
}

abbrev pub decreases-loop-declaration : goal.decreases-loop-declaration
decreases-loop-declaration g l = length l.rest
