use Rattle.std.proofs.Common.{◌≡◌}
use Rattle.gx_model.specs.Forest.{Forest}
use Rattle.gx_model.specs.Growth.{Extends}
use Rattle.gx_joins.specs.JoinedMeaning.{joined_context, joined_meaning as joined}
use Rattle.gx_machine.specs.Frames.{functions_in, outcome_of_calls}
use Rattle.gx_machine.specs.Growing.{GrowsHonestly}
use Rattle.gx_machine.specs.Resume.{items_of}
use Rattle.gx_machine.proofs.frames.value_of.Given as goal

-- the store has grown by honest trees, and what is left to do comes to what the expression comes to, in each later forest
abbrev pub invariant-loop : goal.invariant-loop
invariant-loop g l = record {
  grows : GrowsHonestly l.schemas l.fn.store l.store;
  same : (later : Forest) → Extends l.store later
      → outcome_of_calls l.schemas (functions_in l.declared.functions.now) (items_of later l.declared.globals.now) l.store later l.active
      ≡ joined (joined_context l.schemas (functions_in l.declared.functions.now) (items_of later l.declared.globals.now) l.limit) l.expression (items_of later l.declared.globals.now) l.fn.store;
}
