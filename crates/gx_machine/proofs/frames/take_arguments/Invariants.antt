use Rattle.std.proofs.Common.{◌≡◌, ◌-◌, ◌≤◌, ℕ, List, []}
use Rattle.gx_model.specs.Forest.{Forest}
use Rattle.gx_model.specs.Item.{Items}
use Rattle.gx_core.specs.Outcome.{Outcome}
use Rattle.gx_store.specs.Items.{items_in}
use Rattle.gx_machine.specs.BoundItems.{bounds_in}
use Rattle.gx_machine.specs.Resume.{between_marks}
use Rattle.gx_machine.proofs.frames.take_arguments.Given as goal

-- the arguments that are taken, and those between the marks that are left
abbrev pub invariant-loop : goal.invariant-loop
invariant-loop l = record {
  within : l.counter ≤ l.count;
  taken : (later : Forest) (next : List Items → List ℕ → Items → Outcome Items)
      → between_marks (l.count - l.counter) l.marks (items_in later l.values.items) (bounds_in later l.arguments) next
      ≡ between_marks l.count l.fn.marks (items_in later l.fn.values.items) [] next;
}
