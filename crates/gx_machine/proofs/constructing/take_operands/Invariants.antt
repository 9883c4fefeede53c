use Rattle.std.proofs.Common.{◌≡◌, ◌-◌, ◌≤◌, ℕ, List, []}
use Rattle.gx_model.specs.Forest.{Forest}
use Rattle.gx_model.specs.Item.{Items}
use Rattle.gx_core.specs.Outcome.{Outcome}
use Rattle.gx_store.specs.Items.{items_in}
use Rattle.gx_build.specs.Parts.{parts_in}
use Rattle.gx_machine.specs.Resume.{between_marks}
use Rattle.gx_machine.proofs.constructing.take_operands.Given as goal

-- the operands that are taken, and those between the marks that are left
abbrev pub invariant-loop : goal.invariant-loop
invariant-loop l = record {
  within : l.counter ≤ l.count;
  taken : (later : Forest) (next : List Items → List ℕ → Items → Outcome Items)
      → between_marks (l.count - l.counter) l.marks (items_in later l.values.items) (parts_in later l.operands) next
      ≡ between_marks l.count l.fn.marks (items_in later l.fn.values.items) [] next;
}
