use Rattle.std.proofs.Common.{◌≡◌, ◌+◌, ◌-◌, ℕ, length}
use Rattle.gx_include_letters.specs.ItemIndex.{numbers_at}
use Rattle.gx_include_letters.proofs.number_table.make_room.Given as goal

-- the places have the numbers that they had
abbrev pub invariant-loop-alloc : goal.invariant-loop-alloc
invariant-loop-alloc l = (p : ℕ) → numbers_at l.table.items p ≡ numbers_at l.fn.table.items p

abbrev pub decreases-loop-alloc : goal.decreases-loop-alloc
decreases-loop-alloc l = l.place + 1 - length l.table.items
