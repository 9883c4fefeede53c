use Rattle.std.proofs.Common.{◌≡◌, ℕ, length, get_or, None}
use Rattle.gx_references.proofs.meanings.empty_table.Given as goal

abbrev pub invariant-loop : goal.invariant-loop
invariant-loop g l = (length l.table.items ≡ l.counter) × ((number : ℕ) → get_or l.table.items number None ≡ None)
