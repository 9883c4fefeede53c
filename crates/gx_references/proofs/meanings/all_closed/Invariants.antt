use Rattle.std.proofs.Common.{◌≡◌, ℕ, length, get_or, false}
use Rattle.gx_references.proofs.meanings.all_closed.Given as goal

abbrev pub invariant-loop : goal.invariant-loop
invariant-loop l = (length l.opened.items ≡ l.counter) × ((number : ℕ) → get_or l.opened.items number false ≡ false)
