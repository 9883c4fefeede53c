use Rattle.std.proofs.Common.{◌≡◌, ℕ, [], length, get_or}
use Rattle.gx_schema_attributes.proofs.uses.no_uses.Given as goal

abbrev pub invariant-loop : goal.invariant-loop
invariant-loop l = (length l.uses.items ≡ l.counter) × ((number : ℕ) → get_or l.uses.items number [] ≡ [])
