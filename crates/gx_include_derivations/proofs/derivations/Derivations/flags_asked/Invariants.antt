use Rattle.std.proofs.Common.{◌≡◌, ◌<◌, ℕ, false, get_or, length, take}
use Rattle.gx_include_derivations.specs.Asked.{is_asked_at}
use Rattle.gx_include_derivations.proofs.derivations.Derivations.flags_asked.Given as goal

-- the item types before this one have marked their types
abbrev pub invariant-loop-item : goal.invariant-loop-item
invariant-loop-item l = record {
  count : length l.flags.items ≡ length l.self.types;
  are : (n : ℕ) → n < length l.self.types → get_or l.flags.items n false ≡ is_asked_at l.self (take l.item-index l.items) n;
}
