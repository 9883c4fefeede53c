use Rattle.std.proofs.Common.{◌≡◌, length}
use Rattle.gx_include_derivations.specs.Derivations.{AreKnown}
use Rattle.gx_include_derivations.proofs.Derived.{AreFlagsBelow}
use Rattle.gx_include_derivations.proofs.derivations.column_of.Given as goal

-- the flags of the declared types before this one
abbrev pub invariant-loop-number : goal.invariant-loop-number
invariant-loop-number l = record {
  known : AreKnown l.schemas l.kind l.known.items;
  count : length l.column.items ≡ l.number;
  are : AreFlagsBelow l.schemas l.kind l.column.items l.number;
}
