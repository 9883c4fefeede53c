use Rattle.std.proofs.Common.{◌≡◌, length}
use Rattle.gx_include_derivations.proofs.Derived.{AreBasesSoFar}
use Rattle.gx_include_derivations.proofs.derivations.bases_of.Given as goal

-- the bases of the declared types before this one
abbrev pub invariant-loop-declared : goal.invariant-loop-declared
invariant-loop-declared l = record {
  count : length l.bases.items ≡ l.declared-index;
  are : AreBasesSoFar l.schemas l.bases.items;
}
