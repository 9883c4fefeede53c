use Rattle.gx_include_derivations.specs.Derivations.{AreColumnsByKind}
use Rattle.gx_include_derivations.proofs.derivations.add_columns.Given as goal

abbrev pub invariant-loop-item : goal.invariant-loop-item
invariant-loop-item l = AreColumnsByKind l.schemas l.columns
