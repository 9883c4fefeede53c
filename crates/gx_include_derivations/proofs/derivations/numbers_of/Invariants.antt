use Rattle.gx_include_derivations.specs.Derivations.{AreNumbers}
use Rattle.gx_include_derivations.proofs.Derived.{AreNumberedBelow}
use Rattle.gx_include_derivations.proofs.derivations.numbers_of.Given as goal

-- the declared types before this one have numbers
abbrev pub invariant-loop-number : goal.invariant-loop-number
invariant-loop-number l = record {
  are : AreNumbers l.schemas l.numbers;
  all : AreNumberedBelow l.schemas l.numbers l.number;
}
