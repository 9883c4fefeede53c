use Rattle.std.proofs.Common.{rules}
use Rattle.gx_include_derivations.proofs.derivations.Derivations.new.Goals as goal

pub invariant_of-result : goal.invariant_of-result
invariant_of-result c = record {
  numbered = c.in_ok-numbers.ensures.numbers;
  all_numbered = c.in_ok-numbers.ensures.all;
  with_bases = c.in_ok-bases.ensures;
  by_kind = λ kind. search rules;
}
