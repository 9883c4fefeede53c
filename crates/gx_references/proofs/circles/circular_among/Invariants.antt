use Rattle.std.proofs.Common.{◌≡◌, ◌<◌, ℕ, length, get_or, false}
use Rattle.gx_references.specs.Circles.{is_circular_among}
use Rattle.gx_references.specs.PlainReferences.{numbers_in}
use Rattle.gx_references.proofs.circles.circular_among.Given as goal

abbrev pub invariant-loop-number : goal.invariant-loop-number
invariant-loop-number l = record {
  sized : length l.marks.items ≡ l.number;
  exact : (number : ℕ) → number < l.number → get_or l.marks.items number false ≡ is_circular_among numbers_in l.references number;
}
