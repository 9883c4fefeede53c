use Rattle.std.proofs.Common.{◌≡◌}
use Rattle.gx_grammar.specs.Places.{place_at}
use Rattle.gx_grammar.proofs.place.place_between.Given as goal

abbrev pub invariant-loop-index : goal.invariant-loop-index
invariant-loop-index l = l.place ≡ place_at l.text l.index
