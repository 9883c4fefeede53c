use Rattle.gx_include.proofs.PlacedLetters.{AreByPlaceBelow}
use Rattle.gx_include.proofs.by_place.numbers_by_place.Given as goal

-- the letters before this one have their numbers
abbrev pub invariant-loop-number : goal.invariant-loop-number
invariant-loop-number l = AreByPlaceBelow l.letters l.numbers.items l.number
