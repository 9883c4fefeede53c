use Rattle.std.proofs.Common.{◌≡◌, take}
use Rattle.std.specs.List.{flat_map}
use Rattle.gx_include_letters.specs.ItemIndex.{numbers_at}
use Rattle.gx_include.proofs.by_place.numbers_of.Given as goal

-- those at the places so far
abbrev pub invariant-loop-place : goal.invariant-loop-place
invariant-loop-place l = l.found.items ≡ flat_map (numbers_at l.numbers) (take l.place-index l.places)
