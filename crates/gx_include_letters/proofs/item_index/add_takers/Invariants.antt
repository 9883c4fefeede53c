use Rattle.std.proofs.Common.{◌≡◌, ◌++◌, take}
use Rattle.std.specs.List.{flat_map}
use Rattle.gx_include_letters.specs.ItemIndex.{place_if}
use Rattle.gx_include_positions.specs.Test.{is_taken}
use Rattle.gx_include_letters.proofs.item_index.add_takers.Given as goal

-- the places of the numbers so far
abbrev pub invariant-loop-number : goal.invariant-loop-number
invariant-loop-number l = l.places.items ≡ l.fn.places.items ++ flat_map (place_if l.items (is_taken l.schemas l.shape)) (take l.number-index l.numbers)
