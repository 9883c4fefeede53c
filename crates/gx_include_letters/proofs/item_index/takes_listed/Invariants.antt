use Rattle.std.proofs.Common.{◌≡◌, false, map, take, get_or}
use Rattle.std.specs.List.{list_any}
use Rattle.gx_include_positions.specs.Test.{is_taken}
use Rattle.gx_include_letters.proofs.item_index.takes_listed.Given as goal

-- the item types of the numbers so far do not take the shape
abbrev pub invariant-loop-number : goal.invariant-loop-number
invariant-loop-number l = list_any (λ n. get_or (map (is_taken l.schemas l.shape) l.items) n false) (take l.number-index l.numbers) ≡ false
