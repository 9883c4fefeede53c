use Rattle.std.proofs.Common.{◌≡◌, ◌++◌}
use Rattle.std.specs.List.{flat_map, range_with_len}
use Rattle.gx_demo.specs.Workload.{item_element}
use Rattle.gx_demo.proofs.auction.put_items.Given as goal

-- so many stand behind the text
abbrev pub invariant-loop-before : goal.invariant-loop-before
invariant-loop-before l = l.text.bytes.items ≡ l.fn.text.bytes.items ++ flat_map item_element (range_with_len 1 l.before)
