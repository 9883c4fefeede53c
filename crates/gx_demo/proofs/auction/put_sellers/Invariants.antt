use Rattle.std.proofs.Common.{◌≡◌, ◌++◌}
use Rattle.std.specs.List.{flat_map, range_with_len}
use Rattle.gx_demo.specs.Workload.{seller_element}
use Rattle.gx_demo.proofs.auction.put_sellers.Given as goal

-- so many stand behind the text
abbrev pub invariant-loop-seller : goal.invariant-loop-seller
invariant-loop-seller l = l.text.bytes.items ≡ l.fn.text.bytes.items ++ flat_map seller_element (range_with_len 0 l.seller-counter)
