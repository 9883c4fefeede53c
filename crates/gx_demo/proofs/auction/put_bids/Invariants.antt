use Rattle.std.proofs.Common.{◌≡◌, ◌++◌}
use Rattle.gx_demo.specs.Workload.{bids}
use Rattle.gx_demo.proofs.auction.put_bids.Given as goal

-- so many stand behind the text
abbrev pub invariant-loop-before : goal.invariant-loop-before
invariant-loop-before l = l.text.bytes.items ≡ l.fn.text.bytes.items ++ bids l.fn.item l.before
