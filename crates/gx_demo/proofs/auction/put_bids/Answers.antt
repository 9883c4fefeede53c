use Rattle.std.proofs.Common.{ℕ, ◌+◌, ◌*◌, ◌∙◌}
use Rattle.gx_demo.specs.Workload.{bid_element}
use Rattle.gx_demo.proofs.Ranges.{behind_with_one_more}
use Rattle.gx_demo.proofs.auction.put_bids.Goals as goal

pub loop-before-preserved : goal.loop-before-preserved
loop-before-preserved c =
    behind_with_one_more (λ (bid : ℕ). bid_element (10 * c.args.item + bid)) 1 c.loop-before.before c.args.text.now.bytes.items c.loop-before.text.bytes.items c.push_str.new.self.bytes.items c.as_str.result.now
    c.loop-before.invariant c.in_ok-push_str.ensures.bytes (c.as_str.ensures.value ∙ c.in_ok-format.ensures.ok)
