use Rattle.std.proofs.Common.{◌≡◌, ℕ, ◌+◌, ap, ◌∙◌, arith}
use Rattle.gx_demo.specs.Workload.{seller_element}
use Rattle.gx_demo.proofs.Ranges.{behind_with_one_more}
use Rattle.gx_demo.proofs.auction.put_sellers.Goals as goal

zero_more : (n : ℕ) → n ≡ 0 + n
zero_more n = omega arith

pub loop-seller-preserved : goal.loop-seller-preserved
loop-seller-preserved c =
    behind_with_one_more seller_element 0 c.loop-seller.seller-counter c.args.text.now.bytes.items c.loop-seller.text.bytes.items c.push_str.new.self.bytes.items c.as_str.result.now
    c.loop-seller.invariant c.in_ok-push_str.ensures.bytes (c.as_str.ensures.value ∙ c.in_ok-format.ensures.ok ∙ ap seller_element (zero_more c.loop-seller.seller-counter))
