use Rattle.std.proofs.Common.{◌≡◌, ◌-◌, ◌+◌, ◌++◌, ◌<◌, ◌/◌, ◌∙◌, ap, arith}
use Rattle.std.specs.String.{string_bytes}
use Rattle.gx_num.proofs.PrintedPlaces.{place_pushed, some_place, below_place, rest_below_place}
use Rattle.gx_num.proofs.printing.push_places.Goals as goal

pub loop-rest-preserved : goal.loop-rest-preserved
loop-rest-preserved c =
    let step : c.loop-rest.places ≡ (c.loop-rest.places - 1) + 1 = some_place _ c.loop-rest.rest c.loop-rest-test.true c.loop-rest.invariant.below in
    let digit : c.loop-rest.rest / c.pow-weight.result < 10 = below_place _ _ _ _ step c.pow-weight.ensures c.loop-rest.invariant.below in
    let one = c.in_ok-push.ensures.ascii (omega arith) in
    let pushed = c.in_ok-push.ensures.bytes ∙ ap (λ more. string_bytes c.loop-rest.text ++ more) one in
    record {
      few = omega arith;
      below = rest_below_place _ _ c.loop-rest.rest c.pow-weight.ensures;
      written = place_pushed _ _ _ _ _ _ _ step c.pow-weight.ensures c.loop-rest-test.true pushed c.loop-rest.invariant.written;
    }
