use Rattle.gx_serial.proofs.PrefixLemmas.{HoldsAll-next}
use Rattle.gx_serial.proofs.prefix.prefix_set.Goals as goal

pub loop-attribute-preserved : goal.loop-attribute-preserved
loop-attribute-preserved c =
    HoldsAll-next c.args.attributes.now c.loop-attribute.attribute-index c.attribute-item.result c.loop-attribute.set c.insert.new.self c.in_ok-clone.field-0
    c.loop-attribute-test.true c.attribute-item.is c.in_ok-clone.ensures.cases c.in_ok-insert.ensures.updates c.loop-attribute.invariant
