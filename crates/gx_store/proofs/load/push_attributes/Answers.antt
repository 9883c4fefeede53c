use Rattle.std.proofs.Common.{◌+◌, refl}
use Rattle.gx_store.proofs.LoadLemmas.{grows_on, attribute_added}
use Rattle.gx_store.proofs.load.push_attributes.Goals as goal

pub loop-position-preserved : goal.loop-position-preserved
loop-position-preserved c =
    let here = c.loop-position in
    let next = c.push_attribute.new in
    record {
      grows = grows_on c.args.labels.now.labels.keys here.labels.labels.keys next.labels.labels.keys here.invariant.grows c.in_ok-push_attribute.ensures.grows;
      added = attribute_added here.labels.labels.keys next.labels.labels.keys c.args.rows.now.items here.rows.items next.rows.items c.args.list.now.items here.position (here.position + 1) c.attribute-item.result
          (rw c.deref-attribute-items.ensures.value at c.loop-position-test.true) (rw c.deref-attribute-items.ensures.value at c.attribute-item.is) refl
          c.in_ok-push_attribute.ensures.grows here.invariant.added c.in_ok-push_attribute.ensures.added;
    }
