use Rattle.gx_store.proofs.CopyLemmas.{begun}
use Rattle.gx_store.proofs.store.Store.begin.Goals as goal

pub returns-clause-begun : goal.returns-clause-begun
returns-clause-begun c a =
    begun c.args.self.now (record { node = c.args.node; copied = c.new.result; next = c.after_attributes.result; end = c.after.result }) c.requires c.after.ensures.within c.new.ensures.items c.after_attributes.ensures.next c.after.ensures.next a
