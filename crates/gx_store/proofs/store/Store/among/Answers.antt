use Rattle.std.proofs.Common.{List, ◌++◌, filter, ap, ◌∙◌}
use Rattle.gx_store.specs.declared.number.NodeId.{NodeId}
use Rattle.gx_store.specs.Places.{node_places, passes_on}
use Rattle.gx_store.proofs.store.Store.among.Goals as goal

pub returns : goal.returns
returns c later x =
    c.in_ok-push_passing.ensures later x
    ∙ ap (λ (ms : List NodeId). node_places later ms ++ filter (passes_on c.args.schemas.now c.args.self.now c.args.axis c.args.test.now) (node_places later c.args.nodes)) c.new-found.ensures.items
