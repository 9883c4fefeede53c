use Rattle.std.proofs.Common.{List, [], ◌∷◌, ◌++◌, filter, ap, ◌∙◌}
use Rattle.gx_model.specs.Forest.{PlainNode}
use Rattle.gx_nodes.specs.Entries.{place_of_number}
use Rattle.gx_store.specs.Places.{node_places, passes_on}
use Rattle.gx_store.proofs.StepLemmas.{joined_places}
use Rattle.gx_store.proofs.store.Store.with_ancestors.Goals as goal

pub returns : goal.returns
returns c later x =
    let pass = passes_on c.args.schemas.now c.args.self.now c.args.axis c.args.test.now in
    c.keep_passing.ensures later x
    ∙ ap (filter pass)
    (ap (node_places later) c.in_ok-push.ensures.items
    ∙ joined_places later c.in_ok-found.found.items (c.args.node ∷ [])
    ∙ ap (λ (ns : List PlainNode). ns ++ place_of_number later c.args.node.number ∷ []) (c.in_ok-found.ensures later x))
