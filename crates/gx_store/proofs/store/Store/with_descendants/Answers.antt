use Rattle.std.proofs.Common.{List, [], ◌∷◌, ◌++◌, filter, sym, ap, ◌∙◌}
use Rattle.std.proofs.lemmas.List.Elements.{filter-append}
use Rattle.gx_model.specs.Forest.{PlainNode}
use Rattle.gx_nodes.specs.Entries.{place_of_number}
use Rattle.gx_nodes.specs.Near.{descendants_in}
use Rattle.gx_store.specs.Places.{node_places, passes_on}
use Rattle.gx_store.proofs.store.Store.with_descendants.Goals as goal

pub returns : goal.returns
returns c later x =
    let pass = passes_on c.args.schemas.now c.args.self.now c.args.axis c.args.test.now in
    let from = place_of_number later c.args.node.number in
    c.in_ok-push_passing.ensures later x
    ∙ ap (λ (ns : List PlainNode). ns ++ filter pass (node_places later c.descendants.result)) (c.in_ok-found.ensures later x)
    ∙ ap (λ (ns : List PlainNode). filter pass (from ∷ []) ++ filter pass ns) (c.descendants.ensures later x)
    ∙ sym (filter-append pass (from ∷ []) (descendants_in c.args.self.now from))
