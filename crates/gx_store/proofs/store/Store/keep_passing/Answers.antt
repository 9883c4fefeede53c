use Rattle.std.proofs.Common.{ap, ◌∙◌, rules}
use Rattle.std.proofs.lemmas.Fn.{filter_same}
use Rattle.gx_nodes.specs.Entries.{place_of_number}
use Rattle.gx_store.specs.declared.number.NodeId.{NodeId}
use Rattle.gx_store.specs.Places.{node_places, passes_on}
use Rattle.gx_store.proofs.StepLemmas.{kept_places}
use Rattle.gx_store.proofs.store.Store.keep_passing.Goals as goal

pub returns : goal.returns
returns c later x =
    ap (node_places later)
    (filter_same _ (λ (m : NodeId). passes_on c.args.schemas.now c.args.self.now c.args.axis c.args.test.now (place_of_number c.args.self.now m.number)) _ (λ m b g k. search rules) _ _ c.retain.ensures.filtered)
    ∙ kept_places c.args.schemas.now c.args.self.now later c.args.axis c.args.test.now c.args.nodes.now.items x
