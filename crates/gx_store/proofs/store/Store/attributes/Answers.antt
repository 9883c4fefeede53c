use Rattle.std.proofs.Common.{suc, ◌+◌, map, refl, ap, ◌∙◌}
use Rattle.gx_model.specs.Forest.{own_attributes}
use Rattle.gx_nodes.specs.Entries.{count_in}
use Rattle.gx_nodes.specs.Near.{attribute_places}
use Rattle.gx_store.specs.Stored.{attributes_at}
use Rattle.gx_store.proofs.OrderedLemmas.{placed}
use Rattle.gx_store.proofs.StoreLemmas.{not_there, nothing_later, attributes_from}
use Rattle.gx_store.proofs.store.Store.attributes.Goals as goal

pub returns-then-has : goal.returns-then-has
returns-then-has c later x =
    let f = c.args.self.now in
    let n = c.args.node.number in
    ap (map (placed later)) c.attributes_of.ensures
    ∙ attributes_from f later n (suc n) (suc (n + attributes_at f n)) (c.has.ensures.0 c.if-has.true) refl refl x

pub returns-else-has : goal.returns-else-has
returns-else-has c later x =
    nothing_later c.args.self.now later c.args.node.number (λ p t. attribute_places p.tree p.path 0 (own_attributes t)) (not_there c.has.result c.args.node.number (count_in c.args.self.now) c.has.ensures c.if-has.false) x
