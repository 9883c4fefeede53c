use Rattle.std.proofs.Common.{is_some, rules, ◌∙◌}
use Rattle.std.proofs.lemmas.Fn.{filter_same}
use Rattle.gx_model.specs.Forest.{node_in}
use Rattle.gx_model.proofs.Ordering.{kept_in_order}
use Rattle.gx_model.proofs.order.in_document_order.Goals as goal

pub returns : goal.returns
returns c =
    filter_same _ (λ n. is_some (node_in c.args.forest.now n)) _ (λ x b f' k. search rules) _ _ c.retain.ensures.filtered
    ∙ kept_in_order c.args.forest.now c.args.nodes.items c.sorted-ordered.result.items c.sorted-ordered.ensures.ascending c.sorted-ordered.ensures.same
