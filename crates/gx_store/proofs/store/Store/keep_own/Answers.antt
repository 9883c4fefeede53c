use Rattle.std.proofs.Common.{ℕ, filter, ap, ◌∙◌, rules}
use Rattle.std.specs.Prelude.{nat_lt}
use Rattle.std.proofs.lemmas.Fn.{filter_same}
use Rattle.gx_store.specs.declared.number.NodeId.{NodeId}
use Rattle.gx_store.proofs.store.Store.keep_own.Goals as goal

pub returns : goal.returns
returns c =
    filter_same _ (λ (m : NodeId). nat_lt m.number c.count-count.result) _ (λ y b f k. search rules) _ _ c.retain.ensures.filtered
    ∙ ap (λ (n : ℕ). filter (λ (m : NodeId). nat_lt m.number n) c.args.nodes.now.items) c.count-count.ensures
