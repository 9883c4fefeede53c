use Rattle.std.proofs.Common.{suc, ◌+◌, ℕ, ap, ◌∙◌}
use Rattle.gx_nodes.specs.Entries.{count_in}
use Rattle.gx_store.specs.Stored.{attributes_at}
use Rattle.gx_store.specs.Left.{descendants_left}
use Rattle.gx_store.proofs.StoreLemmas.{not_there}
use Rattle.gx_store.proofs.TextLemmas.{nothing_left}
use Rattle.gx_store.proofs.store.Store.descendants_of.Goals as goal

pub returns-then-has : goal.returns-then-has
returns-then-has c =
    ap (λ (k : ℕ). descendants_left c.args.self.now k c.after.result) c.after_attributes.ensures.next
    ∙ ap (descendants_left c.args.self.now (suc (c.args.node.number + attributes_at c.args.self.now c.args.node.number))) c.after.ensures.next

pub returns-else-has : goal.returns-else-has
returns-else-has c =
    nothing_left c.args.self.now c.args.node.number (not_there c.has.result c.args.node.number (count_in c.args.self.now) c.has.ensures c.if-has.false)
