use Rattle.std.proofs.Common.{ℕ, ◌≤◌, length, take, drop, sym, ap, ◌∙◌, subst}
use Rattle.gx_store.proofs.CombinedLemmas.{prefix_within, split_front, split_back}
use Rattle.gx_store.proofs.combine.split.Goals as goal

pub split_at-requires : goal.split_at-requires
split_at-requires c = subst (λ (n : ℕ). n ≤ length c.args.nodes.now) (sym c.count_before.ensures) (prefix_within c.args.node c.args.nodes.now)

pub returns-clause-before : goal.returns-clause-before
returns-clause-before c =
    c.split_at.ensures.front ∙ ap (λ (n : ℕ). take n c.args.nodes.now) c.count_before.ensures ∙ split_front c.args.node c.args.nodes.now c.requires

pub returns-clause-behind : goal.returns-clause-behind
returns-clause-behind c =
    c.split_at.ensures.back ∙ ap (λ (n : ℕ). drop n c.args.nodes.now) c.count_before.ensures ∙ split_back c.args.node c.args.nodes.now c.requires
