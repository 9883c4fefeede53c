use Rattle.std.proofs.Common.{ℕ, ap, is_some, ◌∙◌}
use Rattle.gx_core.specs.Expression.{CoreExpression}
use Rattle.gx_normal.specs.Normalising.{added, core_left}
use Rattle.gx_normal.proofs.MakingLemmas.{on_ok_then}
use Rattle.gx_normal.proofs.SwitchLemmas.{of_one_body, not_one_body}
use Rattle.gx_normal.proofs.normalising.Normalising.open_branch.Goals as goal

pub returns-in_default : goal.returns-in_default
returns-in_default c =
    on_ok_then c.add.result _ _ c.add.ensures.made
    (λ e. rw (e, c.add.ensures.tasks, c.add.ensures.numbers, c.add.ensures.focus, c.add.ensures.free, c.add.ensures.signatures, c.empty.ensures)
    (ap (λ (m : CoreExpression × ℕ). core_left c.args.self.now.signatures.now c.args.self.now.tasks (added m.0 c.args.self.now.made) c.args.self.now.numbers c.args.self.now.focus m.1)
    (not_one_body c.args.self.now.signatures.now c.args.place c.args.branch.now c.args.parts.now c.args.self.now.numbers c.args.self.now.focus c.args.self.now.free (c.only_part.ensures.none (ap is_some c.in_default.is)))))

pub returns : goal.returns
returns c =
    let n = c.args.self.now in
    on_ok_then c.bind_branch.result _ _ c.bind_branch.ensures
    (λ e. e ∙ ap (λ (m : CoreExpression × ℕ). core_left n.signatures.now n.tasks (added m.0 n.made) n.numbers n.focus m.1)
    (of_one_body n.signatures.now c.args.place c.args.branch.now c.in-Some.body.now c.args.parts.now n.numbers n.focus n.free c.in-Some.ensures.some))
