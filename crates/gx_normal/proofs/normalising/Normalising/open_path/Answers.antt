use Rattle.std.proofs.Common.{ℕ, List, [], ◌∷◌, ap, is_some, ◌∙◌}
use Rattle.gx_core.specs.Expression.{CoreExpression}
use Rattle.gx_normal.specs.declared.normalising.Task.{Task}
use Rattle.gx_normal.specs.Normalisation.{core_of, left_of_path}
use Rattle.gx_normal.specs.Normalising.{added, core_left}
use Rattle.gx_normal.proofs.MakingLemmas.{of_two_parts, not_two_parts, on_ok_then}
use Rattle.gx_normal.proofs.normalising.Normalising.open_path.Goals as goal

pub returns-in_default : goal.returns-in_default
returns-in_default c =
    on_ok_then c.add.result _ _ c.add.ensures.made
    (λ e. rw (e, c.add.ensures.tasks, c.add.ensures.numbers, c.add.ensures.focus, c.add.ensures.free, c.add.ensures.signatures, c.empty.ensures)
    (ap (λ (m : CoreExpression × ℕ). core_left c.args.self.now.signatures.now c.args.self.now.tasks (added m.0 c.args.self.now.made) c.args.self.now.numbers c.args.self.now.focus m.1)
    (not_two_parts c.args.self.now.signatures.now c.args.descendants c.args.place c.args.parts.now c.args.self.now.numbers c.args.self.now.focus c.args.self.now.free (c.two_parts.ensures.none (ap is_some c.in_default.is)))))

pub returns : goal.returns
returns c =
    let n = c.args.self.now in
    let left = core_of n.signatures.now c.in-Some.first.now n.numbers n.focus n.free in
    let descended = left_of_path c.args.descendants c.args.place left in
    on_ok_then c.push-3.result _ _ c.push-3.ensures.ok
    (λ e. rw (e, c.in_ok-push.ensures.ok, c.new.ensures)
    (c.in_ok-put_descent.ensures n.signatures.now left.0 [] n.made n.numbers n.focus left.1
    ∙ ap (λ (tasks : List Task). core_left n.signatures.now tasks ((descended.0 ∷ []) ∷ n.made) n.numbers n.focus descended.1) c.in_ok-push-2.ensures.ok
    ∙ ap (λ (m : CoreExpression × ℕ). core_left n.signatures.now n.tasks (added m.0 n.made) n.numbers n.focus m.1)
    (of_two_parts n.signatures.now c.args.descendants c.args.place c.in-Some.first.now c.in-Some.second.now c.args.parts.now n.numbers n.focus n.free c.in-Some.ensures.some)))
