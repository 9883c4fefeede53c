use Rattle.std.proofs.Common.{ℕ, ap, sym, ◌∙◌}
use Rattle.gx_core.specs.Expression.{CoreExpression}
use Rattle.gx_normal.specs.Normalisation.{core_of}
use Rattle.gx_normal.specs.Normalising.{Made, added, core_left}
use Rattle.gx_normal.proofs.MakingLemmas.{ended_last, first_ends, first_opens, on_ok_then}
use Rattle.gx_normal.proofs.normalising.Normalising.open_clauses.Goals as goal

pub returns-in_default-clause_part : goal.returns-in_default-clause_part
returns-in_default-clause_part c =
    let n = c.args.self.now in
    let last = core_of n.signatures.now c.in-Some.first.now n.numbers n.focus n.free in
    on_ok_then c.push-in_default-clause_part.result _ _ c.push-in_default-clause_part.ensures.ok
    (λ e. rw (e, c.in_ok-push.ensures.ok)
    (ap (λ (made : Made). core_left n.signatures.now n.tasks made n.numbers n.focus last.1) (ended_last c.args.ending last.0 n.made)
    ∙ ap (λ (m : CoreExpression × ℕ). core_left n.signatures.now n.tasks (added m.0 n.made) n.numbers n.focus m.1)
    (first_ends n.signatures.now c.args.ending c.args.place c.in-Some.first.now c.in-Some.others.now c.args.parts.now n.numbers n.focus n.free c.in-Some.ensures.cases.0 (sym c.in_default-clause_part.ensures))))

pub returns : goal.returns
returns c =
    let n = c.args.self.now in
    on_ok_then c.push-4.result _ _ c.push-4.ensures.ok
    (λ e. rw (e, c.in_ok-push-3.ensures.ok, c.in_ok-push-2.ensures.ok)
    (ap (λ (m : CoreExpression × ℕ). core_left n.signatures.now n.tasks (added m.0 n.made) n.numbers n.focus m.1)
    (first_opens n.signatures.now c.args.ending c.args.place c.first.inside.place c.first.inside.construct c.first.inside.parts.items c.in-Some.others.now c.args.parts.now c.in-Some.first.now c.in-Some-clause_part.part.now n.numbers n.focus n.free
    c.in-Some.ensures.cases.0 c.first.view_is (sym c.in-Some-clause_part.ensures))))
