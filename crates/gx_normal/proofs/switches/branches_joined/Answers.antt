use Rattle.std.proofs.Common.{◌≡◌, ◌++◌, ◌∷◌, [], List, append_assoc, ap, sym, ◌∙◌}
use Rattle.gx_core.specs.Expression.{CoreExpression}
use Rattle.gx_normal.specs.Switches.{case_in_front, branches_joined}
use Rattle.gx_normal.proofs.SwitchLemmas.{last_two_joined}
use Rattle.gx_normal.proofs.switches.branches_joined.Goals as goal

pub loop-branch-preserved : goal.loop-branch-preserved
loop-branch-preserved c =
    let place = c.args.place in
    let front : List CoreExpression = c.pop-in-loop-branch.new.self.items in
    let one : CoreExpression = c.in-Some-pop.branch in
    let joined : CoreExpression = c.loop-branch.joined.value in
    let made : c.in_ok-joined-2.joined.value ≡ case_in_front place one joined =
    c.in_ok-joined-2.ensures.ok ∙ c.in_ok-case_in_front.ensures ∙ ap (λ (e : CoreExpression). case_in_front place e joined) c.in_ok-branch.ensures.ok in
    let popped : c.loop-branch.front.items ≡ front ++ one ∷ [] = c.in-Some-pop.ensures.items in
    ap (λ (e : CoreExpression). branches_joined place (front ++ e ∷ [])) made
    ∙ last_two_joined place front one joined
    ∙ ap (branches_joined place) (sym (append_assoc front (one ∷ []) (joined ∷ [])))
    ∙ ap (λ (es : List CoreExpression). branches_joined place (es ++ joined ∷ [])) (sym popped)
    ∙ c.loop-branch.invariant
