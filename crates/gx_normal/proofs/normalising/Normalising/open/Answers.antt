use Rattle.std.proofs.Common.{◌≡◌, ℕ, List, true, ap, sym, subst, ◌∙◌, rules}
use Rattle.std.specs.Prelude.{OnOk}
use Rattle.gx_resolved.specs.ResolvedTree.{ResolvedTree, resolved_at}
use Rattle.gx_resolved.specs.ResolvedView.{resolved_parts}
use Rattle.gx_core.specs.Expression.{CoreExpression}
use Rattle.gx_normal.specs.Making.{is_of_parts}
use Rattle.gx_normal.specs.Normalisation.{core_of}
use Rattle.gx_normal.specs.Normalising.{added, core_left, core_to_make}
use Rattle.gx_normal.proofs.MakingLemmas.{core_of_parts}
use Rattle.gx_normal.proofs.normalising.Normalising.open.Goals as goal

pub returns-in_default : goal.returns-in_default
returns-in_default c =
    let n = c.args.self.now in
    let place = c.tree.inside.place in
    let construct = c.tree.inside.construct in
    let parts : List ResolvedTree = c.as_slice-in_default.result.now in
    let of_parts : is_of_parts construct ≡ true = search rules in
    let whole =
    ap (λ (tree : ResolvedTree). core_of n.signatures.now tree n.numbers n.focus n.free) (sym c.tree.view_is)
    ∙ ap (λ (trees : List ResolvedTree). core_of n.signatures.now (resolved_at place construct (resolved_parts trees)) n.numbers n.focus n.free) (sym c.as_slice-in_default.ensures.value)
    ∙ core_of_parts n.signatures.now place construct (resolved_parts parts) n.numbers n.focus n.free of_parts in
    subst (λ (e : CoreExpression × ℕ). OnOk c.open_construct.result (core_to_make c.open_construct.new.self ≡ core_left n.signatures.now n.tasks (added e.0 n.made) n.numbers n.focus e.1)) (sym whole) c.open_construct.ensures
