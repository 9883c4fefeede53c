use Rattle.std.proofs.Common.{◌∙◌, sym, ap}
use Rattle.gx_resolved.specs.ResolvedTree.{resolved_at}
use Rattle.gx_resolved.specs.ResolvedView.{resolved_parts}
use Rattle.gx_normal.specs.Filters.{predicate_of}
use Rattle.gx_normal.proofs.MakingLemmas.{condition_of_more}
use Rattle.gx_normal.proofs.filters.predicate_of.Goals as goal

pub returns-in_default-2 : goal.returns-in_default-2
returns-in_default-2 c =
    let parts = c.as_slice.result.now in
    let is = sym c.in_default.is-0 in
    condition_of_more c.inner.inside.place parts c.in_default.len_at_least
    ∙ ap predicate_of ((λ i. resolved_at c.inner.inside.place (is i) (resolved_parts (c.as_slice.ensures.value i))) ∙ c.inner.view_is)
    ∙ c.loop.invariant
