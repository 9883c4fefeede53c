use Rattle.std.proofs.Common.{◌≡◌, ℕ, suc, ◌+◌, ◌-◌, ◌++◌, Option, length, sym, ◌∙◌, ap, arith}
use Rattle.gx_types.specs.SimpleView.{facets_view}
use Rattle.gx_schema_simple.specs.Meanings.{facets_within}
use Rattle.gx_schema_simple.proofs.MeaningLemmas.{facets_step}
use Rattle.gx_schema_simple.proofs.meaning.all_facets.Goals as goal

pub loop-preserved : goal.loop-preserved
loop-preserved c =
    let left : length c.args.own.now - c.loop.counter ≡ suc (length c.args.own.now - (c.loop.counter + 1)) = omega (arith, c.loop-test.true) in
    ap (λ (o : Option ℕ). facets_view c.in_ok-facets.facets ++ facets_within c.args.bases.now c.args.own.now (length c.args.own.now - (c.loop.counter + 1)) o) c.next_number-next.ensures
    ∙ facets_step c.args.bases.now c.args.own.now (facets_view c.loop.facets) (facets_view c.in_ok-facets.facets) (length c.args.own.now - c.loop.counter) (length c.args.own.now - (c.loop.counter + 1))
    c.in-Some.number left c.in_ok-facets.ensures
    ∙ sym (ap (λ (o : Option ℕ). facets_view c.loop.facets ++ facets_within c.args.bases.now c.args.own.now (length c.args.own.now - c.loop.counter) o) c.in-Some.is)
    ∙ c.loop.invariant
