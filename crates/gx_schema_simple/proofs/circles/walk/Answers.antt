use Rattle.std.proofs.Common.{Option, List, ℕ, sym, ◌∙◌, ap, subst, arith}
use Rattle.std.proofs.lemmas.Bool.{true≢false}
use Rattle.gx_schema_simple.specs.Walk.{IsUnreached, IsReachedOrOutside, walk_at}
use Rattle.gx_schema_simple.proofs.Marks.{unreached-set}
use Rattle.gx_schema_simple.proofs.WalkLemmas.{walking_goes_on, walk_stops, walk_ends_on_circle, walk_ends_elsewhere}
use Rattle.gx_schema_simple.proofs.circles.walk.Goals as goal

pub loop-walks-smaller : goal.loop-walks-smaller
loop-walks-smaller c =
    let free : IsUnreached c.loop-walks.walks.items c.loop-walks.number = subst (λ (walks : List (Option ℕ)). IsUnreached walks c.loop-walks.number) c.as_slice.ensures.value c.loop-walks-test.ensures in
    let fewer = unreached-set c.loop-walks.walks.items c.loop-walks.number c.args.start free.0 free.1 in
    omega arith

pub loop-walks-preserved : goal.loop-walks-preserved
loop-walks-preserved c =
    let free : IsUnreached c.loop-walks.walks.items c.loop-walks.number = subst (λ (walks : List (Option ℕ)). IsUnreached walks c.loop-walks.number) c.as_slice.ensures.value c.loop-walks-test.ensures in
    walking_goes_on c.args.bases.now c.args.walks.now.items c.loop-walks.walks.items c.args.start c.loop-walks.number c.in-Some.next c.loop-walks.invariant free.0 free.1 c.in-Some.is

pub returns-in-None : goal.returns-in-None
returns-in-None c =
    let free : IsUnreached c.loop-walks.walks.items c.loop-walks.number = subst (λ (walks : List (Option ℕ)). IsUnreached walks c.loop-walks.number) c.as_slice.ensures.value c.loop-walks-test.ensures in
    walk_stops c.args.bases.now c.args.walks.now.items c.loop-walks.walks.items c.args.start c.loop-walks.number c.loop-walks.invariant free.0 free.1 c.in-None.is

pub returns-then-is_reached_from : goal.returns-then-is_reached_from
returns-then-is_reached_from c =
    let here = c.is_reached_from.ensures.0 c.if-is_reached_from.true in
    walk_ends_on_circle c.args.bases.now c.args.walks.now.items c.loop-walks.walks.items c.args.start c.loop-walks.number c.requires.within c.loop-walks.invariant
    (ap (λ (walks : List (Option ℕ)). walk_at walks c.loop-walks.number) (sym c.as_slice-2.ensures.value) ∙ here)

pub returns-else-is_reached_from : goal.returns-else-is_reached_from
returns-else-is_reached_from c =
    let end : IsReachedOrOutside c.loop-walks.walks.items c.loop-walks.number = subst (λ (walks : List (Option ℕ)). IsReachedOrOutside walks c.loop-walks.number) c.as_slice.ensures.value c.loop-walks-test.ensures in
    walk_ends_elsewhere c.args.bases.now c.args.walks.now.items c.loop-walks.walks.items c.args.start c.loop-walks.number c.requires.within c.requires.closed c.requires.below c.loop-walks.invariant end
    (λ here. true≢false (sym (c.is_reached_from.ensures.1 (ap (λ (walks : List (Option ℕ)). walk_at walks c.loop-walks.number) c.as_slice-2.ensures.value ∙ here)) ∙ c.if-is_reached_from.false))
