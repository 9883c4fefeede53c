use Rattle.std.proofs.Common.{◌+◌, sym, ◌∙◌, ap, ◌∷◌, drop}
use Rattle.std.specs.Prelude.{List, Bool}
use Rattle.std.proofs.lemmas.List.{drop_more}
use Rattle.std.proofs.Math.ListN.{drop_of_length-le}
use Rattle.gx_include_positions.specs.Step.{step_over, is_end}
use Rattle.gx_include_positions.specs.Test.{is_taken}
use Rattle.gx_include_positions.proofs.Decided.{decided}
use Rattle.gx_include_positions.proofs.SetReads.{starts, goes_on, comes_to}
use Rattle.gx_include_takes.proofs.take.takes_by_sets.Goals as goal

pub loop-shape-init : goal.loop-shape-init
loop-shape-init c = starts c.args.schemas.now c.args.t.now c.in_ok-set.set.items c.args.list.now c.in_ok-set.ensures

pub loop-shape-preserved : goal.loop-shape-preserved
loop-shape-preserved c =
    let front = drop_more c.args.list.now c.loop-shape.shape-index c.shape-item.result c.loop-shape-test.true
    ∙ ap (λ x. x ∷ drop (c.loop-shape.shape-index + 1) c.args.list.now) (sym c.shape-item.is) in
    goes_on c.args.schemas.now c.args.t.now c.loop-shape.set.items c.in_ok-set-2.set.items c.args.list.now (drop c.loop-shape.shape-index c.args.list.now)
    (drop (c.loop-shape.shape-index + 1) c.args.list.now) c.shape-item.result front
    (c.in_ok-set-2.ensures ∙ ap (λ (xs : List Bool). step_over c.args.t.now (is_taken c.args.schemas.now c.shape-item.result) xs) c.as_slice.ensures.value)
    (decided c.args.schemas.now c.types-declarations.ensures.invariant.grounded c.shape-item.result c.args.t.now) c.loop-shape.invariant

pub returns : goal.returns
returns c =
    comes_to c.args.schemas.now c.args.t.now c.loop-shape.set.items (drop c.loop-shape.shape-index c.args.list.now) c.ends_at.result
    (drop_of_length-le c.args.list.now c.loop-shape-test.false)
    (c.ends_at.ensures ∙ ap (is_end c.args.t.now) c.as_slice-2.ensures.value) c.loop-shape.invariant
