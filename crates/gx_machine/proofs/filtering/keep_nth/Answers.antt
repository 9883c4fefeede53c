use Rattle.std.proofs.Common.{◌<◌, ◌++◌, [], ℕ, ℤ, take, drop, IfSome, ap, sym, subst, ◌∙◌}
use Rattle.std.specs.Int.{w128}
use Rattle.std.proofs.lemmas.Int.{to_z-of_z}
use Rattle.std.proofs.lemmas.Result.{IfOk-weaker}
use Rattle.gx_model.specs.Forest.{Forest}
use Rattle.gx_model.specs.Item.{Items}
use Rattle.gx_core.specs.Filtering.{nth_of}
use Rattle.gx_store.specs.Items.{items_in}
use Rattle.gx_machine.proofs.Picked.{counted_in, counted_there}
use Rattle.gx_machine.proofs.filtering.keep_nth.Goals as goal

pub keep_found-requires : goal.keep_found-requires
keep_found-requires c =
    let later : Forest = [] in
    subst (λ (count : ℕ). IfSome c.index_of.result (λ index. index < count)) (counted_there later c.args.first c.args.values.now.items c.values_from-count.result.now (c.values_from-count.ensures later))
    c.index_of.ensures.within

pub returns : goal.returns
returns c = λ later.
    let values : Items = items_in later c.args.values.now.items in
    IfOk-weaker c.keep_found.result _ _
    (λ done kept. kept ∙ ap (λ (v : Items). take c.args.first values ++ v)
    (sym (c.index_of.ensures.found (drop c.args.first values) (counted_in later c.args.first c.args.values.now.items c.values_from-count.result.now (c.values_from-count.ensures later)))
    ∙ ap (λ (number : ℤ). nth_of number c.args.reverse (drop c.args.first values)) (to_z-of_z w128 c.args.number c.ranges.number)))
    (c.keep_found.ensures later)
