use Rattle.std.proofs.Common.{ℕ, ℤ, length, drop, min, ◌∙◌, ap, arith, rules, FitsSigned}
use Rattle.std.specs.Int.{w128}
use Rattle.std.proofs.lemmas.Int.{to_z-of_z}
use Rattle.std.proofs.lemmas.List.{take_rest}
use Rattle.gx_funcs.specs.Positions.{positions_before}
use Rattle.gx_funcs.proofs.PartLemmas.{part_from}
use Rattle.gx_funcs.proofs.positions.from_position.Goals as goal

pub returns : goal.returns
returns g c =
    let items = c.args.items.now in
    let start : ℤ = c.nearest_whole.result in
    let fits : FitsSigned w128 start = search rules in
    let skipped = c.positions_before-skipped.ensures ∙ ap (λ (z : ℤ). min (positions_before z) (length items)) (to_z-of_z w128 start fits ∙ c.nearest_whole.ensures) in
    take_rest items c.positions_before-skipped.result ∙ ap (λ (n : ℕ). drop n items) skipped ∙ part_from c.args.start (length items) items (omega arith)
