use Rattle.std.proofs.Common.{◌≡◌, ℕ, ℤ, ◌-◌, ◌<◌, ◌^◌, ◌+ℤ◌, length, drop, take, min, max, ◌∙◌, ap, arith, rules, FitsSigned}
use Rattle.std.specs.Int.{w128, saturate_signed}
use Rattle.std.proofs.lemmas.Int.{to_z-of_z}
use Rattle.gx_funcs.specs.Positions.{positions_before}
use Rattle.gx_funcs.proofs.PartLemmas.{part_between}
use Rattle.gx_funcs.proofs.positions.so_many_from.Goals as goal

pub returns : goal.returns
returns g c =
    let items = c.args.items.now in
    let start : ℤ = c.nearest_whole-least.result in
    let many : ℤ = c.nearest_whole.result in
    let limit : ℤ = c.saturating_add-limit.result in
    let start_fits : FitsSigned w128 start = search rules in
    let many_fits : FitsSigned w128 many = search rules in
    let limit_fits : FitsSigned w128 limit = search rules in
    let size : length items < 2 ^ 64 = search rules in
    let same_start = to_z-of_z w128 start start_fits ∙ c.nearest_whole-least.ensures in
    let same_many = to_z-of_z w128 many many_fits ∙ c.nearest_whole.ensures in
    let same_limit = to_z-of_z w128 limit limit_fits ∙ c.saturating_add-limit.ensures ∙ (λ i. saturate_signed w128 (same_start i +ℤ same_many i)) in
    let from = c.positions_before-skipped.ensures ∙ ap (λ (z : ℤ). min (positions_before z) (length items)) same_start in
    let to = c.positions_before.ensures ∙ ap (λ (z : ℤ). min (positions_before z) (length items)) same_limit in
    let many_left : c.max-ended.result - c.positions_before-skipped.result ≡ c.positions_before.result - c.positions_before-skipped.result = omega (arith, c.max-ended.ensures) in
    ap (λ (n : ℕ). take n (drop c.positions_before-skipped.result items)) many_left
    ∙ (λ i. take (to i - from i) (drop (from i) items)) ∙ part_between c.args.start c.args.count (length items) items (omega arith) size
