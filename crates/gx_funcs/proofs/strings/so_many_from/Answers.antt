use Rattle.std.proofs.Common.{◌≡◌, ℕ, ℤ, List, ◌-◌, ◌<◌, ◌^◌, ◌+ℤ◌, length, drop, take, min, ◌∙◌, ap, subst, rules, FitsSigned}
use Rattle.std.specs.Prelude.{IfOk}
use Rattle.std.specs.Int.{w128}
use Rattle.std.specs.Int.{saturate_signed}
use Rattle.std.specs.Str.{chars}
use Rattle.std.proofs.lemmas.Int.{to_z-of_z}
use Rattle.gx_funcs.specs.Positions.{positions_before}
use Rattle.gx_funcs.proofs.PartLemmas.{text_between}
use Rattle.gx_funcs.proofs.strings.so_many_from.Goals as goal

pub returns : goal.returns
returns c =
    let bytes : List ℕ = c.as_str-text.result.now in
    let start : ℤ = c.nearest_whole-least.result in
    let many : ℤ = c.nearest_whole.result in
    let limit : ℤ = c.saturating_add-limit.result in
    let start_fits : FitsSigned w128 start = search rules in
    let many_fits : FitsSigned w128 many = search rules in
    let limit_fits : FitsSigned w128 limit = search rules in
    let size : length bytes < 2 ^ 64 = search rules in
    let same_start = to_z-of_z w128 start start_fits ∙ c.nearest_whole-least.ensures in
    let same_many = to_z-of_z w128 many many_fits ∙ c.nearest_whole.ensures in
    let same_limit = to_z-of_z w128 limit limit_fits ∙ c.saturating_add-limit.ensures ∙ (λ i. saturate_signed w128 (same_start i +ℤ same_many i)) in
    let from = c.positions_before-skipped.ensures ∙ ap (λ (z : ℤ). min (positions_before z) (length bytes)) same_start in
    let to = c.positions_before-ended.ensures ∙ ap (λ (z : ℤ). min (positions_before z) (length bytes)) same_limit in
    subst (λ (u : List ℕ). IfOk c.first_characters.result (λ (t : List ℕ). t ≡ u))
    ((λ i. take ((c.saturating_sub.ensures ∙ (λ j. to j - from j)) i) ((c.behind.ensures ∙ (λ j. drop (from j) (chars bytes))) i))
    ∙ text_between c.args.start c.args.length c.args.text.now bytes c.as_str-text.ensures.characters c.as_str-text.ensures.bytes size)
    c.first_characters.ensures
