use Rattle.std.proofs.Common.{◌≡◌, ℕ, ℤ, List, length, drop, min, ◌∙◌, ap, subst, rules, FitsSigned}
use Rattle.std.specs.Prelude.{IfOk}
use Rattle.std.specs.Int.{w128}
use Rattle.std.specs.Str.{chars}
use Rattle.std.proofs.lemmas.Int.{to_z-of_z}
use Rattle.gx_funcs.specs.Positions.{positions_before}
use Rattle.gx_funcs.proofs.PartLemmas.{text_from}
use Rattle.gx_funcs.proofs.strings.from_position.Goals as goal

pub returns : goal.returns
returns c =
    let bytes : List ℕ = c.as_str-text.result.now in
    let start : ℤ = c.nearest_whole.result in
    let fits : FitsSigned w128 start = search rules in
    subst (λ (u : List ℕ). IfOk c.from_str.result (λ (t : List ℕ). t ≡ u))
    (c.behind.ensures
    ∙ ap (λ (n : ℕ). drop n (chars bytes)) (c.positions_before-skipped.ensures ∙ ap (λ (z : ℤ). min (positions_before z) (length bytes)) (to_z-of_z w128 start fits ∙ c.nearest_whole.ensures))
    ∙ text_from c.args.start c.args.text.now bytes c.as_str-text.ensures.characters c.as_str-text.ensures.bytes)
    c.from_str.ensures
