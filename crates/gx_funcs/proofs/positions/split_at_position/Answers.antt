use Rattle.std.proofs.Common.{◌≡◌, ℕ, ℤ, ◌++◌, length, drop, take, min, ◌∙◌, ap, sym, append_assoc, rules, FitsSigned}
use Rattle.std.specs.Int.{w128}
use Rattle.std.proofs.lemmas.Int.{to_z-of_z}
use Rattle.gx_funcs.specs.Positions.{positions_before}
use Rattle.gx_funcs.proofs.PartLemmas.{split_before}
use Rattle.gx_funcs.proofs.positions.split_at_position.Goals as goal

pub returns : goal.returns
returns g c = λ others.
    let items = c.args.items.now in
    let position : ℤ = c.args.position in
    let fits : FitsSigned w128 position = search rules in
    let before = c.positions_before.ensures ∙ ap (λ (z : ℤ). min (positions_before z) (length items)) (to_z-of_z w128 position fits) in
    split_before position others items
    ∙ sym ((λ i. (c.split_at.ensures.front i ++ others) ++ c.split_at.ensures.back i)
    ∙ ap (λ (n : ℕ). (take n items ++ others) ++ drop n items) before ∙ append_assoc (take (min (positions_before position) (length items)) items) others (drop (min (positions_before position) (length items)) items))
