use Rattle.std.proofs.Common.{◌≡◌, ℕ, ℤ, Bool, true, false, ◌++◌, ◌-◌, length, drop, take, min, ◌∙◌, ap, sym, subst, rules, FitsSigned, pos, arith}
use Rattle.std.specs.Prelude.{int_lt}
use Rattle.std.specs.Int.{w128}
use Rattle.std.proofs.lemmas.Int.{to_z-of_z}
use Rattle.std.proofs.lemmas.List.{take_rest, drop_min}
use Rattle.gx_funcs.specs.Positions.{positions_before, without_position}
use Rattle.gx_funcs.proofs.PartLemmas.{nothing_removed, one_removed}
use Rattle.gx_funcs.proofs.positions.without_position.Goals as goal
use Rattle.gx_funcs.proofs.positions.without_position.Goals.{then-position-lt1, else-position-lt1}

pub returns : goal.returns
returns g c =
    let items = c.args.items.now in
    let position : ℤ = c.args.position in
    let fits : FitsSigned w128 position = search rules in
    let same = to_z-of_z w128 position fits in
    let removed : ℕ = c.if-position-lt1.removed in
    let n : ℕ = min (positions_before position) (length items) in
    let before : c.positions_before.result ≡ n = c.positions_before.ensures ∙ ap (λ (z : ℤ). min (positions_before z) (length items)) same in
    let parts : c.split_at.result.0.now ++ take (length c.split_at.result.1.now - removed) (drop removed c.split_at.result.1.now) ≡ take n items ++ drop removed (drop n items) =
    ap (λ ys. c.split_at.result.0.now ++ ys) (take_rest c.split_at.result.1.now removed)
    ∙ (λ i. c.split_at.ensures.front i ++ drop removed (c.split_at.ensures.back i)) ∙ ap (λ (m : ℕ). take m items ++ drop removed (drop m items)) before in
    let is : without_position position items ≡ take n items ++ drop removed (drop n items) =
    elim c.if-position-lt1.branch [
      | then-position-lt1 w ↦ nothing_removed position items (sym (ap (λ (z : ℤ). int_lt z (pos 1)) same) ∙ w.if-position-lt1.true) ∙ ap (λ (m : ℕ). take n items ++ drop m (drop n items)) (sym w.removed-is)
      | else-position-lt1 w ↦
          let rest = c.split_at.ensures.back ∙ ap (λ (m : ℕ). drop m items) before in
          let one : min (length c.split_at.result.1.now) 1 ≡ min 1 (length c.split_at.result.1.now) = omega arith in
          let count : removed ≡ min 1 (length (drop n items)) = w.removed-is ∙ w.min-removed.ensures ∙ one ∙ ap (λ ys. min 1 (length ys)) rest in
          one_removed position items (sym (ap (λ (z : ℤ). int_lt z (pos 1)) same) ∙ w.if-position-lt1.false)
          ∙ ap (λ ys. take n items ++ ys) (sym (drop_min 1 (drop n items)) ∙ ap (λ (m : ℕ). drop m (drop n items)) (sym count))
    ] in
    is ∙ sym parts
