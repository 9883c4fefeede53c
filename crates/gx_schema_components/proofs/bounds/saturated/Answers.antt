use Rattle.std.proofs.Common.{◌≡◌, ◌∙◌, ℕ, List, [], sym, ap, arith}
use Rattle.std.proofs.lemmas.List.{nil_from_length}
use Rattle.gx_schema_components.specs.Bounds.{number_behind, saturated}
use Rattle.gx_schema_components.proofs.bounds.saturated.Goals as goal

pub returns : goal.returns
returns c =
    let empty : c.loop-byte.left.now ≡ [] = nil_from_length c.loop-byte.left.now c.in_default.ensures.cases in
    let kept : c.loop-byte.value ≡ saturated c.loop-byte.value = omega arith in
    kept ∙ ap (λ (bytes : List ℕ). saturated (number_behind c.loop-byte.value bytes)) (sym empty) ∙ c.loop-byte.invariant.same
