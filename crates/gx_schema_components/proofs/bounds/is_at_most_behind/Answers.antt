use Rattle.std.proofs.Common.{◌≡◌, ◌∙◌, ℕ, List, [], sym, ap}
use Rattle.std.proofs.lemmas.List.{nil_from_length}
use Rattle.gx_schema_components.proofs.Digits.{at_most_by_digits, is_at_most_by_digits}
use Rattle.gx_schema_components.proofs.bounds.is_at_most_behind.Goals as goal

pub returns : goal.returns
returns c =
    let empty : c.loop-a.left.now ≡ [] = nil_from_length c.loop-a.left.now c.in_default.ensures.cases in
    ap (λ (bytes : List ℕ). is_at_most_by_digits bytes c.loop-a.right.now) (sym empty) ∙ c.loop-a.invariant.same ∙ at_most_by_digits c.args.least.now c.args.greatest.now c.requires
