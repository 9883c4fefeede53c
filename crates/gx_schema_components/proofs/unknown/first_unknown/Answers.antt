use Rattle.std.proofs.Common.{◌≡◌, ℕ, Option, IfOk, subst}
use Rattle.gx_schema_components.specs.declared.mention.Mention.{Mention}
use Rattle.gx_schema_components.proofs.Numberings.{unknown_by_numbers}
use Rattle.gx_schema_components.proofs.unknown.first_unknown.Goals as goal

pub returns : goal.returns
returns c =
    let P : Option (ℕ × Mention) → Type 0 = λ answer. IfOk c.unknown_among.result (λ found. found ≡ answer) in
    subst P (unknown_by_numbers c.args.documents.now c.in_ok-numbers.numbers c.in_ok-numbers.ensures) c.unknown_among.ensures
