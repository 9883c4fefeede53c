use Rattle.std.proofs.Common.{refl, inl, inr, ◌∙◌}
use Rattle.gx_parse_constructors.proofs.pieces.value_parts.Goals as goal

pub returns-in-Ok : goal.returns-in-Ok
returns-in-Ok c = inl (c.fitted.ensures ∙ c.in-Ok.ensures, refl)

pub returns-in-Err : goal.returns-in-Err
returns-in-Err c = inr c.lose.ensures
