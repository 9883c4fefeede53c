use Rattle.std.proofs.Common.{inr, None, sym, ◌∙◌}
use Rattle.gx_schema_simple.proofs.circles.is_unreached.Goals as goal

pub returns-in-Some-Some : goal.returns-in-Some-Some
returns-in-Some-Some c = inr (c.in-Some-Some._from, sym (c.in-Some-Some.ensures.lookup.3.1 None) ∙ c.in-Some-Some.field-0-is)
