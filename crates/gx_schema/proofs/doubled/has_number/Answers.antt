use Rattle.std.proofs.Common.{◌∙◌, ap}
use Rattle.gx_schema.specs.Doubled.{is_number}
use Rattle.gx_schema.proofs.doubled.has_number.Goals as goal

pub returns : goal.returns
returns c = c.is_number.ensures ∙ ap (is_number c.args.number) (c.number_of.ensures ∙ c.requires.same c.args.name.now)
